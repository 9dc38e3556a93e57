-- `layout::put_date` meets its contract. Assumes nothing.
use Rattle.layout.proofs.Laws.{date_laid}
use Rattle.layout.proofs.put_date.Goals as goal

pub returns : goal.returns
returns c =
    let d = c.days_of-days.ensures in
    let f = c.from-day.ensures in
    let l = c.from-last.ensures in
    date_laid c.args.out.now c.args.k c.args.date _ _ c.requires
    (rw d.0 at c.put_byte.ensures)
    (rw (f, l, d.1, d.2) at c.lay_be32.ensures)
    (rw d.1 at d.3) (rw d.2 at d.4)
