-- `layout::put_section` meets its contract. Assumes nothing.
use Rattle.layout.proofs.Laws.{section_laid}
use Rattle.layout.proofs.put_section.Goals as goal

pub returns : goal.returns
returns c =
    section_laid c.args.out.now c.args.fields c.args.len _ _ _ c.requires.1
    c.put_start.ensures
    c.put_date.ensures
    c.put_dimensions.ensures
