-- `title_line` meets its contract: the line that it finds leads to what follows. Assumes nothing.
use native.Mathlib.Omega.{arith}
use Prim.Native.Nat.{◌+◌, ◌-◌, ◌<◌}
use mathlib.Core.Path.{sym, ◌∙◌}
use lib.ListN.{length, drop, length-drop}
use borrow.Author.Rules.{part_to_end}
use Rattle.header.proofs.Lines.{Line, line_found, title_broken, title_found}
use Rattle.header.proofs.title_line.Goals as goal

pub time_line-requires : goal.time_line-requires
time_line-requires c =
    let l : Line 4096 (drop 24 c.args.file.now) c.in-Some.title = line_found 4096 _ _ (simp part_to_end at (sym c.in-Some.is ∙ c.good_line-line.ensures)) in
    let h : c.in-Some.title < length c.args.file.now - 24 = rw length-drop at l.ended in
    (omega arith, omega arith, l.short, omega arith, omega arith)

pub returns-in_default : goal.returns-in_default
returns-in_default c =
    rw c.at.ensures (record { same = title_broken c.args.version c.args.file.now (simp part_to_end at (sym c.in_default.is ∙ c.good_line-line.ensures)); room = tt })

pub returns : goal.returns
returns c =
    let d = c.time_line.ensures in
    let l : Line 4096 (drop 24 c.args.file.now) c.in-Some.title = line_found 4096 _ _ (simp part_to_end at (sym c.in-Some.is ∙ c.good_line-line.ensures)) in
    record { same = d.same ∙ title_found c.args.version c.args.file.now _ l; room = d.room }
