-- `time_line` meets its contract: the line that it finds leads to what follows. Assumes nothing.
use native.Mathlib.Omega.{arith}
use Prim.Native.Nat.{◌+◌, ◌-◌, ◌<◌}
use mathlib.Core.Path.{sym, ◌∙◌}
use lib.ListN.{length, drop, length-drop}
use borrow.Author.Rules.{part_to_end}
use Rattle.header.proofs.Lines.{Line, line_found, time_broken, time_found}
use Rattle.header.proofs.time_line.Goals as goal

pub closed_header-requires : goal.closed_header-requires
closed_header-requires c =
    let l : Line 64 (drop (25 + c.args.title) c.args.file.now) c.in-Some.time = line_found 64 _ _ (simp part_to_end at (sym c.in-Some.is ∙ c.good_line-line.ensures)) in
    let h : c.in-Some.time < length c.args.file.now - (25 + c.args.title) = rw length-drop at l.ended in
    (omega arith, omega arith, omega arith, l.short, omega arith, omega arith)

pub returns-in_default : goal.returns-in_default
returns-in_default c =
    rw c.at.ensures (record { same = time_broken c.args.version c.args.file.now c.args.title (simp part_to_end at (sym c.in_default.is ∙ c.good_line-line.ensures)); room = tt })

pub returns : goal.returns
returns c =
    let d = c.closed_header.ensures in
    let l : Line 64 (drop (25 + c.args.title) c.args.file.now) c.in-Some.time = line_found 64 _ _ (simp part_to_end at (sym c.in-Some.is ∙ c.good_line-line.ensures)) in
    record { same = d.same ∙ time_found c.args.version c.args.file.now c.args.title _ l; room = d.room }
