-- `measure::count_short` meets its contract. Assumes nothing.
use native.Mathlib.Omega.{arith}
use mathlib.Core.Path.{◌≡◌}
use mathlib.Core.List.{List}
use Prim.Native.Nat.{ℕ}
use native.Mathlib.Nat.{add-zero}
use Rattle.std.specs.Prelude.{Option, Some}
use Rattle.short.specs.Brief.{Finds, FindsNew}
use Rattle.short.specs.declared.Short.{Short}
use Rattle.measure.proofs.Counting.{count_leg, count_station, count_section, count_move}
use Rattle.measure.proofs.count_short.Goals as goal

-- what `new_item` tells of the item that it found
told : (s : List ℕ) (len : ℕ) (r : Option Short) (p q : Short) → r ≡ Some p → p ≡ q → FindsNew r s len → Finds (Some q) 8 s len
told s len r p q e i f = rw (e, i) at (f 8 (omega arith))

pub returns-in-Line : goal.returns-in-Line
returns-in-Line c =
    rw c.count_leg.ensures (count_leg _ _ _ _ _ _ c.args.placed _ (told c.args.s.now c.args.len _ _ _ c.in_ok-short.was c.in-Line.is c.new_item.ensures))

pub returns-in-Again : goal.returns-in-Again
returns-in-Again c =
    rw c.count_leg-in-Again.ensures (rw (add-zero c.args.len) at (count_leg _ _ _ _ _ _ c.args.placed _ (told c.args.s.now c.args.len _ _ _ c.in_ok-short.was c.in-Again.is c.new_item.ensures)))

pub returns-in-Place : goal.returns-in-Place
returns-in-Place c =
    rw c.count_record.ensures (count_station _ _ _ _ _ _ _ _ (told c.args.s.now c.args.len _ _ _ c.in_ok-short.was c.in-Place.is c.new_item.ensures))

pub returns-in-Section : goal.returns-in-Section
returns-in-Section c =
    rw c.count_record-in-Section.ensures (count_section _ _ _ _ _ _ _ _ (rw (← c.sides.ensures.0) at (told c.args.s.now c.args.len _ _ _ c.in_ok-short.was c.in-Section.is c.new_item.ensures)))

pub returns-in-Move : goal.returns-in-Move
returns-in-Move c style st K = count_move _ _ _ style st (told c.args.s.now c.args.len _ _ _ c.in_ok-short.was c.in-Move.is c.new_item.ensures) K
