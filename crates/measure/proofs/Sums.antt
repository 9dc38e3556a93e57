-- The answer to one record more, and to the stop. Assumes nothing.
use mathlib.Core.Path.{◌≡◌}
use mathlib.Core.List.{◌∷◌, ◌++◌}
use Prim.Native.Nat.{ℕ, ◌+◌}
use native.Mathlib.Nat.{add-zero, add_assoc}
use native.Mathlib.Omega.{arith}
use lib.ListN.{length, length-append}
use Rattle.format.specs.State.{Record}
use Rattle.format.specs.Sheet.{sheet_version, layout, layout_all}
use Rattle.format.specs.Refusals.{Result, stop, also, Verdict}
use Rattle.measure.specs.Totals.{total_by, pass_of}

pub pass_also : (b n : ℕ) (r : Record) (x : Result) → pass_of b n (also r x) ≡ pass_of (b + length (layout sheet_version r)) (n + 1) x
unfolding pass_of layout_all
pass_also b n r x =
    let e1 : b + length (layout sheet_version r ++ layout_all sheet_version x.records) ≡ b + length (layout sheet_version r) + length (layout_all sheet_version x.records) = simp (length-append, add_assoc) in
    let e2 : n + length (r ∷ x.records) ≡ n + 1 + length x.records = omega arith in
    rw (e1, e2)

pub pass_stop : (b n : ℕ) (v : Verdict) → pass_of b n (stop v) ≡ total_by v b n
unfolding pass_of layout_all
pass_stop b n v = simp add-zero
