-- `plain::with_label` meets its contract. Assumes nothing.
use native.Mathlib.Omega.{arith}
use Prim.Native.Nat.{◌-◌, ◌≤◌}
use mathlib.Core.Path.{refl, sym, ◌∙◌}
use lib.ListN.{take, drop}
use Rattle.wire.proofs.Laws.{common_within}
use Rattle.plain.proofs.with_label.Goals as goal

pub slice_bounds-name-count : goal.slice_bounds-name-count
slice_bounds-name-count c = omega (
  arith,
  (let it : c.label_at.result ≤ c.args.size = omega (arith, c.label_at.ensures, c.requires.1) in it),
)

pub slice_bounds-name-start : goal.slice_bounds-name-start
slice_bounds-name-start c = omega (
  arith,
  (let it : c.label_at.result ≤ c.args.size = omega (arith, c.label_at.ensures, c.requires.1) in it),
)

pub overflow_sub-last : goal.overflow_sub-last
overflow_sub-last c =
    let w = common_within c.args.last.now (take (c.args.size - c.label_at.result) (drop c.label_at.result c.args.s.now)) in
    omega (arith, c.common_start-kept.ensures, w)

pub overflow_sub-name : goal.overflow_sub-name
overflow_sub-name c =
    let w = common_within c.args.last.now (take (c.args.size - c.label_at.result) (drop c.label_at.result c.args.s.now)) in
    omega (arith, c.common_start-kept.ensures, w)

pub returns : goal.returns
returns c =
    let l = c.label_at.ensures in
    let k = rw l at c.common_start-kept.ensures in
    let q = rw l at (sym c.one_byte.ensures ∙ c.if-not-one_byte.false) in
    (refl, refl, k, q)
