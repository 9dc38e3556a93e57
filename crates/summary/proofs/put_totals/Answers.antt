-- `summary::put_totals` meets its contract. Assumes nothing.
use Rattle.std.proofs.Common.{◌≡◌, ℕ, ◌+◌, ◌*◌, ◌<◌, ◌≤◌, length, refl, ◌∙◌, subst, arith, length-set, lt-length-set}
use Rattle.summary.proofs.Sums.{totalled_none, totalled_next, totalled_sum}
use Rattle.summary.specs.Bits.{sum_to, Totalled}
use Rattle.summary.proofs.put_totals.Goals as goal

pub loop-j-init : goal.loop-j-init
unfolding sum_to
loop-j-init c =
    (refl, refl, omega arith, totalled_none c.args.words.now c.args.w)

pub bounds-words-j : goal.bounds-words-j
bounds-words-j c =
    let l = c.loop-j in lt-length-set l.words (c.args.w + l.j) l.sum (omega arith)

pub loop-j-preserved : goal.loop-j-preserved
loop-j-preserved c =
    let l = c.loop-j in
    let w = c.args.w in
    let h : l.j < w = c.loop-j-test.true in
    let p : w + l.j < length l.words = omega (arith) in
    let g : l.sum + c.ones_of-sum.result ≤ 64 * (l.j + 1) = omega (arith, c.ones_of-sum.ensures.1) in (
      length-set l.words (w + l.j) l.sum ∙ l.invariant.0,
      totalled_sum l.j l.sum c.ones_of-sum.result h l.invariant.1 l.invariant.3 c.ones_of-sum.ensures.0,
      g,
      totalled_next l.j l.sum h p l.invariant.1 l.invariant.3,
    )

pub returns : goal.returns
returns c =
    let e : c.loop-j.j ≡ c.args.w = omega (arith, c.loop-j-test.false) in
    subst (λ (k : ℕ). Totalled c.args.words.now c.loop-j.words c.args.w k) e c.loop-j.invariant.3
