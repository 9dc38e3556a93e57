-- `label::append` meets its contract. What is laid in so far is a paste of as many bytes as are passed. Assumes nothing.
use native.Mathlib.Omega.{arith}
use native.Mathlib.Numerals.{add-one}
use Prim.Native.Nat.{ℕ, ◌+◌, ◌<◌}
use mathlib.Core.Path.{◌≡◌, ◌∙◌}
use mathlib.Core.List.{List}
use lib.ListN.{length, get_or, set, length-set}
use lib.Seq.{paste, paste-zero, paste-suc}
use Rattle.label.proofs.append.Goals as goal

one_more : (b₀ s b : List ℕ) (keep i : ℕ) → keep + i < length b₀ → i < length s → b ≡ paste b₀ keep s i
    → set b (keep + i) (get_or s i 0) ≡ paste b₀ keep s (i + 1)
one_more b₀ s b keep i hb hs e = rw (e, add-one i) (paste-suc b₀ keep s i 0 hb hs)

pub loop-i-init : goal.loop-i-init
loop-i-init c =
    (omega arith, c.requires.1, paste-zero c.args.bytes.now c.args.keep c.args.added.now)

pub loop-i-preserved : goal.loop-i-preserved
loop-i-preserved c =
    let l = c.loop-i in
    (omega arith, simp length-set (omega arith), one_more c.args.bytes.now c.args.added.now l.bytes c.args.keep l.i (omega arith) (omega arith) l.invariant.2)

pub returns : goal.returns
returns c =
    let e : c.loop-i.i ≡ length c.args.added.now = omega arith in
    c.loop-i.invariant.2 ∙ rw e
