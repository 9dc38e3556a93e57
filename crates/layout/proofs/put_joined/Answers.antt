-- `layout::put_joined` meets its contract. Assumes nothing.
use native.Mathlib.Omega.{arith}
use mathlib.Core.Path.{◌≡◌, ap, ◌∙◌}
use mathlib.Core.List.{List}
use Prim.Native.Nat.{ℕ, ◌+◌}
use lib.ListN.{length, take}
use lib.Seq.{length-take-le}
use Rattle.wire.specs.Laid.{laid}
use Rattle.wire.proofs.Laws.{laid_next}
use Rattle.layout.proofs.Laws.{part_laid}
use borrow.Author.Rules.{rules}
use Rattle.layout.proofs.put_joined.Goals as goal

pub returns : goal.returns
returns c =
    let l = take c.args.keep c.args.bytes.now in
    let t : length l ≡ c.args.keep = length-take-le c.args.keep c.args.bytes.now (omega (arith, c.requires.0, c.requires.1.few, c.requires.1.whole)) in
    let y = c.put_kept.new.out in
    let h : length y ≡ length c.args.out.now = search rules in
    part_laid y c.args.added.now _ (c.args.k + c.args.keep) (omega (arith, c.requires.0)) c.copy_short.ensures
    ∙ ap (λ (d : List ℕ). laid d (c.args.k + c.args.keep) c.args.added.now) c.put_kept.ensures
    ∙ ap (λ (n : ℕ). laid (laid c.args.out.now c.args.k l) (c.args.k + n) c.args.added.now) (let z : c.args.keep ≡ length l = omega arith in z)
    ∙ laid_next c.args.out.now l c.args.added.now c.args.k (omega (arith, c.requires.0, c.requires.1.few, c.requires.1.whole))
