-- `part::shared` meets its contract. Assumes nothing.
use Prim.Native.Nat.{ℕ, ◌≤◌}
use mathlib.Core.Path.{◌≡◌, ◌∙◌}
use mathlib.Core.List.{List}
use lib.Dec.{leb}
use lib.ListN.{length}
use borrow.Author.Tests.{lt-leb, le-leb}
use native.Mathlib.Omega.{arith}
use Rattle.format.specs.Bytes.{same}
use Rattle.format.specs.Codes.{common}
use Rattle.format.proofs.Basics.{less_or_not}
use Rattle.part.proofs.Labels.{first_longer, second_longer, neither_longer}
use Rattle.part.proofs.shared.Goals as goal

-- none of the first is left: the same where none of the second is
spent : (l n : List ℕ) (k : ℕ) → k ≡ common l n → length l ≤ k → leb (length n) k ≡ same l n
spent l n k e h =
    less_or_not k (length n) (λ q. lt-leb _ _ q ∙ second_longer l n (rw e at q))
    λ q. le-leb _ _ (omega (arith, q)) ∙ neither_longer l n (rw e at h) (omega (arith, q, e))

pub returns-then-last-kept : goal.returns-then-last-kept
returns-then-last-kept c =
    let e = c.common_start-kept.ensures in
    (e, spent c.args.last.now c.args.name.now _ e c.if-last-kept.true)

pub returns-else-last-kept : goal.returns-else-last-kept
returns-else-last-kept c =
    let e = c.common_start-kept.ensures in
    (e, lt-leb _ _ c.if-last-kept.false ∙ first_longer c.args.last.now c.args.name.now (rw e at c.if-last-kept.false))
