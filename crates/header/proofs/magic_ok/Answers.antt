-- `magic_ok` meets its contract. Assumes nothing.
use native.Mathlib.Omega.{arith}
use Prim.Native.Nat.{ℕ}
use mathlib.Core.Path.{refl, sym, ap, ◌∙◌}
use mathlib.Core.List.{List}
use lib.ListN.{length, take, length-take}
use Rattle.format.specs.Header.{magic}
use Rattle.wire.proofs.Laws.{same_false}
use Rattle.header.proofs.magic_ok.Goals as goal

pub returns-then-file-lt21 : goal.returns-then-file-lt21
unfolding magic
returns-then-file-lt21 c =
    sym (same_false (take 21 c.args.file.now) magic (λ e. omega (arith, ap (λ (l : List ℕ). length l) e ∙ refl, length-take 21 c.args.file.now)))

pub returns : goal.returns
unfolding magic
returns c = c.same_bytes.ensures
