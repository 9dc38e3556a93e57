-- `kind::old_date` meets its contract. Assumes nothing.
use borrow.Author.Tests.{eq-eqb, ne_eqb}
use Rattle.format.specs.Bytes.{pick}
use Rattle.format.specs.Items.{old_date_item}
use Rattle.kind.proofs.old_date.Goals as goal

ruleset cases = (eq-eqb, ne_eqb)

pub returns-then-code-eq32 : goal.returns-then-code-eq32
unfolding old_date_item pick
returns-then-code-eq32 c =
    λ p s. search cases

pub returns-then-code-eq33 : goal.returns-then-code-eq33
unfolding old_date_item pick
returns-then-code-eq33 c =
    λ p s. search cases

pub returns : goal.returns
unfolding old_date_item pick
returns c =
    λ p s. search cases
