-- `kind::new_date` meets its contract. Assumes nothing.
use borrow.Author.Tests.{eq-eqb, ne_eqb}
use Rattle.format.specs.Bytes.{pick}
use Rattle.format.specs.Items.{new_date_item}
use Rattle.kind.proofs.new_date.Goals as goal

ruleset cases = (eq-eqb, ne_eqb)

pub returns-then-code-eq16 : goal.returns-then-code-eq16
unfolding new_date_item pick
returns-then-code-eq16 c =
    (λ p s. search cases, tt)

pub returns-then-code-eq17 : goal.returns-then-code-eq17
unfolding new_date_item pick
returns-then-code-eq17 c =
    (λ p s. search cases, tt)

pub returns-then-code-eq18 : goal.returns-then-code-eq18
unfolding new_date_item pick
returns-then-code-eq18 c =
    (λ p s. search cases, tt)

pub returns : goal.returns
unfolding new_date_item pick
returns c =
    (λ p s. search cases, tt)
