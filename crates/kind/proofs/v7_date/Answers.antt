-- `kind::v7_date` meets its contract. Assumes nothing.
use borrow.Author.Tests.{eq-eqb, ne_eqb}
use Rattle.format.specs.Bytes.{pick}
use Rattle.format.specs.Items.{v7_date_item}
use Rattle.kind.proofs.v7_date.Goals as goal

ruleset cases = (eq-eqb, ne_eqb)

pub returns-then-code-eq32 : goal.returns-then-code-eq32
unfolding v7_date_item pick
returns-then-code-eq32 c =
    λ p s. search cases

pub returns-then-code-eq33 : goal.returns-then-code-eq33
unfolding v7_date_item pick
returns-then-code-eq33 c =
    λ p s. search cases

pub returns-then-code-eq35 : goal.returns-then-code-eq35
unfolding v7_date_item pick
returns-then-code-eq35 c =
    λ p s. search cases

pub returns-then-code-eq36 : goal.returns-then-code-eq36
unfolding v7_date_item pick
returns-then-code-eq36 c =
    λ p s. search cases

pub returns : goal.returns
unfolding v7_date_item pick
returns c =
    λ p s. search cases
