-- `kind::new_low` meets its contract. Assumes nothing.
use borrow.Author.Tests.{lt-ltb, le-ltb, eq-eqb, ne_eqb}
use Rattle.format.specs.Bytes.{pick}
use mathlib.Core.Path.{◌∙◌}
use Rattle.format.specs.Items.{new_low_item}
use Rattle.kind.proofs.new_low.Goals as goal

ruleset cases = (lt-ltb, le-ltb, eq-eqb, ne_eqb)

pub returns-then-code-lt5 : goal.returns-then-code-lt5
unfolding new_low_item pick
returns-then-code-lt5 c =
    (λ p s. search cases, tt)

pub returns-then-code-lt15 : goal.returns-then-code-lt15
unfolding new_low_item pick
returns-then-code-lt15 c =
    (λ p s. search cases, tt)

pub returns-then-code-eq15 : goal.returns-then-code-eq15
unfolding new_low_item pick
returns-then-code-eq15 c =
    (λ p s. search cases, tt)

pub returns-then-code-lt20 : goal.returns-then-code-lt20
unfolding new_low_item pick
returns-then-code-lt20 c =
    (λ p s. c.new_date.ensures.0 p s ∙ search cases, c.new_date.ensures.1)

pub returns-then-code-eq31 : goal.returns-then-code-eq31
unfolding new_low_item pick
returns-then-code-eq31 c =
    (λ p s. search cases, tt)

pub returns : goal.returns
unfolding new_low_item pick
returns c =
    (λ p s. search cases, tt)
