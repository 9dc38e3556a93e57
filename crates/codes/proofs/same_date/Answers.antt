-- `codes::same_date` meets its contract. Assumes nothing.
use Rattle.std.proofs.Common.{refl, ◌≡◌, ◌∙◌}
use Rattle.format.specs.Codes.{same_date}
use Rattle.format.specs.declared.Dated.{Dated}
use Rattle.format.specs.declared.Dated.TheVariants.{Undated, Day, Range}
use Rattle.format.specs.contracts.DatedPartialEq.TheImpl.{eq-value}
use Rattle.codes.proofs.same_date.Goals as goal

derived : (a b : Dated) → eq-value.it a b ≡ same_date a b
unfolding same_date
derived Undated Undated = refl
derived Undated (Day d) = refl
derived Undated (Range d e) = refl
derived (Day c) Undated = refl
derived (Day c) (Day d) = refl
derived (Day c) (Range d e) = refl
derived (Range b c) Undated = refl
derived (Range b c) (Day d) = refl
derived (Range b c) (Range d e) = refl

pub returns : goal.returns
returns c = c.eq.ensures ∙ derived c.args.a c.args.b
