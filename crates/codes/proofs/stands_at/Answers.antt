-- `codes::stands_at` meets its contract. Assumes nothing.
use Rattle.std.proofs.Common.{refl, ◌≡◌, ◌∙◌, Option, None, Some}
use Rattle.std.specs.Option.{option_eq}
use Rattle.format.specs.Codes.{stands_at, same_point}
use Rattle.format.specs.declared.Point.{Point}
use Rattle.format.specs.contracts.PointPartialEq.TheImpl.{eq-value}
use Rattle.codes.proofs.stands_at.Goals as goal

derived : (o : Option Point) (p : Point) → option_eq eq-value.it o (Some p) ≡ stands_at o p
unfolding same_point
derived None p = refl
derived (Some q) p = refl

pub returns : goal.returns
returns c = c.eq.ensures ∙ derived c.args.position c.args.p
