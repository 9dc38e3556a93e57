-- `known_zone` meets its contract: 27 bytes, and the last three are a zone. Assumes nothing.
use mathlib.Core.Path.{◌∙◌}
use native.Mathlib.Omega.{arith}
use borrow.Author.Rules.{part_to_end}
use Rattle.seconds.proofs.Forms.{other_length, first_zone, second_zone}
use Rattle.seconds.proofs.known_zone.Goals as goal

pub returns-then-line-ne27 : goal.returns-then-line-ne27
returns-then-line-ne27 c =
    other_length _ (λ e. omega (arith, c.if-line-ne27.true))

pub returns-then-eq : goal.returns-then-eq
returns-then-eq c =
    let e = simp part_to_end at c.eq.ensures in
    c.if-eq.true ∙ first_zone c.args.line.now (cc)

pub returns-else-eq : goal.returns-else-eq
returns-else-eq c =
    let e = simp part_to_end at c.eq.ensures in
    let f = simp part_to_end at c.eq-else-eq.ensures in
    second_zone c.args.line.now _ (cc) (cc)
