-- `summary::finish` meets its contract. Assumes nothing.
use Rattle.std.proofs.Common.{◌≡◌, ℕ, ◌+◌, ◌/◌, ◌∙◌, subst}
use Rattle.summary.proofs.Whole.{finished}
use Rattle.summary.specs.Bits.{Totalled}
use Rattle.summary.proofs.finish.Goals as goal

pub returns : goal.returns
returns c =
    let e : c.words_for.result ≡ (c.args.n + 63) / 64 = c.words_for.ensures in
    let S : Totalled c.clear_spare.new.words c.put_totals.new.words ((c.args.n + 63) / 64) ((c.args.n + 63) / 64) =
    subst (λ (w : ℕ). Totalled c.clear_spare.new.words c.put_totals.new.words w w) e c.put_totals.ensures in
    finished c.args.words.now c.clear_spare.new.words c.put_totals.new.words c.args.n
    (c.put_totals.auto.words ∙ c.clear_spare.auto.words) c.requires.0 c.clear_spare.ensures S
    (λ j. (c.type_inv.words j).fits)
