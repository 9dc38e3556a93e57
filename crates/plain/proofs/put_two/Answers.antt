use mathlib.Core.Path.{refl}
use mathlib.Core.List.{[], ◌∷◌}
use Rattle.wire.proofs.Laws.{stored_2}
use Rattle.plain.proofs.put_two.Goals as goal

pub returns : goal.returns
returns c =
    stored_2 (c.args.code ∷ c.args.part ∷ []) c.args.out.now refl c.requires
