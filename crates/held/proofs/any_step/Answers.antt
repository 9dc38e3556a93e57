-- `held::any_step` meets its contract. Assumes nothing.
use Rattle.held.proofs.ShortLaws.{steps_on}
use Rattle.held.proofs.any_step.Goals as goal

pub returns : goal.returns
returns c =
    let S = rw c.held_of-stand.ensures at c.step_at-t.ensures in
    steps_on c.args.s.now c.args.bytes.now c.args.file.now c.args.out.now _ _ _ _ S c.numbers_of-numbers.ensures
