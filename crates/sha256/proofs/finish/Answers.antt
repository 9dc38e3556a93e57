-- `sha256::finish` meets its contract. Assumes nothing.
use Rattle.sha256.proofs.StreamLaws.{finish_held, rest_front, rest_length}
use Rattle.sha256.proofs.finish.Goals as goal

pub close-last-requires : goal.close-last-requires
close-last-requires c = (
  c.table-k.ensures,
  rest_length c.args.block.now
      c.waiting-held.result _ c.told-block
      c.waiting-held.ensures.0,
)

pub returns : goal.returns
returns c =
    finish_held c.args.run c.args.block.now _ _ _ c.waiting-held.result c.waiting-held.ensures.0 (rest_front c.args.block.now c.waiting-held.result) c.close-last.ensures
    c.lay_digest.ensures
