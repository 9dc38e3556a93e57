-- `codes::put_error` meets its contract. Assumes nothing.
use Rattle.format.specs.Codes.{error_codes}
use Rattle.format.specs.Bytes.{to_le32}
use Rattle.part.proofs.Laying.{lays_then}
use Rattle.codes.proofs.put_error.Goals as goal

pub returns : goal.returns
unfolding error_codes to_le32
returns c =
    lays_then c.put-a.ensures
    (rw c.traverse_bytes-bytes.ensures at c.put.ensures)
