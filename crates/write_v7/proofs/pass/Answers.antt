-- `write_v7::pass` meets its contract. Assumes nothing.
use Rattle.format.specs.Writing.{v7}
use Rattle.write.proofs.Whole.{pass_flawed}
use Rattle.write_v7.proofs.Front.{pass_v7}
use Rattle.write_v7.proofs.pass.Goals as goal

pub returns-in_default : goal.returns-in_default
returns-in_default c =
    rw c.at.ensures (pass_flawed v7 _ _ _ c.version_of-version.ensures (rw c.in_default.is at c.read_front.ensures))

pub returns : goal.returns
returns c =
    pass_v7 _ _ _ _ _ _ _ _ _ _ _ c.version_of-version.ensures c.in-Some.ensures c.put_header-head.ensures c.put_records.ensures
