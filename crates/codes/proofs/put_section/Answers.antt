-- `codes::put_section` meets its contract. Assumes nothing.
use Rattle.part.proofs.Laying.{lays_then}
use Rattle.codes.proofs.put_section.Goals as goal

pub returns : goal.returns
returns c = lays_then c.put_new_date_if-at.ensures c.put_xsect.ensures
