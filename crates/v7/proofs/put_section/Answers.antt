-- `v7::put_section` meets its contract. Assumes nothing.
use Rattle.part.proofs.Laying.{lays_then, lays_within}
use Rattle.format.specs.V7Codes.{v7_codes_limit}
use native.Mathlib.Omega.{arith}
use Rattle.v7.proofs.put_section.Goals as goal

pub returns : goal.returns
returns c =
    lays_within (lays_then c.put_date_if-at.ensures
    c.put_xsect.ensures) v7_codes_limit (omega arith)
