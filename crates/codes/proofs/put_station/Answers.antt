-- `codes::put_station` meets its contract. Assumes nothing.
use native.Mathlib.Omega.{arith}
use Rattle.format.specs.Bytes.{to_le32}
use Rattle.format.specs.Codes.{label_codes, station_codes}
use Rattle.format.proofs.WritingLaws.{kept_shares}
use Rattle.part.proofs.Laying.{lays_then}
use Rattle.codes.proofs.put_station.Goals as goal

pub put_label-b-requires : goal.put_label-b-requires
put_label-b-requires c =
    let h = kept_shares c.args.last.now
    c.args.name.now in
    let e = c.kept_bytes-kept.ensures in
    let g = c.requires.1.label_fits in (
      omega (arith, c.put-a.ensures.most),
      omega (arith, c.requires),
      omega (arith, g),
      omega (arith, h.first, e),
      omega (arith, h.second, e),
    )

pub returns : goal.returns
unfolding station_codes to_le32 label_codes
returns c =
    lays_then c.put-a.ensures
    (lays_then (rw c.kept_bytes-kept.ensures at
    c.put_label-b.ensures)
    (rw c.point_bytes-bytes.ensures at c.put.ensures))
