-- `listing::sheet_lines` meets its contract: the header's line and those of the rest. Assumes nothing.
use native.Mathlib.Omega.{arith}
use Rattle.listing.proofs.Stores.{put_then, put_as}
use Rattle.listing.proofs.Sheets.{title_short, time_short, whole_never, whole_some}
use Rattle.listing.proofs.sheet_lines.Goals as goal

pub overflow_add-behind : goal.overflow_add-behind
overflow_add-behind c = omega (arith, c.in-Some.ensures.title_short, c.in-Some.ensures.time_short)

pub overflow_add-from : goal.overflow_add-from
overflow_add-from c = omega (arith, c.in-Some.ensures.title_short, c.in-Some.ensures.time_short)

pub slice_bounds-title-end : goal.slice_bounds-title-end
slice_bounds-title-end c = omega (arith, c.in-Some.ensures.inside)

pub slice_bounds-time-end : goal.slice_bounds-time-end
slice_bounds-time-end c = omega (arith, c.in-Some.ensures.inside)

pub header_line-k-requires : goal.header_line-k-requires
header_line-k-requires c =
    let F = c.in-Some.ensures in (
      omega arith,
      title_short _ c.args.sheet.now c.version_of-layout.ensures 8 F,
      time_short _ c.args.sheet.now c.version_of-layout.ensures 8 F,
    )

pub rest_lines-requires : goal.rest_lines-requires
rest_lines-requires c = (c.in-Some.ensures.inside, c.requires.0, omega (arith, c.header_line-k.ensures.few))

pub returns-in_default : goal.returns-in_default
returns-in_default c = absurd (whole_never _ _ c.version_of-layout.ensures 8 c.in_default.ensures c.requires.1)

pub returns : goal.returns
returns c =
    put_as (put_then c.header_line-k.ensures c.rest_lines.ensures) (omega arith)
    (whole_some _ c.args.sheet.now c.version_of-layout.ensures c.args.version c.in-Some.ensures)
