-- `listing::list_sheet` meets its contract: by its length and the verdict on it. Assumes nothing.
use native.Mathlib.Omega.{arith}
use mathlib.Core.Path.{sym}
use Rattle.listing.proofs.Lister.{listing_too_long, listing_good, listing_refused}
use Rattle.listing.proofs.list_sheet.Goals as goal

pub returns-then-sheet-ge-LISTING_LIMIT : goal.returns-then-sheet-ge-LISTING_LIMIT
returns-then-sheet-ge-LISTING_LIMIT c =
    let W = c.list_too_long.ensures in (
      rw (← listing_too_long c.args.version
          c.args.sheet.now c.if-sheet-ge-LISTING_LIMIT.true) W.0,
      omega (arith, W.1),
    )

pub list_lines-requires : goal.list_lines-requires
list_lines-requires c =
    (c.if-sheet-ge-LISTING_LIMIT.false, sym c.in-Ok.ensures)

pub returns-in-Ok : goal.returns-in-Ok
returns-in-Ok c =
    let W = c.list_lines.ensures in
    let e = sym c.in-Ok.ensures in (
      rw (← listing_good c.args.version
          c.args.sheet.now
          c.if-sheet-ge-LISTING_LIMIT.false e) W.0,
      W.1,
    )

pub returns-in-Err : goal.returns-in-Err
returns-in-Err c =
    let W = c.list_refusal.ensures in
    let e = sym c.in-Err.ensures in (
      rw (← listing_refused c.args.version
          c.args.sheet.now
          c.if-sheet-ge-LISTING_LIMIT.false e) W.0,
      omega (arith, W.1),
    )
