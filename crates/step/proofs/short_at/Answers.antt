use native.Mathlib.Omega.{arith}
use lib.ListN.{length}
use Rattle.step.proofs.Laws.{lesser_most}
use Rattle.step.proofs.ShortLaws.{shortly}
use Rattle.step.proofs.short_at.Goals as goal

-- src/lib.rt:418:9
pub slice_bounds-lay_short-count : goal.slice_bounds-lay_short-count
slice_bounds-lay_short-count c =
    omega (arith, c.lesser-at.ensures, lesser_most c.args.stand.place (length c.args.file.now))

-- src/lib.rt:418:9
pub slice_bounds-lay_short-start : goal.slice_bounds-lay_short-start
slice_bounds-lay_short-start c =
    omega (arith, c.lesser-at.ensures, lesser_most c.args.stand.place (length c.args.file.now))

-- src/lib.rt:416:5
pub lay_short-requires : goal.lay_short-requires
lay_short-requires c =
    (omega (arith, c.lesser-old.ensures, lesser_most c.args.stand.len 4096), c.full.ensures.1)

-- src/lib.rt:403:1
pub returns : goal.returns
returns c =
    let Q = rw (c.lesser-at.ensures, c.lesser-old.ensures) at c.lay_short.ensures in
    shortly c.args.stand c.args.bytes.now c.args.file.now c.args.out.now c.in-Going.is c.full.ensures.1 (omega (arith, c.if-out-lt-RECORD_LIMIT.false)) (omega (arith, c.well_formed)) c.lay_short.result c.lay_short.new.bytes c.lay_short.new.out Q
