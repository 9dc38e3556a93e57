-- `read::pass` meets its contract. Assumes nothing.
use native.Mathlib.Omega.{arith}
use mathlib.Core.Path.{◌≡◌, ap, ◌∙◌}
use lib.ListN.{length}
use Rattle.read.proofs.Ruling.{on_first, on_stood, on_ready, on_other, on_went, on_trim, on_bad, on_end, on_item}
use borrow.Author.Rules.{rules}
use Rattle.read.proofs.pass.Goals as goal

pub loop-next-init : goal.loop-next-init
loop-next-init c =
    let w : length c.blank-label.result.bytes ≡ 4096 = search rules in
    rw c.outset-stand.ensures (on_first _ _ _ _ _ c.requires.0 c.requires.1 w)

pub slice_bounds-rest-count : goal.slice_bounds-rest-count
slice_bounds-rest-count c = omega (arith, (on_stood _ _ _ _ _ _ _ _ c.loop-next.invariant).inside)

pub slice_bounds-rest-start : goal.slice_bounds-rest-start
slice_bounds-rest-start c = omega (arith, (on_stood _ _ _ _ _ _ _ _ c.loop-next.invariant).inside)

pub slice_bounds-rest-end : goal.slice_bounds-rest-end
slice_bounds-rest-end c = omega (arith, (on_stood _ _ _ _ _ _ _ _ c.loop-next.invariant).inside)

pub short_turn-turn-requires : goal.short_turn-turn-requires
short_turn-turn-requires c =
    let G = on_stood _ _ _ _ _ _ _ _ c.loop-next.invariant in
    let p = c.requires.0 in
    let o = rw c.outset-stand.ensures at G.out_few in
    record {
      few = record {
        at_few = omega (arith, G.inside, p.fits);
        out_few = omega (arith, G.inside, o, p.fits, p.front_few);
        records_few = omega (arith, G.inside, G.records_few, p.fits);
      };
      short = G.short;
      whole = G.whole;
    }

pub loop-next-smaller-in-Some-Went : goal.loop-next-smaller-in-Some-Went
loop-next-smaller-in-Some-Went c =
    let S = rw (c.in-Some-Went.is, (rw c.in-Some-Went.is at c.in-Some-Went.field-0-is), c.is_some-strict.ensures) at c.short_turn-turn.ensures in
    let z = on_went _ _ _ _ _ _ _ _ c.loop-next.invariant _ _ _ S in omega (arith, z.0, z.1)

pub loop-next-preserved-in-Some-Went : goal.loop-next-preserved-in-Some-Went
loop-next-preserved-in-Some-Went c =
    let S = rw (c.in-Some-Went.is, (rw c.in-Some-Went.is at c.in-Some-Went.field-0-is), c.is_some-strict.ensures) at c.short_turn-turn.ensures in
    (on_went _ _ _ _ _ _ _ _ c.loop-next.invariant _ _ _ S).2

pub passed-here-requires : goal.passed-here-requires
passed-here-requires c =
    omega (arith, (on_stood _ _ _ _ _ _ _ _ c.loop-next.invariant).inside, c.requires.0.fits)

pub loop-next-smaller-in-Some-Trim : goal.loop-next-smaller-in-Some-Trim
loop-next-smaller-in-Some-Trim c =
    let S = rw (c.in-Some-Trim.is, (rw c.in-Some-Trim.is at c.in-Some-Trim.field-0-is), c.is_some-strict.ensures) at c.short_turn-turn.ensures in
    let z = on_trim _ _ _ _ _ _ _ _ c.loop-next.invariant _ _ _ S in rw c.passed-here.ensures (omega (arith, z.0))

pub loop-next-preserved-in-Some-Trim : goal.loop-next-preserved-in-Some-Trim
loop-next-preserved-in-Some-Trim c =
    let S = rw (c.in-Some-Trim.is, (rw c.in-Some-Trim.is at c.in-Some-Trim.field-0-is), c.is_some-strict.ensures) at c.short_turn-turn.ensures in
    rw c.passed-here.ensures (on_trim _ _ _ _ _ _ _ _ c.loop-next.invariant _ _ _ S).1

pub any_item-it-requires : goal.any_item-it-requires
any_item-it-requires c =
    let H = c.loop-next.invariant in
    let G = on_stood _ _ _ _ _ _ _ _ H in
    let S = rw (c.in-None.is, c.is_some-strict.ensures) at c.short_turn-turn.ensures in
    let E = on_other _ _ _ _ _ _ _ _ c.loop-next.invariant _ _ S in
    let p = c.requires.0 in
    let o = rw c.outset-stand.ensures at G.out_few in
    rw E.1
    (record { short = G.short; whole = ap length E.0 ∙ G.whole; out_few = omega (arith, G.inside, o, p.fits, p.front_few) }, on_ready _ _ _ _ _ _ _ _ H p.fits)

pub returns-in-Err : goal.returns-in-Err
returns-in-Err c =
    let S = rw (c.in-None.is, c.is_some-strict.ensures) at c.short_turn-turn.ensures in
    let E = on_other _ _ _ _ _ _ _ _ c.loop-next.invariant _ _ S in
    let T = rw (c.in-Err.is, E.0, E.1) at c.any_item-it.ensures in
    let z = rw c.outset-stand.ensures at (on_bad _ _ _ _ _ _ _ _ c.loop-next.invariant _ _ _ T) in record { answer = c.refused_at.ensures ∙ z.0; lent = z.1 }

pub ended-requires : goal.ended-requires
ended-requires c =
    omega (arith, (on_stood _ _ _ _ _ _ _ _ c.loop-next.invariant).inside, c.requires.0.fits)

pub returns-in-Ok-End : goal.returns-in-Ok-End
returns-in-Ok-End c =
    let S = rw (c.in-None.is, c.is_some-strict.ensures) at c.short_turn-turn.ensures in
    let E = on_other _ _ _ _ _ _ _ _ c.loop-next.invariant _ _ S in
    let T = rw (c.in-Ok-End.is, (rw c.in-Ok-End.is at c.in-Ok-End.field-0-is), E.0, E.1) at c.any_item-it.ensures in
    let z = rw c.outset-stand.ensures at (on_end _ _ _ _ _ _ _ _ c.loop-next.invariant _ _ T) in record { answer = c.ended.ensures ∙ z.0; lent = z.1 }

pub ahead-here-requires : goal.ahead-here-requires
ahead-here-requires c =
    let H = c.loop-next.invariant in
    let G = on_stood _ _ _ _ _ _ _ _ H in
    let S = rw (c.in-None.is, c.is_some-strict.ensures) at c.short_turn-turn.ensures in
    let E = on_other _ _ _ _ _ _ _ _ c.loop-next.invariant _ _ S in
    let T = rw (c.in-Ok-Went.is, (rw c.in-Ok-Went.is at c.in-Ok-Went.field-0-is), E.0, E.1) at c.any_item-it.ensures in
    let z = on_item _ _ _ _ _ _ _ _ H _ _ _ _ _ T in
    let p = c.requires.0 in
    let o = rw c.outset-stand.ensures at G.out_few in
    (omega (arith, z.1, p.fits), omega (arith, z.2, G.inside, o, p.fits, p.front_few), omega (arith, z.3, G.inside, G.records_few, p.fits))

pub loop-next-smaller : goal.loop-next-smaller
loop-next-smaller c =
    let S = rw (c.in-None.is, c.is_some-strict.ensures) at c.short_turn-turn.ensures in
    let E = on_other _ _ _ _ _ _ _ _ c.loop-next.invariant _ _ S in
    let T = rw (c.in-Ok-Went.is, (rw c.in-Ok-Went.is at c.in-Ok-Went.field-0-is), E.0, E.1) at c.any_item-it.ensures in
    let z = on_item _ _ _ _ _ _ _ _ c.loop-next.invariant _ _ _ _ _ T in
    rw c.ahead-here.ensures (omega (arith, z.0, z.1))

pub loop-next-preserved : goal.loop-next-preserved
loop-next-preserved c =
    let S = rw (c.in-None.is, c.is_some-strict.ensures) at c.short_turn-turn.ensures in
    let E = on_other _ _ _ _ _ _ _ _ c.loop-next.invariant _ _ S in
    let T = rw (c.in-Ok-Went.is, (rw c.in-Ok-Went.is at c.in-Ok-Went.field-0-is), E.0, E.1) at c.any_item-it.ensures in
    rw c.ahead-here.ensures (on_item _ _ _ _ _ _ _ _ c.loop-next.invariant _ _ _ _ _ T).4
