-- `table::find` meets its contract. Assumes nothing.
use Prim.Native.Nat.{◌+◌, ◌-◌}
use mathlib.Core.Path.{◌≡◌}
use native.Mathlib.Omega.{arith}
use Rattle.table.proofs.Finding.{says_yes, says_no, empty_told, missing_told, ahead_first, first_within, found_told, ahead_next, next_less}
use Rattle.table.proofs.find.Goals as goal

pub returns-then-count-eq0 : goal.returns-then-count-eq0
returns-then-count-eq0 c =
    empty_told _ c.args.room.now c.args.index.count c.args.name.now c.if-count-eq0.true _ c.hash-h.ensures

pub chain-b-requires : goal.chain-b-requires
chain-b-requires c =
    let x = c.requires.some (omega arith) in
    (x, omega (arith, c.requires.spread, c.requires.body.few))

pub head_of-c-requires : goal.head_of-c-requires
head_of-c-requires c =
    let x = c.chain-b.ensures.1 in
    (omega (arith, x, c.requires.spread, c.requires.body.few), omega (arith, x, c.requires.spread, c.requires.body.fits))

pub loop-c-init : goal.loop-c-init
loop-c-init c = (
  first_within _ c.args.room.now c.args.index.count c.args.name.now c.args.index.back c.args.index.spread c.requires c.hash-h.result _ _ c.chain-b.ensures.1 c.head_of-c.ensures.0,
  ahead_first _ c.args.room.now c.args.index.count c.args.name.now c.args.index.back c.args.index.spread c.requires c.hash-h.result _ _ c.hash-h.ensures c.chain-b.ensures.0 c.head_of-c.ensures.0,
)

pub has_name-requires : goal.has_name-requires
has_name-requires c =
    let l = c.loop-c in
    (omega (arith, c.requires.body.fits), omega (arith, c.requires.body.fits), c.requires.body.inside (l.c - 1) (omega arith))

pub place_at-requires : goal.place_at-requires
place_at-requires c =
    omega (arith, c.requires.body.fits)

pub returns-then-has_name : goal.returns-then-has_name
returns-then-has_name c =
    let l = c.loop-c in
    let q : l.c ≡ l.c - 1 + 1 = omega arith in
    found_told _ c.args.room.now c.args.index.count c.args.name.now c.args.index.back c.args.index.spread c.requires _ c.hash-h.ensures l.c (l.c - 1) q l.invariant.0
    (says_yes c.if-has_name.true c.has_name.ensures) _ c.place_at.ensures

pub next_of-c-requires : goal.next_of-c-requires
next_of-c-requires c =
    omega (arith, c.requires.body.fits)

pub loop-c-smaller : goal.loop-c-smaller
loop-c-smaller c =
    let l = c.loop-c in
    let q : l.c ≡ l.c - 1 + 1 = omega arith in
    next_less _ c.args.room.now c.args.index.count c.args.name.now c.args.index.back c.args.index.spread c.requires _ c.hash-h.ensures l.c (l.c - 1) q l.invariant.0 _ c.next_of-c.ensures

pub loop-c-preserved : goal.loop-c-preserved
loop-c-preserved c =
    let l = c.loop-c in
    let q : l.c ≡ l.c - 1 + 1 = omega arith in
    let x = next_less _ c.args.room.now c.args.index.count c.args.name.now c.args.index.back c.args.index.spread c.requires _ c.hash-h.ensures l.c (l.c - 1) q l.invariant.0 _ c.next_of-c.ensures in (
      omega (arith, x),
      ahead_next _ c.args.room.now c.args.index.count c.args.name.now c.args.index.back c.args.index.spread c.requires _ c.hash-h.ensures l.c (l.c - 1) q l.invariant.0
          (says_no c.if-has_name.false c.has_name.ensures) l.invariant.1 _ c.next_of-c.ensures,
    )

pub returns : goal.returns
returns c =
    let l = c.loop-c in
    let z : l.c ≡ 0 = omega arith in
    missing_told _ c.args.room.now c.args.index.count c.args.name.now l.c z l.invariant.1 _ c.hash-h.ensures
