-- `sha256::compress` meets its contract. Assumes nothing.
use Rattle.std.proofs.Common.{◌+◌, ◌≤◌, refl, arith}
use Rattle.sha256.proofs.Rounds.{going_first, going_on, rounds_done}
use Rattle.sha256.proofs.compress.Goals as goal

pub loop-t-init : goal.loop-t-init
loop-t-init c =
    let e = c.spread-w.ensures in
    (omega arith, omega arith, refl, going_first c.args.k.now c.args.b.now _ c.args.h _ c.requires.0 e.0 e.1 c.early_rounds-s.ensures)

pub late_round-s1-requires : goal.late_round-s1-requires
late_round-s1-requires c =
    let n = (let it : (16 ≤ c.loop-t.t) × (c.loop-t.t + 8 ≤ 64) = (omega arith, omega arith) in it) in (omega (arith, n), omega (arith, n))

pub overflow_add-t : goal.overflow_add-t
overflow_add-t c = omega (arith, (let it : (16 ≤ c.loop-t.t) × (c.loop-t.t + 8 ≤ 64) = (omega arith, omega arith) in it))

pub late_round-s2-requires : goal.late_round-s2-requires
late_round-s2-requires c =
    let n = (let it : (16 ≤ c.loop-t.t) × (c.loop-t.t + 8 ≤ 64) = (omega arith, omega arith) in it) in (omega (arith, n), omega (arith, n))

pub overflow_add-t-in-loop-t : goal.overflow_add-t-in-loop-t
overflow_add-t-in-loop-t c =
    omega (arith, (let it : (16 ≤ c.loop-t.t) × (c.loop-t.t + 8 ≤ 64) = (omega arith, omega arith) in it))

pub late_round-s3-requires : goal.late_round-s3-requires
late_round-s3-requires c =
    let n = (let it : (16 ≤ c.loop-t.t) × (c.loop-t.t + 8 ≤ 64) = (omega arith, omega arith) in it) in (omega (arith, n), omega (arith, n))

pub overflow_add-t-in-loop-t-2 : goal.overflow_add-t-in-loop-t-2
overflow_add-t-in-loop-t-2 c =
    omega (arith, (let it : (16 ≤ c.loop-t.t) × (c.loop-t.t + 8 ≤ 64) = (omega arith, omega arith) in it))

pub late_round-s4-requires : goal.late_round-s4-requires
late_round-s4-requires c =
    let n = (let it : (16 ≤ c.loop-t.t) × (c.loop-t.t + 8 ≤ 64) = (omega arith, omega arith) in it) in (omega (arith, n), omega (arith, n))

pub overflow_add-t-in-loop-t-3 : goal.overflow_add-t-in-loop-t-3
overflow_add-t-in-loop-t-3 c =
    omega (arith, (let it : (16 ≤ c.loop-t.t) × (c.loop-t.t + 8 ≤ 64) = (omega arith, omega arith) in it))

pub late_round-s5-requires : goal.late_round-s5-requires
late_round-s5-requires c =
    let n = (let it : (16 ≤ c.loop-t.t) × (c.loop-t.t + 8 ≤ 64) = (omega arith, omega arith) in it) in (omega (arith, n), omega (arith, n))

pub overflow_add-t-in-loop-t-4 : goal.overflow_add-t-in-loop-t-4
overflow_add-t-in-loop-t-4 c =
    omega (arith, (let it : (16 ≤ c.loop-t.t) × (c.loop-t.t + 8 ≤ 64) = (omega arith, omega arith) in it))

pub late_round-s6-requires : goal.late_round-s6-requires
late_round-s6-requires c =
    let n = (let it : (16 ≤ c.loop-t.t) × (c.loop-t.t + 8 ≤ 64) = (omega arith, omega arith) in it) in (omega (arith, n), omega (arith, n))

pub overflow_add-t-in-loop-t-5 : goal.overflow_add-t-in-loop-t-5
overflow_add-t-in-loop-t-5 c =
    omega (arith, (let it : (16 ≤ c.loop-t.t) × (c.loop-t.t + 8 ≤ 64) = (omega arith, omega arith) in it))

pub late_round-s7-requires : goal.late_round-s7-requires
late_round-s7-requires c =
    let n = (let it : (16 ≤ c.loop-t.t) × (c.loop-t.t + 8 ≤ 64) = (omega arith, omega arith) in it) in
    (omega (arith, n), omega (arith, n))

pub overflow_add-t-in-loop-t-6 : goal.overflow_add-t-in-loop-t-6
overflow_add-t-in-loop-t-6 c =
    omega (arith, (let it : (16 ≤ c.loop-t.t) × (c.loop-t.t + 8 ≤ 64) = (omega arith, omega arith) in it))

pub late_round-s-requires : goal.late_round-s-requires
late_round-s-requires c =
    let n = (let it : (16 ≤ c.loop-t.t) × (c.loop-t.t + 8 ≤ 64) = (omega arith, omega arith) in it) in
    (omega (arith, n), omega (arith, n))

pub overflow_add-t-in-loop-t-7 : goal.overflow_add-t-in-loop-t-7
overflow_add-t-in-loop-t-7 c =
    omega (arith, (let it : (16 ≤ c.loop-t.t) × (c.loop-t.t + 8 ≤ 64) = (omega arith, omega arith) in it))

pub loop-t-smaller : goal.loop-t-smaller
loop-t-smaller c =
    omega (arith, (let it : (16 ≤ c.loop-t.t) × (c.loop-t.t + 8 ≤ 64) = (omega arith, omega arith) in it))

pub loop-t-preserved : goal.loop-t-preserved
loop-t-preserved c =
    let L = c.loop-t in
    let k = c.args.k.now in
    let m = c.args.b.now in
    let h = c.args.h in
    let q = c.requires.0 in
    let t = L.t in
    let n = (let it : (16 ≤ c.loop-t.t) × (c.loop-t.t + 8 ≤ 64) = (omega arith, omega arith) in it) in
    let e1 = c.late_round-s1.ensures in
    let e2 = c.late_round-s2.ensures in
    let e3 = c.late_round-s3.ensures in
    let e4 = c.late_round-s4.ensures in
    let e5 = c.late_round-s5.ensures in
    let e6 = c.late_round-s6.ensures in
    let e7 = c.late_round-s7.ensures in
    let e8 = c.late_round-s.ensures in
    let G1 = going_on k m _ _ t (t + 1) h _ _ q refl n.0 (omega (arith, n)) L.invariant.3 e1.word e1.round in
    let G2 = going_on k m _ _ (t + 1) (t + 2) h _ _ q (omega arith) (omega (arith, n)) (omega (arith, n)) G1 e2.word e2.round in
    let G3 = going_on k m _ _ (t + 2) (t + 3) h _ _ q (omega arith) (omega (arith, n)) (omega (arith, n)) G2 e3.word e3.round in
    let G4 = going_on k m _ _ (t + 3) (t + 4) h _ _ q (omega arith) (omega (arith, n)) (omega (arith, n)) G3 e4.word e4.round in
    let G5 = going_on k m _ _ (t + 4) (t + 5) h _ _ q (omega arith) (omega (arith, n)) (omega (arith, n)) G4 e5.word e5.round in
    let G6 = going_on k m _ _ (t + 5) (t + 6) h _ _ q (omega arith) (omega (arith, n)) (omega (arith, n)) G5 e6.word e6.round in
    let G7 = going_on k m _ _ (t + 6) (t + 7) h _ _ q (omega arith) (omega (arith, n)) (omega (arith, n)) G6 e7.word e7.round in (
      omega (arith, n),
      n.1,
      omega (arith, L.invariant.2),
      going_on k m _ _ (t + 7) (t + 8) h _ _ q (omega arith) (omega (arith, n)) (omega (arith, n)) G7 e8.word
          e8.round,
    )

pub returns : goal.returns
returns c =
    rounds_done _ _ c.loop-t.t _ _ _ (omega arith) c.loop-t.invariant.3 c.sum.ensures
