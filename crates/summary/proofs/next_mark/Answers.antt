-- `summary::next_mark` meets its contract. Assumes nothing.
use Rattle.std.proofs.Common.{◌≡◌, ◌+◌, ◌*◌, ◌/◌, ◌^◌, ◌<◌, ◌≤◌, get_or, sym, arith}
use Rattle.summary.proofs.Asking.{next_at_lem, next_none, turn_none, turn_in, turn_set, turn_clear}
use Rattle.summary.proofs.next_mark.Goals as goal

pub loop-j-init : goal.loop-j-init
loop-j-init c =
    (omega arith, omega arith, λ i p q. absurd (omega arith))

pub overflow_add-at : goal.overflow_add-at
overflow_add-at c =
    let l = c.loop-j in
    let g : l.s + c.least_bit.result < 64 =
    turn_in c.args.words.now c.args.a l.j l.s c.least_bit.result l.invariant.0 (c.type_inv.words l.j).fits c.least_bit.ensures.0 in
    omega (arith, c.words_for-w.ensures)

pub overflow_add-at-then-rest-gt0 : goal.overflow_add-at-then-rest-gt0
overflow_add-at-then-rest-gt0 c =
    let l = c.loop-j in
    let g : l.s + c.least_bit.result < 64 =
    turn_in c.args.words.now c.args.a l.j l.s c.least_bit.result l.invariant.0 (c.type_inv.words l.j).fits c.least_bit.ensures.0 in
    omega (arith, c.words_for-w.ensures)

pub returns-then-at-n : goal.returns-then-at-n
returns-then-at-n c =
    let l = c.loop-j in
    let ws = c.args.words.now in
    let n = c.args.n in
    let a = c.args.a in
    let t = c.least_bit.result in
    let L = c.least_bit.ensures.0 in
    let fits = (c.type_inv.words l.j).fits in
    sym (next_at_lem ws n a (l.j * 64 + (l.s + t)) (omega (arith, l.invariant.1)) c.if-at-n.true (turn_clear ws a l.j l.s t l.invariant.0 fits L l.invariant.2)
    (turn_set ws a l.j l.s t l.invariant.0 fits L))

pub returns-then-rest-gt0 : goal.returns-then-rest-gt0
returns-then-rest-gt0 c =
    let l = c.loop-j in
    let ws = c.args.words.now in
    let n = c.args.n in
    let a = c.args.a in
    let t = c.least_bit.result in
    let L = c.least_bit.ensures.0 in
    let fits = (c.type_inv.words l.j).fits in
    sym (next_none ws n a (l.j * 64 + (l.s + t)) c.if-at-n.false (turn_clear ws a l.j l.s t l.invariant.0 fits L l.invariant.2))

pub loop-j-preserved : goal.loop-j-preserved
loop-j-preserved c =
    let l = c.loop-j in
    let e : get_or c.args.words.now l.j 0 / 2 ^ l.s ≡ 0 = omega (arith, c.if-rest-gt0.false) in
    (omega arith, omega (arith, l.invariant), turn_none c.args.words.now c.args.a l.j l.s l.invariant.0 l.invariant.2 e)

pub returns : goal.returns
returns c =
    let l = c.loop-j in
    let h : c.args.n ≤ 64 * l.j + l.s = omega (arith, c.loop-j-test.false, c.words_for-w.ensures) in
    sym (next_none c.args.words.now c.args.n c.args.a (64 * l.j + l.s) h l.invariant.2)
