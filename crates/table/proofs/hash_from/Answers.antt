-- `table::hash_from` meets its contract. Assumes nothing.
use Prim.Native.Nat.{◌+◌, ◌-◌, ◌*◌, ◌/◌, ◌≤◌, ◌<◌}
use mathlib.Core.Path.{◌≡◌, refl, sym, ap, ◌∙◌}
use native.Mathlib.Omega.{arith}
use lib.ListN.{length, get_or, drop_of_length-le}
use lib.Seq.{get_or-drop}
use Rattle.table.specs.Hash.{mix_of, hash_from}
use Rattle.table.proofs.Hashing.{hash_word, hash_one}
use Rattle.table.proofs.hash_from.Goals as goal

pub loop-word-init : goal.loop-word-init
loop-word-init c = refl

pub loop-word-preserved : goal.loop-word-preserved
loop-word-preserved c =
    let l = c.loop-word in
    let k = c.args.k in
    let s = c.args.name.now in
    let C = c.as_chunks.ensures in
    let n : l.word-index < length s / 4 = omega (arith, c.loop-word-test.true, C.front_len) in
    let e = c.mix-h.ensures ∙ ap (mix_of k l.h) c.get_le32.ensures.0 in
    rw e (sym (hash_word k l.h s l.word-index _ C.front n) ∙ l.invariant)

pub loop-b-init : goal.loop-b-init
loop-b-init c =
    let l = c.loop-word in
    let s = c.args.name.now in
    let z : 4 * l.word-index ≡ length s / 4 * 4 + 0 = omega (arith, c.loop-word-test.false, l.auto.word-index-end, c.as_chunks.ensures.front_len) in
    rw z at l.invariant

pub loop-b-preserved : goal.loop-b-preserved
loop-b-preserved c =
    let l = c.loop-b in
    let k = c.args.k in
    let s = c.args.name.now in
    let C = c.as_chunks.ensures in
    let i = length s / 4 * 4 in
    let n : l.b-index < length s - i = omega (arith, c.loop-b-test.true, C.back_len) in
    let g : get_or c.as_chunks.result.1.now l.b-index 0 ≡ get_or s (i + l.b-index) 0 = rw C.back (get_or-drop i s l.b-index 0) in
    let e = c.mix-h-in-loop-b.ensures ∙ ap (mix_of k l.h) (c.wide.ensures.0 ∙ g) in
    let d : i + l.b-index + 1 ≡ i + (l.b-index + 1) = omega arith in
    rw e (sym (hash_one k l.h s (i + l.b-index) (omega arith) (omega arith) ∙ rw d) ∙ l.invariant)

pub returns : goal.returns
unfolding hash_from
returns c =
    let l = c.loop-b in
    let s = c.args.name.now in
    let z : length s ≤ length s / 4 * 4 + l.b-index = omega (arith, c.loop-b-test.false, c.as_chunks.ensures.back_len) in
    rw (drop_of_length-le s z) at l.invariant
