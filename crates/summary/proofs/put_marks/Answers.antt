-- `summary::put_marks` meets its contract. Assumes nothing.
use Rattle.std.proofs.Common.{◌≡◌, ◌+◌, ◌≤◌, length, drop, sym, refl, ap, ◌∙◌, arith}
use borrow.Author.Rules.{part_to_end}
use Rattle.format.specs.Bytes.{be16, Bytes}
use Rattle.format.specs.Sheet.{records_of}
use Rattle.format.specs.Summary.{one, marks_in}
use Rattle.format.proofs.SheetLaws.{bytes_drop}
use Rattle.reach.proofs.Turn.{There}
use Rattle.summary.proofs.Words.{put_none, put_to}
use Rattle.summary.proofs.Walk.{Walked, walked_none, walked_end, walked_there, walked_size, walked_fewer, walked_mark, walked_next, mark_there, marked_next}
use Rattle.summary.proofs.put_marks.Goals as goal

pub loop-at-init : goal.loop-at-init
loop-at-init c =
    (refl, λ v g. (walked_none _ _ _ c.requires.0, put_none _ _ 0 _))

pub slice_bounds-rest-count : goal.slice_bounds-rest-count
slice_bounds-rest-count c = omega (arith, ((let it : Walked c.requires.1.version c.args.s.now c.args.begin c.loop-at.at c.loop-at.number = (c.loop-at.invariant.1 c.requires.1.version c.requires.1.good).0 in it)).inside)

pub slice_bounds-rest-start : goal.slice_bounds-rest-start
slice_bounds-rest-start c = omega (arith, ((let it : Walked c.requires.1.version c.args.s.now c.args.begin c.loop-at.at c.loop-at.number = (c.loop-at.invariant.1 c.requires.1.version c.requires.1.good).0 in it)).inside)

pub mark_of-mark-requires : goal.mark_of-mark-requires
mark_of-mark-requires c =
    let m = mark_there _ _ ((let it : Bytes (drop c.loop-at.at c.args.s.now) = bytes_drop c.args.s.now (λ i. (c.type_inv.s i).fits) c.loop-at.at in it)) _ _ ((let it : There c.requires.1.version (drop c.loop-at.at c.args.s.now) (2 + be16 (drop c.loop-at.at c.args.s.now)) = walked_there ((let it : Walked c.requires.1.version c.args.s.now c.args.begin c.loop-at.at c.loop-at.number = (c.loop-at.invariant.1 c.requires.1.version c.requires.1.good).0 in it)) c.requires.1.good c.loop-at-test.true in it)).same in simp part_to_end (m.1, m.2)

pub overflow_add-first : goal.overflow_add-first
overflow_add-first c =
    omega (arith, c.requires.1.few, walked_fewer ((let it : Walked c.requires.1.version c.args.s.now c.args.begin c.loop-at.at c.loop-at.number = (c.loop-at.invariant.1 c.requires.1.version c.requires.1.good).0 in it)) _ ((let it : There c.requires.1.version (drop c.loop-at.at c.args.s.now) (2 + be16 (drop c.loop-at.at c.args.s.now)) = walked_there ((let it : Walked c.requires.1.version c.args.s.now c.args.begin c.loop-at.at c.loop-at.number = (c.loop-at.invariant.1 c.requires.1.version c.requires.1.good).0 in it)) c.requires.1.good c.loop-at-test.true in it)))

pub write_bits-requires : goal.write_bits-requires
write_bits-requires c =
    (omega arith, omega arith, omega (arith, c.requires.1.room, c.loop-at.invariant.0, walked_fewer ((let it : Walked c.requires.1.version c.args.s.now c.args.begin c.loop-at.at c.loop-at.number = (c.loop-at.invariant.1 c.requires.1.version c.requires.1.good).0 in it)) _ ((let it : There c.requires.1.version (drop c.loop-at.at c.args.s.now) (2 + be16 (drop c.loop-at.at c.args.s.now)) = walked_there ((let it : Walked c.requires.1.version c.args.s.now c.args.begin c.loop-at.at c.loop-at.number = (c.loop-at.invariant.1 c.requires.1.version c.requires.1.good).0 in it)) c.requires.1.good c.loop-at-test.true in it))))

pub overflow_add-number : goal.overflow_add-number
overflow_add-number c =
    omega (arith, c.requires.1.few, walked_fewer ((let it : Walked c.requires.1.version c.args.s.now c.args.begin c.loop-at.at c.loop-at.number = (c.loop-at.invariant.1 c.requires.1.version c.requires.1.good).0 in it)) _ ((let it : There c.requires.1.version (drop c.loop-at.at c.args.s.now) (2 + be16 (drop c.loop-at.at c.args.s.now)) = walked_there ((let it : Walked c.requires.1.version c.args.s.now c.args.begin c.loop-at.at c.loop-at.number = (c.loop-at.invariant.1 c.requires.1.version c.requires.1.good).0 in it)) c.requires.1.good c.loop-at-test.true in it)))

pub get_be16-requires : goal.get_be16-requires
get_be16-requires c =
    simp part_to_end (let h = (let it : 3 ≤ length (drop c.loop-at.at c.args.s.now) = (mark_there _ _ ((let it : Bytes (drop c.loop-at.at c.args.s.now) = bytes_drop c.args.s.now (λ i. (c.type_inv.s i).fits) c.loop-at.at in it)) _ _ ((let it : There c.requires.1.version (drop c.loop-at.at c.args.s.now) (2 + be16 (drop c.loop-at.at c.args.s.now)) = walked_there ((let it : Walked c.requires.1.version c.args.s.now c.args.begin c.loop-at.at c.loop-at.number = (c.loop-at.invariant.1 c.requires.1.version c.requires.1.good).0 in it)) c.requires.1.good c.loop-at-test.true in it)).same).1 in it) in omega arith)

pub overflow_add-at : goal.overflow_add-at
overflow_add-at c =
    let z = walked_size ((let it : Walked c.requires.1.version c.args.s.now c.args.begin c.loop-at.at c.loop-at.number = (c.loop-at.invariant.1 c.requires.1.version c.requires.1.good).0 in it)) _ ((let it : There c.requires.1.version (drop c.loop-at.at c.args.s.now) (2 + be16 (drop c.loop-at.at c.args.s.now)) = walked_there ((let it : Walked c.requires.1.version c.args.s.now c.args.begin c.loop-at.at c.loop-at.number = (c.loop-at.invariant.1 c.requires.1.version c.requires.1.good).0 in it)) c.requires.1.good c.loop-at-test.true in it)) in omega (arith, (let it : c.size_of.result ≡ be16 (drop c.loop-at.at c.args.s.now) = c.size_of.ensures ∙ simp part_to_end at c.get_be16.ensures.0 in it), z.0, z.1, c.well_formed)

pub overflow_add-at-in-loop-at : goal.overflow_add-at-in-loop-at
overflow_add-at-in-loop-at c =
    let z = walked_size ((let it : Walked c.requires.1.version c.args.s.now c.args.begin c.loop-at.at c.loop-at.number = (c.loop-at.invariant.1 c.requires.1.version c.requires.1.good).0 in it)) _ ((let it : There c.requires.1.version (drop c.loop-at.at c.args.s.now) (2 + be16 (drop c.loop-at.at c.args.s.now)) = walked_there ((let it : Walked c.requires.1.version c.args.s.now c.args.begin c.loop-at.at c.loop-at.number = (c.loop-at.invariant.1 c.requires.1.version c.requires.1.good).0 in it)) c.requires.1.good c.loop-at-test.true in it)) in omega (arith, (let it : c.size_of.result ≡ be16 (drop c.loop-at.at c.args.s.now) = c.size_of.ensures ∙ simp part_to_end at c.get_be16.ensures.0 in it), z.0, z.1, c.well_formed)

pub loop-at-smaller : goal.loop-at-smaller
loop-at-smaller c =
    let z = walked_size ((let it : Walked c.requires.1.version c.args.s.now c.args.begin c.loop-at.at c.loop-at.number = (c.loop-at.invariant.1 c.requires.1.version c.requires.1.good).0 in it)) _ ((let it : There c.requires.1.version (drop c.loop-at.at c.args.s.now) (2 + be16 (drop c.loop-at.at c.args.s.now)) = walked_there ((let it : Walked c.requires.1.version c.args.s.now c.args.begin c.loop-at.at c.loop-at.number = (c.loop-at.invariant.1 c.requires.1.version c.requires.1.good).0 in it)) c.requires.1.good c.loop-at-test.true in it)) in omega (arith, (let it : c.size_of.result ≡ be16 (drop c.loop-at.at c.args.s.now) = c.size_of.ensures ∙ simp part_to_end at c.get_be16.ensures.0 in it), z.0, z.1, c.well_formed)

pub loop-at-preserved : goal.loop-at-preserved
loop-at-preserved c = (
  c.write_bits.auto.words ∙ c.loop-at.invariant.0,
  λ v g.
      let W = c.loop-at.invariant.1 v g in
      let T = walked_there W.0 g c.loop-at-test.true in
      let mark = simp part_to_end at c.mark_of-mark.ensures in
      let m = (mark_there _ _ ((let it : Bytes (drop c.loop-at.at c.args.s.now) = bytes_drop c.args.s.now (λ i. (c.type_inv.s i).fits) c.loop-at.at in it)) _ _ T.same).0 in (
        rw ((let it : c.size_of.result ≡ be16 (drop c.loop-at.at c.args.s.now) = c.size_of.ensures ∙ simp part_to_end at c.get_be16.ensures.0 in it)) (walked_next W.0 _ T),
        marked_next (marks_in (records_of v (drop c.args.begin c.args.s.now)).records) c.loop-at.number c.mark_of-mark.result W.1
            (mark ∙ ap one (sym m ∙ sym (walked_mark W.0 _ T))) c.write_bits.ensures,
      ),
)

pub returns : goal.returns
returns c =
    λ v g. let W = c.loop-at.invariant.1 v g in put_to (sym (walked_end W.0 c.loop-at-test.false).many) W.1
