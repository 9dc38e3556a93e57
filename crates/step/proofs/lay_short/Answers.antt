-- `step::lay_short` meets its contract. Assumes nothing.
use native.Mathlib.Omega.{arith}
use mathlib.Core.Path.{refl}
use borrow.Author.Rules.{part_to_end}
use Rattle.item.proofs.Commonest.{trim_told, move_told}
use Rattle.laying.proofs.Quickly.{joined, line_comes, place_comes, section_comes}
use Rattle.step.proofs.lay_short.Goals as goal

pub overflow_add-joint : goal.overflow_add-joint
overflow_add-joint c =
    let B = rw c.in-Line.is at c.in_ok-it.ensures in omega (arith, B.add_few)

pub lay_line-requires : goal.lay_line-requires
lay_line-requires c =
    let B = rw c.in-Line.is at c.in_ok-it.ensures in
    (joined _ _ _ B c.requires.1 (omega arith), omega arith, omega (arith, B.there, B.add_few))

pub lay_line-requires-in-Again : goal.lay_line-requires-in-Again
lay_line-requires-in-Again c =
    let B = rw c.in-Again.is at c.in_ok-it.ensures in
    (joined _ _ _ B c.requires.1 (omega arith), omega arith, omega (arith, B.there))

pub overflow_add-joint-in-Place : goal.overflow_add-joint-in-Place
overflow_add-joint-in-Place c =
    let B = rw c.in-Place.is at c.in_ok-it.ensures in omega (arith, B.add_few)

pub lay_place-requires : goal.lay_place-requires
lay_place-requires c =
    let B = rw c.in-Place.is at c.in_ok-it.ensures in
    (joined _ _ _ B c.requires.1 (omega arith), omega arith, omega (arith, B.there, B.add_few))

pub overflow_add-joint-in-Section : goal.overflow_add-joint-in-Section
overflow_add-joint-in-Section c =
    let B = rw c.in-Section.is at c.in_ok-it.ensures in omega (arith, B.add_few)

pub overflow_add-joint-in-Section-2 : goal.overflow_add-joint-in-Section-2
overflow_add-joint-in-Section-2 c =
    let B = rw c.in-Section.is at c.in_ok-it.ensures in
    omega (arith, B.add_few, c.sides.ensures.1)

pub overflow_add-add : goal.overflow_add-add
overflow_add-add c =
    let B = rw c.in-Section.is at c.in_ok-it.ensures in omega (arith, B.add_few)

pub section_at-section-requires : goal.section_at-section-requires
section_at-section-requires c =
    let B = rw c.in-Section.is at c.in_ok-it.ensures in omega (arith, B.there, B.add_few)

pub lay_section-requires : goal.lay_section-requires
lay_section-requires c =
    let B = rw c.in-Section.is at c.in_ok-it.ensures in
    (joined _ _ _ B c.requires.1 (omega arith))

pub slice_bounds-get_point-count : goal.slice_bounds-get_point-count
slice_bounds-get_point-count c =
    let M = rw c.in-Move.is at c.in_ok-it.ensures in omega (arith, M.there)

pub slice_bounds-get_point-start : goal.slice_bounds-get_point-start
slice_bounds-get_point-start c =
    let M = rw c.in-Move.is at c.in_ok-it.ensures in omega (arith, M.there)

pub get_point-to-requires : goal.get_point-to-requires
get_point-to-requires c =
    let M = rw c.in-Move.is at c.in_ok-it.ensures in omega (arith, M.there)

pub returns-in-Line : goal.returns-in-Line
returns-in-Line c =
    let B = rw c.in-Line.is at c.in_ok-it.ensures in
    let L = c.lay_line.ensures in
    line_comes _ _ _ _ _ _ _ _ _ _ c.requires.1 c.requires.0 _ _ B (omega arith) L

pub returns-in-Again : goal.returns-in-Again
returns-in-Again c =
    let B = rw c.in-Again.is at c.in_ok-it.ensures in
    let L = c.lay_line-in-Again.ensures in
    line_comes _ _ _ _ _ _ _ _ _ _ c.requires.1 c.requires.0 _ _ B refl L

pub returns-in-Place : goal.returns-in-Place
returns-in-Place c =
    let B = rw c.in-Place.is at c.in_ok-it.ensures in
    let L = c.lay_place.ensures in
    place_comes _ _ _ _ _ _ _ _ _ _ c.requires.1 c.requires.0 _ _ B (omega arith) L.label L.sheet L.answer

pub returns-in-Section : goal.returns-in-Section
returns-in-Section c =
    let B = rw (c.in-Section.is, ← c.sides.ensures.0) at c.in_ok-it.ensures in
    let L = c.lay_section.ensures in
    section_comes _ _ _ _ _ _ _ _ _ _ c.requires.1 c.requires.0 _ _ _ B c.section_at-section.ensures L.label L.sheet L.answer

pub returns-in-Trim : goal.returns-in-Trim
returns-in-Trim c =
    let T = rw c.in-Trim.is at c.in_ok-it.ensures in
    (trim_told _ _ _ _ _ _ c.requires.1 T, refl)

pub returns-in-Move : goal.returns-in-Move
returns-in-Move c =
    let M = rw c.in-Move.is at c.in_ok-it.ensures in
    (simp (c.get_point-to.ensures, part_to_end) (move_told _ _ _ _ _ c.requires.1 c.requires.0 M), refl)
