-- `read::lay_short` meets its contract. Assumes nothing.
use native.Mathlib.Omega.{arith}
use mathlib.Core.Path.{refl, ap}
use Rattle.std.specs.Prelude.{Some}
use Rattle.read.specs.declared.Progress.{Progress}
use Rattle.read.specs.declared.Common.TheVariants.{Went}
use Rattle.item.proofs.Commonest.{trim_told}
use Rattle.laying.proofs.Quickly.{joined}
use Rattle.read.proofs.Quickly.{line_turns, again_turns, place_turns, section_turns, move_turns}
use Rattle.read.proofs.lay_short.Goals as goal

pub turn_line-requires : goal.turn_line-requires
turn_line-requires c =
    let B = rw (c.in_ok-short.was, c.in-Line.is) at c.find_short.ensures in
    (joined _ _ _ B c.requires.whole (omega (arith, c.requires.few.out_few)), c.requires.few, record { few = omega (arith, B.few, B.add_few); small = omega (arith, B.add_few) })

pub turn_again-requires : goal.turn_again-requires
turn_again-requires c =
    let B = rw (c.in_ok-short.was, c.in-Again.is) at c.find_short.ensures in (B.there, c.requires, B.few)

pub station_at-station-requires : goal.station_at-station-requires
station_at-station-requires c =
    let B = rw (c.in_ok-short.was, c.in-Place.is) at c.find_short.ensures in omega (arith, B.there, B.add_few)

pub lay_station_freely-requires : goal.lay_station_freely-requires
lay_station_freely-requires c =
    let B = rw (c.in_ok-short.was, c.in-Place.is) at c.find_short.ensures in
    (joined _ _ _ B c.requires.whole (omega (arith, c.requires.few.out_few)))

pub behind-here-requires : goal.behind-here-requires
behind-here-requires c =
    let B = rw (c.in_ok-short.was, c.in-Place.is) at c.find_short.ensures in
    (c.requires.few, record { few = omega (arith, B.few, B.add_few); small = omega (arith, B.add_few) }, omega arith)

pub section_at-section-requires : goal.section_at-section-requires
section_at-section-requires c =
    let B = rw (c.in_ok-short.was, c.in-Section.is) at c.find_short.ensures in omega (arith, B.there, B.add_few)

pub lay_section_freely-requires : goal.lay_section_freely-requires
lay_section_freely-requires c =
    let B = rw (c.in_ok-short.was, c.in-Section.is) at c.find_short.ensures in
    (joined _ _ _ B c.requires.whole (omega (arith, c.requires.few.out_few)))

pub behind-here-requires-in-Section : goal.behind-here-requires-in-Section
behind-here-requires-in-Section c =
    let B = rw (c.in_ok-short.was, c.in-Section.is) at c.find_short.ensures in
    (c.requires.few, record { few = omega (arith, B.few, B.add_few); small = omega (arith, B.add_few, c.sides.ensures.1) }, omega arith)

pub turn_move-requires : goal.turn_move-requires
turn_move-requires c =
    let M = rw (c.in_ok-short.was, c.in-Move.is) at c.find_short.ensures in (omega (arith, M.there), c.requires.few)

pub returns-in-Line : goal.returns-in-Line
returns-in-Line c =
    let B = rw (c.in_ok-short.was, c.in-Line.is) at c.find_short.ensures in
    line_turns _ _ _ _ _ _ _ _ c.requires.whole c.requires.short refl _ _ B c.turn_line.ensures

pub returns-in-Again : goal.returns-in-Again
returns-in-Again c =
    let B = rw (c.in_ok-short.was, c.in-Again.is) at c.find_short.ensures in
    again_turns _ _ _ _ _ _ _ c.requires.whole c.requires.short _ _ B c.turn_again.ensures

pub returns-in-Place : goal.returns-in-Place
returns-in-Place c =
    let B = rw (c.in_ok-short.was, c.in-Place.is) at c.find_short.ensures in
    let L = c.lay_station_freely.ensures in
    place_turns _ _ _ _ _ _ _ _ c.requires.whole c.requires.short refl _ _ _ B c.station_at-station.ensures L.label L.sheet (ap (λ (p : Progress). Some (Went (record { here = p; setting = c.args.stand.setting }))) c.behind-here.ensures)

pub returns-in-Section : goal.returns-in-Section
returns-in-Section c =
    let B = rw (c.in_ok-short.was, c.in-Section.is, ← c.sides.ensures.0) at c.find_short.ensures in
    let L = c.lay_section_freely.ensures in
    section_turns _ _ _ _ _ _ _ _ c.requires.whole c.requires.short refl _ _ _ B c.section_at-section.ensures L.label L.sheet (ap (λ (p : Progress). Some (Went (record { here = p; setting = c.args.stand.setting }))) c.behind-here-in-Section.ensures)

pub returns-in-Trim : goal.returns-in-Trim
returns-in-Trim c =
    let T = rw (c.in_ok-short.was, c.in-Trim.is) at c.find_short.ensures in
    (trim_told _ _ _ _ _ _ c.requires.whole T, refl)

pub returns-in-Move : goal.returns-in-Move
returns-in-Move c =
    let M = rw (c.in_ok-short.was, c.in-Move.is) at c.find_short.ensures in
    move_turns _ _ _ _ _ c.requires.whole c.requires.short M _ (ap Some c.turn_move.ensures)
