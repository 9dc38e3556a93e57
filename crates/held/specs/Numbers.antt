-- The stand that a reader's numbers say: every list of numbers says one. Assumes nothing.
use Rattle.format.specs.declared.Point.{Point}
use Rattle.std.specs.Prelude.{ℕ, ◌%◌, List, get_or, eqb, Option, None, Some}
use Rattle.format.specs.Bytes.{pick}
use Rattle.format.specs.Stepping.{Stand}
use Rattle.format.specs.declared.Dated.{Dated}
use Rattle.format.specs.declared.Dated.TheVariants.{Undated, Day, Range}
use Rattle.step.specs.Standing.{stand_seen}
use Rattle.step.specs.declared.Phase.{Phase}
use Rattle.step.specs.declared.Phase.TheVariants.{Going, Ended, Refused}
use Rattle.step.specs.declared.Stand.{Stand as Held}

-- 0 going, 1 at the end, any other refused with a number and a place
unfoldable pub phase_of : ℕ → ℕ → ℕ → Phase
phase_of kind number place = pick (eqb kind 0) Going (pick (eqb kind 1) Ended (Refused (record { number = number % 256; place = place })))

-- 0 no date, 1 a day, any other a range
unfoldable pub date_of : ℕ → ℕ → ℕ → Dated
date_of kind day last = pick (eqb kind 0) Undated (pick (eqb kind 1) (Day (day % 65536)) (Range (day % 65536) (last % 65536)))

-- 0 unset, any other a place
unfoldable pub position_of : ℕ → ℕ → ℕ → ℕ → Option Point
position_of kind x y z = pick (eqb kind 0) None (Some (record { x = x % 4294967296; y = y % 4294967296; z = z % 4294967296 }))

-- phase, number and place of its refusal; version, the next item's place, the label's length; style, date, position
abbrev pub held_of : List ℕ → Held
held_of s = record {
  phase = phase_of (get_or s 0 0) (get_or s 1 0) (get_or s 2 0);
  version = get_or s 3 0 % 256;
  place = get_or s 4 0;
  len = get_or s 5 0;
  setting = record {
    style = get_or s 6 0 % 256;
    date = date_of (get_or s 7 0) (get_or s 8 0) (get_or s 9 0);
    position = position_of (get_or s 10 0) (get_or s 11 0) (get_or s 12 0) (get_or s 13 0);
  };
}

-- where a reader stands whose numbers are s, with what the label's buffer holds
abbrev pub state_stand : List ℕ → List ℕ → Stand
state_stand s label = stand_seen (held_of s) label

-- a stand at another place, with another label length and position
abbrev pub stands_at : Held → ℕ → ℕ → Option Point → Held
stands_at h place len position = record {
  phase = h.phase;
  version = h.version;
  place = place;
  len = len;
  setting = record { style = h.setting.style; date = h.setting.date; position = position };
}
