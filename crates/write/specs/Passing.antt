-- What a pass over a sheet keeps from record to record. Assumes nothing.
use Rattle.format.specs.declared.Point.{Point}
use Rattle.std.specs.Prelude.{ℕ, ◌+◌, ◌-◌, ◌≤◌, ◌≡◌, List, [], length, take, drop, Option, Some, None}
use Rattle.format.specs.State.{State}
use Rattle.format.specs.Fields.{record_of, state_of}
use Rattle.format.specs.Codes.{codes_limit, codes, setting_after}
use Rattle.format.specs.WellFormed.{GoodDated}
use Rattle.format.specs.declared.Setting.{Setting}
use Rattle.format.specs.declared.Fields.{Fields}
use Rattle.format.specs.declared.Fields.TheVariants.{Leg, Station, Section, Error}
use Rattle.sheet.specs.Seen.{EntryTold}
use Rattle.part.specs.Lays.{Puts}
use Rattle.plain.specs.Plainly.{mark_of}
use Rattle.write.specs.declared.Hand.{Hand}
use Rattle.write.specs.declared.Coded.{Coded}

abbrev pub hand_of : Setting → ℕ → ℕ → Hand
hand_of setting a b = record { style = setting.style; date = setting.date; mark = mark_of setting.style setting.date; from = a; to = b }

abbrev pub setting_in : Hand → Option Point → Setting
setting_in hand position = record { style = hand.style; date = hand.date; position = position }

-- what a record leaves together with this setting, whose label stands from a to b; a traverse error leaves all as it is
abbrev pub hand_after : Hand → Setting → Fields → ℕ → ℕ → Hand
hand_after hand setting (Leg flags style date from to) a b = hand_of setting a b
hand_after hand setting (Station s) a b = hand_of setting a b
hand_after hand setting (Section last unused date size) a b = hand_of setting a b
hand_after hand setting (Error traverse) a b = hand

-- the state, whose label stands in the sheet
abbrev pub state_in : List ℕ → Hand → Setting → State
state_in sheet hand setting = state_of setting (take (hand.to - hand.from) (drop hand.from sheet))

-- the label is in the sheet and not too long, style and date are good, and the mark is theirs
pub record Named (sheet : List ℕ) (hand : Hand) : Type 0 where
  pub ordered : hand.from ≤ hand.to
  pub inside : hand.to ≤ length sheet
  pub short : hand.to ≤ hand.from + 4096
  pub style_fits : hand.style ≤ 5
  pub date_fits : GoodDated hand.date
  pub marked : hand.mark ≡ mark_of hand.style hand.date

-- what the record leaves of a setting
abbrev pub left : Hand → Option Point → Fields → Setting
left hand position f = setting_after (setting_in hand position) (record_of f [])

-- the record at a place of the sheet, whose label starts at `from` of it: its codes over the front of d where they fit, which leaves d', and what it
-- leaves
pub record Written (version : ℕ) (sheet : List ℕ) (at : ℕ) (hand : Hand) (position : Option Point) (d d' : List ℕ) (coded : Coded) : Type 0 where
  pub from : ℕ
  pub told : EntryTold (Some (record { size = coded.size; fields = coded.fields; from = from })) version (take (length sheet - at) (drop at sheet))
  pub puts : Puts d d' (codes (state_in sheet hand (setting_in hand position))
      (record_of coded.fields (take (at + coded.size - (at + from)) (drop (at + from) sheet)))) codes_limit coded.bytes
  pub leaves : coded.hand ≡ hand_after hand (left hand position coded.fields) coded.fields (at + from) (at + coded.size)
  pub stands : coded.position ≡ (left hand position coded.fields).position

abbrev pub EnteredTold : Option Coded → ℕ → List ℕ → ℕ → Hand → Option Point → List ℕ → List ℕ → Type 0
EnteredTold None version sheet at hand position d d' = EntryTold None version (take (length sheet - at) (drop at sheet)) × (length d' ≡ length d)
EnteredTold (Some coded) version sheet at hand position d d' = Written version sheet at hand position d d' coded
