-- What a pass over a sheet keeps from record to record for v7. Assumes nothing.
use Rattle.std.specs.Prelude.{ℕ, ◌+◌, ◌-◌, ◌≤◌, ◌≡◌, Bool, false, ◌&&◌, List, [], eqb, ltb, length, take, drop, Option, Some, None}
use Rattle.format.specs.Bytes.{pick}
use Rattle.format.specs.State.{not_said, State}
use Rattle.format.specs.Fields.{record_of, state_of}
use Rattle.format.specs.Codes.{setting_after}
use Rattle.format.specs.V7Codes.{v7_codes, v7_codes_limit, v7_after, v7_unable}
use Rattle.format.specs.WellFormed.{GoodDated}
use Rattle.format.specs.declared.Setting.{Setting}
use Rattle.format.specs.declared.Fields.{Fields}
use Rattle.format.specs.declared.Fields.TheVariants.{Leg, Station, Section, Error}
use Rattle.sheet.specs.Seen.{EntryTold}
use Rattle.part.specs.Lays.{Puts}
use Rattle.plain.specs.Plainly.{mark_of, position_after, unsaid}
use Rattle.plain.specs.declared.Form.{Form}
use Rattle.write_v7.specs.declared.Hand.{Hand}
use Rattle.write_v7.specs.declared.Turned.{Turned}

abbrev pub hand_of : Setting → ℕ → ℕ → Hand
hand_of setting a b = record { setting = setting; mark = mark_of setting.style setting.date; from = a; to = b }

-- the style that legs are looked for with: normal, or not said
unfoldable pub carried_style : ℕ → ℕ
carried_style style = pick (eqb style 0) 0 not_said

-- what a record leaves, whose label stands from a to b; a traverse error leaves all as it is
abbrev pub hand_after : Hand → Fields → ℕ → ℕ → Hand
hand_after hand (Leg flags style date from to) a b = hand_of (record { style = carried_style style; date = date; position = Some to }) a b
hand_after hand (Station s) a b = hand_of hand.setting a b
hand_after hand (Section last unused date size) a b =
    hand_of (setting_after hand.setting (record_of (Section last unused date size) [])) a b
hand_after hand (Error traverse) a b = hand

-- what a leg or station s that goes on leaves
abbrev pub hand_found : Hand → Form → List ℕ → ℕ → ℕ → Hand
hand_found hand form s a b =
    record {
      setting = record { style = hand.setting.style; date = hand.setting.date; position = position_after form s hand.setting.position };
      mark = hand.mark;
      from = a;
      to = b;
    }

-- the state, which says no style and whose label stands in the sheet
abbrev pub state_in : List ℕ → Hand → State
state_in sheet hand = state_of (unsaid hand.setting) (take (hand.to - hand.from) (drop hand.from sheet))

-- the label is in the sheet and not too long, v7 can carry the style, the date is good, and the mark is theirs
pub record Named (sheet : List ℕ) (hand : Hand) : Type 0 where
  pub ordered : hand.from ≤ hand.to
  pub inside : hand.to ≤ length sheet
  pub short : hand.to ≤ hand.from + 4096
  pub style_fits : hand.setting.style ≤ 5
  pub style_carried : (ltb 0 hand.setting.style && ltb hand.setting.style not_said) ≡ false
  pub date_fits : GoodDated hand.setting.date
  pub marked : hand.mark ≡ mark_of hand.setting.style hand.setting.date

-- a record of n bytes is at a place of the sheet, its codes are written over the front of d where they fit, which leaves d', and it leaves `next`
pub record Turns (version : ℕ) (sheet : List ℕ) (at : ℕ) (hand : Hand) (d d' : List ℕ) (n bytes : ℕ) (bad : Bool) (next : Hand) : Type 0 where
  pub fields : Fields
  pub from : ℕ
  pub told : EntryTold (Some (record { size = n; fields = fields; from = from })) version (take (length sheet - at) (drop at sheet))
  pub puts : Puts d d' (v7_codes (state_in sheet hand) (record_of fields (take (at + n - (at + from)) (drop (at + from) sheet)))) v7_codes_limit bytes
  pub bad_is : bad ≡ v7_unable (record_of fields [])
  pub leaves : v7_after (state_in sheet hand) (record_of fields (take (at + n - (at + from)) (drop (at + from) sheet))) ≡ state_in sheet next
  pub named : Named sheet next

abbrev pub TurnedTold : Option Turned → ℕ → List ℕ → ℕ → Hand → List ℕ → List ℕ → Type 0
TurnedTold None version sheet at hand d d' = EntryTold None version (take (length sheet - at) (drop at sheet)) × (length d' ≡ length d)
TurnedTold (Some t) version sheet at hand d d' = Turns version sheet at hand d d' t.size t.bytes t.bad t.hand
