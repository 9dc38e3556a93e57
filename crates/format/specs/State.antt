-- State and records, document 01, "State and sheet": what an item does to the state, with refusals 6, 7, 9, 8. Assumes nothing.
use Rattle.std.specs.Prelude.{ℕ, List, [], Bool, ◌&&◌, ◌||◌, length, eqb, ltb, Option, None, Some}
use Rattle.format.specs.Bytes.{pick}
use Rattle.format.specs.Label.{Labelled, too_short, too_long, labelled, label_step}
use Rattle.format.specs.declared.Cut.TheVariants.{Empty, Back}
use Rattle.format.specs.Items.{Item, Stop, Shorten, Style, Move, NoDate, Date, Error, Xsect, Label, Line, Decoded, faulty, whole}
use Rattle.format.specs.declared.Point.{Point}
use Rattle.format.specs.declared.Leg.{Leg}
use Rattle.format.specs.declared.Station.{Station}
use Rattle.format.specs.declared.Section.{Section}
use Rattle.format.specs.declared.Traverse.{Traverse}
use Rattle.format.specs.declared.Dated.{Dated}
use Rattle.format.specs.declared.Dated.TheVariants.{Undated, Day, Range}
use Rattle.format.specs.declared.Setting.{Setting}

-- what items and records find and change: the current label; style, date and position
pub record State : Type 0 where
  pub label : List ℕ
  pub setting : Setting

-- the style "not said"
abbrev pub not_said : ℕ
not_said = 5

-- "At the start the label is empty, the date none, the style "not said" (5 ..), the position unset"
abbrev pub start_setting : Setting
start_setting = record { style = not_said; date = Undated; position = None }

abbrev pub start : State
start = record { label = []; setting = start_setting }

-- a record of a sheet, other than its header: what it says, and its label
pub data Record : Type 0 where
  leg : Leg → List ℕ → Record
  station : Station → List ℕ → Record
  section : Section → List ℕ → Record
  error : Traverse → Record

-- ---- the state with one part changed

abbrev pub named : List ℕ → State → State
named l st = record { label = l; setting = st.setting }

abbrev pub styled : ℕ → State → State
styled n st = record { label = st.label; setting = record { style = n; date = st.setting.date; position = st.setting.position } }

abbrev pub dated_by : Dated → State → State
dated_by d st = record { label = st.label; setting = record { style = st.setting.style; date = d; position = st.setting.position } }

abbrev pub moved : Point → State → State
moved p st = record { label = st.label; setting = record { style = st.setting.style; date = st.setting.date; position = Some p } }

-- ---- what an item comes to

-- a refusal; the end; a size and the state after it; the same with the record made
pub data Next : Type 0 where
  bad : ℕ → Next
  end : Next
  on : ℕ → State → Next
  made : ℕ → Record → State → Next

-- "A range of equal days is a single day"
unfoldable pub date_of : ℕ → ℕ → Dated
date_of first last = pick (eqb first last) (Day first) (Range first last)

-- 9: "last day before first, or day over 65535" (a first day over 65535 has a last day over it or before it)
unfoldable pub bad_dates : ℕ → ℕ → Bool
bad_dates first last = ltb last first || ltb 65535 last

-- 6 and 7 before whatever else an item with a label comes to
abbrev pub on_label : Labelled → (List ℕ → Next) → Next
on_label too_short go = bad 6
on_label too_long go = bad 7
on_label (labelled l) go = go l

-- a leg from the position; 8: "LINE with no position"
abbrev pub leg_from : Option Point → ℕ → State → ℕ → Point → List ℕ → Next
leg_from None n st flags to l = bad 8
leg_from (Some from) n st flags to l = made n (leg (record { flags = flags; style = st.setting.style; date = st.setting.date; from = from; to = to }) l) (moved to (named l st))

-- what an item of n bytes does to the state
abbrev pub apply : State → ℕ → Item → Next
apply st n Stop = pick (eqb (length st.label) 0) end (on_label (label_step st.label Empty []) (λ l. on n (named l st)))
apply st n (Shorten cut) = on_label (label_step st.label cut []) (λ l. on n (named l st))
-- "00 when the style is already normal is the end"
apply st n (Style k) = pick (eqb k 0 && eqb st.setting.style 0) end (on n (styled k st))
-- "A MOVE makes no record"
apply st n (Move p) = on n (moved p st)
apply st n NoDate = on n (dated_by Undated st)
apply st n (Date first last) = pick (bad_dates first last) (bad 9) (on n (dated_by (date_of first last) st))
apply st n (Error t) = made n (error t) st
-- #106: "Survex puts the date in force on sections as well"
apply st n (Xsect last dims d added) =
    on_label (label_step st.label (Back d) added) (λ l. made n (section (record { last = last; date = st.setting.date; size = dims }) l) (named l st))
apply st n (Label flags p d added) = on_label (label_step st.label (Back d) added) (λ l. made n (station (record { flags = flags; place = p }) l) (named l st))
apply st n (Line flags p d added) = on_label (label_step st.label (Back d) added) (λ l. leg_from st.setting.position n st flags p l)

-- 4 and 5 first
abbrev pub next_of : State → Decoded → Next
next_of st (faulty k) = bad k
next_of st (whole n it) = apply st n it
