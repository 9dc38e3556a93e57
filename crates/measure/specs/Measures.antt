-- What measuring keeps of a state, and what it says of an item in every state of which it keeps the same. Assumes nothing.
use Rattle.format.specs.declared.Point.{Point}
use Rattle.std.specs.Prelude.{ℕ, ◌≤◌, ◌≡◌, List, Bool, true, false, length, Option, None, Some, Result, Ok, Err}
use Rattle.format.specs.Bytes.{le16, le32, widened}
use Rattle.format.specs.Faults.{fault_number}
use Rattle.format.specs.Items.{point_of, dimensions_of}
use Rattle.format.specs.Label.{label_limit}
use Rattle.format.specs.State.{State, Record, station, section, named, Next, bad, end, on, made, leg_from}
use Rattle.format.specs.Sheet.{sheet_version, record_limit, layout}
use Rattle.format.specs.declared.Fault.{Fault}
use Rattle.kind.specs.declared.Tail.{Tail}
use Rattle.kind.specs.declared.Tail.TheVariants.{Short, Long, Station, Line}
use Rattle.measure.specs.declared.Measured.{Measured}
use Rattle.measure.specs.declared.Measured.TheVariants.{End, Styled, Moved, Passes, Made}

-- ---- the label's length, the style, and whether the position is set

abbrev pub is_set : Option Point → Bool
is_set None = false
is_set (Some p) = true

pub record Keeps (st : State) (len style : ℕ) (placed : Bool) : Type 0 where
  pub label_is : length st.label ≡ len
  pub style_is : st.setting.style ≡ style
  pub position_is : is_set st.setting.position ≡ placed

-- ---- an item

-- it makes no record
pub record Goes (x : Next) (n len style : ℕ) (placed : Bool) : Type 0 where
  pub after : State
  pub same : x ≡ on n after
  pub keeps : Keeps after len style placed

-- it makes a record that takes so many bytes in a sheet
pub record Makes (x : Next) (n bytes len style : ℕ) (placed : Bool) : Type 0 where
  pub after : State
  pub gives : Record
  pub same : x ≡ made n gives after
  pub size : length (layout sheet_version gives) ≡ bytes
  pub keeps : Keeps after len style placed

-- an answer tells what an item comes to, with what was kept before it
abbrev pub Measures : Result Measured Fault → ℕ → ℕ → Bool → Next → Type 0
Measures (Err f) len style placed x = x ≡ bad (fault_number f)
Measures (Ok End) len style placed x = x ≡ end
Measures (Ok (Styled to)) len style placed x = Goes x 1 len to placed
Measures (Ok Moved) len style placed x = Goes x 13 len style true
Measures (Ok (Passes n)) len style placed x = Goes x n len style placed
Measures (Ok (Made n m bytes)) len style placed x = Makes x n bytes m style placed

-- "Labels have 0 to 4,096 bytes"; "any other record 4,130"
abbrev pub Small : Result Measured Fault → Type 0
Small (Err f) = Unit
Small (Ok End) = Unit
Small (Ok (Styled to)) = Unit
Small (Ok Moved) = Unit
Small (Ok (Passes n)) = Unit
Small (Ok (Made n m bytes)) = (m ≤ label_limit) × (bytes ≤ record_limit)

-- an answer tells what f gives in every state of which this is kept
abbrev pub ComesIn : Result Measured Fault → ℕ → ℕ → Bool → (State → Next) → Type 0
ComesIn r len style placed f = (st : State) → Keeps st len style placed → Measures r len style placed (f st)

-- and so whatever is kept
abbrev pub Comes : Result Measured Fault → (State → Next) → Type 0
Comes r f = (len style : ℕ) (placed : Bool) → ComesIn r len style placed f

-- ---- an item with a label, once it has the label l; `rest` is what follows the label in the file

abbrev pub tail_next : Tail → State → ℕ → List ℕ → List ℕ → Next
tail_next (Short last) st n rest l = made n (section (record { last = last; date = st.setting.date; size = dimensions_of 2 (λ s. widened (le16 s)) rest }) l) (named l st)
tail_next (Long last) st n rest l = made n (section (record { last = last; date = st.setting.date; size = dimensions_of 4 le32 rest }) l) (named l st)
tail_next (Station flags) st n rest l = made n (station (record { flags = flags; place = point_of le32 rest }) l) (named l st)
tail_next (Line flags) st n rest l = leg_from st.setting.position n st flags (point_of le32 rest) l

-- the label has m bytes
abbrev pub Tailed : Result Measured Fault → Tail → Bool → ℕ → ℕ → Type 0
Tailed r tail placed n m = (st : State) (len style : ℕ) → Keeps st len style placed → (rest l : List ℕ) → length l ≡ m → Measures r len style placed (tail_next tail st n rest l)
