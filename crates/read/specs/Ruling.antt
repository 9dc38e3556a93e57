-- A pass that judges names, or none (#108): what it is lent, what it needs and what it comes to. Assumes nothing.
use Rattle.std.specs.Prelude.{ℕ, ◌≤◌, ◌<◌, ◌≡◌, Bool, true, false, List, [], length, take, Option, None, Some, Result as Answer, Ok, Err}
use Rattle.format.specs.Header.{file_limit}
use Rattle.format.specs.Label.{label_limit}
use Rattle.format.specs.Refusals.{Result}
use Rattle.format.specs.Reading.{next, items_of}
use Rattle.format.specs.State.{State, Record, Next, bad, end, on, made}
use Rattle.format.specs.Sheet.{sheet_version, layout, layout_all, record_limit, front_limit}
use Rattle.format.specs.Fields.{state_of}
use Rattle.format.specs.Faults.{fault_number}
use Rattle.format.specs.declared.Fault.{Fault}
use Rattle.format.specs.declared.Setting.{Setting}
use Rattle.layout.specs.Freely.{LaidFreely}
use Rattle.item.specs.Seen.{Tells}
use Rattle.item.specs.declared.Step.{Step}
use Rattle.table.specs.Told.{Holds}
use Rattle.table.specs.declared.Index.{Index}
use Rattle.strict.specs.Strict.{strict_items}
use Rattle.strict.specs.Indexed.{Knows, strict_next, behind}
use Rattle.read.specs.declared.Before.{Before}
use Rattle.read.specs.declared.Course.{Course}
use Rattle.read.specs.declared.Moved.{Moved}
use Rattle.read.specs.declared.Stand.{Stand}
use Rattle.read.specs.declared.Common.{Common}
use Rattle.read.specs.declared.Turned.{Turned}
use Rattle.read.specs.declared.Turned.TheVariants.{End, Went}
use Rattle.read.specs.Turning.{Turns, Shortly}

-- ---- before a pass

pub record Begins (file : List ℕ) (c : Course) : Type 0 where
  pub fits : length file ≤ file_limit
  pub inside : c.place ≤ length file
  pub front_few : c.front ≤ front_limit

-- one that judges has an index of no names in the room that it is lent; a file's first item stands behind its identifier
abbrev pub BeginsBy : Option Index → ℕ → List ℕ → Type 0
BeginsBy None place d = Unit
BeginsBy (Some i) place d = Knows d i [] × (2 ≤ place)

-- ---- what it comes to

abbrev pub items_by : Option Index → ℕ → Course → List ℕ → Result
items_by None room c file = items_of c.version c.place file
items_by (Some i) room c file = strict_items c.version room c.place file

-- what it was lent: the sheet holds the records then, where they all fit; of the room for names nothing is said
abbrev pub LentBy : Option Index → List ℕ → List ℕ → Course → List ℕ → Type 0
LentBy None d d' c file = LaidFreely d d' c.front (layout_all sheet_version (items_of c.version c.place file).records)
LentBy (Some i) d d' c file = length d' ≡ length d

-- ---- an item

abbrev pub ReadyTo : Option Index → List ℕ → Type 0
ReadyTo None d = Unit
ReadyTo (Some i) d = Holds d i × (i.count < 16777215)

-- how far one that is judged takes the pass, with this state after it
abbrev pub GoesBy : Next → Moved → State → Type 0
GoesBy (bad k) by st = ⊥
GoesBy end by st = ⊥
GoesBy (on n s) by st = (by.size ≡ n) × (by.bytes ≡ 0) × (by.records ≡ 0) × (s ≡ st)
GoesBy (made n r s) by st = (by.size ≡ n) × (by.bytes ≡ length (layout sheet_version r)) × (by.records ≡ 1) × (s ≡ st)

-- the index after it: b is the label's buffer
abbrev pub RuledOn : Option Index → Moved → Setting → List ℕ → List ℕ → List Record → Next → Type 0
RuledOn None by after room b earlier x = ⊥
RuledOn (Some i) by after room b earlier x =
    GoesBy x by (state_of after (take by.len b)) × (by.len ≤ label_limit) × (by.bytes ≤ record_limit) × Knows room i (behind x earlier)

abbrev pub RuledAs : Answer Turned Fault → List ℕ → List ℕ → List Record → Next → Type 0
RuledAs (Err f) room b earlier x = x ≡ bad (fault_number f)
RuledAs (Ok End) room b earlier x = x ≡ end
RuledAs (Ok (Went by after rule)) room b earlier x = RuledOn rule by after room b earlier x

-- `judge_step`: whatever came earlier, where the index knows it
abbrev pub RulesIn : Answer Turned Fault → Index → List ℕ → Next → List ℕ → List ℕ → Type 0
RulesIn r i b x d d' = (earlier : List Record) → Knows d i earlier → RuledAs r d' b earlier (strict_next (length d) earlier x)

pub record Rules (r : Answer Turned Fault) (i : Index) (x : Next) (b d d' : List ℕ) : Type 0 where
  pub step : Answer Step Fault
  pub told : Tells step b x
  pub kept : length d' ≡ length d
  pub ruled : RulesIn r i b x d d'

-- `any_item`
abbrev pub TurnsBy : Option Index → Answer Turned Fault → Before → Setting → List ℕ → List ℕ → List ℕ → List ℕ → List ℕ → Type 0
TurnsBy None r y setting s b b' d d' = Turns r y setting s b b' d d'
TurnsBy (Some i) r y setting s b b' d d' = Rules r i (next y.version s (state_of setting (take y.len b))) b' d d'

-- `short_turn`
abbrev pub ShortlyIf : Bool → Option Common → ℕ → Stand → List ℕ → List ℕ → List ℕ → List ℕ → List ℕ → Type 0
ShortlyIf true r version y s b b' d d' = (r ≡ None) × (b' ≡ b) × (d' ≡ d)
ShortlyIf false r version y s b b' d d' = Shortly r version y s b b' d d'

-- the same as records, so that a law's arguments can be found from them
pub record BeginsAs (rule : Option Index) (place : ℕ) (d : List ℕ) : Type 0 where
  pub ready : BeginsBy rule place d

pub record AnyItem (rule : Option Index) (r : Answer Turned Fault) (y : Before) (setting : Setting) (s b b' d d' : List ℕ) : Type 0 where
  pub does : TurnsBy rule r y setting s b b' d d'

pub record ShortTurn (strict : Bool) (r : Option Common) (version : ℕ) (y : Stand) (s b b' d d' : List ℕ) : Type 0 where
  pub does : ShortlyIf strict r version y s b b' d d'
