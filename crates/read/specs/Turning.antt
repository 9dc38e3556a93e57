-- What an item comes to in a pass. Assumes nothing.
use Rattle.std.specs.Prelude.{ℕ, ◌+◌, ◌^◌, ◌≤◌, ◌<◌, ◌≡◌, List, length, take, Option, None, Some, Result, Ok, Err}
use Rattle.format.specs.Label.{label_limit}
use Rattle.format.specs.Reading.{next}
use Rattle.format.specs.State.{Next, bad, end, on, made, leg}
use Rattle.format.specs.Sheet.{sheet_version, layout, record_limit}
use Rattle.format.specs.Fields.{state_of, record_size}
use Rattle.format.specs.declared.Fault.{Fault}
use Rattle.format.specs.declared.Setting.{Setting}
use Rattle.format.specs.declared.Point.{Point}
use Rattle.layout.specs.Freely.{LaidFreely}
use Rattle.short.specs.Brief.{place_at, leg_at}
use Rattle.item.specs.Seen.{Tells}
use Rattle.item.specs.Commonest.{moved_to, trim_step}
use Rattle.item.specs.declared.Step.{Step}
use Rattle.item.specs.declared.Step.TheVariants.{End as EndStep, On as OnStep, Made as MadeStep}
use Rattle.laying.specs.Quickly.{name_of}
use Rattle.laying.specs.declared.Joint.{Joint}
use Rattle.read.specs.declared.Before.{Before}
use Rattle.read.specs.declared.Moved.{Moved}
use Rattle.read.specs.declared.Progress.{Progress}
use Rattle.read.specs.declared.Stand.{Stand}
use Rattle.read.specs.declared.Common.{Common}
use Rattle.read.specs.declared.Common.TheVariants.{Trim, Went as WentOn}
use Rattle.read.specs.declared.Turned.{Turned}
use Rattle.read.specs.declared.Turned.TheVariants.{End, Went}

-- ---- before an item: b is the label's buffer, s the bytes from the item on

-- the numbers of a pass are far from the machine's limit
pub record Few (y : Progress) : Type 0 where
  pub at_few : y.at < 2 ^ 61
  pub out_few : y.out < 2 ^ 61
  pub records_few : y.records < 2 ^ 61

pub record Ready (y : Progress) (b : List ℕ) : Type 0 where
  pub few : Few y
  pub short : y.len ≤ label_limit
  pub whole : length b ≡ label_limit

pub record ReadyFor (y : Before) (b : List ℕ) : Type 0 where
  pub short : y.len ≤ label_limit
  pub whole : length b ≡ label_limit
  pub out_few : y.out < 2 ^ 62

pub record SmallJoint (j : Joint) : Type 0 where
  pub few : j.keep + j.add ≤ label_limit
  pub small : j.size ≤ label_limit

-- ---- behind it

-- how far an item takes a pass
abbrev pub ahead_of : Progress → Moved → Progress
ahead_of y by = record { at = y.at + by.size; out = y.out + by.bytes; records = y.records + by.records; len = by.len }

-- one that makes no record
abbrev pub passed_of : Progress → ℕ → ℕ → Progress
passed_of y n m = record { at = y.at + n; out = y.out; records = y.records; len = m }

-- one that makes a record with so many bytes beside its label
abbrev pub record_by : Joint → ℕ → Moved
record_by j head = record { size = j.size; len = j.keep + j.add; bytes = head + (j.keep + j.add); records = 1 }

-- a LINE with the same label
abbrev pub same_joint : Progress → Joint
same_joint y = record { keep = y.len; add = 0; size = 13; out = y.out }

-- a step goes so far, with this setting after it
abbrev pub MovesBy : Result Step Fault → Moved → Setting → Type 0
MovesBy (Err f) by after = ⊥
MovesBy (Ok EndStep) by after = ⊥
MovesBy (Ok (OnStep n m st)) by after = (by ≡ record { size = n; len = m; bytes = 0; records = 0 }) × (st ≡ after)
MovesBy (Ok (MadeStep n m st f kept)) by after = (by ≡ record { size = n; len = m; bytes = record_size f m; records = 1 }) × (st ≡ after)

-- the record that an item makes, if any, is laid into d from k on, and d' comes of it
abbrev pub LaidBy : Next → List ℕ → List ℕ → ℕ → Type 0
LaidBy (bad n) d d' k = d' ≡ d
LaidBy end d d' k = d' ≡ d
LaidBy (on n st) d d' k = d' ≡ d
LaidBy (made n r st) d d' k = LaidFreely d d' k (layout sheet_version r)

-- an item x takes a pass so far: b is the label's buffer after it, d and d' the sheet before and after it
pub record Passes (by : Moved) (after : Setting) (x : Next) (b d d' : List ℕ) (out : ℕ) : Type 0 where
  pub step : Result Step Fault
  pub told : Tells step b x
  pub moves : MovesBy step by after
  pub small : by.bytes ≤ record_limit
  pub laid : LaidBy x d d' out

-- ---- any item

-- a turn tells what the item x comes to
abbrev pub TurnsAs : Result Turned Fault → Next → List ℕ → List ℕ → List ℕ → ℕ → Type 0
TurnsAs (Err f) x b d d' out = Tells (Err f) b x × (d' ≡ d)
TurnsAs (Ok End) x b d d' out = Tells (Ok EndStep) b x × (d' ≡ d)
TurnsAs (Ok (Went by after rule)) x b d d' out = (rule ≡ None) × Passes by after x b d d' out

-- `lay_item`: the label's buffer is b before the item and b' after it
abbrev pub Turns : Result Turned Fault → Before → Setting → List ℕ → List ℕ → List ℕ → List ℕ → List ℕ → Type 0
Turns r y setting s b b' d d' = TurnsAs r (next y.version s (state_of setting (take y.len b))) b' d d' y.out

-- ---- the commonest items

-- what the item comes to
abbrev pub comes : ℕ → Stand → List ℕ → List ℕ → Next
comes version y s b = next version s (state_of y.setting (take y.here.len b))

-- a leg, in `turn_line` and `turn_again`: its numbers stand from byte k on, and where it is laid the label's buffer is b₁ then
pub record TurnsLine (r : Option Common) (y : Stand) (j : Joint) (k flags : ℕ) (s b b₁ b' d d' : List ℕ) : Type 0 where
  pub unset : y.setting.position ≡ None → (r ≡ None) × (b' ≡ b) × (d' ≡ d)
  pub led : (from : Point) → y.setting.position ≡ Some from
      → (r ≡ Some (WentOn (record { here = ahead_of y.here (record_by j 34); setting = moved_to y.setting (place_at s k) }))) × (b' ≡ b₁)
      × LaidFreely d d' j.out (layout sheet_version (leg (leg_at s k flags y.setting from) (name_of j s b)))

-- the pass stands at z behind the item x
pub record PassesTo (y z : Stand) (x : Next) (b d d' : List ℕ) : Type 0 where
  pub by : Moved
  pub here_is : z.here ≡ ahead_of y.here by
  pub passes : Passes by z.setting x b d d' y.here.out

abbrev pub ShortlyAs : Option Common → Next → Stand → List ℕ → List ℕ → List ℕ → List ℕ → Type 0
ShortlyAs None x y b b' d d' = (b' ≡ b) × (d' ≡ d)
ShortlyAs (Some (Trim m)) x y b b' d d' = Tells (Ok (trim_step m y.setting)) b' x × (d' ≡ d)
ShortlyAs (Some (WentOn z)) x y b b' d d' = PassesTo y z x b' d d'

-- `lay_short`
abbrev pub Shortly : Option Common → ℕ → Stand → List ℕ → List ℕ → List ℕ → List ℕ → List ℕ → Type 0
Shortly r version y s b b' d d' = ShortlyAs r (comes version y s b) y b b' d d'
