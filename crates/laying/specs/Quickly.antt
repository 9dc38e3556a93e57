-- The commonest items, whose records are laid in by themselves. Assumes nothing.
use Rattle.std.specs.Prelude.{ℕ, ◌+◌, ◌-◌, ◌^◌, ◌≤◌, ◌<◌, ◌≡◌, List, length, Option, None, Some, Ok}
use Rattle.format.specs.Label.{label_limit}
use Rattle.format.specs.Sheet.{record_limit, sheet_version, layout}
use Rattle.format.specs.State.{Record, Next, bad, end, on, made, leg}
use Rattle.format.specs.Fields.{record_size}
use Rattle.format.specs.declared.Point.{Point}
use Rattle.format.specs.declared.Setting.{Setting}
use Rattle.short.specs.Brief.{place_at, leg_at, name_at}
use Rattle.format.specs.declared.Fields.{Fields}
use Rattle.item.specs.Seen.{Tells}
use Rattle.item.specs.Commonest.{moved_to, extended, move_step, trim_step}
use Rattle.item.specs.declared.Step.TheVariants.{Made as MadeStep}
use Rattle.wire.specs.Laid.{laid_if}
use Rattle.laying.specs.declared.Joint.{Joint}
use Rattle.laying.specs.declared.Quick.{Quick}
use Rattle.laying.specs.declared.Quick.TheVariants.{Leg, Made, Trim, Move}

-- d with the record that an item makes, if any, in it from k on, where it fits
abbrev pub laid_by : Next → List ℕ → ℕ → List ℕ
laid_by (bad n) d k = d
laid_by end d k = d
laid_by (on n st) d k = d
laid_by (made n r st) d k = laid_if d k (layout sheet_version r)

-- what laying one of them needs: s are the bytes from the item on, b the label's buffer
pub record Joined (j : Joint) (s b : List ℕ) : Type 0 where
  pub there : 33 ≤ length s
  pub few : j.keep + 16 ≤ label_limit
  pub add_few : j.add < 16
  pub whole : length b ≡ label_limit
  pub out_few : j.out < 2 ^ 62

-- the label of the record that is laid
abbrev pub name_of : Joint → List ℕ → List ℕ → List ℕ
name_of j s b = name_at s j.keep j.add b

-- d with that record in it from k on, where it fits
abbrev pub laid_from : ℕ → Record → List ℕ → List ℕ
laid_from k r d = laid_if d k (layout sheet_version r)

-- what `lay_leg` answers; and `lay_station` and `lay_section`, whose record has so many bytes beside its label
abbrev pub led_by : Joint → Point → Quick
led_by j to = Leg j.size (j.keep + j.add) to j.keep

abbrev pub made_by : Joint → ℕ → Quick
made_by j head = Made j.size (j.keep + j.add) (head + (j.keep + j.add)) j.keep

-- `lay_line`: b and d are the label's buffer and the sheet before it, b' and d' behind it
pub record LaysLine (r : Option Quick) (j : Joint) (flags : ℕ) (setting : Setting) (s b b' d d' : List ℕ) : Type 0 where
  pub unset : setting.position ≡ None → (r ≡ None) × (b' ≡ b) × (d' ≡ d)
  pub led : (from : Point) → setting.position ≡ Some from
      → (r ≡ Some (led_by j (place_at s (j.size - 12)))) × (b' ≡ extended b j.keep s)
      × (d' ≡ laid_from j.out (leg (leg_at s (j.size - 12) flags setting from) (name_of j s b)) d)

-- an item x that makes a record and keeps `stays` bytes of the label: its size, the label's new length, the setting after it, the record's
-- bytes and the bytes kept, with the label's buffer b and the sheet d' after it
pub record LaidAs (size m : ℕ) (after : Setting) (bytes kept : ℕ) (x : Next) (stays : ℕ) (b d d' : List ℕ) (out : ℕ) : Type 0 where
  pub fields : Fields
  pub told : Tells (Ok (MadeStep size m after fields kept)) b x
  pub kept_is : kept ≡ stays
  pub bytes_are : bytes ≡ record_size fields m
  pub small : bytes ≤ record_limit
  pub laid : d' ≡ laid_by x d out

-- an answer, with the label's buffer and the sheet before and after it, tells what the item x comes to
abbrev pub Quickly : Option Quick → Next → ℕ → Setting → List ℕ → List ℕ → List ℕ → List ℕ → ℕ → Type 0
Quickly None x stays setting b b' d d' out = (b' ≡ b) × (d' ≡ d)
Quickly (Some (Leg size m to kept)) x stays setting b b' d d' out = LaidAs size m (moved_to setting to) (34 + m) kept x stays b' d d' out
Quickly (Some (Made size m bytes kept)) x stays setting b b' d d' out = LaidAs size m setting bytes kept x stays b' d d' out
Quickly (Some (Trim m)) x stays setting b b' d d' out = Tells (Ok (trim_step m setting)) b' x × (d' ≡ d)
Quickly (Some (Move m to)) x stays setting b b' d d' out = Tells (Ok (move_step m setting to)) b' x × (d' ≡ d)
