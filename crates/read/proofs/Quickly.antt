-- A turn of a pass by the step that `take_item` answers, or would answer of one of the commonest items. Assumes nothing.
use Rattle.std.specs.Prelude.{Option, None, Some, Result, Ok, Err}
use Prim.Native.Nat.{ℕ, ◌+◌, ◌-◌, ◌≤◌, ◌<◌}
use mathlib.Core.Path.{◌≡◌, refl, sym, ap, ◌∙◌}
use mathlib.Core.List.{List, ◌++◌, append-nil}
use native.Mathlib.Nat.{add-zero}
use native.Mathlib.Omega.{arith}
use lib.ListN.{length, take, drop}
use lib.Seq.{take-take}
use Rattle.format.specs.Label.{label_limit}
use Rattle.format.specs.State.{Next, leg, station, section}
use Rattle.format.specs.Sheet.{sheet_version, layout, record_limit}
use Rattle.format.specs.Reading.{next}
use Rattle.format.specs.Fields.{record_of, state_of, record_size}
use Rattle.format.specs.declared.Fault.{Fault}
use Rattle.format.specs.declared.Setting.{Setting}
use Rattle.format.specs.declared.Fields.{Fields}
use Rattle.format.specs.declared.Point.{Point}
use Rattle.format.specs.declared.Station.{Station as StationFields}
use Rattle.format.specs.declared.Section.{Section as SectionFields}
use Rattle.layout.specs.Freely.{LaidFreely}
use Rattle.short.specs.Brief.{Brief, Moves, make_line, make_station, make_section, leg_at, station_at, section_at, place_at}
use Rattle.item.specs.Seen.{Tells}
use Rattle.item.specs.Commonest.{moved_to, extended, leg_step, trim_step}
use Rattle.item.proofs.Commonest.{label_extended, leg_told, station_told, section_told, move_told}
use Rattle.item.specs.declared.Step.{Step}
use Rattle.item.specs.declared.Step.TheVariants.{End, On, Made}
use Rattle.label.specs.declared.Label.{Label}
use Rattle.laying.specs.Quickly.{name_of}
use Rattle.laying.specs.declared.Joint.{Joint}
use Rattle.read.specs.declared.Moved.{Moved}
use Rattle.read.specs.declared.Stand.{Stand}
use Rattle.read.specs.declared.Common.{Common}
use Rattle.read.specs.declared.Common.TheVariants.{Went}
use Rattle.read.specs.Turning.{ahead_of, passed_of, record_by, same_joint, MovesBy, LaidBy, Passes, TurnsLine, ShortlyAs, comes}
use Rattle.read.proofs.Turn.{Going, going_made, going_on, item_within, told_laid, text as text_of}

-- ---- how far a step goes

pub passes_on : (n m : ℕ) (st : Setting) (by : Moved) (b d d' : List ℕ) (out : ℕ) (x : Next) → Tells (Ok (On n m st)) b x
    → by ≡ record { size = n; len = m; bytes = 0; records = 0 } → d' ≡ d → Passes by st x b d d' out
passes_on n m st by b d d' out x T e q =
    record { step = Ok (On n m st); told = T; moves = (e, refl); small = rw e (omega arith); laid = rw (← T.same) q }

pub passes_made : (n m size : ℕ) (st : Setting) (f : Fields) (kept : ℕ) (by : Moved) (b d d' : List ℕ) (out : ℕ) (x : Next)
    → Tells (Ok (Made n m st f kept)) b x → by ≡ record { size = n; len = m; bytes = size; records = 1 }
    → (size ≡ record_size f m) × (size ≤ record_limit) → LaidFreely d d' out (layout sheet_version (record_of f (take m b))) → Passes by st x b d d' out
passes_made n m size st f kept by b d d' out x T e q l =
    record {
      step = Ok (Made n m st f kept);
      told = T;
      moves = (rw (← q.0) e, refl);
      small = rw e q.1;
      laid = told_laid n m st f kept b d d' out x T l;
    }

-- ---- the commonest items, with what stands behind a record free: b is the label's buffer before the item, b₁ after it

module _ (version : ℕ) (y : Stand) (j : Joint) (s : List ℕ) (k : ℕ) (b b₁ d d' : List ℕ) (w : length b ≡ label_limit) (h : y.here.len ≤ label_limit)
    (o : j.out ≡ y.here.out) where
  abbrev x : Next
  x = comes version y s b

  -- the label that is laid is the one that the buffer then has
  label_is : j.keep + 16 ≤ label_limit → j.add < 16 → 33 ≤ length s → name_of j s b ≡ take (j.keep + j.add) (extended b j.keep s)
  label_is f a t =
      let e = label_extended b s label_limit j.keep j.add (omega arith) (omega arith) a (omega arith) in
      sym (e ∙ ap (λ (z : List ℕ). z ++ take j.add (drop 2 s)) (take-take j.keep label_limit b (omega arith)))

  -- a step that makes a record of a label
  turns_made : (head : ℕ) (r : Option Common) (after : Setting) (f : Fields) (name : List ℕ)
      → Tells (Ok (Made j.size (j.keep + j.add) after f j.keep)) b₁ x → head + (j.keep + j.add) ≡ record_size f (j.keep + j.add)
      → j.keep + 16 ≤ label_limit → j.add < 16 → head ≤ 34 → name ≡ take (j.keep + j.add) b₁
      → LaidFreely d d' j.out (layout sheet_version (record_of f name))
      → r ≡ Some (Went (record { here = ahead_of y.here (record_by j head); setting = after })) → (b' : List ℕ) → b' ≡ b₁ → ShortlyAs r x y b b' d d'
  turns_made head r after f name T z f1 f2 f3 en L er b' eb =
      rw (er, eb) (record {
        by = record_by j head;
        here_is = refl;
        passes = passes_made j.size (j.keep + j.add) (head + (j.keep + j.add)) after f j.keep (record_by j head) b₁ d d' y.here.out x T refl
            (z, omega arith) (rw (en, o) at L);
      })

  line_cases : (q : Option Point) (r : Option Common) (flags : ℕ) (b' : List ℕ) → y.setting.position ≡ q
      → Brief version s y.here.len j.keep j.add k j.size (make_line flags)
      → ((from : Point) → y.setting.position ≡ Some from → Tells (Ok (leg_step j.keep j.add j.size y.setting (leg_at s k flags y.setting from))) b₁ x)
      → name_of j s b ≡ take (j.keep + j.add) b₁ → TurnsLine r y j k flags s b b₁ b' d d' → ShortlyAs r x y b b' d d'
  line_cases None r flags b' p B T en L = let z = L.unset p in rw z.0 (z.1, z.2)
  line_cases (Some from) r flags b' p B T en L =
      let z = L.led from p in
      turns_made 34 r _ _ _ (T from p) refl B.few B.add_few (omega arith) en z.2 z.0 b' z.1

-- a position is not set and unset
not_both : {X : Type 0} (p : Point) → None ≡ Some p → X
not_both p e = absurd (let z : ◌≡◌ {A = ℕ} 0 1 = cc in omega arith)

-- what the arms of a leg answer
module _ (y : Stand) (j : Joint) (k flags : ℕ) (s b b₁ : List ℕ) where
  pub line_unset : (d : List ℕ) → y.setting.position ≡ None → TurnsLine None y j k flags s b b₁ b d d
  line_unset d e = record { unset = λ q. (refl, refl, refl); led = λ from q. not_both from (sym e ∙ q) }

  pub line_led : (r : Option Common) (b' d d' : List ℕ) (p : Point) → y.setting.position ≡ Some p
      → r ≡ Some (Went (record { here = ahead_of y.here (record_by j 34); setting = moved_to y.setting (place_at s k) })) → b' ≡ b₁
      → LaidFreely d d' j.out (layout sheet_version (leg (leg_at s k flags y.setting p) (name_of j s b))) → TurnsLine r y j k flags s b b₁ b' d d'
  line_led r b' d d' p e er eb L =
      record {
        unset = λ q. not_both p (sym q ∙ e);
        led = λ from q.
            let u : Some from ≡ Some p = sym q ∙ e in
            let z : from ≡ p = cc in
            (er, eb, rw (← z) at L);
      }

pub again_led : (y : Stand) (flags : ℕ) (s b : List ℕ) (r : Option Common) (d d' : List ℕ) (p : Point) → y.setting.position ≡ Some p
    → r ≡ Some (Went (record { here = ahead_of y.here (record_by (same_joint y.here) 34); setting = moved_to y.setting (place_at s 1) }))
    → LaidFreely d d' y.here.out (layout sheet_version (leg (leg_at s 1 flags y.setting p) (take y.here.len b)))
    → TurnsLine r y (same_joint y.here) 1 flags s b b b d d'
again_led y flags s b r d d' p e er L =
    line_led y (same_joint y.here) 1 flags s b b r b d d' p e er refl
    (let n = append-nil (take y.here.len b) in rw (← n) at L)

-- a LINE that appends to the label
pub line_turns : (version : ℕ) (y : Stand) (j : Joint) (s : List ℕ) (b b' d d' : List ℕ) (w : length b ≡ label_limit) (h : y.here.len ≤ label_limit)
    (o : j.out ≡ y.here.out) (r : Option Common) (flags : ℕ) → Brief version s y.here.len j.keep j.add (2 + j.add) j.size (make_line flags)
    → TurnsLine r y j (2 + j.add) flags s b (extended b j.keep s) b' d d' → ShortlyAs r (comes version y s b) y b b' d d'
line_turns version y j s b b' d d' w h o r flags B L =
    line_cases version y j s (2 + j.add) b (extended b j.keep s) d d' w h o y.setting.position r flags b' refl B
    (λ from p. leg_told version s y.here.len j.keep j.add (2 + j.add) j.size b y.setting w h flags from B p)
    (label_is version y j s (2 + j.add) b (extended b j.keep s) d d' w h o B.few B.add_few B.there) L

-- one with the same label, whose buffer stays as it was
again_told : (n m : ℕ) (st : Setting) (f : Fields) (kept : ℕ) (b b₁ : List ℕ) (x : Next) → Tells (Ok (Made n m st f kept)) b₁ x → take m b₁ ≡ take m b → length b ≡ label_limit
    → Tells (Ok (Made n m st f kept)) b x
again_told n m st f kept b b₁ x T e w = record { same = rw (← e) T.same; whole = w; short = T.short }

pub again_turns : (version : ℕ) (y : Stand) (s : List ℕ) (b b' d d' : List ℕ) (w : length b ≡ label_limit) (h : y.here.len ≤ label_limit)
    (r : Option Common) (flags : ℕ) → Brief version s y.here.len y.here.len 0 1 13 (make_line flags)
    → TurnsLine r y (same_joint y.here) 1 flags s b b b' d d' → ShortlyAs r (comes version y s b) y b b' d d'
again_turns version y s b b' d d' w h r flags B L =
    let m = y.here.len in
    let n : name_of (same_joint y.here) s b ≡ take (m + 0) b = append-nil (take m b) ∙ rw (add-zero m) in
    let e : take (m + 0) (extended b m s) ≡ take (m + 0) b = sym (label_is version y (same_joint y.here) s 1 b b d d' w h refl B.few B.add_few B.there) ∙ n in
    line_cases version y (same_joint y.here) s 1 b b d d' w h refl y.setting.position r flags b' refl B
    (λ from p. again_told _ _ _ _ _ _ _ _ (leg_told version s m m 0 1 13 b y.setting w h flags from B p) e w)
    n L

-- a LABEL and an XSECT
pub place_turns : (version : ℕ) (y : Stand) (j : Joint) (s : List ℕ) (b b' d d' : List ℕ) (w : length b ≡ label_limit) (h : y.here.len ≤ label_limit)
    (o : j.out ≡ y.here.out) (r : Option Common) (flags : ℕ) (g : StationFields) → Brief version s y.here.len j.keep j.add (2 + j.add) j.size (make_station flags)
    → g ≡ station_at s (2 + j.add) flags → b' ≡ extended b j.keep s → LaidFreely d d' j.out (layout sheet_version (station g (name_of j s b)))
    → r ≡ Some (Went (record { here = ahead_of y.here (record_by j 16); setting = y.setting })) → ShortlyAs r (comes version y s b) y b b' d d'
place_turns version y j s b b' d d' w h o r flags g B eg eb L er =
    let T = station_told version s y.here.len j.keep j.add (2 + j.add) j.size b y.setting w h flags B in
    turns_made version y j s (2 + j.add) b (extended b j.keep s) d d' w h o 16 r _ _ _ T refl B.few B.add_few (omega arith)
    (label_is version y j s (2 + j.add) b (extended b j.keep s) d d' w h o B.few B.add_few B.there) (rw eg at L) er b' eb

pub section_turns : (version : ℕ) (y : Stand) (j : Joint) (s : List ℕ) (b b' d d' : List ℕ) (w : length b ≡ label_limit) (h : y.here.len ≤ label_limit)
    (o : j.out ≡ y.here.out) (r : Option Common) (code : ℕ) (g : SectionFields) → Brief version s y.here.len j.keep j.add (2 + j.add) j.size (make_section code)
    → g ≡ section_at s (2 + j.add) code y.setting → b' ≡ extended b j.keep s → LaidFreely d d' j.out (layout sheet_version (section g (name_of j s b)))
    → r ≡ Some (Went (record { here = ahead_of y.here (record_by j 25); setting = y.setting })) → ShortlyAs r (comes version y s b) y b b' d d'
section_turns version y j s b b' d d' w h o r code g B eg eb L er =
    let T = section_told version s y.here.len j.keep j.add (2 + j.add) j.size b y.setting w h code B in
    turns_made version y j s (2 + j.add) b (extended b j.keep s) d d' w h o 25 r _ _ _ T refl B.few B.add_few (omega arith)
    (label_is version y j s (2 + j.add) b (extended b j.keep s) d d' w h o B.few B.add_few B.there) (rw eg at L) er b' eb

-- a MOVE
pub move_turns : (version : ℕ) (y : Stand) (s b d : List ℕ) → length b ≡ label_limit → y.here.len ≤ label_limit → Moves version s → (r : Option Common)
    → r ≡ Some (Went (record { here = passed_of y.here 13 y.here.len; setting = moved_to y.setting (place_at s 1) })) → ShortlyAs r (comes version y s b) y b b d d
move_turns version y s b d w h M r er =
    let by : Moved = record { size = 13; len = y.here.len; bytes = 0; records = 0 } in
    rw er (record {
      by = by;
      here_is = rw (add-zero y.here.out, add-zero y.here.records);
      passes = passes_on 13 y.here.len _ by b d d y.here.out _ (move_told version s y.here.len b y.setting w h M) refl refl;
    })

-- ---- a turn

module _ (version : ℕ) (file : List ℕ) (place : ℕ) (sheet₀ : List ℕ) (front : ℕ) (sheet : List ℕ) (at out records : ℕ)
    (setting : Setting) (label : Label)
    (G : Going version file place sheet₀ front sheet at out records setting label) where
  abbrev item : Next
  item = next version (take (length file - at) (drop at file)) (state_of setting (text_of label))

  -- the item's bytes are there, its record is small, and the pass goes on behind it
  abbrev pub Onward : Moved → Setting → List ℕ → List ℕ → Type 0
  Onward by after b s =
      (1 ≤ by.size) × (at + by.size ≤ length file) × (by.bytes ≤ record_limit) × (by.records ≤ 1)
      × Going version file place sheet₀ front s (at + by.size) (out + by.bytes) (records + by.records) after (record { bytes = b; len = by.len })

  onward_by : (it : Result Step Fault) (by : Moved) (after : Setting) (b s : List ℕ) → Tells it b item → MovesBy it by after → by.bytes ≤ record_limit
      → LaidBy item sheet s out → Onward by after b s
  onward_by (Err k) by after b s T m h e = absurd m
  onward_by (Ok End) by after b s T m h e = absurd m
  onward_by (Ok (On n l st)) by after b s T m h e =
      let z = item_within version file place sheet₀ front sheet at out records setting label G (Ok (On n l st)) b T in
      let g = going_on version file place sheet₀ front sheet at out records setting label G n l st b s T e in
      rw (m.0, ← m.1) (z.0, z.1, omega arith, omega arith, rw (add-zero out, add-zero records) g)
  onward_by (Ok (Made n l st f kept)) by after b s T m h e =
      let z = item_within version file place sheet₀ front sheet at out records setting label G (Ok (Made n l st f kept)) b T in
      let k : record_size f l ≤ record_limit = rw m.0 at h in
      let g = going_made version file place sheet₀ front sheet at out records setting label G n l (record_size f l) st f kept b s T e (refl, k) in
      rw (m.0, ← m.1) (z.0, z.1, k, omega arith, g)

  pub onward : (by : Moved) (after : Setting) (b s : List ℕ) → Passes by after item b sheet s out → Onward by after b s
  onward by after b s P = onward_by P.step by after b s P.told P.moves P.small P.laid

  -- a trim changes neither the sheet nor the buffer
  pub going_trim : (m : ℕ) (b s : List ℕ) → Tells (Ok (trim_step m setting)) b item → s ≡ sheet
      → Going version file place sheet₀ front s (at + 1) out records setting (record { bytes = b; len = m })
  going_trim m b s T e =
      going_on version file place sheet₀ front sheet at out records setting label G 1 m setting b s T (rw (← T.same) e)
