-- A turn of a pass that judges names, or none, on plain values: what is left of the file, with what the index knows, comes to the same as the
-- whole. Assumes nothing.
use mathlib.Core.Path.{◌≡◌, refl, sym, ap, ◌∙◌}
use mathlib.Core.List.{List, [], ◌∷◌, ◌++◌, append-nil}
use Prim.Native.Nat.{ℕ, ◌+◌, ◌-◌, ◌*◌, ◌≤◌, ◌<◌}
use native.Mathlib.Nat.{add-zero}
use native.Mathlib.Omega.{arith}
use lib.ListN.{length, take, drop, replicate}
use lib.Seq.{length-take-le, take-length, drop-length}
use borrow.Author.Rules.{part_to_end}
use Rattle.format.specs.Header.{file_limit}
use Rattle.format.specs.Label.{label_limit}
use Rattle.format.specs.State.{State, start_setting, start, Record, Next, bad, end, on, made}
use Rattle.format.specs.Sheet.{sheet_version, layout, record_limit}
use Rattle.format.specs.Refusals.{Result, also, Refusal}
use Rattle.format.specs.Reading.{next, ended}
use Rattle.format.specs.Fields.{record_of, state_of, record_size}
use Rattle.format.specs.declared.Fields.{Fields}
use Rattle.format.proofs.SheetLaws.{layout_size}
use Rattle.format.specs.declared.Setting.{Setting}
use Rattle.format.proofs.ReadingLaws.{Within, there_within}
use Rattle.std.specs.Prelude.{Option, None, Some, is_some, Result as Answer, Ok, Err}
use Rattle.format.specs.Faults.{fault_number}
use Rattle.format.specs.declared.Fault.{Fault}
use Rattle.item.specs.declared.Step.TheVariants.{On as OnStep}
use Rattle.label.specs.declared.Label.{Label}
use Rattle.measure.specs.Totals.{Total, total_by, pass_of}
use Rattle.measure.proofs.Sums.{pass_also, pass_stop}
use Rattle.table.specs.declared.Index.{Index}
use Rattle.strict.specs.Strict.{Judgement, fine, faulty, judged, Stand as StrictStand, unless, after_strictly, strict_run, strict_items}
use Rattle.strict.specs.Indexed.{Knows, unless_faulty, strict_next, behind}
use Rattle.strict.proofs.StrictLaws.{strict_left}
use Rattle.read.specs.declared.Before.{Before}
use Rattle.read.specs.declared.Course.{Course}
use Rattle.read.specs.declared.Moved.{Moved}
use Rattle.read.specs.declared.Stand.{Stand}
use Rattle.read.specs.declared.Common.TheVariants.{Trim, Went as WentOn}
use Rattle.read.specs.declared.Turned.{Turned}
use Rattle.read.specs.declared.Turned.TheVariants.{End, Went}
use Rattle.read.specs.Turning.{ahead_of, passed_of}
use Rattle.read.specs.Ruling.{Begins, BeginsBy, items_by, LentBy, ReadyTo, GoesBy, RuledAs, Rules, TurnsBy, ShortlyIf, BeginsAs, AnyItem, ShortTurn}
use Rattle.read.proofs.Turn.{Stands, text, Going, going_first, ends_bad, ends_end, item_within}
use Rattle.read.proofs.Quickly.{onward, going_trim}

-- the bytes of a record whose label is in the first bytes of a buffer
pub record_bytes : (f : Fields) (m : ℕ) (b : List ℕ) (n : ℕ) → m ≤ label_limit → length b ≡ label_limit → n ≡ record_size f m
    → n ≡ length (layout sheet_version (record_of f (take m b)))
record_bytes f m b n h w e =
    let t : length (take m b) ≡ m = length-take-le m b (omega arith) in
    e ∙ sym (layout_size f (take m b) ∙ rw t)

-- ---- the pass goes by what an item comes to strictly

module _ (room at : ℕ) (s : List ℕ) (earlier : List Record) (go : ℕ → StrictStand → Result) (out records : ℕ) where
  abbrev pub pass_by : Next → Total
  pass_by (bad k) = total_by (Refusal k at) out records
  pass_by end = total_by (ended at s) out records
  pass_by (on n st) = pass_of out records (go n (record { state = st; earlier = earlier }))
  pass_by (made n r st) = pass_of (out + length (layout sheet_version r)) (records + 1) (go n (record { state = st; earlier = r ∷ earlier }))

  pub after_next : (x : Next) → pass_of out records (after_strictly x room at s earlier go) ≡ pass_by (strict_next room earlier x)
  after_next (bad k) = pass_stop out records _
  after_next end = pass_stop out records _
  after_next (on n st) = refl
  after_next (made n r st) = by_judgement (judged room earlier r)
    where
      by_judgement : (j : Judgement)
          → pass_of out records (unless j at (also r (go n (record { state = st; earlier = r ∷ earlier })))) ≡ pass_by (unless_faulty j (made n r st))
      by_judgement fine = pass_also out records r _
      by_judgement (faulty k) = pass_stop out records _

  pub goes_pass : (x : Next) (by : Moved) (st : State) → GoesBy x by st
      → pass_by x ≡ pass_of (out + by.bytes) (records + by.records) (go by.size (record { state = st; earlier = behind x earlier }))
  goes_pass (bad k) by st g = absurd g
  goes_pass end by st g = absurd g
  goes_pass (on k s) by st g = rw (g.0, g.1, g.2, g.3, add-zero out, add-zero records)
  goes_pass (made k r s) by st g = rw (g.0, g.1, g.2, g.3)

-- the item's bytes are there, and it makes one record at most
module _ (room m at : ℕ) (earlier : List Record) where
  next_within : (x : Next) → Within m at x → Within m at (strict_next room earlier x)
  next_within (bad k) z = z
  next_within end z = z
  next_within (on n st) z = z
  next_within (made n r st) z = by_judgement (judged room earlier r)
    where
      by_judgement : (j : Judgement) → Within m at (unless_faulty j (made n r st))
      by_judgement fine = z
      by_judgement (faulty k) = tt

  goes_within : (x : Next) (by : Moved) (st : State) → Within m at x → GoesBy x by st
      → (1 ≤ by.size) × (at + by.size ≤ m) × (by.records ≤ 1) × (length (behind x earlier) ≤ length earlier + 1)
  goes_within (bad k) by st z g = absurd g
  goes_within end by st z g = absurd g
  goes_within (on k s) by st z g = (omega (arith, z, g.0), omega (arith, z, g.0), omega (arith, g.2), omega arith)
  goes_within (made k r s) by st z g = (omega (arith, z, g.0), omega (arith, z, g.0), omega (arith, g.2), omega arith)

-- what is left of the file from a place on
abbrev left : ℕ → ℕ → List ℕ → ℕ → State → List Record → Result
left version room file at st earlier = strict_run version room at (drop at file) (record { state = st; earlier = earlier })

pub record Ruling (version : ℕ) (file : List ℕ) (place : ℕ) (room₀ : List ℕ) (front : ℕ) (room : List ℕ) (at out records : ℕ) (setting : Setting) (label : Label)
    (i : Index) : Type 0 where
  pub earlier : List Record
  pub knows : Knows room i earlier
  pub stands : Stands file at label
  pub kept : length room ≡ length room₀
  pub few : length earlier + place ≤ at
  pub identified : 2 ≤ place
  pub out_few : out ≤ front + 4130 * at
  pub records_few : records ≤ at
  pub answer : pass_of out records (left version (length room₀) file at (state_of setting (text label)) earlier)
      ≡ pass_of front 0 (strict_items version (length room₀) place file)

ruling_first : (version : ℕ) (file : List ℕ) (place : ℕ) (room : List ℕ) (front : ℕ) (setting : Setting) (label : Label) (i : Index)
    → setting ≡ start_setting → label.len ≡ 0 → place ≤ length file → length label.bytes ≡ 4096 → Knows room i [] → 2 ≤ place
    → Ruling version file place room front room place front 0 setting label i
unfolding strict_items
ruling_first version file place room front setting label i f z h w k p =
    let s : state_of setting (text label) ≡ start = rw (f, z) in
    record {
      earlier = [];
      knows = k;
      stands = record { inside = h; short = omega arith; whole = w };
      kept = refl;
      few = omega arith;
      identified = p;
      out_few = omega arith;
      records_few = omega arith;
      answer = ap (λ (st : State). pass_of front 0 (left version (length room) file place st [])) s;
    }

module _ (version : ℕ) (file : List ℕ) (place : ℕ) (room₀ : List ℕ) (front : ℕ) (room : List ℕ) (at out records : ℕ) (setting : Setting) (label : Label)
    (i : Index) (G : Ruling version file place room₀ front room at out records setting label i) where
  abbrev state : State
  state = state_of setting (text label)

  abbrev total : Total
  total = pass_of front 0 (strict_items version (length room₀) place file)

  -- the index has room for one more in its counts
  count_few : length file ≤ file_limit → i.count < 16777215
  count_few h = omega (arith, G.stands.inside, G.few, G.identified, G.knows.few)

  module _ (r : Answer Turned Fault) (b room' : List ℕ) (R : Rules r i (next version (take (length file - at) (drop at file)) state) b room room') where
    abbrev onto : ℕ → StrictStand → Result
    onto n z = strict_run version (length room₀) (at + n) (drop (at + n) file) z

    abbrev x : Next
    x = strict_next (length room₀) G.earlier (next version (take (length file - at) (drop at file)) state)

    -- by what the item comes to
    turn : pass_by (length room₀) at (drop at file) G.earlier onto out records x ≡ total
    turn =
        let l = strict_left version (length room₀) file at (record { state = state; earlier = G.earlier }) refl in
        sym (after_next (length room₀) at (drop at file) G.earlier onto out records (next version (take (length file - at) (drop at file)) state))
        ∙ (sym (ap (pass_of out records) l) ∙ G.answer)

    -- what its judgement tells
    due : RuledAs r room' b G.earlier x
    due = rw G.kept at (R.ruled G.earlier G.knows)

  rules_bad : (k : Fault) (b room' : List ℕ) → Rules (Err k) i (next version (take (length file - at) (drop at file)) state) b room room'
      → total_by (Refusal (fault_number k) at) out records ≡ total
  rules_bad k b room' R =
      sym (ap (pass_by (length room₀) at (drop at file) G.earlier (onto (Err k) b room' R) out records) (due (Err k) b room' R)) ∙ turn (Err k) b room' R

  rules_end : (b room' : List ℕ) → Rules (Ok End) i (next version (take (length file - at) (drop at file)) state) b room room'
      → total_by (ended at (take (length file - at) (drop at file))) out records ≡ total
  rules_end b room' R =
      rw (part_to_end file at) (sym (ap (pass_by (length room₀) at (drop at file) G.earlier (onto (Ok End) b room' R) out records) (due (Ok End) b room' R)) ∙ turn (Ok End) b room' R)

  rules_on : (by : Moved) (st : Setting) (j : Index) (b room' : List ℕ)
      → Rules (Ok (Went by st (Some j))) i (next version (take (length file - at) (drop at file)) state) b room room'
      → (1 ≤ by.size) × (at + by.size ≤ length file) × (by.bytes ≤ record_limit) × (by.records ≤ 1)
      × Ruling version file place room₀ front room' (at + by.size) (out + by.bytes) (records + by.records) st (record { bytes = b; len = by.len }) j
  rules_on by st j b room' R =
      let r : Answer Turned Fault = Ok (Went by st (Some j)) in
      let d = due r b room' R in
      let y = there_within version file at state G.stands.inside R.told.same in
      let y2 : Within (length file) at (next version (take (length file - at) (drop at file)) state) = rw R.told.same at y in
      let w = next_within (length room₀) (length file) at G.earlier (next version (take (length file - at) (drop at file)) state) y2 in
      let z = goes_within (length room₀) (length file) at G.earlier (x r b room' R) by (state_of st (take by.len b)) w d.0 in
      let e = goes_pass (length room₀) at (drop at file) G.earlier (onto r b room' R) out records (x r b room' R) by (state_of st (take by.len b)) d.0 in (
        z.0,
        z.1,
        d.2,
        z.2,
        record {
          earlier = behind (x r b room' R) G.earlier;
          knows = d.3;
          stands = record { inside = z.1; short = d.1; whole = R.told.whole };
          kept = R.kept ∙ G.kept;
          few = omega (arith, z.0, z.3, G.few);
          identified = G.identified;
          out_few = omega (arith, G.out_few, z.0, d.2);
          records_few = omega (arith, G.records_few, z.0, z.2);
          answer = sym e ∙ turn r b room' R;
        },
      )

-- ---- with or without a judge: the rule that a pass began with, and the one that it has now

abbrev pub GoingBy : Option Index → Option Index → Course → List ℕ → List ℕ → List ℕ → Stand → List ℕ → Type 0
GoingBy None None c file d₀ d y b =
    Going c.version file c.place d₀ c.front d y.here.at y.here.out y.here.records y.setting (record { bytes = b; len = y.here.len })
GoingBy (Some i₀) (Some i) c file d₀ d y b =
    Ruling c.version file c.place d₀ c.front d y.here.at y.here.out y.here.records y.setting (record { bytes = b; len = y.here.len }) i
GoingBy None (Some i) c file d₀ d y b = ⊥
GoingBy (Some i₀) None c file d₀ d y b = ⊥

pub begin : (first : Option Index) (c : Course) (file d b : List ℕ) → Begins file c → BeginsBy first c.place d → length b ≡ label_limit
    → GoingBy first first c file d d (record { here = record { at = c.place; out = c.front; records = 0; len = 0 }; setting = start_setting }) b
begin None c file d b B K w = going_first c.version file c.place d c.front start_setting _ refl refl B.inside w
begin (Some i) c file d b B K w = ruling_first c.version file c.place d c.front start_setting _ i refl refl B.inside w K.0 K.1

-- where the pass stands
pub record Stood (c : Course) (file : List ℕ) (y : Stand) (b : List ℕ) : Type 0 where
  pub inside : y.here.at ≤ length file
  pub short : y.here.len ≤ 4096
  pub whole : length b ≡ 4096
  pub out_few : y.here.out ≤ c.front + 4130 * y.here.at
  pub records_few : y.here.records ≤ y.here.at

pub stood : (first rule : Option Index) (c : Course) (file d₀ d : List ℕ) (y : Stand) (b : List ℕ) → GoingBy first rule c file d₀ d y b → Stood c file y b
stood None None c file d₀ d y b G =
    record { inside = G.stands.inside; short = G.stands.short; whole = G.stands.whole; out_few = G.out_few; records_few = G.records_few }
stood (Some i₀) (Some i) c file d₀ d y b G =
    record { inside = G.stands.inside; short = G.stands.short; whole = G.stands.whole; out_few = G.out_few; records_few = G.records_few }
stood None (Some i) c file d₀ d y b G = absurd G
stood (Some i₀) None c file d₀ d y b G = absurd G

-- the bytes from the item on
abbrev pub rest_at : List ℕ → Stand → List ℕ
rest_at file y = take (length file - y.here.at) (drop y.here.at file)

-- what one of the commonest items does
module _ (c : Course) (file d₀ d : List ℕ) (y : Stand) (b b' d' : List ℕ) where
  pub short_other : (first : Option Index) → ShortlyIf (is_some first) None c.version y (rest_at file y) b b' d d' → (b' ≡ b) × (d' ≡ d)
  short_other None S = S
  short_other (Some i) S = (S.1, S.2)

  pub short_went : (first rule : Option Index) (z : Stand) → GoingBy first rule c file d₀ d y b → ShortlyIf (is_some first) (Some (WentOn z)) c.version y (rest_at file y) b b' d d'
      → (y.here.at < z.here.at) × (z.here.at ≤ length file) × GoingBy first rule c file d₀ d' z b'
  short_went None None z G S =
      let o = onward _ _ _ _ _ _ _ _ _ _ _ G _ _ _ _ S.passes in
      rw S.here_is (omega (arith, o.0), o.1, o.4)
  short_went (Some i₀) (Some i) z G S = absurd (let u : ◌≡◌ {A = ℕ} 0 1 = let q = S.0 in cc in omega arith)
  short_went None (Some i) z G S = absurd G
  short_went (Some i₀) None z G S = absurd G

  pub short_trim : (first rule : Option Index) (m : ℕ) → GoingBy first rule c file d₀ d y b → ShortlyIf (is_some first) (Some (Trim m)) c.version y (rest_at file y) b b' d d'
      → (y.here.at + 1 ≤ length file) × GoingBy first rule c file d₀ d' (record { here = passed_of y.here 1 m; setting = y.setting }) b'
  short_trim None None m G S =
      let w = item_within _ _ _ _ _ _ _ _ _ _ _ G (Ok (OnStep _ _ _)) _ S.0 in
      (w.1, going_trim _ _ _ _ _ _ _ _ _ _ _ G _ _ _ S.0 S.1)
  short_trim (Some i₀) (Some i) m G S = absurd (let u : ◌≡◌ {A = ℕ} 0 1 = let q = S.0 in cc in omega arith)
  short_trim None (Some i) m G S = absurd G
  short_trim (Some i₀) None m G S = absurd G

-- what any item does
pub ready_to : (first rule : Option Index) (c : Course) (file d₀ d : List ℕ) (y : Stand) (b : List ℕ) → length file ≤ file_limit → GoingBy first rule c file d₀ d y b → ReadyTo rule d
ready_to None None c file d₀ d y b h G = tt
ready_to (Some i₀) (Some i) c file d₀ d y b h G = (G.knows.holds, count_few _ _ _ _ _ _ _ _ _ _ _ _ G h)
ready_to None (Some i) c file d₀ d y b h G = absurd G
ready_to (Some i₀) None c file d₀ d y b h G = absurd G

module _ (c : Course) (file d₀ d : List ℕ) (y : Stand) (b b' d' : List ℕ) where
  abbrev before : Before
  before = record { version = c.version; len = y.here.len; out = y.here.out }

  abbrev pub Ends : Option Index → Total → Type 0
  Ends first a = (a ≡ pass_of c.front 0 (items_by first (length d₀) c file)) × LentBy first d₀ d' c file

  pub any_bad : (first rule : Option Index) (k : Fault) → GoingBy first rule c file d₀ d y b → TurnsBy rule (Err k) before y.setting (rest_at file y) b b' d d'
      → Ends first (total_by (Refusal (fault_number k) y.here.at) y.here.out y.here.records)
  any_bad None None k G T = ends_bad _ _ _ _ _ _ _ _ _ _ _ G _ _ _ T.0 T.1
  any_bad (Some i₀) (Some i) k G T = (rules_bad _ _ _ _ _ _ _ _ _ _ _ _ G k b' d' T, T.kept ∙ G.kept)
  any_bad None (Some i) k G T = absurd G
  any_bad (Some i₀) None k G T = absurd G

  pub any_end : (first rule : Option Index) → GoingBy first rule c file d₀ d y b → TurnsBy rule (Ok End) before y.setting (rest_at file y) b b' d d'
      → Ends first (total_by (ended y.here.at (rest_at file y)) y.here.out y.here.records)
  any_end None None G T = ends_end _ _ _ _ _ _ _ _ _ _ _ G _ _ T.0 T.1
  any_end (Some i₀) (Some i) G T = (rules_end _ _ _ _ _ _ _ _ _ _ _ _ G b' d' T, T.kept ∙ G.kept)
  any_end None (Some i) G T = absurd G
  any_end (Some i₀) None G T = absurd G

  abbrev pub GoesOn : Option Index → Option Index → Moved → Setting → Type 0
  GoesOn first rule by after =
      (1 ≤ by.size) × (y.here.at + by.size ≤ length file) × (by.bytes ≤ record_limit) × (by.records ≤ 1)
      × GoingBy first rule c file d₀ d' (record { here = ahead_of y.here by; setting = after }) b'

  ruled_on : (i₀ i : Index) (rule : Option Index) (by : Moved) (after : Setting) → GoingBy (Some i₀) (Some i) c file d₀ d y b
      → TurnsBy (Some i) (Ok (Went by after rule)) before y.setting (rest_at file y) b b' d d' → GoesOn (Some i₀) rule by after
  ruled_on i₀ i None by after G T = absurd (T.ruled G.earlier G.knows)
  ruled_on i₀ i (Some j) by after G T = rules_on _ _ _ _ _ _ _ _ _ _ _ _ G by after j b' d' T

  pub any_went : (first rule rule' : Option Index) (by : Moved) (after : Setting) → GoingBy first rule c file d₀ d y b
      → TurnsBy rule (Ok (Went by after rule')) before y.setting (rest_at file y) b b' d d' → GoesOn first rule' by after
  any_went None None rule' by after G T = rw T.0 (onward _ _ _ _ _ _ _ _ _ _ _ G _ _ _ _ T.1)
  any_went (Some i₀) (Some i) rule' by after G T = ruled_on i₀ i rule' by after G T
  any_went None (Some i) rule' by after G T = absurd G
  any_went (Some i₀) None rule' by after G T = absurd G

-- ---- the same as records, so that a law's arguments can be found from them

pub record GoingOn (first rule : Option Index) (c : Course) (file d₀ d : List ℕ) (y : Stand) (b : List ℕ) : Type 0 where
  pub going : GoingBy first rule c file d₀ d y b
  pub kept : length d ≡ length d₀

going_on : (first rule : Option Index) (c : Course) (file d₀ d : List ℕ) (y : Stand) (b : List ℕ) → GoingBy first rule c file d₀ d y b → GoingOn first rule c file d₀ d y b
going_on None None c file d₀ d y b G = record { going = G; kept = G.kept }
going_on (Some i₀) (Some i) c file d₀ d y b G = record { going = G; kept = G.kept }
going_on None (Some i) c file d₀ d y b G = absurd G
going_on (Some i₀) None c file d₀ d y b G = absurd G

pub on_first : (first : Option Index) (c : Course) (file d b : List ℕ) → Begins file c → BeginsAs first c.place d → length b ≡ label_limit
    → GoingOn first first c file d d (record { here = record { at = c.place; out = c.front; records = 0; len = 0 }; setting = start_setting }) b
on_first first c file d b B K w = going_on first first c file d d _ b (begin first c file d b B K.ready w)

module _ (first rule : Option Index) (c : Course) (file d₀ d : List ℕ) (y : Stand) (b : List ℕ) (G : GoingOn first rule c file d₀ d y b) where
  pub on_stood : Stood c file y b
  on_stood = stood first rule c file d₀ d y b G.going

  pub on_ready : length file ≤ file_limit → ReadyTo rule d
  on_ready h = ready_to first rule c file d₀ d y b h G.going

  module _ (b' d' : List ℕ) where
    pub on_other : ShortTurn (is_some first) None c.version y (rest_at file y) b b' d d' → (b' ≡ b) × (d' ≡ d)
    on_other S = short_other c file d₀ d y b b' d' first S.does

    pub on_went : (z : Stand) → ShortTurn (is_some first) (Some (WentOn z)) c.version y (rest_at file y) b b' d d'
        → (y.here.at < z.here.at) × (z.here.at ≤ length file) × GoingOn first rule c file d₀ d' z b'
    on_went z S = let w = short_went c file d₀ d y b b' d' first rule z G.going S.does in (w.0, w.1, going_on first rule c file d₀ d' z b' w.2)

    pub on_trim : (m : ℕ) → ShortTurn (is_some first) (Some (Trim m)) c.version y (rest_at file y) b b' d d'
        → (y.here.at + 1 ≤ length file) × GoingOn first rule c file d₀ d' (record { here = passed_of y.here 1 m; setting = y.setting }) b'
    on_trim m S = let w = short_trim c file d₀ d y b b' d' first rule m G.going S.does in (w.0, going_on first rule c file d₀ d' _ b' w.1)

    abbrev then : Before
    then = before c file d₀ d y b b' d'

    pub on_bad : (k : Fault) → AnyItem rule (Err k) then y.setting (rest_at file y) b b' d d'
        → Ends c file d₀ d y b b' d' first (total_by (Refusal (fault_number k) y.here.at) y.here.out y.here.records)
    on_bad k T = any_bad c file d₀ d y b b' d' first rule k G.going T.does

    pub on_end : AnyItem rule (Ok End) then y.setting (rest_at file y) b b' d d'
        → Ends c file d₀ d y b b' d' first (total_by (ended y.here.at (rest_at file y)) y.here.out y.here.records)
    on_end T = any_end c file d₀ d y b b' d' first rule G.going T.does

    pub on_item : (rule' : Option Index) (by : Moved) (after : Setting) → AnyItem rule (Ok (Went by after rule')) then y.setting (rest_at file y) b b' d d'
        → (1 ≤ by.size) × (y.here.at + by.size ≤ length file) × (by.bytes ≤ record_limit) × (by.records ≤ 1)
        × GoingOn first rule' c file d₀ d' (record { here = ahead_of y.here by; setting = after }) b'
    on_item rule' by after T =
        let z = any_went c file d₀ d y b b' d' first rule rule' by after G.going T.does in (z.0, z.1, z.2, z.3, going_on first rule' c file d₀ d' _ b' z.4)

-- ---- the room cleared

-- its first k bytes are so many
pub counted : (x : List ℕ) (k : ℕ) → k ≤ length x → k ≡ length (take k x)
counted x k h = sym (length-take-le k x h)

-- zeros in as many of them as there are
pub all_cleared : (x zeros : List ℕ) (n : ℕ) → zeros ≡ replicate (length (take (length x) x)) 0 → length x ≡ n → zeros ++ drop (length x) x ≡ replicate n 0
all_cleared x zeros n z l = rw (drop-length x, append-nil zeros) (z ∙ rw (take-length x, l))
