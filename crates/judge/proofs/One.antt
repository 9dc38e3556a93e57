-- One record held to the writing rules, on plain values. Where its codes stand, reading them makes it and leaves the state that writing
-- leaves (`codes_go`); where others stand, no file that the rules give goes on so. Assumes nothing.
use Rattle.std.specs.Prelude.{Ok, Err}
use Prim.Native.Nat.{ℕ, ◌+◌, ◌-◌, ◌≤◌, ◌<◌}
use mathlib.Core.Path.{◌≡◌, refl, sym, ap, ap₂, ◌∙◌}
use mathlib.Core.Bool.{Bool, true, false}
use mathlib.Core.List.{List, [], ◌∷◌, ◌++◌}
use native.Mathlib.Omega.{arith}
use lib.ListN.{length, take, drop, length-take, length-drop, take-append-drop}
use lib.Seq.{drop-drop, drop-append_seam, take_at, length-take-le}
use Rattle.format.specs.Bytes.{same, over}
use Rattle.format.specs.Label.{label_limit}
use Rattle.format.specs.State.{State, Record}
use Rattle.format.specs.Refusals.{Result, stop, also, Good, Refusal}
use Rattle.format.specs.WellFormed.{WellFormed, AllWellFormed}
use Rattle.format.specs.Reading.{run}
use Rattle.format.specs.Writing.{v8, encode_all}
use Rattle.format.specs.Codes.{codes, setting_after, label_after, after, closing, unsayable}
use Rattle.format.specs.Fields.{record_of, state_of}
use Rattle.format.specs.declared.Fields.{Fields}
use Rattle.format.specs.declared.Fields.TheVariants.{Leg, Station, Section, Error}
use Rattle.format.specs.declared.Setting.{Setting}
use Rattle.format.specs.declared.Refusal.{Refusal as Refused}
use Rattle.format.proofs.Basics.{same_true, same_refl}
use Rattle.format.proofs.GoingLaws.{goes_run}
use Rattle.format.proofs.WritingLaws.{setting_at, able, codes_go}
use Rattle.part.specs.Lays.{Puts}
use Rattle.scan.specs.Places.{label_in, state_at, left_at, Finds}
use Rattle.scan.specs.Keeping.{Swaps, Keeps}
use Rattle.scan.specs.declared.Found.TheVariants.{End as FoundEnd, Record as FoundRecord}
use Rattle.wire.proofs.Laws.{same_false}
use Rattle.scan.specs.declared.Place.{Place}
use Rattle.judge.specs.Walking.{rest_of, rules_from, Ready, Met, Steps}
use Rattle.counts.proofs.Left.{encode_more, encode_none}
use Rattle.judge.proofs.Splice.{codes_some}

-- what was put at the front of a buffer
pub front_of_lem : {d d' X : List ℕ} {m r : ℕ} → Puts d d' X m r → r ≤ length d → take r d' ≡ X
unfolding over
front_of_lem {d} {d'} {X} {m} {r} P h = rw (P.written h) (take_at X (drop (length X) d) r (sym P.size))

pub differs : (s t : List ℕ) → same s t ≡ false → s ≡ t → ⊥
differs s t e q =
    let z : same t t ≡ false = rw q at e in
    let y : true ≡ false = sym (same_refl t) ∙ z in
    let n : ◌≡◌ {A = ℕ} 0 1 = cc in
    omega arith

-- ---- `stands`

module _ (file : List ℕ) (at : ℕ) (X : List ℕ) where
  pub stands_past : at ≤ length file → length file < at + length X → false ≡ same (take (length X) (drop at file)) X
  stands_past i h = sym (same_false _ X (λ e. let z = ap length e in let y = simp (length-take, length-drop) at z in omega (arith, y)))

  pub stands_part : {t : Bool} → t ≡ same (take (at + length X - at) (drop at file)) X → t ≡ same (take (length X) (drop at file)) X
  stands_part e = let z : at + length X - at ≡ length X = omega arith in rw z at e

-- ---- a record

module _ (file : List ℕ) (p : Place) (b : List ℕ) (R : Ready file p b) (r : Record) where
  abbrev st : State
  st = state_at p b

  abbrev X : List ℕ
  X = codes st r

  label_fits_lem : length st.label ≤ label_limit
  label_fits_lem = let i = R.inside in let z = length-take-le p.len b (omega (arith, i.label_short, i.label_whole)) in omega (arith, i.label_short)

  -- its codes stand there
  module _ (w : WellFormed r) (u : unsayable st.setting.style r ≡ false) (here : take (length X) (drop p.at file) ≡ X) where
    split : drop p.at file ≡ X ++ drop (p.at + length X) file
    split = sym (take-append-drop (length X) (drop p.at file)) ∙ ap₂ ◌++◌ here (drop-drop (length X) p.at file)

    codes_inside : p.at + length X ≤ length file
    codes_inside =
        let z = ap length here in
        let y = simp (length-take, length-drop) at z in
        omega (arith, y, R.inside.place_inside)

    left_is : rest_of file p.at st ≡ also r (rest_of file (p.at + length X) (after st r))
    left_is =
        ap (λ (s : List ℕ). run 8 p.at s st) split
        ∙ goes_run (codes_go st r label_fits_lem w u (drop (p.at + length X) file)) p.at
        ∙ ap (λ (s : List ℕ). also r (run 8 (p.at + length X) s (after st r))) (drop-append_seam X (drop (p.at + length X) file))

    pub steps : (to : Place) (b' : List ℕ) → to.at ≡ p.at + length X → state_at to b' ≡ after st r → to.len ≤ label_limit → length b' ≡ 4096
        → Steps file p b to b' r
    steps to b' at-is state_is short whole =
        record {
          inside = record { place_inside = rw at-is codes_inside; label_short = short; label_whole = whole };
          there = rw at-is split;
          place_is = at-is;
          state = state_is;
          further = (let z = codes_some st r label_fits_lem w u in omega (arith, at-is));
          left = rw (at-is, state_is) left_is;
        }

  -- it is the next record
  module _ (M : Met file p b r) where
    both : AllWellFormed (r ∷ M.others)
    both = rw M.records at R.sound.formed

    pub met_formed : WellFormed r
    met_formed = both.0

    met_sayable : unsayable st.setting.style r ≡ false
    met_sayable = (able v8 0 st r M.others (rw M.records at R.sound.sayable)).0

    -- others stand there
    pub foreign_codes : same (take (length X) (drop p.at file)) X ≡ false → drop p.at file ≡ rules_from file p.at st → ⊥
    foreign_codes e q =
        let z : drop p.at file ≡ X ++ encode_all v8 (after st r) M.others = q ∙ ap (encode_all v8 st) M.records ∙ encode_more v8 st r M.others in
        differs _ X e (ap (take (length X)) z ∙ take_at X (encode_all v8 (after st r) M.others) (length X) refl)

-- a record's own label, or none: which of two buffers is all one for a traverse error
pub kept_record : (l : List ℕ) (f : Fields) (name : List ℕ) → record_of f (label_after l (record_of f name)) ≡ record_of f name
kept_record l f name = kept f
  where
    kept : (f : Fields) → record_of f (label_after l (record_of f name)) ≡ record_of f name
    kept (Leg flags style date from to) = refl
    kept (Station s) = refl
    kept (Section last unused date size) = refl
    kept (Error traverse) = refl

-- `take_made`
module _ (file : List ℕ) (p : Place) (b : List ℕ) (R : Ready file p b) (name : List ℕ) (f : Fields) (M : Met file p b (record_of f name)) where
  abbrev r : Record
  r = record_of f name

  pub takes_made : same (take (length (codes (state_at p b) r)) (drop p.at file)) (codes (state_at p b) r) ≡ true → (size m : ℕ) (b' : List ℕ)
      → size ≡ length (codes (state_at p b) r) → Keeps b b' p.len name f m
      → Steps file p b (record { at = p.at + size; len = m; setting = setting_after p.setting (record_of f []) }) b' (record_of f (take m b'))
  takes_made e size m b' s K =
      let own : record_of f (take m b') ≡ r = ap (record_of f) K.label_is ∙ kept_record (take p.len b) f name in
      let state_is : state_of (setting_after p.setting (record_of f [])) (take m b') ≡ after (state_at p b) r =
      ap (state_of (setting_after p.setting (record_of f []))) K.label_is
      ∙ ap (λ (x : Setting). state_of x (label_after (take p.len b) r)) (setting_at p.setting f name) in
      rw own
      (steps file p b R r (met_formed file p b R r M) (met_sayable file p b R r M) (same_true _ _ e) _ b' (ap (λ (n : ℕ). p.at + n) s)
      state_is K.label_short K.label_whole)

-- ---- `take_record`: reading goes on from a copy of the label

module _ (file : List ℕ) (p : Place) (b s s' : List ℕ) (m : ℕ) (K : Swaps s (take p.len b) m) where
  copy_reads : rest_of file p.at (state_at p b) ≡ left_at 8 file (record { at = p.at; len = m; setting = p.setting }) s
  copy_reads = ap (λ (l : List ℕ). run 8 p.at (drop p.at file) (state_of p.setting l)) (sym K.label_is)

  pub found_refused : {r : Refused} → Finds 8 file (record { at = p.at; len = m; setting = p.setting }) s (Err r) s'
      → rest_of file p.at (state_at p b) ≡ stop (Refusal r.number r.place)
  found_refused F = copy_reads ∙ F.same

  pub found_end : Finds 8 file (record { at = p.at; len = m; setting = p.setting }) s (Ok FoundEnd) s'
      → same (drop p.at file) (closing p.setting.style) ≡ true
      → (rest_of file p.at (state_at p b) ≡ stop Good) × (drop p.at file ≡ closing p.setting.style)
  found_end F e = (copy_reads ∙ F.same, same_true _ _ e)

  pub found_foreign : Finds 8 file (record { at = p.at; len = m; setting = p.setting }) s (Ok FoundEnd) s'
      → same (drop p.at file) (closing p.setting.style) ≡ false → drop p.at file ≡ rules_from file p.at (state_at p b) → ⊥
  found_foreign F e q =
      differs _ _ e (q ∙ ap (λ (x : Result). encode_all v8 (state_at p b) x.records) (copy_reads ∙ F.same) ∙ encode_none v8 (state_at p b))

  pub found_met : {to : Place} {f : Fields} → Finds 8 file (record { at = p.at; len = m; setting = p.setting }) s (Ok (FoundRecord to f)) s'
      → Met file p b (record_of f (label_in to s'))
  found_met {to} F = record { others = (left_at 8 file to s').records; records = ap (λ (x : Result). x.records) (copy_reads ∙ F.same) }
