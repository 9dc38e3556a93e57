-- A file judged whole, on plain values: its header, the records before the run, the run, and what is behind it. Assumes nothing.
use Rattle.std.specs.Prelude.{Result as Answered, Ok, Err}
use Prim.Native.Nat.{ℕ, ◌+◌, ◌-◌, ◌≤◌, ◌<◌}
use mathlib.Core.Path.{◌≡◌, refl, sym, ap, ap₂, ◌∙◌, subst}
use mathlib.Core.Bool.{Bool, true, false}
use mathlib.Core.List.{List, ◌++◌}
use native.Mathlib.Nat.{zero-add}
use native.Mathlib.Omega.{arith}
use lib.ListN.{length, take, drop, length-append, take-append-drop}
use lib.Seq.{drop-append_seam, take_at, length-take-le}
use Rattle.format.specs.Bytes.{same, Bytes}
use Rattle.format.specs.Header.{Header, opened, opening_of}
use Rattle.format.specs.State.{State, start, Record}
use Rattle.format.specs.Refusals.{Result, Good, Refusal}
use Rattle.format.specs.Reading.{items_of}
use Rattle.format.specs.Writing.{v8, encode_all, file_of}
use Rattle.format.specs.Codes.{header_codes}
use Rattle.format.specs.Editing.{house_written, codes_place}
use Rattle.format.specs.Fields.{state_of}
use Rattle.format.specs.declared.Fields.{Fields}
use Rattle.format.specs.declared.Refusal.{Refusal as Refused}
use Rattle.format.proofs.Basics.{same_true, same_refl}
use Rattle.format.proofs.HeaderLaws.{opening_read, opening_fits}
use Rattle.format.proofs.GoodRecords.{items_formed, items_sayable}
use Rattle.wire.proofs.Laws.{same_false}
use Rattle.scan.specs.Places.{left_at, state_at, Inside, Starts, Finds}
use Rattle.scan.specs.Keeping.{Swaps}
use Rattle.scan.specs.declared.Place.{Place}
use Rattle.scan.specs.declared.Found.TheVariants.{End as FoundEnd, Record as FoundRecord}
use Rattle.scan.proofs.Starting.{starts_state, starts_left}
use Rattle.judge.specs.Walking.{rest_of, rules_from, Ready, Walks, Ends}
use Rattle.judge.specs.Judging.{old_header, OldOpens, old_result, Begins, Stands, House, Cuts, Judges, Fails}
use Rattle.header.specs.declared.Head.{Head}
use Rattle.judge.specs.declared.Run.{Run}
use Rattle.judge.specs.declared.Judged.{Judged}
use Rattle.judge.specs.declared.Judged.TheVariants.{Foreign, Short, Cut}
use Rattle.judge.proofs.One.{differs}
use Rattle.judge.proofs.Splice.{good_start}
use Rattle.judge.proofs.Walk.{walk_none, walk_sound, walk_foreign, walk_ends, walk_then}

-- ---- a label copied

module _ (p : Place) (b b' : List ℕ) (n : ℕ) (K : Swaps b' (take p.len b) n) where
  pub same_state_lem : state_of p.setting (take n b') ≡ state_at p b
  same_state_lem = ap (state_of p.setting) K.label_is

  pub ready_copied : (file : List ℕ) → Ready file p b → Ready file (record { at = p.at; len = n; setting = p.setting }) b'
  ready_copied file R =
      record {
        small = R.small;
        inside = record { place_inside = R.inside.place_inside; label_short = K.label_short; label_whole = K.label_whole };
        sound = rw same_state_lem R.sound;
      }

-- ---- the header

-- its codes, as the code cuts the texts out of the file
pub header_told : (file : List ℕ) (old : Head) {t : Bool}
    → t
    ≡ same (take old.place file)
    (header_codes
    (record {
      extended = old.extended;
      title = take (24 + old.title - 24) (drop 24 file);
      time = take (24 + old.title + 1 + old.time - (24 + old.title + 1)) (drop (24 + old.title + 1) file);
    }))
    → t ≡ same (take old.place file) (header_codes (old_header file old))
header_told file old e =
    let a : 24 + old.title - 24 ≡ old.title = omega arith in
    let b : 24 + old.title + 1 + old.time - (24 + old.title + 1) ≡ old.time = omega arith in
    let c : 24 + old.title + 1 ≡ 25 + old.title = omega arith in
    rw (a, b, c) at e

module _ (file : List ℕ) (old : Head) (O : OldOpens file old) where
  abbrev h : Header
  h = old_header file old

  abbrev H : List ℕ
  H = header_codes h

  abbrev rs : List Record
  rs = (old_result file old).records

  opens_as : (rest : List ℕ) → file ≡ H ++ rest → opened 8 (length H) h ≡ opened old.version old.place h
  opens_as rest e =
      let small : length (H ++ rest) ≤ 16777216 = rw (← e) O.room.file_fits in
      sym (opening_read h (opening_fits file O.due).header rest small) ∙ ap opening_of (sym e) ∙ O.due

  pub ours_version : take old.place file ≡ H → old.version ≡ 8
  ours_version e =
      let q : file ≡ H ++ drop old.place file = sym (take-append-drop old.place file) ∙ ap (λ (x : List ℕ). x ++ drop old.place file) e in
      let z = opens_as (drop old.place file) q in
      cc

  pub house_place : (rest : List ℕ) → file ≡ H ++ rest → old.place ≡ length H
  house_place rest e = let z = opens_as rest e in cc

  house_parts : (x : List Record) → file ≡ file_of v8 h x → (take old.place file ≡ H) × (drop old.place file ≡ encode_all v8 start x)
  unfolding file_of
  house_parts x e =
      let E = encode_all v8 start x in
      let q = house_place E e in
      (rw q (ap (take (length H)) e ∙ take_at H E (length H) refl), rw q (ap (drop (length H)) e ∙ drop-append_seam H E))

  pub header_ours : same (take old.place file) H ≡ true → take old.place file ≡ H
  header_ours e = same_true _ H e

  pub header_foreign : same (take old.place file) H ≡ false → house_written file h rs ≡ false
  unfolding house_written
  header_foreign e = same_false file _ (λ q. differs _ H e (house_parts rs q).0)

  -- ---- the reader's refusal comes before 14

  pub fails_judges : (run : Run) (r : Answered Judged Refused) (b b' : List ℕ) → Fails file old r → house_written file h rs ≡ false → Judges file old run r b b'
  fails_judges run (Err r) b b' F e = F
  fails_judges run (Ok Foreign) b b' F e = (F, e)
  fails_judges run (Ok (Short n)) b b' F e = absurd F
  fails_judges run (Ok (Cut front back rest)) b b' F e = absurd F

-- the loop of `foreign`
pub record Reading (file : List ℕ) (old : Head) (p : Place) (b : List ℕ) : Type 0 where
  pub inside : Inside file p b
  pub verdict : (left_at old.version file p b).verdict ≡ (old_result file old).verdict

pub reading_first : (file : List ℕ) (old : Head) (p : Place) (b : List ℕ) → old.place ≤ length file → Starts p old.place → length b ≡ 4096
    → Reading file old p b
reading_first file old p b i s w =
    record {
      inside = record { place_inside = omega (arith, s.place_is); label_short = omega (arith, s.label_empty); label_whole = w };
      verdict = ap (λ (x : Result). x.verdict) (starts_left old.version file p old.place b s);
    }

module _ {file : List ℕ} {old : Head} {p : Place} {b b' : List ℕ} (G : Reading file old p b) where
  pub reading_refused : (r : Refused) → Finds old.version file p b (Err r) b' → (old_result file old).verdict ≡ Refusal r.number r.place
  reading_refused r F = sym G.verdict ∙ ap (λ (x : Result). x.verdict) F.same

  pub reading_end : Finds old.version file p b (Ok FoundEnd) b' → (old_result file old).verdict ≡ Good
  reading_end F = sym G.verdict ∙ ap (λ (x : Result). x.verdict) F.same

  pub reading_more : (to : Place) (f : Fields) → Finds old.version file p b (Ok (FoundRecord to f)) b' → Reading file old to b'
  reading_more to f F = record { inside = F.further.1; verdict = sym (ap (λ (x : Result). x.verdict) F.same) ∙ G.verdict }

-- ---- up to a place

module _ {file : List ℕ} {old : Head} {j : ℕ} {p : Place} {b : List ℕ} (B : Begins file old j p b) where
  abbrev O : OldOpens file old
  O = B.opens

  abbrev W : Walks file old.place start j p b
  W = B.walks

  result_is : old_result file old ≡ rest_of file old.place start
  unfolding items_of
  result_is = rw B.version_is

  pub begins_ready : Bytes file → Ready file p b
  unfolding items_of
  begins_ready y =
      record {
        small = O.room.file_fits;
        inside = W.inside;
        sound = walk_sound W (record { good = good_start; formed = items_formed 8 old.place file y; sayable = items_sayable 8 old.place file y });
      }

  pub begins_refused : (n q : ℕ) → (rest_of file p.at (state_at p b)).verdict ≡ Refusal n q → (old_result file old).verdict ≡ Refusal n q
  begins_refused n q e = rw result_is (sym W.verdict ∙ e)

  pub begins_foreign : (drop p.at file ≡ rules_from file p.at (state_at p b) → ⊥)
      → house_written file (old_header file old) (old_result file old).records ≡ false
  unfolding house_written
  begins_foreign f =
      same_false file _ (λ q. f (walk_foreign W ((house_parts file old O _ q).1 ∙ ap (λ (x : Result). encode_all v8 start x.records) result_is)))

  pub begins_house : {n : ℕ} → Ends file p.at (state_at p b) n → House file old
  unfolding house_written file_of
  begins_house E =
      let A = walk_ends W E in
      let q : file ≡ header_codes (old_header file old) ++ encode_all v8 start (old_result file old).records =
      sym (take-append-drop old.place file) ∙ ap₂ ◌++◌ B.header_is (A.ours ∙ ap (λ (x : Result). encode_all v8 start x.records) (sym result_is)) in
      record { readable = rw result_is A.readable; house = rw (← q) (same_refl file) }

  pub begins_count : {n : ℕ} → Ends file p.at (state_at p b) n
      → (j + n ≡ length (old_result file old).records) × (length (old_result file old).records ≤ length file)
  begins_count {n} E =
      let A = walk_ends W E in
      let c : j + n ≡ length (old_result file old).records = rw result_is A.counted in
      (c, omega (arith, c, A.few))

  pub begins_short : {n : ℕ} (run : Run) → Ends file p.at (state_at p b) n → j + n < run.first + run.count
      → House file old × (j + n ≡ length (old_result file old).records) × (j + n < run.first + run.count)
  begins_short run E l = (begins_house E, (begins_count E).0, l)

  pub begins_then : {k : ℕ} {q : Place} {c : List ℕ} → Walks file p.at (state_at p b) k q c → Begins file old (j + k) q c
  begins_then Z = record { opens = B.opens; version_is = B.version_is; header_is = B.header_is; walks = walk_then W Z }

  pub begins_stands : Stands file (old_header file old) (old_result file old).records j p b
  unfolding codes_place
  begins_stands =
      let H = header_codes (old_header file old) in
      let l : length H ≡ old.place = ap length (sym B.header_is) ∙ length-take-le old.place file O.room.inside in
      record {
        inside = W.inside;
        place_is = rw (result_is, length-append, l) W.place_is;
        state = rw result_is W.state;
      }

pub begins_first : (file : List ℕ) (old : Head) → OldOpens file old → take old.place file ≡ header_codes (old_header file old) → (p : Place) (b : List ℕ)
    → Starts p old.place → length b ≡ 4096 → Begins file old 0 p b
begins_first file old o e p b s w =
    let i : Inside file p b =
    record { place_inside = omega (arith, s.place_is, o.room.inside); label_short = omega (arith, s.label_empty); label_whole = w } in
    record {
      opens = o;
      version_is = ours_version file old o e;
      header_is = e;
      walks =
          subst (λ (k : ℕ). Walks file k start 0 p b) s.place_is
          (subst (λ (st : State). Walks file p.at st 0 p b) (starts_state p old.place b s) (walk_none file p b i));
    }

-- from the first record on
module _ {file : List ℕ} {old : Head} {p : Place} {b : List ℕ} (B : Begins file old 0 p b) where
  pub first_then : {k : ℕ} {q : Place} {c : List ℕ} → Walks file p.at (state_at p b) k q c → Begins file old k q c
  first_then {k} {q} {c} Z = subst (λ (n : ℕ). Begins file old n q c) (zero-add k) (begins_then B Z)

  pub first_short : {n : ℕ} (run : Run) → Ends file p.at (state_at p b) n → n < run.first + run.count
      → House file old × (n ≡ length (old_result file old).records) × (n < run.first + run.count)
  first_short {n} run E l = (begins_house B E, sym (zero-add n) ∙ (begins_count B E).0, l)

-- the run is cut out
pub begins_cuts : {file : List ℕ} {old : Head} (run : Run) {front back : Place} {b b' : List ℕ} {rest : ℕ} → Begins file old run.first front b
    → (B : Begins file old (run.first + run.count) back b')
    → Ends file back.at (state_at back b') rest → Cuts file old run front b back b' rest
begins_cuts run {rest = rest} A B E =
    let c = begins_count B E in
    record { house = begins_house B E; all = omega (arith, c.0); few = c.1; before = begins_stands A; behind = begins_stands B }

-- behind a header there are fewer records than the file has bytes
pub never_all : {file : List ℕ} {at : ℕ} {st : State} {to : Place} {b : List ℕ} → 0 < at → Walks file at st (length file) to b → ⊥
never_all some W = omega (arith, W.few, W.inside.place_inside)
