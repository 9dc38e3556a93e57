-- A walk over the records of a good sheet: no record is judged again. What is left at a place of the sheet is a list of records; a turn finds
-- the first of them. Two loops walk: one looks for a leg too far, the other writes the legs' numbers; what is left comes to the same as the
-- whole. Assumes nothing.
use Prim.Native.Nat.{ℕ, ◌+◌, ◌-◌, ◌≤◌, ◌<◌}
use mathlib.Core.Path.{◌≡◌, refl, sym, ap, ◌∙◌}
use mathlib.Core.List.{List, [], ◌∷◌, ◌++◌}
use mathlib.Core.Bool.{Bool, true, false, ◌&&◌}
use native.Mathlib.Omega.{arith}
use lib.ListN.{length, get_or, take, drop, take-append-drop, length-append, length-drop, drop_of_length-le}
use lib.Seq.{drop-drop}
use lib.Dec.{eqb, leb}
use lib.IntN.{ℤ}
use lib.Ieee.{Float}
use borrow.Author.Tests.{eqb-true, eqb-false, eq-eqb}
use Rattle.format.specs.Bytes.{pick, be16, be32, Bytes}
use Rattle.format.specs.Items.{point_of}
use Rattle.format.specs.State.{Record, leg, station, section, error}
use Rattle.format.specs.Refusals.{Result, stop, Verdict, Good, Refusal}
use Rattle.format.specs.Sheet.{leg_fields, good_header, good_front, behind_front, version_of, version_result, sheet_result, Entry, flawed, entry, entry_of, framed, records_from, records_of}
use Rattle.format.specs.Reach.{legs_of}
use Rattle.format.specs.Viewer.{place_of, less_origin, six_of, differences, all_legs, too_far, far_verdict, numbers_over, view_differences}
use Rattle.format.specs.declared.Origin.{Origin}
use Rattle.format.proofs.Basics.{pick_case, pick_true, pick_false, both, neither}
use Rattle.format.proofs.SheetLaws.{frame, entry_sized, records_none, records_more}
use Rattle.format.proofs.ViewerLaws.{far_append, legs_leg, near_all}
use Rattle.reach.proofs.Turn.{leg_there, other_there, turned}
use Rattle.viewer.specs.Viewing.{six_at, far_at, Fits}
use Rattle.viewer.proofs.Numbers.{length_behind, over_next}

-- ---- what is left

pub record Walk (sheet : List ℕ) (at : ℕ) (left : List Record) : Type 0 where
  pub version : ℕ
  pub place : ℕ
  pub number : ℕ
  pub inside : at ≤ length sheet
  pub same : records_from version place (drop at sheet) number ≡ record { records = left; verdict = Good }

-- a good sheet has a good front, and its records behind it
front_inside : (version : ℕ) (sheet : List ℕ) → good_front version sheet ≡ true → 3 + be16 (drop 1 sheet) ≤ length sheet
unfolding good_front
front_inside version sheet g =
    let behind = leb 4 (be16 (drop 1 sheet)) && good_header (be16 (drop 1 sheet)) (drop 3 sheet) in
    let a = (both (eqb (get_or sheet 0 0) version) (framed (drop 1 sheet) && behind) g).1 in
    let F = frame (drop 1 sheet) (both (framed (drop 1 sheet)) behind a).0 in
    let l = length-drop 1 sheet in
    omega (arith, F.inside)

good_front_lem : (sheet : List ℕ) → (sheet_result sheet).verdict ≡ Good → good_front (version_of sheet) sheet ≡ true
unfolding sheet_result version_result
good_front_lem sheet =
    pick_case (λ (x : Result). x.verdict ≡ Good → good_front (version_of sheet) sheet ≡ true) _ _ _ (λ g e. g)
    λ g e. absurd (let z : ◌≡◌ {A = ℕ} 0 1 = cc in omega arith)

front_records : (sheet : List ℕ) → good_front (version_of sheet) sheet ≡ true
    → sheet_result sheet ≡ records_from (version_of sheet) 0 (drop (3 + be16 (drop 1 sheet)) sheet) 0
unfolding sheet_result version_result behind_front records_of
front_records sheet g = pick_true _ _ g

pub walk_starts : (sheet : List ℕ) → (sheet_result sheet).verdict ≡ Good → Walk sheet (3 + be16 (drop 1 sheet)) (sheet_result sheet).records
walk_starts sheet e =
    let g = good_front_lem sheet e in
    record {
      version = version_of sheet;
      place = 0;
      number = 0;
      inside = front_inside (version_of sheet) sheet g;
      same = sym (front_records sheet g) ∙ ap (λ (v : Verdict). record { records = (sheet_result sheet).records; verdict = v }) e;
    }

-- at the end none is
pub walk_ends : {sheet : List ℕ} {at : ℕ} {left : List Record} → Walk sheet at left → length sheet ≤ at → left ≡ []
walk_ends {sheet} {at} W h =
    let d : drop at sheet ≡ [] = drop_of_length-le sheet {i = at} h in
    let m : records_from W.version W.place (drop at sheet) W.number ≡ stop Good = rw d (records_none W.version W.place W.number) in
    ap (λ (x : Result). x.records) (sym W.same ∙ m)

-- ---- a turn

-- the first of the records that are left is at the place, and takes so many bytes as its length says
pub record Turn (sheet : List ℕ) (at : ℕ) (left : List Record) : Type 0 where
  pub first : Record
  pub rest : List Record
  pub is : left ≡ first ∷ rest
  pub least : 3 ≤ 2 + be16 (drop at sheet)
  pub there : 2 + be16 (drop at sheet) ≤ length (drop at sheet)
  pub next : Walk sheet (at + (2 + be16 (drop at sheet))) rest
  pub long : get_or (drop at sheet) 2 0 ≡ 1 → 34 ≤ 2 + be16 (drop at sheet)
  pub label : List ℕ
  pub leg_is : get_or (drop at sheet) 2 0 ≡ 1 → first ≡ leg (leg_fields (drop 2 (drop at sheet))) label
  pub other : (get_or (drop at sheet) 2 0 ≡ 1 → ⊥) → Bytes (drop at sheet) → (rs : List Record) → all_legs (first ∷ rs) ≡ all_legs rs

module _ {sheet : List ℕ} {at : ℕ} {left : List Record} (W : Walk sheet at left) where
  turn_at : (n : ℕ) (r : Record) → entry_of W.version (drop at sheet) ≡ entry n r → n ≡ 2 + be16 (drop at sheet) → Turn sheet at left
  turn_at n r e w =
      let z = entry_sized W.version (drop at sheet) e in
      let l = length-drop at sheet in
      let t = sym (turned W.version W.place sheet at W.number e) ∙ W.same in
      let X = records_from W.version (W.place + n) (drop (at + n) sheet) (W.number + 1) in
      let v : X.verdict ≡ Good = ap (λ (x : Result). x.verdict) t in
      record {
        first = r;
        rest = X.records;
        is = ap (λ (x : Result). x.records) (sym t);
        least = rw (← w) z.least;
        there = rw (← w) z.inside;
        next =
            record {
              version = W.version;
              place = W.place + n;
              number = W.number + 1;
              inside = omega (arith, w, z.inside, W.inside);
              same = rw (← w) (ap (λ (x : Verdict). record { records = X.records; verdict = x }) v);
            };
        long = λ k. rw (← w) (leg_there W.version (drop at sheet) n r e k).long;
        label = take (n - 34) (drop 34 (drop at sheet));
        leg_is = λ k. (leg_there W.version (drop at sheet) n r e k).is;
        other = λ k b. other_there W.version (drop at sheet) b n r e k [];
      }

  pub walk_turn : at < length sheet → Turn sheet at left
  walk_turn h = go (entry_of W.version (drop at sheet)) refl
    where
      go : (x : Entry) → entry_of W.version (drop at sheet) ≡ x → Turn sheet at left
      go flawed e =
          let l = length-drop at sheet in
          let m = records_more W.version W.place (drop at sheet) W.number (omega arith) in
          let f : records_from W.version W.place (drop at sheet) W.number ≡ stop (Refusal 12 W.number) = rw e at m in
          let q : Refusal 12 W.number ≡ Good = ap (λ (x : Result). x.verdict) (sym f ∙ W.same) in
          absurd (let z : ◌≡◌ {A = ℕ} 0 1 = cc in omega arith)
      go (entry n r) e = turn_at n r e (entry_sized W.version (drop at sheet) e).whole

-- the differences of the leg are those of its bytes
six_at_lem : (o : Origin) (s : List ℕ) → six_of o (leg_fields (drop 2 s)) ≡ six_at o s
six_at_lem o s =
    let d1 : drop 8 (drop 2 s) ≡ drop 10 s = drop-drop 8 2 s in
    let d2 : drop 20 (drop 2 s) ≡ drop 22 s = drop-drop 20 2 s in
    rw (d1, d2) refl

-- ---- the six differences by three and three

abbrev pub from_at : Origin → List ℕ → List ℤ
from_at o s = less_origin o (place_of (point_of be32 (drop 10 s)))

abbrev pub to_at : Origin → List ℕ → List ℤ
to_at o s = less_origin o (place_of (point_of be32 (drop 22 s)))

pub six_near : (o : Origin) (s : List ℕ) → too_far (six_at o s) ≡ false → (too_far (from_at o s) ≡ false) × (too_far (to_at o s) ≡ false)
six_near o s e = neither _ _ (sym (far_append (from_at o s) (to_at o s)) ∙ e)

pub from_far : (o : Origin) (s : List ℕ) → get_or s 2 0 ≡ 1 → too_far (from_at o s) ≡ true → true ≡ far_at o s
from_far o s k e = rw (eq-eqb (get_or s 2 0) 1 k, far_append (from_at o s) (to_at o s), e) refl

pub to_far : (o : Origin) (s : List ℕ) → get_or s 2 0 ≡ 1 → too_far (from_at o s) ≡ false → (r : Bool) → r ≡ too_far (to_at o s) → r ≡ far_at o s
to_far o s k e r f = rw (eq-eqb (get_or s 2 0) 1 k, far_append (from_at o s) (to_at o s), e) f

-- ---- a leg too far

-- a record that is no leg is none
far_other : (o : Origin) (m : ℕ) (r : Record) (rs : List Record) → ((ts : List Record) → all_legs (r ∷ ts) ≡ all_legs ts)
    → far_verdict o m (r ∷ rs) ≡ far_verdict o (m + 1) rs
unfolding far_verdict legs_of
far_other o m (leg g l) rs q =
    let e : g ∷ [] ≡ [] = sym (legs_leg g l []) ∙ q [] in
    absurd (let z : ◌≡◌ {A = ℕ} 0 1 = cc in omega arith)
far_other o m (station g l) rs q = refl
far_other o m (section g l) rs q = refl
far_other o m (error t) rs q = refl

far_leg : (o : Origin) (m : ℕ) {r : Record} (s l : List ℕ) (rs : List Record) → r ≡ leg (leg_fields (drop 2 s)) l
    → far_verdict o m (r ∷ rs) ≡ pick (too_far (six_at o s)) (Refusal 20 m) (far_verdict o (m + 1) rs)
unfolding far_verdict
far_leg o m s l rs e = rw (e, ← six_at_lem o s) refl

-- so many records were passed
pub record Seeking (o : Origin) (sheet : List ℕ) (at number : ℕ) : Type 0 where
  pub left : List Record
  pub walk : Walk sheet at left
  pub few : number ≤ at
  pub same : far_verdict o number left ≡ far_verdict o 0 (sheet_result sheet).records

pub seeking_starts : (o : Origin) (sheet : List ℕ) (at : ℕ) → (sheet_result sheet).verdict ≡ Good → at ≡ 3 + be16 (drop 1 sheet) → Seeking o sheet at 0
seeking_starts o sheet at e q =
    record { left = (sheet_result sheet).records; walk = rw q (walk_starts sheet e); few = omega arith; same = refl }

module _ {o : Origin} {sheet : List ℕ} {at number : ℕ} (S : Seeking o sheet at number) where
  pub seeking_ends : length sheet ≤ at → Good ≡ far_verdict o 0 (sheet_result sheet).records
  unfolding far_verdict
  seeking_ends h = rw (walk_ends S.walk h) at S.same

  module _ (h : at < length sheet) where
    pub seeking_turn : Turn sheet at S.left
    seeking_turn = walk_turn S.walk h

    pub seeking_needs : (3 ≤ length (drop at sheet)) × (get_or (drop at sheet) 2 0 ≡ 1 → 34 ≤ length (drop at sheet))
    seeking_needs =
        (omega (arith, seeking_turn.least, seeking_turn.there), λ k. omega (arith, seeking_turn.long k, seeking_turn.there))

    -- whether the first record is a leg too far
    far_first : Bytes (drop at sheet) → (b : Bool) → far_at o (drop at sheet) ≡ b
        → far_verdict o number S.left ≡ pick b (Refusal 20 number) (far_verdict o (number + 1) seeking_turn.rest)
    far_first bs b f = ap (far_verdict o number) T.is ∙ go (eqb (get_or s 2 0) 1) refl f
      where
        T : Turn sheet at S.left
        T = seeking_turn

        s : List ℕ
        s = drop at sheet

        go : (k : Bool) → eqb (get_or s 2 0) 1 ≡ k → (k && too_far (six_at o s)) ≡ b
            → far_verdict o number (T.first ∷ T.rest) ≡ pick b (Refusal 20 number) (far_verdict o (number + 1) T.rest)
        go true k f =
            far_leg o number s T.label T.rest (T.leg_is (eqb-true _ _ k))
            ∙ ap (λ (x : Bool). pick x (Refusal 20 number) (far_verdict o (number + 1) T.rest)) f
        go false k f = far_other o number T.first T.rest (T.other (eqb-false _ _ k) bs) ∙ sym (pick_false _ _ (sym f))

    pub seeking_far : Bytes (drop at sheet) → far_at o (drop at sheet) ≡ true → Refusal 20 number ≡ far_verdict o 0 (sheet_result sheet).records
    unfolding pick
    seeking_far bs f = sym (far_first bs true f) ∙ S.same

    pub seeking_on : Bytes (drop at sheet) → far_at o (drop at sheet) ≡ false → Seeking o sheet (at + (2 + be16 (drop at sheet))) (number + 1)
    unfolding pick
    seeking_on bs f =
        record {
          left = seeking_turn.rest;
          walk = seeking_turn.next;
          few = omega (arith, S.few);
          same = sym (far_first bs false f) ∙ S.same;
        }

-- ---- the numbers

-- so many numbers were written
pub record Filling (o : Origin) (sheet : List ℕ) (old : List Float) (at k : ℕ) (out : List Float) : Type 0 where
  pub left : List Record
  pub walk : Walk sheet at left
  pub near : too_far (differences o (all_legs left)) ≡ false
  pub kept : length out ≡ length old
  pub room : k + length (differences o (all_legs left)) ≤ length out
  pub same : take k out ++ numbers_over (differences o (all_legs left)) (drop k out) ≡ numbers_over (view_differences sheet o) old

pub filling_starts : (o : Origin) (sheet : List ℕ) (old : List Float) (at : ℕ) → Fits sheet o (length old) → at ≡ 3 + be16 (drop 1 sheet)
    → Filling o sheet old at 0 old
unfolding view_differences
filling_starts o sheet old at F q =
    record {
      left = (sheet_result sheet).records;
      walk = rw q (walk_starts sheet F.within.good);
      near = near_all o 0 (sheet_result sheet).records F.within.near;
      kept = refl;
      room = omega (arith, F.fits);
      same = refl;
    }

differences_leg : (o : Origin) {r : Record} (s l : List ℕ) (rs : List Record) → r ≡ leg (leg_fields (drop 2 s)) l
    → differences o (all_legs (r ∷ rs)) ≡ six_at o s ++ differences o (all_legs rs)
unfolding differences
differences_leg o s l rs e = rw (e, legs_leg (leg_fields (drop 2 s)) l rs) (ap (λ (zs : List ℤ). zs ++ differences o (all_legs rs)) (six_at_lem o s))

module _ {o : Origin} {sheet : List ℕ} {old : List Float} {at k : ℕ} {out : List Float} (F : Filling o sheet old at k out) where
  pub filling_ends : length sheet ≤ at → out ≡ numbers_over (view_differences sheet o) old
  unfolding legs_of differences numbers_over
  filling_ends h = sym (take-append-drop k out) ∙ rw (walk_ends F.walk h) at F.same

  module _ (h : at < length sheet) where
    pub filling_turn : Turn sheet at F.left
    filling_turn = walk_turn F.walk h

    -- a leg: what is needed to write it, and what is left then
    module _ (c : get_or (drop at sheet) 2 0 ≡ 1) where
      now_left : differences o (all_legs F.left) ≡ six_at o (drop at sheet) ++ differences o (all_legs filling_turn.rest)
      now_left =
          ap (λ (rs : List Record). differences o (all_legs rs)) filling_turn.is
          ∙ differences_leg o (drop at sheet) filling_turn.label filling_turn.rest (filling_turn.leg_is c)

      near_both : (too_far (six_at o (drop at sheet)) ≡ false) × (too_far (differences o (all_legs filling_turn.rest)) ≡ false)
      near_both =
          neither _ _ (sym (far_append (six_at o (drop at sheet)) (differences o (all_legs filling_turn.rest))) ∙ sym (ap too_far now_left) ∙ F.near)

      room_both : k + (6 + length (differences o (all_legs filling_turn.rest))) ≤ length out
      room_both = rw (now_left, length-append (six_at o (drop at sheet)) (differences o (all_legs filling_turn.rest))) at F.room

      pub leg_room : k + 6 ≤ length out
      leg_room = omega (arith, room_both)

      pub leg_needs : (6 ≤ length (drop k out)) × (34 ≤ length (drop at sheet)) × (too_far (six_at o (drop at sheet)) ≡ false)
      leg_needs = (rw (length-drop k out) (omega (arith, leg_room)), omega (arith, filling_turn.long c, filling_turn.there), near_both.0)

      pub filling_leg : (out' : List Float) → out' ≡ take k out ++ numbers_over (six_at o (drop at sheet)) (drop k out)
          → Filling o sheet old (at + (2 + be16 (drop at sheet))) (k + 6) out'
      filling_leg out' e =
          let l : length out' ≡ length out = ap length e ∙ length_behind out (six_at o (drop at sheet)) k leg_room in
          record {
            left = filling_turn.rest;
            walk = filling_turn.next;
            near = near_both.1;
            kept = l ∙ F.kept;
            room = omega (arith, room_both, l);
            same =
                over_next out out' (six_at o (drop at sheet)) (differences o (all_legs filling_turn.rest)) k (omega (arith, room_both)) e
                ∙ ap (λ (zs : List ℤ). take k out ++ numbers_over zs (drop k out)) (sym now_left)
                ∙ F.same;
          }

    -- another record
    pub filling_other : Bytes (drop at sheet) → (get_or (drop at sheet) 2 0 ≡ 1 → ⊥) → Filling o sheet old (at + (2 + be16 (drop at sheet))) k out
    filling_other bs c =
        let q : all_legs F.left ≡ all_legs filling_turn.rest =
        ap (λ (rs : List Record). all_legs rs) filling_turn.is ∙ filling_turn.other c bs filling_turn.rest in
        record {
          left = filling_turn.rest;
          walk = filling_turn.next;
          near = rw q at F.near;
          kept = F.kept;
          room = rw q at F.room;
          same = rw q at F.same;
        }
