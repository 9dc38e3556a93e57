-- Legs for the viewer (#104). Every whole number up to 16,777,216 is an f32 exactly, so where the answer is a count of legs each number that
-- came is the difference of its place, zero as plus zero; a leg is within reach or it refuses the call with 20, behind 12 and before 11.
-- Assumes nothing.
use Prim.Native.Nat.{ℕ, zero, suc, ◌+◌, ◌-◌, ◌*◌, ◌≤◌, ◌<◌}
use mathlib.Core.Path.{◌≡◌, refl, sym, ap, ◌∙◌, subst}
use mathlib.Core.List.{List, [], ◌∷◌, ◌++◌, map}
use mathlib.Core.Logic.{inl, inr}
use mathlib.Core.Bool.{Bool, true, false, cond, ◌||◌}
use native.Mathlib.Omega.{arith}
use native.Mathlib.Nat.{le_of_suc-le-suc, not-suc-le-zero}
use lib.ListN.{length, get_or, drop, length-append}
use lib.Dec.{T, ltb, leb→le, le→leb, lt→ltb}
use lib.IntN.{ℤ, pos, negsuc, ◌-ℤ◌, sub_ℕ, nat_abs}
use lib.Signed.{le_z, ◌≤ℤ◌}
use lib.Ieee.{Float, nan, fin, binary32, of_int, in_float, round}
use lib.Ieee.Back.{round_whole}
use borrow.Author.Tests.{ne_eqb, ltb-true, ltb-false, lt-ltb, le-ltb}
use Rattle.format.specs.Bytes.{pick, Bytes}
use Rattle.format.specs.State.{Record, leg, station, section, error}
use Rattle.format.specs.Refusals.{Result, refused, Verdict, Good, Refusal}
use Rattle.format.specs.Sheet.{layout, layout_all, header_layout, sheet_of, version_result, version_of, sheet_result, front_header, behind_front}
use Rattle.format.specs.Writing.{Writer, headed_by, filed_outcome, written_outcome, write_outcome}
use Rattle.format.specs.Reach.{axis_x, axis_y, axis_z, legs_of, ends, bounds_of, spans, unspanned, reach_from, reach_of}
use Rattle.format.specs.Viewer.{place_of, less_origin, six_of, numbers_each, differences, all_legs, farthest, too_far, far_verdict, ViewOutcome, viewed, unviewed, view_from, view_of, number_of, numbers_over, viewed_buffer, view_differences, view_buffer, Exactly, Exact, ViewExact}
use Rattle.format.specs.declared.Point.{Point}
use Rattle.format.specs.Answers.{row_of}
use Rattle.format.specs.declared.Corner.{Corner}
use Rattle.format.specs.declared.Origin.{Origin}
use Rattle.format.specs.declared.Leg.{Leg}
use Rattle.format.proofs.Basics.{pick_case, pick_true, pick_false, second_picked, neither, or_false}
use Rattle.format.proofs.ReachLaws.{takes_all, Among, Spans}
use Rattle.format.proofs.OurFiles.{IsNot, records_not}
use Rattle.format.proofs.SheetLaws.{layout_leg, records_sheet}
use Rattle.format.proofs.RoundTrip.{both_good}

-- ---- "must come out as exactly that number, zero as plus zero"

pub exact : (z : ℤ) → nat_abs z ≤ farthest → Exactly (number_of z) z
unfolding of_int
exact (pos n) h = round_whole binary32 false n h
exact (negsuc n) h = round_whole binary32 true (suc n) h

pub zero_is_plus : number_of (pos 0) ≡ fin false 0 (pos 0)
unfolding of_int round
zero_is_plus = refl

-- where the code may turn a whole number into an f32
pub in_float_lem : (z : ℤ) → nat_abs z ≤ farthest → T (in_float binary32 z)
unfolding in_float
in_float_lem (pos n) h = le→leb n farthest h
in_float_lem (negsuc n) h = lt→ltb n farthest h

-- ---- `too_far`

pub near_one : (d : ℤ) (ds : List ℤ) → too_far (d ∷ ds) ≡ false → (nat_abs d ≤ farthest) × (too_far ds ≡ false)
unfolding too_far
near_one d ds e = let z = neither _ _ e in (ltb-false farthest (nat_abs d) z.0, z.1)

pub near_three : (a b c : ℤ) → too_far (a ∷ b ∷ c ∷ []) ≡ false → (nat_abs a ≤ farthest) × (nat_abs b ≤ farthest) × (nat_abs c ≤ farthest)
near_three a b c e =
    let x = near_one a (b ∷ c ∷ []) e in
    let y = near_one b (c ∷ []) x.1 in
    (x.0, y.0, (near_one c [] y.1).0)

near_at : (ds : List ℤ) → too_far ds ≡ false → (k : ℕ) → k < length ds → nat_abs (get_or ds k (pos 0)) ≤ farthest
near_at [] e k h = absurd (not-suc-le-zero h)
near_at (d ∷ ds) e zero h = (near_one d ds e).0
near_at (d ∷ ds) e (suc k) h = near_at ds (near_one d ds e).1 k (le_of_suc-le-suc h)

pub far_append : (ds es : List ℤ) → too_far (ds ++ es) ≡ (too_far ds || too_far es)
unfolding too_far
far_append [] es = refl
far_append (d ∷ ds) es = rw (far_append ds es) (go (ltb farthest (nat_abs d)))
  where
    go : (b : Bool) → (b || (too_far ds || too_far es)) ≡ ((b || too_far ds) || too_far es)
    go true = refl
    go false = refl

-- ---- the legs

-- a leg stands first among them, no other record does
pub legs_leg : (g : Leg) (l : List ℕ) (rs : List Record) → all_legs (leg g l ∷ rs) ≡ g ∷ all_legs rs
unfolding legs_of
legs_leg g l rs = pick_true _ _ (takes_all [] l refl)

pub differences_length : (o : Origin) (gs : List Leg) → length (differences o gs) ≡ numbers_each * length gs
unfolding differences
differences_length o [] = refl
differences_length o (g ∷ gs) = omega (arith, differences_length o gs)

-- no leg is too far: no difference is
pub near_all : (o : Origin) (n : ℕ) (rs : List Record) → far_verdict o n rs ≡ Good → too_far (differences o (all_legs rs)) ≡ false
unfolding far_verdict differences legs_of too_far
near_all o n [] e = refl
near_all o n (leg g l ∷ rs) e =
    let z = second_picked (λ q. absurd (let z : ◌≡◌ {A = ℕ} 0 1 = cc in omega arith)) e in
    rw (legs_leg g l rs) (far_append (six_of o g) (differences o (all_legs rs)) ∙ or_false z.0 (near_all o (n + 1) rs z.1))
near_all o n (station s l ∷ rs) e = near_all o (n + 1) rs e
near_all o n (section s l ∷ rs) e = near_all o (n + 1) rs e
near_all o n (error t ∷ rs) e = near_all o (n + 1) rs e

-- all ends are within reach: no difference is too far
near_ends : (o : Origin) (gs : List Leg) → ((p : Point) → Among p (ends gs) → too_far (less_origin o (place_of p)) ≡ false) → too_far (differences o gs) ≡ false
unfolding ends differences too_far
near_ends o [] h = refl
near_ends o (g ∷ gs) h =
    far_append (six_of o g) (differences o gs)
    ∙ or_false (far_append (less_origin o (place_of g.from)) (less_origin o (place_of g.to)) ∙ or_false (h g.from (inl refl)) (h g.to (inr (inl refl))))
    (near_ends o gs (λ p m. h p (inr (inr m))))

-- no difference is: no leg is
pub all_near : (o : Origin) (n : ℕ) (rs : List Record) → too_far (differences o (all_legs rs)) ≡ false → far_verdict o n rs ≡ Good
unfolding far_verdict differences legs_of
all_near o n [] e = refl
all_near o n (leg g l ∷ rs) e =
    let d : too_far (six_of o g ++ differences o (all_legs rs)) ≡ false = rw (legs_leg g l rs) at e in
    let z = neither _ _ (sym (far_append (six_of o g) (differences o (all_legs rs))) ∙ d) in
    pick_false _ _ z.0 ∙ all_near o (n + 1) rs z.1
all_near o n (station s l ∷ rs) e = all_near o (n + 1) rs e
all_near o n (section s l ∷ rs) e = all_near o (n + 1) rs e
all_near o n (error t ∷ rs) e = all_near o (n + 1) rs e

-- a leg takes 34 bytes of a sheet or more, so its six numbers are fewer
layout_legs : (version : ℕ) (rs : List Record) → numbers_each * length (all_legs rs) ≤ length (layout_all version rs)
unfolding layout_all legs_of
layout_legs version [] = omega arith
layout_legs version (leg g l ∷ rs) =
    rw (legs_leg g l rs, length-append (layout version (leg g l)) (layout_all version rs), layout_leg version g l) (omega (arith, layout_legs version rs))
layout_legs version (station s l ∷ rs) = rw (length-append (layout version (station s l)) (layout_all version rs)) (omega (arith, layout_legs version rs))
layout_legs version (section s l ∷ rs) = rw (length-append (layout version (section s l)) (layout_all version rs)) (omega (arith, layout_legs version rs))
layout_legs version (error t ∷ rs) = rw (length-append (layout version (error t)) (layout_all version rs)) (omega (arith, layout_legs version rs))

pub legs_few : (sheet : List ℕ) → Bytes sheet → (sheet_result sheet).verdict ≡ Good → numbers_each * length (all_legs (sheet_result sheet).records) ≤ length sheet
unfolding sheet_of
legs_few sheet b e =
    let rs = (sheet_result sheet).records in
    let g : sheet_result sheet ≡ record { records = rs; verdict = Good } = ap (λ (v : Verdict). record { records = rs; verdict = v }) e in
    let S = records_sheet sheet b rs g in
    let v = version_of sheet in
    let h = header_layout (front_header sheet) in
    subst (λ (s : List ℕ). numbers_each * length (all_legs rs) ≤ length s) S.laid
    (rw (length-append h (layout_all v rs)) (omega (arith, layout_legs v rs)))

-- ---- the box of all legs (#102): where its corners are within reach, every leg is

-- a number counted up from s below zero
abbrev above : ℕ → ℤ → ℕ
above s (pos n) = s + n
above s (negsuc n) = s - suc n

subℕ_apart : (x y : ℕ) → nat_abs (sub_ℕ x y) ≡ (x - y) + (y - x)
subℕ_apart x y = go (ltb x y) refl
  where
    go : (t : Bool) → ltb x y ≡ t → nat_abs (cond t (negsuc (y - suc x)) (pos (x - y))) ≡ (x - y) + (y - x)
    go true e = omega (arith, ltb-true x y e)
    go false e = omega (arith, ltb-false x y e)

apart : (s : ℕ) (a b : ℤ) → nat_abs a ≤ s → nat_abs b ≤ s → nat_abs (a -ℤ b) ≡ (above s a - above s b) + (above s b - above s a)
apart s (pos a) (pos zero) ha hb = omega arith
apart s (pos a) (pos (suc b)) ha hb = omega (arith, subℕ_apart a (suc b))
apart s (pos a) (negsuc b) ha hb = omega arith
apart s (negsuc a) (pos zero) ha hb = omega (arith, subℕ_apart 0 (suc a))
apart s (negsuc a) (pos (suc b)) ha hb = omega arith
apart s (negsuc a) (negsuc b) ha hb = omega (arith, subℕ_apart (suc b) (suc a))

above_le : (s : ℕ) (a b : ℤ) → T (le_z a b) → above s a ≤ above s b
above_le s (pos a) (pos b) h = omega (arith, leb→le a b h)
above_le s (pos a) (negsuc b) h = absurd h
above_le s (negsuc a) (pos b) h = omega arith
above_le s (negsuc a) (negsuc b) h = omega (arith, leb→le b a h)

-- a number between two that are within reach is within reach
between : (a b x o : ℤ) (far : ℕ) → a ≤ℤ x → x ≤ℤ b → nat_abs (a -ℤ o) ≤ far → nat_abs (b -ℤ o) ≤ far → nat_abs (x -ℤ o) ≤ far
between a b x o far h k ha hb =
    let s = nat_abs a + nat_abs b + nat_abs x + nat_abs o in
    let ea = apart s a o (omega arith) (omega arith) in
    let eb = apart s b o (omega arith) (omega arith) in
    let ex = apart s x o (omega arith) (omega arith) in
    let la = above_le s a x h.le in
    let lb = above_le s x b k.le in
    omega arith

-- a place between two corners that are within reach
near_between : (o : Origin) (least greatest : Corner) (p : Point)
    → (least.x ≤ℤ axis_x p) × (axis_x p ≤ℤ greatest.x) → (least.y ≤ℤ axis_y p) × (axis_y p ≤ℤ greatest.y)
    → (least.z ≤ℤ axis_z p) × (axis_z p ≤ℤ greatest.z) → too_far (less_origin o least) ≡ false → too_far (less_origin o greatest) ≡ false
    → too_far (less_origin o (place_of p)) ≡ false
unfolding too_far
near_between o l g p x y z e f =
    let one : (a b c w : ℤ) → (a ≤ℤ c) × (c ≤ℤ b) → nat_abs (a -ℤ w) ≤ farthest → nat_abs (b -ℤ w) ≤ farthest → ltb farthest (nat_abs (c -ℤ w)) ≡ false
    = λ a b c w h m n. le-ltb farthest (nat_abs (c -ℤ w)) (between a b c w farthest h.0 h.1 m n) in
    let m = near_three (l.x -ℤ o.x) (l.y -ℤ o.y) (l.z -ℤ o.z) e in
    let n = near_three (g.x -ℤ o.x) (g.y -ℤ o.y) (g.z -ℤ o.z) f in
    or_false (one l.x g.x (axis_x p) o.x x m.0 n.0)
    (or_false (one l.y g.y (axis_y p) o.y y m.1 n.1)
    (or_false (one l.z g.z (axis_z p) o.z z m.2 n.2) refl))

pub box_near : (o : Origin) (gs : List Leg) (least greatest : Corner) (n : ℕ) → Spans gs (row_of least ∷ row_of greatest ∷ []) n
    → too_far (less_origin o least) ≡ false → too_far (less_origin o greatest) ≡ false → too_far (differences o gs) ≡ false
box_near o gs l g n S e f =
    near_ends o gs λ p m.
    near_between o l g p (S.x_bound.none_below p m, S.x_bound.none_above p m) (S.y_bound.none_below p m, S.y_bound.none_above p m)
    (S.z_bound.none_below p m, S.z_bound.none_above p m) e f

-- no box: the sheet is refused, or has no leg
sheet_not : (k : ℕ) → (12 ≡ k → ⊥) → (sheet : List ℕ) → IsNot k (sheet_result sheet).verdict
unfolding sheet_result version_result
sheet_not k h sheet =
    pick_case (λ (x : Result). IsNot k x.verdict) _ _ _ (λ e. records_not k h (version_of sheet) (behind_front sheet)) (λ e. h)

no_box : (v : Verdict) (gs : List Leg) (k p : ℕ) → IsNot 21 v → reach_from v gs ≡ unspanned k p
    → (k ≡ 21 → (v ≡ Good) × (gs ≡ [])) × ((k ≡ 21 → ⊥) → v ≡ Refusal k p)
unfolding pick
no_box (Refusal n q) gs k p h e = (λ t. absurd (h cc), λ t. cc)
no_box Good [] k p h e = (λ t. (refl, refl), λ t. absurd (t cc))
no_box Good (g ∷ gs) k p h e =
    let d : spans (bounds_of (ends (g ∷ gs))) (length (g ∷ gs)) ≡ unspanned k p = sym (pick_false _ _ (ne_eqb (length (g ∷ gs)) 0 (λ q. omega arith))) ∙ e in
    absurd (let z : ◌≡◌ {A = ℕ} 0 1 = cc in omega arith)

module _ (sheet : List ℕ) (o : Origin) (room k p : ℕ) (e : reach_of sheet [] ≡ unspanned k p) where
  unboxed : (k ≡ 21 → ((sheet_result sheet).verdict ≡ Good) × (all_legs (sheet_result sheet).records ≡ []))
      × ((k ≡ 21 → ⊥) → (sheet_result sheet).verdict ≡ Refusal k p)
  unfolding reach_of
  unboxed = no_box (sheet_result sheet).verdict (all_legs (sheet_result sheet).records) k p (sheet_not 21 (λ q. omega arith) sheet) e

  pub view_none : k ≡ 21 → (view_of sheet o room ≡ viewed 0) × (view_differences sheet o ≡ [])
  unfolding view_of view_differences differences too_far
  view_none t =
      let z = unboxed.0 t in
      let f : far_verdict o 0 (sheet_result sheet).records ≡ Good = all_near o 0 (sheet_result sheet).records (rw z.1 refl) in
      (rw (z.0, f, z.1) (pick_false _ _ (le-ltb room 0 (omega arith))), rw z.1 refl)

  pub view_refused : (k ≡ 21 → ⊥) → view_of sheet o room ≡ unviewed k p
  unfolding view_of
  view_refused t = rw (unboxed.1 t) refl

-- ---- the answer

-- a count of legs is the answer of a good sheet, all of whose legs are within reach, into room for their numbers
pub record Views (v : Verdict) (legs room n : ℕ) : Type 0 where
  pub good : v ≡ Good
  pub count : n ≡ legs
  pub room_there : numbers_each * legs ≤ room

pub views : (v : Verdict) (legs room n : ℕ) → view_from v legs room ≡ viewed n → Views v legs room n
views (Refusal k p) legs room n e = absurd (let z : ◌≡◌ {A = ℕ} 0 1 = cc in omega arith)
views Good legs room n e =
    let z = second_picked (λ q. absurd (let z : ◌≡◌ {A = ℕ} 0 1 = cc in omega arith)) e in
    record { good = refl; count = cc; room_there = ltb-false room (numbers_each * legs) z.0 }

pub view_views : (sheet : List ℕ) (o : Origin) (room n : ℕ) → view_of sheet o room ≡ viewed n
    → ((sheet_result sheet).verdict ≡ Good) × (far_verdict o 0 (sheet_result sheet).records ≡ Good) × (n ≡ length (all_legs (sheet_result sheet).records))
    × (numbers_each * n ≤ room)
unfolding view_of
view_views sheet o room n e =
    let v = views _ _ room n e in
    let g = both_good (sheet_result sheet).verdict (far_verdict o 0 (sheet_result sheet).records) v.good in
    (g.0, g.1, v.count, rw v.count v.room_there)

-- ---- each number that came is exactly its difference

over_at : (zs : List ℤ) (old : List Float) (k : ℕ) → k < length zs → get_or (numbers_over zs old) k nan ≡ number_of (get_or zs k (pos 0))
unfolding numbers_over
over_at zs old k h = go zs (drop (length zs) old) k h
  where
    go : (zs : List ℤ) (behind : List Float) (k : ℕ) → k < length zs → get_or (map number_of zs ++ behind) k nan ≡ number_of (get_or zs k (pos 0))
    go [] behind k h = absurd (not-suc-le-zero h)
    go (z ∷ zs) behind zero h = refl
    go (z ∷ zs) behind (suc k) h = go zs behind k (le_of_suc-le-suc h)

over_exact : (zs : List ℤ) (old : List Float) → too_far zs ≡ false → (k : ℕ) → k < length zs → Exactly (get_or (numbers_over zs old) k nan) (get_or zs k (pos 0))
over_exact zs old e k h = rw (over_at zs old k h) (exact (get_or zs k (pos 0)) (near_at zs e k h))

pub view_exact : (sheet : List ℕ) (o : Origin) (old : List Float) → ViewExact sheet o (length old) (view_buffer sheet o old)
unfolding view_buffer view_differences
view_exact sheet o old = go (view_of sheet o (length old)) refl
  where
    zs : List ℤ
    zs = differences o (all_legs (sheet_result sheet).records)

    go : (x : ViewOutcome) → view_of sheet o (length old) ≡ x → Exact x zs (viewed_buffer x zs old)
    go (viewed n) e = over_exact zs old (near_all o 0 (sheet_result sheet).records (view_views sheet o (length old) n e).1)
    go (unviewed n p) e = tt

-- ---- the refusals

-- "12": a sheet that is refused is refused alike by every writer
pub view_as_writing : (w : Writer) (sheet : List ℕ) (o : Origin) (numbers room k p : ℕ) → (sheet_result sheet).verdict ≡ Refusal k p
    → (view_of sheet o numbers ≡ unviewed k p) × (write_outcome w sheet room ≡ refused k p)
unfolding view_of write_outcome written_outcome filed_outcome
view_as_writing w sheet o numbers room k p e = (rw e refl, go (w.bars (front_header sheet)))
  where
    go : (b : Bool) → written_outcome w (front_header sheet) (headed_by b w.number (sheet_result sheet)) room ≡ refused k p
    go true = rw e refl
    go false = rw e refl

-- "then 20"
pub view_far : (sheet : List ℕ) (o : Origin) (room k p : ℕ) → (sheet_result sheet).verdict ≡ Good → far_verdict o 0 (sheet_result sheet).records ≡ Refusal k p
    → view_of sheet o room ≡ unviewed k p
unfolding view_of
view_far sheet o room k p e f = rw (e, f) refl

-- "then 11 with the count of numbers needed"
pub view_short : (sheet : List ℕ) (o : Origin) (room : ℕ) → (sheet_result sheet).verdict ≡ Good → far_verdict o 0 (sheet_result sheet).records ≡ Good
    → room < length (view_differences sheet o) → view_of sheet o room ≡ unviewed 11 (length (view_differences sheet o))
unfolding view_of view_differences
view_short sheet o room e f h =
    let l = differences_length o (all_legs (sheet_result sheet).records) in
    rw (e, f, l) (pick_true _ _ (lt-ltb room _ (rw l at h)))
