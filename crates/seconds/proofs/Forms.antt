-- The two forms of a time line, put together from their pieces. Assumes nothing.
use Rattle.std.specs.Prelude.{Option, None, Some}
use Prim.Native.Nat.{ℕ, ◌+◌, ◌*◌, ◌≤◌, ◌<◌}
use mathlib.Core.Path.{◌≡◌, refl, sym, ap, ap₂, ◌∙◌}
use mathlib.Core.List.{List, [], ◌∷◌}
use mathlib.Core.Bool.{Bool, true, false, ◌&&◌, ◌||◌}
use native.Mathlib.Omega.{arith}
use lib.ListN.{length, get_or, drop, length-drop}
use lib.Seq.{drop-cons, drop-length}
use lib.Dec.{eqb, leb}
use lib.Pointwise.{pointwise}
use borrow.Author.Tests.{leb-true, eq-eqb}
use Rattle.format.specs.Bytes.{pick, same}
use Rattle.format.specs.Times.{all_digits, decimal, field, day_number, at_form, text_marks, text_digits, text_day, text_clock, text_zone, text_form}
use Rattle.format.specs.Times.{text_seconds, seconds_of}
use Rattle.format.proofs.Basics.{both, and_true, pick_true, pick_false, same_true}
use Rattle.seconds.specs.Reading.{spelled, date_of, clock_of}
use Rattle.seconds.proofs.Digits.{told, untold, and_no}
use Rattle.seconds.proofs.Days.{real, day_small}

-- ---- the text form: digits and rules of the date, and of the clock

-- the tests of the date, a and c, and those of the clock, b and d, as document 01's form has them
no_left : (a b c d : Bool) → (a && c) ≡ false → ((a && b) && (c && d)) ≡ false
no_left true b true d e = absurd (let z : ◌≡◌ {A = ℕ} 0 1 = cc in omega arith)
no_left true b false d e = and_no b
no_left false b c d e = refl

no_right : (a b c d : Bool) → (b && d) ≡ false → ((a && b) && (c && d)) ≡ false
no_right true true c true e = absurd (let z : ◌≡◌ {A = ℕ} 0 1 = cc in omega arith)
no_right true true c false e = and_no c
no_right true false c d e = refl
no_right false b c d e = refl

-- where the marks are right but for the last, that one decides
pub last_mark : (line : List ℕ) → get_or line 3 0 ≡ 44 → get_or line 8 0 ≡ 46 → get_or line 11 0 ≡ 46 → get_or line 14 0 ≡ 32 → get_or line 17 0 ≡ 58
    → get_or line 20 0 ≡ 58
    → eqb (get_or line 23 0) 32 ≡ text_marks line
unfolding text_marks
last_mark line a b c d e f = rw (a, b, c, d, e, f)

-- ---- the zone: the last three of 27 bytes

pub zone_length : (line : List ℕ) → text_zone line ≡ true → length line ≡ 27
unfolding text_zone
zone_length line e = go (same (drop 24 line) (71 ∷ 77 ∷ 84 ∷ [])) refl e
  where
    long : (s : List ℕ) → length s ≡ 3 → drop 24 line ≡ s → length line ≡ 27
    long s l q =
        let d = length-drop 24 line in
        let k : length (drop 24 line) ≡ 3 = ap length q ∙ l in
        omega arith

    go : (b : Bool) → same (drop 24 line) (71 ∷ 77 ∷ 84 ∷ []) ≡ b → (b || same (drop 24 line) (85 ∷ 84 ∷ 67 ∷ [])) ≡ true → length line ≡ 27
    go true p f = long _ refl (same_true _ _ p)
    go false p f = long _ refl (same_true _ _ f)

pub other_length : (line : List ℕ) → (length line ≡ 27 → ⊥) → false ≡ text_zone line
other_length line h = go (text_zone line) refl
  where
    go : (b : Bool) → text_zone line ≡ b → false ≡ b
    go true e = absurd (h (zone_length line e))
    go false e = refl

-- #101: the zone byte by byte, as document 02's page of that request names it
abbrev pub last_three : List ℕ → List ℕ
last_three line = get_or line 24 0 ∷ get_or line 25 0 ∷ get_or line 26 0 ∷ []

pub zone_is : (line : List ℕ) → length line ≡ 27 → text_zone line ≡ (same (last_three line) (71 ∷ 77 ∷ 84 ∷ []) || same (last_three line) (85 ∷ 84 ∷ 67 ∷ []))
unfolding text_zone
zone_is line e =
    let x : drop 24 line ≡ get_or line 24 0 ∷ drop 25 line = drop-cons line 24 0 (omega arith) in
    let y : drop 25 line ≡ get_or line 25 0 ∷ drop 26 line = drop-cons line 25 0 (omega arith) in
    let z : drop 26 line ≡ get_or line 26 0 ∷ drop 27 line = drop-cons line 26 0 (omega arith) in
    let n : drop 27 line ≡ [] = rw e at (drop-length line) in
    rw (x, y, z, n)

-- two lists of three bytes are compared byte by byte
three : (s : List ℕ) → length s ≡ 3 → s ≡ get_or s 0 0 ∷ get_or s 1 0 ∷ get_or s 2 0 ∷ []
three [] e = absurd (omega arith)
three (a ∷ []) e = absurd (omega arith)
three (a ∷ b ∷ []) e = absurd (omega arith)
three (a ∷ b ∷ c ∷ []) e = refl
three (a ∷ b ∷ c ∷ d ∷ s) e = absurd (omega arith)

pub same_three : (s t : List ℕ) → length s ≡ 3 → length t ≡ 3
    → same s t ≡ pick (eqb (get_or s 0 0) (get_or t 0 0)) (pick (eqb (get_or s 1 0) (get_or t 1 0)) (eqb (get_or s 2 0) (get_or t 2 0)) false) false
unfolding same pick
same_three s t m n = ap₂ same (three s m) (three t n) ∙ last (eqb (get_or s 2 0) (get_or t 2 0))
  where
    last : (b : Bool)
        → pick (eqb (get_or s 0 0) (get_or t 0 0)) (pick (eqb (get_or s 1 0) (get_or t 1 0)) (pick b true false) false) false
        ≡ pick (eqb (get_or s 0 0) (get_or t 0 0)) (pick (eqb (get_or s 1 0) (get_or t 1 0)) b false) false
    last true = refl
    last false = refl

-- where the first two agree, the third decides
pub third_decides : (s t : List ℕ) → length s ≡ 3 → length t ≡ 3 → get_or s 0 0 ≡ get_or t 0 0 → get_or s 1 0 ≡ get_or t 1 0 → eqb (get_or s 2 0) (get_or t 2 0) ≡ same s t
unfolding pick
third_decides s t m n e f = sym (same_three s t m n ∙ simp (eq-eqb _ _ e, eq-eqb _ _ f))

-- `==` of two lists of bytes
pub pointwise_same : (s t : List ℕ) → pointwise eqb s t ≡ same s t
unfolding same pick
pointwise_same [] [] = refl
pointwise_same [] (y ∷ t) = refl
pointwise_same (x ∷ s) [] = refl
pointwise_same (x ∷ s) (y ∷ t) = go (eqb x y) (pointwise_same s t)
  where
    go : (b : Bool) → pointwise eqb s t ≡ same s t → (b && pointwise eqb s t) ≡ pick b (same s t) false
    go true e = e
    go false e = refl

-- one zone, else the other, as `==` tells it
zone_told : (line : List ℕ) → (pointwise eqb (drop 24 line) (71 ∷ 77 ∷ 84 ∷ []) || pointwise eqb (drop 24 line) (85 ∷ 84 ∷ 67 ∷ [])) ≡ text_zone line
unfolding text_zone
zone_told line = ap₂ (λ (a b : Bool). a || b) (pointwise_same _ _) (pointwise_same _ _)

-- the same by what the code compared
pub first_zone : (line : List ℕ) → true ≡ pointwise eqb (drop 24 line) (71 ∷ 77 ∷ 84 ∷ []) → true ≡ text_zone line
first_zone line p = rw (← zone_told line, ← p) refl

pub second_zone : (line : List ℕ) (q : Bool) → false ≡ pointwise eqb (drop 24 line) (71 ∷ 77 ∷ 84 ∷ []) → q ≡ pointwise eqb (drop 24 line) (85 ∷ 84 ∷ 67 ∷ []) → q ≡ text_zone line
second_zone line q p r = rw (← zone_told line, ← p, ← r) refl

-- the numbers of a time line in the text form
pub record Whole (line : List ℕ) (days time : ℕ) : Type 0 where
  pub is : Some (days * 86400 + time) ≡ spelled (text_form line) (text_seconds line)
  pub days_fit : days ≤ 47482
  pub time_fits : time < 86400

module _ (line : List ℕ) where
  abbrev date_digits : Bool
  date_digits = all_digits (field line 4 4) && (all_digits (field line 9 2) && all_digits (field line 12 2))

  abbrev clock_digits : Bool
  clock_digits = all_digits (field line 15 2) && (all_digits (field line 18 2) && all_digits (field line 21 2))

  abbrev days : ℕ
  days = day_number (decimal (field line 4 4)) (decimal (field line 9 2)) (decimal (field line 12 2))

  abbrev time : ℕ
  time = decimal (field line 15 2) * 3600 + (decimal (field line 18 2) * 60 + decimal (field line 21 2))

  days_small : text_day line ≡ true → days ≤ 47482
  unfolding text_day
  days_small e = day_small _ _ _ (real _ _ _ e)

  time_small : text_clock line ≡ true → time < 86400
  unfolding text_clock
  time_small e =
      let p = both (leb (decimal (field line 15 2)) 23) _ e in
      let q = both (leb (decimal (field line 18 2)) 59) _ p.1 in
      let h : decimal (field line 15 2) ≤ 23 = leb-true _ _ p.0 in
      let m : decimal (field line 18 2) ≤ 59 = leb-true _ _ q.0 in
      let s : decimal (field line 21 2) ≤ 59 = leb-true _ _ q.1 in
      omega arith

  module _ (z : text_zone line ≡ true) (m : text_marks line ≡ true) where
    form_is : text_form line ≡ ((date_digits && clock_digits) && (text_day line && text_clock line))
    unfolding text_form text_digits
    form_is = simp (z, m)

    pub no_date : None ≡ date_of line → None ≡ spelled (text_form line) (text_seconds line)
    unfolding date_of
    no_date e =
        let u = untold (date_digits && text_day line) days e in
        sym (pick_false _ _ (form_is ∙ no_left date_digits clock_digits (text_day line) (text_clock line) u))

    pub no_clock : None ≡ clock_of line → None ≡ spelled (text_form line) (text_seconds line)
    unfolding clock_of
    no_clock e =
        let u = untold (clock_digits && text_clock line) time e in
        sym (pick_false _ _ (form_is ∙ no_right date_digits clock_digits (text_day line) (text_clock line) u))

    pub whole : (d t : ℕ) → Some d ≡ date_of line → Some t ≡ clock_of line → Whole line d t
    unfolding date_of clock_of text_seconds
    whole d t e f =
        let p = told (date_digits && text_day line) days d e in
        let q = told (clock_digits && text_clock line) time t f in
        let x = both date_digits (text_day line) p.0 in
        let y = both clock_digits (text_clock line) q.0 in
        let z : text_form line ≡ true = form_is ∙ and_true (and_true x.0 y.0) (and_true x.1 y.1) in
        let v : d * 86400 + t ≡ days * 86400 + time = ap₂ (λ (a b : ℕ). a * 86400 + b) p.1 q.1 in
        record {
          is = ap Some v ∙ sym (pick_true _ _ z);
          days_fit = omega (arith, days_small x.1, p.1);
          time_fits = omega (arith, time_small y.1, q.1);
        }

  -- ---- either form

  pub by_at : (n : ℕ) → Some n ≡ spelled (at_form line) (decimal (drop 1 line)) → Some n ≡ seconds_of line
  unfolding seconds_of
  by_at n e =
      let t = told (at_form line) (decimal (drop 1 line)) n e in
      ap Some t.1 ∙ sym (pick_true _ _ t.0)

  pub by_text : (r : Option ℕ) → None ≡ spelled (at_form line) (decimal (drop 1 line)) → r ≡ spelled (text_form line) (text_seconds line) → r ≡ seconds_of line
  unfolding seconds_of
  by_text r e f = f ∙ sym (pick_false _ _ (untold (at_form line) (decimal (drop 1 line)) e))
