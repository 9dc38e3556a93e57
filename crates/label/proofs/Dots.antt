-- The walk back to the nth dot from the end: what is known of the bytes passed, and why the dot found is the one looked for. Assumes nothing.
use Rattle.std.specs.Prelude.{Some, None}
use mathlib.Core.Path.{◌≡◌, sym, ap, ◌∙◌}
use mathlib.Core.List.{List, [], ◌∷◌}
use mathlib.Core.Bool.{Bool, true, false, ◌&&◌}
use Prim.Native.Nat.{ℕ, zero, suc, ◌+◌, ◌-◌, ◌≤◌, ◌<◌}
use native.Mathlib.Omega.{arith}
use lib.ListN.{length, get_or, take, drop}
use lib.Seq.{drop-cons, drop-length, length-take-le, get_or-take}
use lib.Dec.{eqb}
use borrow.Author.Tests.{eq-eqb, ne_eqb}
use Rattle.format.specs.Bytes.{pick}
use Rattle.format.specs.Label.{dots, dot_from}

-- ---- a dot with n dots from it on is the nth from the end

dots_drop : (s : List ℕ) (i : ℕ) → dots (drop i s) ≤ dots s
unfolding dots pick
dots_drop [] zero = omega arith
dots_drop [] (suc i) = omega arith
dots_drop (b ∷ s) zero = omega arith
dots_drop (b ∷ s) (suc i) = go (eqb b 46) (dots_drop s i)
  where
    go : (t : Bool) → dots (drop i s) ≤ dots s → dots (drop i s) ≤ pick t (dots s + 1) (dots s)
    go true h = omega arith
    go false h = h

pub found_from : (l : List ℕ) (k i n : ℕ) → i < length l → get_or l i 0 ≡ 46 → dots (drop i l) ≡ n → dot_from n k l ≡ Some (k + i + 1)
unfolding dot_from dots pick
found_from [] k i n h e d = absurd (omega arith)
found_from (b ∷ s) k zero n h e d =
    let d' : dots s + 1 ≡ n = simp (eq-eqb b 46 e) at d in
    let z : k + 0 + 1 ≡ k + 1 = omega arith in
    simp (eq-eqb b 46 e, eq-eqb (dots s + 1) n d', z)
found_from (b ∷ s) k (suc i) n h e d =
    let r = found_from s (k + 1) i n (omega arith) e d in
    let z : k + 1 + i + 1 ≡ k + suc i + 1 = omega arith in
    let w : dots s + 1 ≡ n → ⊥ = λ q. omega (arith, dots_drop s i) in
    go (eqb b 46) (r ∙ ap Some z) (ne_eqb (dots s + 1) n w)
  where
    go : (t : Bool) → dot_from n (k + 1) s ≡ Some (k + suc i + 1) → eqb (dots s + 1) n ≡ false
        → pick (t && eqb (dots s + 1) n) (Some (k + 1)) (dot_from n (k + 1) s) ≡ Some (k + suc i + 1)
    go true r f = simp f r
    go false r f = r

-- ---- one byte further back

module _ (l : List ℕ) (n i : ℕ) (hi : 0 < i) (h : i ≤ length l) where
  back : drop (i - 1) l ≡ get_or l (i - 1) 0 ∷ drop i l
  back =
      let z : suc (i - 1) ≡ i = omega arith in
      rw z at (drop-cons l (i - 1) 0 (omega arith))

  dots_dot : get_or l (i - 1) 0 ≡ 46 → dots (drop (i - 1) l) ≡ dots (drop i l) + 1
  unfolding dots pick
  dots_dot e = rw back (simp (eq-eqb (get_or l (i - 1) 0) 46 e))

  dots_other : (get_or l (i - 1) 0 ≡ 46 → ⊥) → dots (drop (i - 1) l) ≡ dots (drop i l)
  unfolding dots pick
  dots_other e = rw back (simp (ne_eqb (get_or l (i - 1) 0) 46 e))

  from_dot : get_or l (i - 1) 0 ≡ 46 → (dots (drop i l) + 1 ≡ n → ⊥) → dot_from n (i - 1) (drop (i - 1) l) ≡ dot_from n i (drop i l)
  unfolding dot_from pick
  from_dot e w =
      let z : i - 1 + 1 ≡ i = omega arith in
      rw back (simp (eq-eqb (get_or l (i - 1) 0) 46 e, ne_eqb (dots (drop i l) + 1) n w, z))

  from_other : (get_or l (i - 1) 0 ≡ 46 → ⊥) → dot_from n (i - 1) (drop (i - 1) l) ≡ dot_from n i (drop i l)
  unfolding dot_from pick
  from_other e =
      let z : i - 1 + 1 ≡ i = omega arith in
      rw back (simp (ne_eqb (get_or l (i - 1) 0) 46 e, z))

-- ---- the walk stands at i and has passed d dots of the first len bytes of b

pub record Passed (b : List ℕ) (len n i d : ℕ) : Type 0 where
  pub few : d + i ≤ len
  pub count : d ≡ dots (drop i (take len b))
  pub none : dot_from n i (drop i (take len b)) ≡ None

module _ (b : List ℕ) (len n : ℕ) (hb : len ≤ length b) where
  all : drop len (take len b) ≡ []
  all = ap (λ (k : ℕ). drop k (take len b)) (sym (length-take-le len b hb)) ∙ drop-length (take len b)

  pub passed_start : Passed b len n len 0
  unfolding dots dot_from
  passed_start = record { few = omega arith; count = sym (ap dots all); none = ap (dot_from n len) all }

  pub passed_none : (d : ℕ) → Passed b len n 0 d → None ≡ dot_from n 0 (take len b)
  passed_none d P = sym P.none

  module _ (i d : ℕ) (hi : 0 < i) (P : Passed b len n i d) where
    inside : i ≤ length (take len b)
    inside = omega (arith, length-take-le len b hb, P.few)

    here : get_or (take len b) (i - 1) 0 ≡ get_or b (i - 1) 0
    here = get_or-take len b (i - 1) 0 (omega (arith, P.few))

    pub passed_dot : get_or b (i - 1) 0 ≡ 46 → (d + 1 ≡ n → ⊥) → Passed b len n (i - 1) (d + 1)
    passed_dot e w =
        let e' = here ∙ e in
        record {
          few = omega (arith, P.few);
          count = omega (arith, P.count, dots_dot (take len b) n i hi inside e');
          none = from_dot (take len b) n i hi inside e' (λ q. w (omega (arith, P.count))) ∙ P.none;
        }

    pub passed_other : (get_or b (i - 1) 0 ≡ 46 → ⊥) → Passed b len n (i - 1) d
    passed_other e =
        let e' : get_or (take len b) (i - 1) 0 ≡ 46 → ⊥ = λ q. e (sym here ∙ q) in
        record {
          few = omega (arith, P.few);
          count = omega (arith, P.count, dots_other (take len b) n i hi inside e');
          none = from_other (take len b) n i hi inside e' ∙ P.none;
        }

    pub passed_found : get_or b (i - 1) 0 ≡ 46 → d + 1 ≡ n → Some (i - 1 + 1) ≡ dot_from n 0 (take len b)
    passed_found e q =
        let z : 0 + (i - 1) + 1 ≡ i - 1 + 1 = omega arith in
        let e' = here ∙ e in
        let k : dots (drop (i - 1) (take len b)) ≡ n = omega (arith, P.count, dots_dot (take len b) n i hi inside e') in
        sym (found_from (take len b) 0 (i - 1) n (omega (arith, inside)) e' k ∙ ap Some z)
