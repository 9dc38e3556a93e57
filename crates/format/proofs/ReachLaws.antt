-- How far a survey reaches (#102): the i32 of a bit pattern; which labels take part; each bound is attained by some end of the legs that take
-- part and passed by none. Assumes nothing.
use Prim.Native.Nat.{ℕ, suc, ◌-◌, ◌≤◌, ◌<◌}
use mathlib.Core.Path.{◌≡◌, refl, sym, ap, ◌∙◌, subst}
use mathlib.Core.Logic.{◌⊎◌, inl, inr}
use mathlib.Core.List.{List, [], ◌∷◌, ◌++◌}
use mathlib.Core.Bool.{Bool, true, false, ◌||◌}
use native.Mathlib.Omega.{arith}
use native.Mathlib.Nat.{le_trans}
use lib.ListN.{length, get_or}
use lib.Dec.{T, eqb, leb→le, le→leb}
use lib.IntN.{ℤ, pos, negsuc, ◌+ℤ◌}
use lib.Signed.{mag, lt_z, le_z, ◌≤ℤ◌, ≤ℤ_refl, lt_z_no}
use mir.Syntax.{w32}
use mir.Val.{of_z}
use borrow.Author.Tests.{eq-eqb, ne_eqb, ltb-true, lt-ltb, le-ltb}
use Rattle.format.specs.Bytes.{pick, same}
use Rattle.format.specs.Refusals.{refused, Verdict, Good, Refusal}
use Rattle.format.specs.Sheet.{sheet_result, front_header}
use Rattle.format.specs.Writing.{Writer, headed_by, filed_outcome, written_outcome, write_outcome}
use Rattle.format.specs.Reach.{signed, axis_x, axis_y, axis_z, begins, dot, takes_part, legs_of, ends, lesser, greater, along, highest, lowest, bounds_of, spans, unspanned, legs_reach, reach_from, reach_of}
use Rattle.format.specs.declared.Point.{Point}
use Rattle.format.specs.declared.Leg.{Leg}
use Rattle.format.proofs.Basics.{pick_case, pick_true, pick_false, less_or_not}

-- ---- `signed`: two's complement

pub signed_low : (n : ℕ) → n < 0x80000000 → signed n ≡ pos n
unfolding signed
signed_low n h = pick_true _ _ (lt-ltb n 0x80000000 h)

pub signed_high : (n : ℕ) → 0x80000000 ≤ n → signed n ≡ negsuc (0xffffffff - n)
unfolding signed
signed_high n h = pick_false _ _ (le-ltb n 0x80000000 h)

-- the number of a high pattern is the pattern less 2 ^ 32
pub signed_less : (n : ℕ) → 0x80000000 ≤ n → n < 0x100000000 → signed n +ℤ pos 0x100000000 ≡ pos n
signed_less n h k =
    let e : 0x100000000 - suc (0xffffffff - n) ≡ n = omega arith in
    rw (signed_high n h, le-ltb 0x100000000 (suc (0xffffffff - n)) (omega arith)) (ap pos e)

-- it is an i32, and the bits of that i32 are the pattern
pub signed_fits : (n : ℕ) → mag (signed n) < 0x80000000
signed_fits n =
    less_or_not n 0x80000000
    (λ h. rw (signed_low n h) h)
    (λ h. rw (signed_high n h) (omega arith))

pub signed_bits : (n : ℕ) → n < 0x100000000 → of_z w32 (signed n) ≡ n
signed_bits n k =
    less_or_not n 0x80000000
    (λ h. rw (signed_low n h) refl)
    (λ h. rw (signed_high n h) (omega arith))

-- ---- `takes_part`

-- "The empty name takes all legs"
pub takes_all : (name label : List ℕ) → length name ≡ 0 → takes_part name label ≡ true
unfolding takes_part
takes_all name label e = rw (eq-eqb (length name) 0 e) refl

-- what is shorter than p does not begin with it
pub short_begins : (p s : List ℕ) → length s < length p → begins p s ≡ false
unfolding begins same pick
short_begins [] s h = absurd (omega arith)
short_begins (x ∷ p) [] h = refl
short_begins (x ∷ p) (y ∷ s) h = go (eqb y x) (short_begins p s (omega arith))
  where
    go : (t : Bool) → begins p s ≡ false → pick t (begins p s) false ≡ false
    go true e = e
    go false e = refl

pub begins_short : (p s : List ℕ) → begins p s ≡ true → length p ≤ length s
begins_short p s e =
    less_or_not (length s) (length p)
    (λ h. absurd (let q : true ≡ false = sym e ∙ short_begins p s h in let z : ◌≡◌ {A = ℕ} 0 1 = cc in omega arith))
    (λ h. h)

-- s does not begin with p: it is not p, and does not begin with more
begins_not : (p : List ℕ) (d : ℕ) (s : List ℕ) → begins p s ≡ false → (same s p ≡ false) × (begins (p ++ (d ∷ [])) s ≡ false)
unfolding begins same pick
begins_not [] d s e = absurd (let z : ◌≡◌ {A = ℕ} 0 1 = cc in omega arith)
begins_not (x ∷ p) d [] e = (refl, refl)
begins_not (x ∷ p) d (y ∷ s) e = go (eqb y x) e (begins_not p d s)
  where
    go : (b : Bool) → pick b (begins p s) false ≡ false → (begins p s ≡ false → (same s p ≡ false) × (begins (p ++ (d ∷ [])) s ≡ false))
        → (pick b (same s p) false ≡ false) × (pick b (begins (p ++ (d ∷ [])) s) false ≡ false)
    go true e h = h e
    go false e h = (refl, refl)

-- s begins with p, and ends there
begins_end : (p s : List ℕ) → begins p s ≡ true → length s ≡ length p → same s p ≡ true
unfolding begins same pick
begins_end [] [] b e = refl
begins_end [] (y ∷ s) b e = absurd (omega arith)
begins_end (x ∷ p) [] b e = b
begins_end (x ∷ p) (y ∷ s) b e = go (eqb y x) b (λ c. begins_end p s c (omega arith))
  where
    go : (t : Bool) → pick t (begins p s) false ≡ true → (begins p s ≡ true → same s p ≡ true) → pick t (same s p) false ≡ true
    go true b h = h b
    go false b h = b

-- s begins with p, and goes on
begins_more : (p : List ℕ) (d : ℕ) (s : List ℕ) → begins p s ≡ true → length p < length s
    → (same s p ≡ false) × (begins (p ++ (d ∷ [])) s ≡ eqb (get_or s (length p) 0) d)
unfolding begins same pick
begins_more [] d [] b h = absurd (omega arith)
begins_more [] d (y ∷ s) b h = (refl, go (eqb y d))
  where
    go : (t : Bool) → pick t true false ≡ t
    go true = refl
    go false = refl
begins_more (x ∷ p) d [] b h = absurd (omega arith)
begins_more (x ∷ p) d (y ∷ s) b h = go (eqb y x) b (λ c. begins_more p d s c (omega arith))
  where
    go : (t : Bool) → pick t (begins p s) false ≡ true → (begins p s ≡ true → (same s p ≡ false) × (begins (p ++ (d ∷ [])) s ≡ eqb (get_or s (length p) 0) d))
        → (pick t (same s p) false ≡ false) × (pick t (begins (p ++ (d ∷ [])) s) false ≡ eqb (get_or s (length p) 0) d)
    go true b h = h b
    go false b h = absurd (let z : ◌≡◌ {A = ℕ} 0 1 = cc in omega arith)

-- a name that is not empty: a label that does not begin with it takes no part, the name itself does, and a longer one where a dot comes next
pub takes_not : (name label : List ℕ) → 0 < length name → begins name label ≡ false → takes_part name label ≡ false
unfolding takes_part
takes_not name label h e =
    let z = begins_not name dot label e in
    rw (ne_eqb (length name) 0 (λ q. omega arith), z.0, z.1) refl

pub takes_same : (name label : List ℕ) → begins name label ≡ true → length label ≡ length name → takes_part name label ≡ true
unfolding takes_part
takes_same name label b e = rw (begins_end name label b e) (or_true (eqb (length name) 0))
  where
    or_true : (t : Bool) → (t || (true || begins (name ++ (dot ∷ [])) label)) ≡ true
    or_true true = refl
    or_true false = refl

pub takes_longer : (name label : List ℕ) → 0 < length name → begins name label ≡ true → length name < length label
    → takes_part name label ≡ eqb (get_or label (length name) 0) dot
unfolding takes_part
takes_longer name label h b k =
    let z = begins_more name dot label b k in
    rw (ne_eqb (length name) 0 (λ q. omega arith), z.0) z.1

-- "the name may be any length": one that is longer than a label does not take it
pub takes_no_longer : (name label : List ℕ) → length label < length name → takes_part name label ≡ false
takes_no_longer name label h = takes_not name label (omega arith) (short_begins name label h)

-- ---- the order of ℤ

below_trans : (a b c : ℤ) → T (le_z a b) → T (le_z b c) → T (le_z a c)
below_trans (pos a) (pos b) (pos c) h k = le→leb a c (le_trans (leb→le a b h) (leb→le b c k))
below_trans (pos a) (pos b) (negsuc c) h k = k
below_trans (pos a) (negsuc b) c h k = absurd h
below_trans (negsuc a) (pos b) (pos c) h k = tt
below_trans (negsuc a) (pos b) (negsuc c) h k = absurd k
below_trans (negsuc a) (negsuc b) (pos c) h k = tt
below_trans (negsuc a) (negsuc b) (negsuc c) h k = le→leb c a (le_trans (leb→le c b k) (leb→le b a h))

less_below : (a b : ℤ) → lt_z a b ≡ true → T (le_z a b)
less_below (pos a) (pos b) e = le→leb a b (omega (arith, ltb-true a b e))
less_below (pos a) (negsuc b) e = absurd (let z : ◌≡◌ {A = ℕ} 0 1 = cc in omega arith)
less_below (negsuc a) (pos b) e = tt
less_below (negsuc a) (negsuc b) e = le→leb b a (omega (arith, ltb-true b a e))

not_less : (a b : ℤ) → lt_z a b ≡ false → b ≤ℤ a
not_less a b e = lt_z_no (rw e tt)

≤ℤ-trans : (a b c : ℤ) → a ≤ℤ b → b ≤ℤ c → a ≤ℤ c
≤ℤ-trans a b c h k = record { le = below_trans a b c h.le k.le }

-- ---- `along`: the one of many that goes before all others

-- of two numbers f picks the one that R puts first
pub record Picks (f : ℤ → ℤ → ℤ) (R : ℤ → ℤ → Type 0) : Type 0 where
  pub itself : (a : ℤ) → R a a
  pub onward : (a b c : ℤ) → R a b → R b c → R a c
  pub left : (a b : ℤ) → R (f a b) a
  pub right : (a b : ℤ) → R (f a b) b
  pub either : (a b : ℤ) → (f a b ≡ a) ⊎ (f a b ≡ b)

pub least_picks : Picks lesser (λ a b. a ≤ℤ b)
least_picks =
    record {
      itself = ≤ℤ_refl;
      onward = ≤ℤ-trans;
      left = λ a b. pick_case (λ x. x ≤ℤ a) (lt_z a b) a b (λ e. ≤ℤ_refl a) (not_less a b);
      right = λ a b. pick_case (λ x. x ≤ℤ b) (lt_z a b) a b (λ e. record { le = less_below a b e }) (λ e. ≤ℤ_refl b);
      either = λ a b. pick_case (λ x. (x ≡ a) ⊎ (x ≡ b)) (lt_z a b) a b (λ e. inl refl) (λ e. inr refl);
    }

pub greatest_picks : Picks greater (λ a b. b ≤ℤ a)
greatest_picks =
    record {
      itself = ≤ℤ_refl;
      onward = λ a b c h k. ≤ℤ-trans c b a k h;
      left = λ a b. pick_case (λ x. a ≤ℤ x) (lt_z a b) b a (λ e. record { le = less_below a b e }) (λ e. ≤ℤ_refl a);
      right = λ a b. pick_case (λ x. b ≤ℤ x) (lt_z a b) b a (λ e. ≤ℤ_refl b) (not_less a b);
      either = λ a b. pick_case (λ x. (x ≡ a) ⊎ (x ≡ b)) (lt_z a b) b a (λ e. inr refl) (λ e. inl refl);
    }

-- a place is one of these
abbrev pub Among : Point → List Point → Type 0
Among p [] = ⊥
Among p (q ∷ ps) = (p ≡ q) ⊎ Among p ps

-- some place has this number for its coordinate
pub record Attained (axis : Point → ℤ) (b : ℤ) (ps : List Point) : Type 0 where
  pub place : Point
  pub among : Among place ps
  pub equal : b ≡ axis place

along_start : {f : ℤ → ℤ → ℤ} {R : ℤ → ℤ → Type 0} → Picks f R → (axis : Point → ℤ) (a : ℤ) (ps : List Point) → R (along f axis a ps) a
unfolding along
along_start P axis a [] = P.itself a
along_start {f = f} P axis a (p ∷ ps) = P.onward _ (f a (axis p)) a (along_start P axis (f a (axis p)) ps) (P.left a (axis p))

-- none passes it
pub along_none : {f : ℤ → ℤ → ℤ} {R : ℤ → ℤ → Type 0} → Picks f R → (axis : Point → ℤ) (a : ℤ) (ps : List Point) (p : Point) → Among p ps → R (along f axis a ps) (axis p)
unfolding along
along_none P axis a [] p m = absurd m
along_none {f = f} {R = R} P axis a (q ∷ ps) p (inl e) =
    subst (λ (u : Point). R (along f axis (f a (axis q)) ps) (axis u)) (sym e)
    (P.onward _ (f a (axis q)) (axis q) (along_start P axis (f a (axis q)) ps) (P.right a (axis q)))
along_none {f = f} P axis a (q ∷ ps) p (inr m) = along_none P axis (f a (axis q)) ps p m

-- it is the number at the start, or some place has it
along_some : {f : ℤ → ℤ → ℤ} {R : ℤ → ℤ → Type 0} → Picks f R → (axis : Point → ℤ) (a : ℤ) (ps : List Point) → (along f axis a ps ≡ a) ⊎ Attained axis (along f axis a ps) ps
unfolding along
along_some P axis a [] = inl refl
along_some {f = f} P axis a (q ∷ ps) = go (along_some P axis (f a (axis q)) ps) (P.either a (axis q))
  where
    go : (along f axis (f a (axis q)) ps ≡ f a (axis q)) ⊎ Attained axis (along f axis (f a (axis q)) ps) ps → (f a (axis q) ≡ a) ⊎ (f a (axis q) ≡ axis q)
        → (along f axis (f a (axis q)) ps ≡ a) ⊎ Attained axis (along f axis (f a (axis q)) ps) (q ∷ ps)
    go (inl e) (inl d) = inl (e ∙ d)
    go (inl e) (inr d) = inr (record { place = q; among = inl refl; equal = e ∙ d })
    go (inr x) d = inr (record { place = x.place; among = inr x.among; equal = x.equal })

-- from a start that no place passes, some place has it
along_attained : {f : ℤ → ℤ → ℤ} {R : ℤ → ℤ → Type 0} → Picks f R → (axis : Point → ℤ) (a : ℤ) → ((p : Point) → f a (axis p) ≡ axis p)
    → (q : Point) (ps : List Point) → Attained axis (along f axis a (q ∷ ps)) (q ∷ ps)
unfolding along
along_attained {f = f} P axis a h q ps = go (along_some P axis (f a (axis q)) ps)
  where
    go : (along f axis (f a (axis q)) ps ≡ f a (axis q)) ⊎ Attained axis (along f axis (f a (axis q)) ps) ps → Attained axis (along f axis (f a (axis q)) ps) (q ∷ ps)
    go (inl e) = record { place = q; among = inl refl; equal = e ∙ h q }
    go (inr x) = record { place = x.place; among = inr x.among; equal = x.equal }

-- no i32 passes the starts
least_first : (x : ℤ) → mag x < 0x80000000 → lesser highest x ≡ x
least_first (pos n) h = pick_false _ _ (le-ltb 0x7fffffff n (omega arith))
least_first (negsuc n) h = pick_false _ _ refl

greatest_first : (x : ℤ) → mag x < 0x80000000 → greater lowest x ≡ x
greatest_first (pos n) h = pick_true _ _ refl
greatest_first (negsuc n) h =
    less_or_not n 0x7fffffff
    (λ k. pick_true _ _ (lt-ltb n 0x7fffffff k))
    (λ k. pick_false _ _ (le-ltb n 0x7fffffff k) ∙ ap negsuc (omega arith))

-- ---- the bounds

-- "each attained by some end of these legs and passed by none of them", for one coordinate
pub record Bound (axis : Point → ℤ) (low high : ℤ) (ps : List Point) : Type 0 where
  pub least_attained : Attained axis low ps
  pub none_below : (p : Point) → Among p ps → low ≤ℤ axis p
  pub greatest_attained : Attained axis high ps
  pub none_above : (p : Point) → Among p ps → axis p ≤ℤ high

bound : (axis : Point → ℤ) → ((p : Point) → mag (axis p) < 0x80000000) → (q : Point) (ps : List Point)
    → Bound axis (along lesser axis highest (q ∷ ps)) (along greater axis lowest (q ∷ ps)) (q ∷ ps)
bound axis fits q ps =
    record {
      least_attained = along_attained least_picks axis highest (λ p. least_first (axis p) (fits p)) q ps;
      none_below = along_none least_picks axis highest (q ∷ ps);
      greatest_attained = along_attained greatest_picks axis lowest (λ p. greatest_first (axis p) (fits p)) q ps;
      none_above = along_none greatest_picks axis lowest (q ∷ ps);
    }

-- the six bounds of legs, of which there is one at least, and how many there are
pub record Spans (gs : List Leg) (b : List (List ℤ)) (n : ℕ) : Type 0 where
  pub count : n ≡ length gs
  pub some : 0 < n
  pub rows : b ≡ bounds_of (ends gs)
  pub x_bound : Bound axis_x (get_or (get_or b 0 []) 0 (pos 0)) (get_or (get_or b 1 []) 0 (pos 0)) (ends gs)
  pub y_bound : Bound axis_y (get_or (get_or b 0 []) 1 (pos 0)) (get_or (get_or b 1 []) 1 (pos 0)) (ends gs)
  pub z_bound : Bound axis_z (get_or (get_or b 0 []) 2 (pos 0)) (get_or (get_or b 1 []) 2 (pos 0)) (ends gs)

legs_span : (g : Leg) (gs : List Leg) → Spans (g ∷ gs) (bounds_of (ends (g ∷ gs))) (length (g ∷ gs))
unfolding ends bounds_of
legs_span g gs =
    let ps = g.to ∷ ends gs in
    record {
      count = refl;
      some = omega arith;
      rows = refl;
      x_bound = bound axis_x (λ p. signed_fits p.x) g.from ps;
      y_bound = bound axis_y (λ p. signed_fits p.y) g.from ps;
      z_bound = bound axis_z (λ p. signed_fits p.z) g.from ps;
    }

-- the bounds and the count of an answer are the legs' own
legs_spanned : (g : Leg) (gs : List Leg) (b : List (List ℤ)) (n : ℕ) → legs_reach (g ∷ gs) ≡ spans b n → Spans (g ∷ gs) b n
legs_spanned g gs b n e =
    let d : spans (bounds_of (ends (g ∷ gs))) (length (g ∷ gs)) ≡ spans b n = sym (pick_false _ _ (ne_eqb (length (g ∷ gs)) 0 (λ q. omega arith))) ∙ e in
    let p : bounds_of (ends (g ∷ gs)) ≡ b = cc in
    let q : length (g ∷ gs) ≡ n = cc in
    rw (sym p, sym q) (legs_span g gs)

-- an answer with bounds: the sheet is good, and they are those of the legs that take part
pub reach_spans : (sheet name : List ℕ) (b : List (List ℤ)) (n : ℕ) → reach_of sheet name ≡ spans b n
    → ((sheet_result sheet).verdict ≡ Good) × Spans (legs_of name (sheet_result sheet).records) b n
unfolding reach_of pick
reach_spans sheet name b n e = go (sheet_result sheet).verdict (legs_of name (sheet_result sheet).records) e
  where
    go : (v : Verdict) (gs : List Leg) → reach_from v gs ≡ spans b n → (v ≡ Good) × Spans gs b n
    go Good [] e = absurd (let z : ◌≡◌ {A = ℕ} 0 1 = cc in omega arith)
    go Good (g ∷ gs) e = (refl, legs_spanned g gs b n e)
    go (Refusal k p) gs e = absurd (let z : ◌≡◌ {A = ℕ} 0 1 = cc in omega arith)

-- "12 as for writing": a sheet that is refused is refused alike by every writer
pub reach_as_writing : (w : Writer) (sheet name : List ℕ) (room k p : ℕ) → (sheet_result sheet).verdict ≡ Refusal k p
    → (reach_of sheet name ≡ unspanned k p) × (write_outcome w sheet room ≡ refused k p)
unfolding reach_of write_outcome written_outcome filed_outcome
reach_as_writing w sheet name room k p e = (rw e refl, go (w.bars (front_header sheet)))
  where
    go : (b : Bool) → written_outcome w (front_header sheet) (headed_by b w.number (sheet_result sheet)) room ≡ refused k p
    go true = rw e refl
    go false = rw e refl

-- "then 21, place 0, when no leg takes part"
pub reach_none : (sheet name : List ℕ) → (sheet_result sheet).verdict ≡ Good → legs_of name (sheet_result sheet).records ≡ [] → reach_of sheet name ≡ unspanned 21 0
unfolding reach_of pick
reach_none sheet name e d = rw (e, d) refl
