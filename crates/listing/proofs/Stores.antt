-- Laws of bytes stored one after another as far as a buffer reaches, and of text that is put in pieces. Assumes nothing.
use mathlib.Core.Path.{◌≡◌, refl, sym, ap, ap₂, ◌∙◌}
use mathlib.Core.List.{List, [], ◌∷◌, ◌++◌}
use Prim.Native.Nat.{ℕ, suc, ◌+◌, ◌≤◌, ◌<◌}
use native.Mathlib.Nat.{add-zero, zero-add}
use native.Mathlib.Numerals.{add-one}
use native.Mathlib.Omega.{arith}
use borrow.Author.Tests.{lt-ltb, le-ltb}
use lib.ListN.{length, take, drop, get_or, set, length-append}
use lib.Seq.{sets, sets-eq, length-sets, set_out, take_at, take-suc}
use Rattle.format.specs.Bytes.{pick, over}
use Rattle.listing.specs.Puts.{fitted, Wrote, Put}

-- one text behind another is both together
pub sets_next : (s t d : List ℕ) (k : ℕ) → sets (sets d k s) (k + length s) t ≡ sets d k (s ++ t)
sets_next [] t d k = rw (add-zero k)
sets_next (b ∷ s) t d k =
    let e : k + suc (length s) ≡ suc k + length s = omega arith in
    rw e (sets_next s t (set d k b) (suc k))

pub sets_over : (s d : List ℕ) → length s ≤ length d → sets d 0 s ≡ over s d
unfolding over
sets_over s d h = let h' : 0 + length s ≤ length d = omega arith in sets-eq s d 0 h' ∙ rw zero-add

-- ---- `Put`

pub put_none : (d : List ℕ) (k : ℕ) → Put 0 [] d k k d
put_none d k = record { behind = omega arith; few = omega arith; holds = refl }

pub put_then : {m n : ℕ} {s t d d' d'' : List ℕ} {k r r' : ℕ} → Put m s d k r d' → Put n t d' r r' d'' → Put (m + n) (s ++ t) d k r' d''
put_then {m} {n} {s} {t} {d} {d'} {d''} {k} {r} {r'} p q =
    let l = length-append s t in
    record {
      behind = omega (arith, p.behind, q.behind);
      few = omega (arith, p.few, q.few);
      holds = q.holds ∙ ap₂ (λ (x : List ℕ) (i : ℕ). sets x i t) p.holds p.behind ∙ sets_next s t d k;
    }

-- the same text, and room for more
pub put_as : {m n : ℕ} {s t d d' : List ℕ} {k r : ℕ} → Put m s d k r d' → m ≤ n → s ≡ t → Put n t d k r d'
put_as {m} {n} {s} {t} {d} {d'} {k} {r} p h e =
    record {
      behind = p.behind ∙ ap (λ (x : List ℕ). k + length x) e;
      few = omega (arith, p.few);
      holds = p.holds ∙ ap (sets d k) e;
    }

pub put_length : {m : ℕ} {s d d' : List ℕ} {k r : ℕ} → Put m s d k r d' → length d' ≡ length d
put_length {m} {s} {d} {d'} {k} {r} p = ap length p.holds ∙ length-sets d k s

-- a text of no more bytes
pub put_within : {m n : ℕ} {s d d' : List ℕ} {k r : ℕ} → Put m s d k r d' → length s ≤ n → Put n s d k r d'
put_within p h = record { behind = p.behind; few = omega (arith, p.behind); holds = p.holds }

-- ---- `put`

pub put_past : (d : List ℕ) (k b : ℕ) → length d ≤ k → Put 1 (b ∷ []) d k (k + 1) d
put_past d k b h = record { behind = refl; few = omega arith; holds = sym (set_out d k b h) }

pub put_here : (d : List ℕ) (k b : ℕ) → Put 1 (b ∷ []) d k (k + 1) (set d k b)
put_here d k b = record { behind = refl; few = omega arith; holds = refl }

-- one byte more of a text
pub put_next : (s : List ℕ) {d d' d'' : List ℕ} {k r r' i : ℕ} → i < length s → Put i (take i s) d k r d' → Put 1 (get_or s i 0 ∷ []) d' r r' d''
    → Put (i + 1) (take (i + 1) s) d k r' d''
put_next s {i = i} h p q = put_as (put_then p q) (omega arith) (rw (add-one i) (sym (take-suc s i 0 h)))

-- ---- a line: measured first on an empty part, which stays empty, and then put where it fits

nothing : (x : List ℕ) → length x ≡ 0 → x ≡ []
nothing [] h = refl
nothing (b ∷ x) h = absurd (omega arith)

module _ (text d : List ℕ) where
  pub wrote_none : (r : ℕ) → r ≡ length text → length d < r → Wrote text d r d
  unfolding fitted pick
  wrote_none r e h = let h' : length d < length text = omega arith in record { size = e; holds = simp (lt-ltb _ _ h') }

  pub wrote_all : {m n r : ℕ} {new : List ℕ} → n ≡ length text → n ≤ length d → Put m text d 0 r new → Wrote text d r new
  unfolding fitted pick
  wrote_all e h p =
      let h' : length text ≤ length d = omega arith in
      record { size = omega (arith, p.behind); holds = p.holds ∙ sets_over text d h' ∙ simp (le-ltb _ _ h') }

module _ (text d part x : List ℕ) {m n : ℕ} (e : length part ≡ 0) (p : Put m text part 0 n x) where
  still : x ++ d ≡ d
  still = rw (nothing x (put_length p ∙ e))

  size : n ≡ length text
  size = omega (arith, p.behind)

  pub line_unfit : length (x ++ d) < n → Wrote text d n (x ++ d) × (n ≤ m)
  line_unfit h = rw still (wrote_none text d n size (rw still at h), omega (arith, p.few))

  pub line_fits : {r : ℕ} {new : List ℕ} → n ≤ length (x ++ d) → Put m text (x ++ d) 0 r new → Wrote text d r new × (r ≤ m)
  line_fits h q = (wrote_all text d size (rw still at h) (rw still at q), omega (arith, q.few))

-- a text that fits stands at the front
pub wrote_front : (text old new : List ℕ) (r : ℕ) → Wrote text old r new → r ≤ length old → take r new ≡ text
unfolding fitted over pick
wrote_front text old new r W h =
    let z : length text ≤ length old = omega (arith, W.size) in
    rw (W.holds, W.size, le-ltb (length old) (length text) z) (take_at text (drop (length text) old) (length text) refl)
