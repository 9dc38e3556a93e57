-- Laws of numbers and text as they print: a number's sign, and each way that a byte and a text go. Assumes nothing.
use mathlib.Core.Path.{◌≡◌, refl, sym, ap}
use mathlib.Core.List.{List, [], ◌∷◌, ◌++◌, append_assoc, append-nil}
use mathlib.Core.Bool.{true, false}
use Prim.Native.Nat.{ℕ, ◌+◌, ◌-◌, ◌*◌, ◌/◌, ◌%◌, ◌≤◌, ◌<◌}
use native.Mathlib.Numerals.{add-one}
use native.Mathlib.Omega.{arith}
use borrow.Author.Tests.{lt-ltb, le-ltb}
use lib.ListN.{length, take, get_or}
use lib.Seq.{take-suc}
use Rattle.format.specs.Bytes.{pick, same}
use Rattle.wire.proofs.Laws.{same_false}
use Rattle.listing.specs.Text.{decimal_text, signed_text, hex_digit, plain, escaped_byte, escaped, text_of}
use Rattle.listing.specs.Puts.{Put}
use Rattle.listing.proofs.Stores.{put_then, put_as}

-- ---- numbers

pub signed_plus : (n : ℕ) → n < 2147483648 → decimal_text n ≡ signed_text n
unfolding signed_text pick
signed_plus n h = simp (lt-ltb _ _ h)

pub signed_minus : (n : ℕ) → 2147483648 ≤ n → 45 ∷ decimal_text (4294967296 - n) ≡ signed_text n
unfolding signed_text pick
signed_minus n h = simp (le-ltb _ _ h)

-- ---- a byte of text

pub byte_plain : (b : ℕ) → plain b ≡ true → b ∷ [] ≡ escaped_byte b
unfolding escaped_byte pick
byte_plain b e = simp e

pub byte_hex : (b : ℕ) → plain b ≡ false → 37 ∷ hex_digit (b / 16) ∷ hex_digit (b % 16) ∷ [] ≡ escaped_byte b
unfolding escaped_byte pick
byte_hex b e = simp e

-- ---- text

escaped_append : (s t : List ℕ) → escaped (s ++ t) ≡ escaped s ++ escaped t
unfolding escaped
escaped_append [] t = refl
escaped_append (b ∷ s) t = rw (escaped_append s t) (sym (append_assoc (escaped_byte b) (escaped s) (escaped t)))

escaped_next : (s : List ℕ) (i : ℕ) → i < length s → escaped (take i s) ++ escaped_byte (get_or s i 0) ≡ escaped (take (i + 1) s)
unfolding escaped
escaped_next s i h = rw (add-one i, take-suc s i 0 h, escaped_append (take i s) (get_or s i 0 ∷ []), append-nil)

-- one byte more of a text
pub escape_next : (s : List ℕ) {d d' d'' : List ℕ} {k r r' i : ℕ} → i < length s → Put (3 * i) (escaped (take i s)) d k r d'
    → Put 3 (escaped_byte (get_or s i 0)) d' r r' d''
    → Put (3 * (i + 1)) (escaped (take (i + 1) s)) d k r' d''
escape_next s {i = i} h p q = put_as (put_then p q) (omega arith) (escaped_next s i h)

pub text_empty : (s : List ℕ) → length s ≡ 0 → 45 ∷ [] ≡ text_of s
unfolding text_of pick same
text_empty [] h = refl
text_empty (b ∷ s) h = absurd (omega arith)

module _ (s : List ℕ) (h : length s ≡ 0 → ⊥) where
  text_some : text_of s ≡ pick (same s (45 ∷ [])) (37 ∷ 50 ∷ 100 ∷ []) (escaped s)
  unfolding text_of pick
  text_some = simp (same_false s [] (λ e. h (ap length e)))

  pub text_dash : same s (45 ∷ []) ≡ true → 37 ∷ 50 ∷ 100 ∷ [] ≡ text_of s
  unfolding pick
  text_dash e = rw text_some (simp e)

  pub text_other : same s (45 ∷ []) ≡ false → escaped s ≡ text_of s
  unfolding pick
  text_other e = rw text_some (simp e)
