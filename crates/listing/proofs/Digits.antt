-- Laws of `decimal_text`: its equation, how many digits a number has, and that they spell it. Assumes nothing.
use mathlib.Core.Path.{◌≡◌, refl, ap}
use mathlib.Core.List.{List, [], ◌∷◌, ◌++◌}
use Prim.Native.Nat.{ℕ, zero, suc, ◌+◌, ◌-◌, ◌*◌, ◌/◌, ◌%◌, ◌^◌, ◌≤◌, ◌<◌}
use native.Mathlib.Nat.{pow-succ'}
use native.Mathlib.Omega.{arith}
use mathlib.Core.Bool.{Bool, true, false}
use borrow.Author.Tests.{ltb-true, ltb-false, lt-ltb, le-ltb}
use lib.ListN.{length, length-append}
use lib.Dec.{ltb}
use Rattle.format.specs.Bytes.{pick}
use Rattle.format.proofs.Basics.{pick_case}
use Rattle.format.specs.Times.{decimal_from, decimal}
use Rattle.listing.specs.Text.{digits_up, decimal_text}

-- more than enough is enough
digits_same : (f g n : ℕ) → n < f → n < g → digits_up f n ≡ digits_up g n
unfolding digits_up pick
digits_same zero g n hf hg = absurd (omega arith)
digits_same (suc f) zero n hf hg = absurd (omega arith)
digits_same (suc f) (suc g) n hf hg =
    pick_case (λ (l : List ℕ). l ≡ digits_up (suc g) n) _ _ _
    (λ e. simp e)
    (λ e. let h = ltb-false n 10 e in simp (e, digits_same f g (n / 10) (omega arith) (omega arith)))

pub decimal_low : (n : ℕ) → n < 10 → decimal_text n ≡ (48 + n) ∷ []
unfolding decimal_text digits_up pick
decimal_low n h = simp (lt-ltb n 10 h)

pub decimal_high : (n : ℕ) → 10 ≤ n → decimal_text n ≡ decimal_text (n / 10) ++ (48 + n % 10) ∷ []
unfolding decimal_text digits_up pick
decimal_high n h = simp (le-ltb n 10 h, digits_same n (suc (n / 10)) (n / 10) (omega arith) (omega arith))

-- k + 1 digits do for a number below 10 ^ (k + 1)
pub digits_few : (k n : ℕ) → n < 10 * 10 ^ k → length (decimal_text n) ≤ suc k
digits_few zero n h = let e = decimal_low n (omega arith) in omega (arith, ap length e)
digits_few (suc k) n h = go (ltb n 10) refl (digits_few k (n / 10))
  where
    go : (b : Bool) → ltb n 10 ≡ b → (n / 10 < 10 * 10 ^ k → length (decimal_text (n / 10)) ≤ suc k) → length (decimal_text n) ≤ suc (suc k)
    go true q r = let e = decimal_low n (ltb-true n 10 q) in omega (arith, ap length e)
    go false q r =
        let e = decimal_high n (ltb-false n 10 q) in
        let l = simp length-append at (ap length e) in
        let p = pow-succ' 10 k in
        omega (arith, r (omega arith))

pub decimal_few : (n : ℕ) → n < 2 ^ 64 → length (decimal_text n) ≤ 20
decimal_few n h = digits_few 19 n (omega arith)

-- ---- the digits of a number spell it

spell_append : (s : List ℕ) (b n : ℕ) → decimal_from n (s ++ b ∷ []) ≡ decimal_from n s * 10 + (b - 48)
unfolding decimal_from
spell_append [] b n = refl
spell_append (a ∷ s) b n = spell_append s b (n * 10 + (a - 48))

spells_up : (f n : ℕ) → n < f → decimal_from 0 (digits_up f n) ≡ n
unfolding digits_up decimal_from
spells_up zero n h = absurd (omega arith)
spells_up (suc f) n h =
    let r = spells_up f (n / 10) in
    pick_case (λ (l : List ℕ). decimal_from 0 l ≡ n) _ _ _
    (λ e. omega arith)
    (λ e. let k = ltb-false n 10 e in omega (arith, spell_append (digits_up f (n / 10)) (48 + n % 10) 0, r (omega arith)))

pub spells : (n : ℕ) → decimal (decimal_text n) ≡ n
unfolding decimal decimal_text
spells n = spells_up (suc n) n (omega arith)
