-- The first bytes of a list, and the bytes of the number that they make. Assumes nothing.
use Prim.Native.Nat.{ℕ, ◌+◌, ◌*◌, ◌/◌, ◌%◌, ◌≤◌, ◌<◌}
use mathlib.Core.Path.{◌≡◌, refl, sym, ◌∙◌}
use mathlib.Core.List.{List, [], ◌∷◌}
use native.Mathlib.Omega.{arith}
use lib.ListN.{length, get_or, take}
use Rattle.format.specs.Bytes.{le32, to_le32}
use Rattle.number.specs.Four.{Four}

pub taken_4 : (l : List ℕ) → 4 ≤ length l → take 4 l ≡ get_or l 0 0 ∷ get_or l 1 0 ∷ get_or l 2 0 ∷ get_or l 3 0 ∷ []
taken_4 [] h = absurd (omega arith)
taken_4 (x0 ∷ []) h = absurd (omega arith)
taken_4 (x0 ∷ x1 ∷ []) h = absurd (omega arith)
taken_4 (x0 ∷ x1 ∷ x2 ∷ []) h = absurd (omega arith)
taken_4 (x0 ∷ x1 ∷ x2 ∷ x3 ∷ l) h = refl

pub bytes_4 : (a0 a1 a2 a3 : ℕ) → a0 < 256 → a1 < 256 → a2 < 256 → a3 < 256 → to_le32 (a0 + a1 * 256 + a2 * 65536 + a3 * 16777216) ≡ a0 ∷ a1 ∷ a2 ∷ a3 ∷ []
unfolding to_le32
bytes_4 a0 a1 a2 a3 h0 h1 h2 h3 =
    let q1 : (a0 + a1 * 256 + a2 * 65536 + a3 * 16777216) / 256 ≡ a1 + a2 * 256 + a3 * 65536 = omega arith in
    let q2 : (a0 + a1 * 256 + a2 * 65536 + a3 * 16777216) / 65536 ≡ a2 + a3 * 256 = omega arith in
    let q3 : (a0 + a1 * 256 + a2 * 65536 + a3 * 16777216) / 16777216 ≡ a3 = omega arith in
    let e0 : (a0 + a1 * 256 + a2 * 65536 + a3 * 16777216) % 256 ≡ a0 = omega arith in
    let e1 : (a1 + a2 * 256 + a3 * 65536) % 256 ≡ a1 = omega arith in
    let e2 : (a2 + a3 * 256) % 256 ≡ a2 = omega arith in
    let e3 : (a3) % 256 ≡ a3 = omega arith in
    rw (q1, q2, q3, e0, e1, e2, e3)

-- a number of four bytes is written back as they were
pub back_4 : (l : List ℕ) → 4 ≤ length l → Four l → to_le32 (le32 l) ≡ take 4 l
unfolding le32
back_4 l h f = bytes_4 _ _ _ _ f.byte_0 f.byte_1 f.byte_2 f.byte_3 ∙ sym (taken_4 l h)
