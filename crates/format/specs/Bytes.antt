-- Numbers in bytes, lists of bytes, and what a lent buffer holds at the end. Assumes nothing.
use Rattle.std.specs.Prelude.{ℕ, ◌+◌, ◌*◌, ◌/◌, ◌%◌, ◌<◌, List, [], ◌∷◌, ◌++◌, Bool, true, false, length, get_or, drop, eqb, ltb}

-- the first of two where the test passes, else the second
unfoldable pub pick {ℓ} : {X : Type ℓ} → Bool → X → X → X
pick true x y = x
pick false x y = y

-- ---- "All numbers are little-endian" (items); "numbers big-endian" (sheet).
-- Coordinates, dimensions and traverse errors are i32 and are kept as their bit patterns, numbers below 2 ^ 32.

-- the number at the front of s
unfoldable pub le16 : List ℕ → ℕ
le16 s = get_or s 0 0 + get_or s 1 0 * 256

unfoldable pub le32 : List ℕ → ℕ
le32 s = get_or s 0 0 + get_or s 1 0 * 256 + get_or s 2 0 * 65536 + get_or s 3 0 * 16777216

unfoldable pub be16 : List ℕ → ℕ
be16 s = get_or s 0 0 * 256 + get_or s 1 0

unfoldable pub be32 : List ℕ → ℕ
be32 s = get_or s 0 0 * 16777216 + get_or s 1 0 * 65536 + get_or s 2 0 * 256 + get_or s 3 0

-- the bytes of a number: its lowest 16 or 32 bits
unfoldable pub to_le16 : ℕ → List ℕ
to_le16 n = n % 256 ∷ n / 256 % 256 ∷ []

unfoldable pub to_le32 : ℕ → List ℕ
to_le32 n = n % 256 ∷ n / 256 % 256 ∷ n / 65536 % 256 ∷ n / 16777216 % 256 ∷ []

unfoldable pub to_be16 : ℕ → List ℕ
to_be16 n = n / 256 % 256 ∷ n % 256 ∷ []

unfoldable pub to_be32 : ℕ → List ℕ
to_be32 n = n / 16777216 % 256 ∷ n / 65536 % 256 ∷ n / 256 % 256 ∷ n % 256 ∷ []

-- an i16's bit pattern as that of the same number in an i32
unfoldable pub widened : ℕ → ℕ
widened n = pick (ltb n 32768) n (n + 4294901760)

-- ---- lists of bytes

-- a list of bytes
abbrev pub Bytes : List ℕ → Type 0
Bytes s = (i : ℕ) → get_or s i 0 < 256

-- whether two lists are the same
unfoldable pub same : List ℕ → List ℕ → Bool
same [] [] = true
same [] (y ∷ t) = false
same (x ∷ s) [] = false
same (x ∷ s) (y ∷ t) = pick (eqb x y) (same s t) false

-- "Success writes from the front, leaves the rest": old with new in the place of its first bytes
unfoldable pub over : List ℕ → List ℕ → List ℕ
over new old = new ++ drop (length new) old
