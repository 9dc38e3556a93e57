-- Numbers of three and five bytes, and pieces of a list. Assumes nothing.
use Rattle.std.specs.Prelude.{ℕ, ◌+◌, ◌*◌, ◌/◌, ◌%◌, List, [], ◌∷◌, get_or, take, drop}

-- the number at the front of s, the lowest byte first
unfoldable pub le24 : List ℕ → ℕ
le24 s = get_or s 0 0 + get_or s 1 0 * 256 + get_or s 2 0 * 65536

unfoldable pub le40 : List ℕ → ℕ
le40 s = get_or s 0 0 + get_or s 1 0 * 256 + get_or s 2 0 * 65536 + get_or s 3 0 * 16777216 + get_or s 4 0 * 4294967296

-- the lowest 24 bits of a number
unfoldable pub to_le24 : ℕ → List ℕ
to_le24 n = n % 256 ∷ n / 256 % 256 ∷ n / 65536 % 256 ∷ []

-- the m bytes of d from a on
unfoldable pub piece : List ℕ → ℕ → ℕ → List ℕ
piece d a m = take m (drop a d)
