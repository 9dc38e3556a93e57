-- Bytes that make a number. Assumes nothing.
use Rattle.std.specs.Prelude.{ℕ, ◌<◌, ◌/◌, ◌%◌, List, [], ◌∷◌, get_or}

-- the first four of a list are bytes
pub record Four (s : List ℕ) : Type 0 where
  pub byte_0 : get_or s 0 0 < 256
  pub byte_1 : get_or s 1 0 < 256
  pub byte_2 : get_or s 2 0 < 256
  pub byte_3 : get_or s 3 0 < 256

-- the bytes of a number: its lowest 64 bits
unfoldable pub to_le64 : ℕ → List ℕ
to_le64 n =
    n % 256 ∷ n / 256 % 256 ∷ n / 65536 % 256 ∷ n / 16777216 % 256 ∷ n / 4294967296 % 256 ∷ n / 1099511627776 % 256 ∷ n / 281474976710656 % 256
    ∷ n / 72057594037927936 % 256 ∷ []
