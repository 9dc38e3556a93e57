-- Words of 32 bits as numbers below 2 ^ 32, and the functions of FIPS 180-4 on them. Assumes nothing.
use Rattle.std.specs.Prelude.{ℕ, ◌+◌, ◌-◌, ◌*◌, ◌/◌, ◌%◌, ◌^◌, bit_and, bit_or, bit_xor}

-- 2.2.2: "+ Addition modulo 2 ^ w", with w = 32
unfoldable pub plus : ℕ → ℕ → ℕ
plus a b = (a + b) % 2 ^ 32

-- 3.2: SHR n (x) = x >> n
abbrev pub shift_right : ℕ → ℕ → ℕ
shift_right n x = x / 2 ^ n

-- 3.2: ROTR n (x) = (x >> n) ∨ (x << w - n)
unfoldable pub rotate_right : ℕ → ℕ → ℕ
rotate_right n x = bit_or (shift_right n x) ((x * 2 ^ (32 - n)) % 2 ^ 32)

-- 2.2.2: "¬ Bitwise complement operation"
abbrev pub complement : ℕ → ℕ
complement x = 4294967295 - x

-- 4.1.2: Ch, Maj, Σ0, Σ1, σ0 and σ1
unfoldable pub choose : ℕ → ℕ → ℕ → ℕ
choose x y z = bit_xor (bit_and x y) (bit_and (complement x) z)

unfoldable pub majority : ℕ → ℕ → ℕ → ℕ
majority x y z = bit_xor (bit_xor (bit_and x y) (bit_and x z)) (bit_and y z)

unfoldable pub big_sigma0 : ℕ → ℕ
big_sigma0 x = bit_xor (bit_xor (rotate_right 2 x) (rotate_right 13 x)) (rotate_right 22 x)

unfoldable pub big_sigma1 : ℕ → ℕ
big_sigma1 x = bit_xor (bit_xor (rotate_right 6 x) (rotate_right 11 x)) (rotate_right 25 x)

unfoldable pub small_sigma0 : ℕ → ℕ
small_sigma0 x = bit_xor (bit_xor (rotate_right 7 x) (rotate_right 18 x)) (shift_right 3 x)

unfoldable pub small_sigma1 : ℕ → ℕ
small_sigma1 x = bit_xor (bit_xor (rotate_right 17 x) (rotate_right 19 x)) (shift_right 10 x)
