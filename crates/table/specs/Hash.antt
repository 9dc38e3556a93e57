-- A hash of a name, with a seed. No law asks anything of it: that it is a function is all that the index needs. Assumes nothing.
use Rattle.std.specs.Prelude.{ℕ, ◌+◌, ◌*◌, ◌/◌, ◌%◌, List, [], ◌∷◌}
use Rattle.std.specs.Int.Bits.{bit_xor}

-- the two halves of a product with the factor k, one over the other
unfoldable pub mix_of : ℕ → ℕ → ℕ → ℕ
mix_of k h w = bit_xor (bit_xor h w * k / 4294967296) (bit_xor h w * k % 4294967296)

-- four bytes at a time, and what is left one by one
unfoldable pub hash_from : ℕ → ℕ → List ℕ → ℕ
hash_from k h [] = h
hash_from k h (a ∷ []) = mix_of k h a
hash_from k h (a ∷ b ∷ []) = mix_of k (mix_of k h a) b
hash_from k h (a ∷ b ∷ c ∷ []) = mix_of k (mix_of k (mix_of k h a) b) c
hash_from k h (a ∷ b ∷ c ∷ d ∷ s) = hash_from k (mix_of k h (a + b * 256 + c * 65536 + d * 16777216)) s

-- the seed's high half makes the factor, an odd number; its low half is where a hash starts
unfoldable pub factor_of : ℕ → ℕ
factor_of seed = (2654435761 + seed / 8589934592 * 2) % 4294967296

unfoldable pub hash_of : ℕ → List ℕ → ℕ
hash_of seed name = hash_from (factor_of seed) (seed % 4294967296) name
