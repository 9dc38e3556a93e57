-- SHA-256 of a list of bytes, after FIPS 180-4; bytes and words go the highest first (3.1). Assumes nothing.
use Rattle.std.specs.Prelude.{ℕ, zero, suc, ◌-◌, ◌*◌, ◌/◌, ◌%◌, ◌^◌, List, [], ◌∷◌, ◌++◌, length, take, drop, replicate, nat_lt, slice_index}
use Rattle.format.specs.Bytes.{pick, be32, to_be32}
use Rattle.sha256.specs.Words.{plus, choose, majority, big_sigma0, big_sigma1, small_sigma0, small_sigma1}
use Rattle.sha256.specs.declared.Hash.{Hash}

-- 4.2.2: the first 32 bits of the fractional parts of the cube roots of the first 64 primes
unfoldable pub constants : List ℕ
constants =
    0x428a2f98 ∷ 0x71374491 ∷ 0xb5c0fbcf ∷ 0xe9b5dba5 ∷ 0x3956c25b ∷ 0x59f111f1 ∷ 0x923f82a4 ∷ 0xab1c5ed5 ∷
    0xd807aa98 ∷ 0x12835b01 ∷ 0x243185be ∷ 0x550c7dc3 ∷ 0x72be5d74 ∷ 0x80deb1fe ∷ 0x9bdc06a7 ∷ 0xc19bf174 ∷
    0xe49b69c1 ∷ 0xefbe4786 ∷ 0x0fc19dc6 ∷ 0x240ca1cc ∷ 0x2de92c6f ∷ 0x4a7484aa ∷ 0x5cb0a9dc ∷ 0x76f988da ∷
    0x983e5152 ∷ 0xa831c66d ∷ 0xb00327c8 ∷ 0xbf597fc7 ∷ 0xc6e00bf3 ∷ 0xd5a79147 ∷ 0x06ca6351 ∷ 0x14292967 ∷
    0x27b70a85 ∷ 0x2e1b2138 ∷ 0x4d2c6dfc ∷ 0x53380d13 ∷ 0x650a7354 ∷ 0x766a0abb ∷ 0x81c2c92e ∷ 0x92722c85 ∷
    0xa2bfe8a1 ∷ 0xa81a664b ∷ 0xc24b8b70 ∷ 0xc76c51a3 ∷ 0xd192e819 ∷ 0xd6990624 ∷ 0xf40e3585 ∷ 0x106aa070 ∷
    0x19a4c116 ∷ 0x1e376c08 ∷ 0x2748774c ∷ 0x34b0bcb5 ∷ 0x391c0cb3 ∷ 0x4ed8aa4a ∷ 0x5b9cca4f ∷ 0x682e6ff3 ∷
    0x748f82ee ∷ 0x78a5636f ∷ 0x84c87814 ∷ 0x8cc70208 ∷ 0x90befffa ∷ 0xa4506ceb ∷ 0xbef9a3f7 ∷ 0xc67178f2 ∷ []

-- 5.3.3: the initial hash value, from the square roots of the first eight primes
unfoldable pub initial : Hash
initial = record { a = 0x6a09e667; b = 0xbb67ae85; c = 0x3c6ef372; d = 0xa54ff53a; e = 0x510e527f; f = 0x9b05688c; g = 0x1f83d9ab; h = 0x5be0cd19 }

-- ---- 5.1.1: padding a message of n bytes: "the bit 1", then zeros, the fewest with which 8 bytes are left to a multiple of 64

-- "the 64-bit block that is equal to the number l expressed using a binary representation", l the number of bits
unfoldable pub bit_length : ℕ → List ℕ
bit_length n = to_be32 ((n * 8) / 2 ^ 32 % 2 ^ 32) ++ to_be32 ((n * 8) % 2 ^ 32)

unfoldable pub padding : ℕ → List ℕ
padding n = 0x80 ∷ (replicate ((119 - n % 64) % 64) 0 ++ bit_length n)

-- ---- 6.2.2, step 1: the message schedule of a block m

-- the word t of the block, below 16
abbrev pub word_at : List ℕ → ℕ → ℕ
word_at m t = be32 (drop (4 * t) m)

-- the word t from 16 on, of the words w before it
unfoldable pub next_word : List ℕ → ℕ → ℕ
next_word w t = plus (plus (plus (small_sigma1 (slice_index w (t - 2))) (slice_index w (t - 7))) (small_sigma0 (slice_index w (t - 15)))) (slice_index w (t - 16))

unfoldable pub grown : List ℕ → ℕ → List ℕ → List ℕ
grown m t w = w ++ (pick (nat_lt t 16) (word_at m t) (next_word w t) ∷ [])

-- the first t words
unfoldable pub schedule : List ℕ → ℕ → List ℕ
schedule m zero = []
schedule m (suc t) = grown m t (schedule m t)

-- ---- steps 2 to 4: the working variables a to h

abbrev pub stepped : ℕ → ℕ → Hash → Hash
stepped t1 t2 s =
    record { a = plus t1 t2; b = s.a; c = s.b; d = s.c; e = plus s.d t1; f = s.e; g = s.f; h = s.g }

-- T1 and T2, and the variables after a round with the constant k and the word w
unfoldable pub round_of : ℕ → ℕ → Hash → Hash
round_of k w s =
    stepped (plus (plus (plus (plus s.h (big_sigma1 s.e)) (choose s.e s.f s.g)) k) w)
    (plus (big_sigma0 s.a) (majority s.a s.b s.c)) s

unfoldable pub rounds : List ℕ → List ℕ → Hash → Hash
rounds [] ws s = s
rounds (k ∷ ks) [] s = s
rounds (k ∷ ks) (w ∷ ws) s = rounds ks ws (round_of k w s)

-- step 4: the next hash value
unfoldable pub sum_of : Hash → Hash → Hash
sum_of x y =
    record {
      a = plus x.a y.a;
      b = plus x.b y.b;
      c = plus x.c y.c;
      d = plus x.d y.d;
      e = plus x.e y.e;
      f = plus x.f y.f;
      g = plus x.g y.g;
      h = plus x.h y.h;
    }

unfoldable pub compressed : Hash → List ℕ → Hash
compressed h m = sum_of h (rounds constants (schedule m 64) h)

-- ---- 6.2.2: the blocks of 64 bytes in order (5.2.1), and the digest

-- the hash value after n blocks of s
unfoldable pub blocks : ℕ → List ℕ → Hash → Hash
blocks zero s h = h
blocks (suc n) s h = blocks n (drop 64 s) (compressed h (take 64 s))

-- what is left of a message of n bytes, s, after the hash value h: s and the padding
unfoldable pub hashed : Hash → List ℕ → ℕ → Hash
hashed h s n = blocks (length (s ++ padding n) / 64) (s ++ padding n) h

-- "the resulting 256-bit message digest of the message": the words of a hash value in bytes
abbrev pub half_digest : ℕ → ℕ → ℕ → ℕ → List ℕ
half_digest a b c d = to_be32 a ++ (to_be32 b ++ (to_be32 c ++ to_be32 d))

unfoldable pub digest : Hash → List ℕ
digest s = half_digest s.a s.b s.c s.d ++ half_digest s.e s.f s.g s.h

unfoldable pub sha256_of : List ℕ → List ℕ
sha256_of m = digest (hashed initial m (length m))
