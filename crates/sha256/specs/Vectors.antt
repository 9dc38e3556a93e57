-- Vectors that NIST publishes, computed: `abc` (one block, FIPS 180-4's example) and the message of no bytes. Assumes nothing.
use Rattle.std.specs.Prelude.{◌≡◌, ℕ, List, [], ◌∷◌, refl}
use Rattle.format.specs.Bytes.{pick, be32, to_be32}
use Rattle.sha256.specs.Words.{plus, rotate_right, choose, majority, big_sigma0, big_sigma1, small_sigma0, small_sigma1}
use Rattle.sha256.specs.Digest.{constants, initial, bit_length, padding, next_word, grown, schedule, round_of, rounds, sum_of, compressed, blocks, digest, hashed, sha256_of}

pub record Vector : Type 0 where
  pub message : List ℕ
  pub answer : List ℕ

abbrev pub abc : Vector
abc = record {
  message = 0x61 ∷ 0x62 ∷ 0x63 ∷ [];
  answer =
      0xba ∷ 0x78 ∷ 0x16 ∷ 0xbf ∷ 0x8f ∷ 0x01 ∷ 0xcf ∷ 0xea ∷ 0x41 ∷ 0x41 ∷ 0x40 ∷ 0xde ∷ 0x5d ∷ 0xae ∷ 0x22 ∷ 0x23 ∷
      0xb0 ∷ 0x03 ∷ 0x61 ∷ 0xa3 ∷ 0x96 ∷ 0x17 ∷ 0x7a ∷ 0x9c ∷ 0xb4 ∷ 0x10 ∷ 0xff ∷ 0x61 ∷ 0xf2 ∷ 0x00 ∷ 0x15 ∷ 0xad ∷ [];
}

abbrev pub nothing : Vector
nothing = record {
  message = [];
  answer =
      0xe3 ∷ 0xb0 ∷ 0xc4 ∷ 0x42 ∷ 0x98 ∷ 0xfc ∷ 0x1c ∷ 0x14 ∷ 0x9a ∷ 0xfb ∷ 0xf4 ∷ 0xc8 ∷ 0x99 ∷ 0x6f ∷ 0xb9 ∷ 0x24 ∷
      0x27 ∷ 0xae ∷ 0x41 ∷ 0xe4 ∷ 0x64 ∷ 0x9b ∷ 0x93 ∷ 0x4c ∷ 0xa4 ∷ 0x95 ∷ 0x99 ∷ 0x1b ∷ 0x78 ∷ 0x52 ∷ 0xb8 ∷ 0x55 ∷ [];
}

abbrev Holds : Vector → Type 0
Holds v = sha256_of v.message ≡ v.answer

pub vectors : Holds abc × Holds nothing
unfolding be32 to_be32 plus rotate_right choose majority big_sigma0 big_sigma1 small_sigma0 small_sigma1 pick constants initial bit_length padding next_word grown schedule round_of rounds sum_of compressed blocks digest hashed sha256_of
vectors = (refl, refl)
