-- What the functions of this crate do to a lent buffer. Assumes nothing.
use Rattle.std.specs.Prelude.{ℕ, ◌+◌, ◌≤◌, ◌≡◌, List, length, ltb}
use Rattle.std.proofs.lemmas.List.Edits.{sets}
use Rattle.format.specs.Bytes.{pick, over}

-- text over the front of a buffer where it fits; else the buffer stays as it was
unfoldable pub fitted : List ℕ → List ℕ → List ℕ
fitted text old = pick (ltb (length old) (length text)) old (over text old)

-- no line is longer: a title of 4,096 bytes takes 12,288, and a time line of 64 takes 192
abbrev pub line_limit : ℕ
line_limit = 13000

-- a text's length, and the buffer with the text in it where it fits
pub record Wrote (text old : List ℕ) (r : ℕ) (new : List ℕ) : Type 0 where
  pub size : r ≡ length text
  pub holds : new ≡ fitted text old

-- text of at most `most` bytes, stored byte by byte from the index `at` on as far as the buffer reaches; r is the index behind it
pub record Put (most : ℕ) (text old : List ℕ) (at r : ℕ) (new : List ℕ) : Type 0 where
  pub behind : r ≡ at + length text
  pub few : r ≤ at + most
  pub holds : new ≡ sets old at text
