-- Bytes laid into a list from an index on. Assumes nothing.
use Rattle.std.specs.Prelude.{ℕ, ◌+◌, List, ◌++◌, length, take, drop, ltb}
use Rattle.format.specs.Bytes.{pick}

-- d with s in the place of its bytes from index k on
unfoldable pub laid : List ℕ → ℕ → List ℕ → List ℕ
laid d k s = take k d ++ (s ++ drop (k + length s) d)

-- the same where s fits
unfoldable pub laid_if : List ℕ → ℕ → List ℕ → List ℕ
laid_if d k s = pick (ltb (length d) (k + length s)) d (laid d k s)
