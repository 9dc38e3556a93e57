-- What a function that writes a piece of a file answers and leaves. Assumes nothing.
use Rattle.std.specs.Prelude.{ℕ, ◌+◌, ◌≤◌, ◌≡◌, List, length}
use Rattle.format.specs.Bytes.{over}
use Rattle.wire.specs.Laid.{laid}

-- X, of at most m bytes, is written into d from k on where it fits, which leaves d'; the answer is where it ends
pub record Lays (d d' : List ℕ) (k : ℕ) (X : List ℕ) (m r : ℕ) : Type 0 where
  pub end : r ≡ k + length X
  pub most : r ≤ k + m
  pub kept : length d' ≡ length d
  pub laid_in : r ≤ length d → d' ≡ laid d k X

-- the same from the front of d on: the answer is the length of X, whether it fits or not
pub record Puts (d d' X : List ℕ) (m r : ℕ) : Type 0 where
  pub size : r ≡ length X
  pub most : r ≤ m
  pub kept : length d' ≡ length d
  pub written : r ≤ length d → d' ≡ over X d
