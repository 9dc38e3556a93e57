-- Bits of words, for the contracts of what reads and writes them. Assumes nothing.
use Rattle.std.specs.Prelude.{◌≡◌, ℕ, zero, suc, ◌+◌, ◌*◌, ◌<◌, ◌≤◌, List, slice_index}
use Rattle.format.specs.Summary.{bit, bit_at}

-- the sum of f 0 up to but not including f k
unfoldable pub sum_to : (ℕ → ℕ) → ℕ → ℕ
sum_to f zero = 0
sum_to f (suc k) = sum_to f k + f k

-- r is w with its bits from s on, size of them, those of v
pub record Field (w s size v r : ℕ) : Type 0 where
  pub inside : (i : ℕ) → i < size → bit r (s + i) ≡ bit v i
  pub below : (i : ℕ) → i < s → bit r i ≡ bit w i
  pub above : (i : ℕ) → s + size ≤ i → i < 64 → bit r i ≡ bit w i

-- the same of many words; words that hold none of these bits stay
pub record Wrote (ws ws' : List ℕ) (k size v : ℕ) : Type 0 where
  pub inside : (i : ℕ) → i < size → bit_at ws' (k + i) ≡ bit v i
  pub below : (i : ℕ) → i < k → bit_at ws' i ≡ bit_at ws i
  pub above : (i : ℕ) → k + size ≤ i → bit_at ws' i ≡ bit_at ws i
  pub beyond : (j : ℕ) → k + size ≤ 64 * j → slice_index ws' j ≡ slice_index ws j

-- of the bits from `at` on those with a number from lo up to hi are f's; words that hold none of these bits, and none below, stay
pub record Put (ws ws' : List ℕ) (at lo hi : ℕ) (f : ℕ → ℕ) : Type 0 where
  pub inside : (i : ℕ) → lo ≤ i → i < hi → bit_at ws' (at + i) ≡ f i
  pub below : (i : ℕ) → i < at + lo → bit_at ws' i ≡ bit_at ws i
  pub above : (i : ℕ) → at + hi ≤ i → bit_at ws' i ≡ bit_at ws i
  pub beyond : (j : ℕ) → at + hi ≤ 64 * j → slice_index ws' j ≡ slice_index ws j

-- the bits of the first w words from n on are 0
pub record Cleared (ws ws' : List ℕ) (n w : ℕ) : Type 0 where
  pub below : (i : ℕ) → i < n → bit_at ws' i ≡ bit_at ws i
  pub spare : (i : ℕ) → n ≤ i → i < 64 * w → bit_at ws' i ≡ 0
  pub beyond : (j : ℕ) → w ≤ j → slice_index ws' j ≡ slice_index ws j

-- the totals of the first w words stand behind them, k of them so far
pub record Totalled (ws ws' : List ℕ) (w k : ℕ) : Type 0 where
  pub marks : (j : ℕ) → j < w → slice_index ws' j ≡ slice_index ws j
  pub totals : (j : ℕ) → j < k → slice_index ws' (w + j) ≡ sum_to (bit_at ws) (64 * j)
  pub beyond : (j : ℕ) → w + k ≤ j → slice_index ws' j ≡ slice_index ws j

-- i is the least place with its bit set
pub record Least (w i : ℕ) : Type 0 where
  pub set : bit w i ≡ 1
  pub none : (j : ℕ) → j < i → bit w j ≡ 0
