-- Bytes laid into a sheet where what stands behind them is free. Assumes nothing.
use Rattle.std.specs.Prelude.{ℕ, ◌+◌, ◌^◌, ◌≤◌, ◌<◌, ◌≡◌, List, ◌++◌, length, take}
use Rattle.format.specs.Label.{label_limit}

-- s is laid into d from index k on, where it fits, and d' comes of it: what stands behind s is free
pub record LaidFreely (d d' : List ℕ) (k : ℕ) (s : List ℕ) : Type 0 where
  pub kept : length d' ≡ length d
  pub front : k + length s ≤ length d → take (k + length s) d' ≡ take k d ++ s

-- what laying a label so needs: it is the first keep bytes of a label's buffer and the first add of the bytes that follow, which fit from k on
pub record Named (out : List ℕ) (k : ℕ) (bytes : List ℕ) (keep : ℕ) (added : List ℕ) (add : ℕ) : Type 0 where
  pub room : k + (keep + add) ≤ length out
  pub near : k < 2 ^ 63
  pub few : keep + 16 ≤ label_limit
  pub add_few : add < 16
  pub there : 16 ≤ length added
  pub whole : length bytes ≡ label_limit
