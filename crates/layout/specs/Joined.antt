-- A label that is joined of the first bytes of another one and a few more. Assumes nothing.
use Rattle.std.specs.Prelude.{ℕ, ◌+◌, ◌≤◌, ◌<◌, ◌≡◌, List, length}
use Rattle.format.specs.Label.{label_limit}

-- keep bytes of the label's buffer, and at most fifteen more
pub record Joint (keep : ℕ) (added bytes : List ℕ) : Type 0 where
  pub few : keep + 16 ≤ label_limit
  pub add_few : length added < 16
  pub whole : length bytes ≡ label_limit
