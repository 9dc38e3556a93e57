-- A sheet that was read fits the buffer that it was read into. Assumes nothing.
use Prim.Native.Nat.{ℕ, ◌≤◌}
use mathlib.Core.Path.{◌≡◌, sym}
use mathlib.Core.List.{List}
use native.Mathlib.Omega.{arith}
use lib.ListN.{length}
use Rattle.format.specs.Header.{Opening, shut, opened, opening_of}
use Rattle.format.specs.Sheet.{sheet_version, sheet_of}
use Rattle.format.specs.Reading.{items_of, read_from, read_outcome}
use Rattle.format.specs.Refusals.{accepted}
use Rattle.format.proofs.RoundTrip.{accepted_means, accepted_fits}

pub read_room : (file : List ℕ) (room b n v : ℕ) → accepted b n v ≡ read_outcome file room → b ≤ room
unfolding read_outcome
read_room file room b n v e = go (opening_of file) e
  where
    go : (o : Opening) → accepted b n v ≡ read_from o file room → b ≤ room
    go (shut k p) e = absurd (let z : ◌≡◌ {A = ℕ} 0 1 = cc in omega arith)
    go (opened w p h) e = accepted_fits (accepted_means (items_of w p file).verdict (length (sheet_of sheet_version h (items_of w p file).records)) (length (items_of w p file).records) w room b n v (sym e))
