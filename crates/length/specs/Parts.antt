-- What the code's enum says of label parts. Assumes nothing.
use Rattle.std.specs.Prelude.{ℕ, ◌+◌, ◌≤◌, ◌<◌, ◌≡◌, List, length, ltb, Option, None, Some}
use Rattle.format.specs.Bytes.{pick}
use Rattle.format.specs.Items.{old_part, new_part, numbers, length_size, length_value}
use Rattle.format.specs.declared.LabelPart.{LabelPart}
use Rattle.length.specs.declared.Length.{Length}

-- the numbers are so small that an item's size is no number too large
abbrev pub Small : Option LabelPart → Type 0
Small None = Unit
Small (Some q) = (q.size ≤ 11) × (q.add < 4294967296)

-- the label part of a version
unfoldable pub part_at : ℕ → List ℕ → Option LabelPart
part_at version = pick (ltb version 8) old_part new_part

-- a part, where its numbers, its bytes and n more are all there
abbrev pub finished : Option LabelPart → List ℕ → ℕ → Option LabelPart
finished None t n = None
finished (Some q) t n = pick (ltb (length t) (q.size + q.add + n)) None (numbers q.size q.drop q.add)

-- the number at the front of t, v8, with its size; none where it is unfinished
abbrev pub LengthTold : Option Length → List ℕ → Type 0
LengthTold None t = length_size t ≡ 0
LengthTold (Some n) t = (n.size ≡ length_size t) × (n.value ≡ length_value t) × (0 < n.size) × (n.size ≤ 5) × (n.size ≤ length t) × (n.value < 4294967296)
