-- Legs and stations, whose codes end with a place: what is told of the one at the front of s for v7. Assumes nothing.
use Rattle.format.specs.declared.Point.{Point}
use Rattle.std.specs.Prelude.{ℕ, ◌+◌, ◌≤◌, List, Option, Some, None}
use Rattle.format.specs.Bytes.{be16}
use Rattle.plain.specs.declared.Form.{Form}
use Rattle.plain.specs.declared.Form.TheVariants.{Leg, Station, Narrow, Wide}
use Rattle.plain.specs.declared.Head.{Head}
use Rattle.plain.specs.declared.Item.{Item}
use Rattle.plain.specs.Plainly.{Headed, Plainly}

abbrev pub Placed : Form → Type 0
Placed Leg = Unit
Placed Station = Unit
Placed Narrow = ⊥
Placed Wide = ⊥

-- where that place stands
abbrev pub place_at : Form → ℕ
place_at Leg = 22
place_at Station = 4
place_at Narrow = 0
place_at Wide = 0

-- by its code a leg, or a station with flags that v7 has too
abbrev pub PlacedTold : Option Head → List ℕ → ℕ → Option Point → Type 0
PlacedTold None s mark position = Unit
PlacedTold (Some h) s mark position =
    Placed h.form × (0x40 ≤ h.code) × (h.code ≤ 0x9f) × ((version : ℕ) → Headed version s mark position (2 + be16 s) h.code h.form)

abbrev pub FoundPlaced : Option Item → List ℕ → ℕ → Option Point → List ℕ → Type 0
FoundPlaced None s mark position last = Unit
FoundPlaced (Some item) s mark position last =
    Placed item.form × (0x40 ≤ item.code) × (item.code ≤ 0x9f)
    × ((version : ℕ) → Plainly version s mark position last item.size item.kept item.code item.form)
