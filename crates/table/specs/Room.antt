-- What the lent room holds: nodes of 32 bytes from its front on, and the names, from its end downwards. Assumes nothing.
use Rattle.std.specs.Prelude.{ℕ, ◌+◌, ◌*◌, ◌/◌, ◌%◌, ◌-◌, List, [], ◌∷◌, length, get_or, drop}
use Rattle.format.specs.Bytes.{le16, le32}
use Rattle.wire.specs.Laid.{laid}
use Rattle.piece.specs.Pieces.{le24, le40, to_le24, piece}
use Rattle.format.specs.declared.Point.{Point}

-- ---- node i: start 5, size 2, hash 4, two heads of 3, next 3, point 12

-- its name's start, counted from the room's end
unfoldable pub start_at : List ℕ → ℕ → ℕ
start_at r i = le40 (drop (32 * i) r)

unfoldable pub size_at : List ℕ → ℕ → ℕ
size_at r i = le16 (drop (32 * i + 5) r)

unfoldable pub hash_at : List ℕ → ℕ → ℕ
hash_at r i = le32 (drop (32 * i + 7) r)

-- the node behind it in its chain, counted from 1; 0 for none
unfoldable pub next_at : List ℕ → ℕ → ℕ
next_at r i = le24 (drop (32 * i + 17) r)

unfoldable pub point_at : List ℕ → ℕ → Point
point_at r i = record { x = le32 (drop (32 * i + 20) r); y = le32 (drop (32 * i + 24) r); z = le32 (drop (32 * i + 28) r) }

unfoldable pub name_at : List ℕ → ℕ → List ℕ
name_at r i = piece r (length r - start_at r i) (size_at r i)

-- ---- the first node of chain b, counted from 1; 0 for none

abbrev pub head_spot : ℕ → ℕ
head_spot b = 32 * (b / 2) + 11 + 3 * (b % 2)

unfoldable pub head_at : List ℕ → ℕ → ℕ
head_at r b = le24 (drop (head_spot b) r)

-- ---- what is written

unfoldable pub front_of : ℕ → ℕ → List ℕ → List ℕ
front_of start size h =
    start % 256 ∷ start / 256 % 256 ∷ start / 65536 % 256 ∷ start / 16777216 % 256 ∷ start / 4294967296 % 256 ∷ size % 256 ∷ size / 256 % 256
    ∷ get_or h 0 0 ∷ get_or h 1 0 ∷ get_or h 2 0 ∷ get_or h 3 0 ∷ []

unfoldable pub node_of : List ℕ → List ℕ → List ℕ → List ℕ → List ℕ
node_of f x y z =
    get_or f 0 0 ∷ get_or f 1 0 ∷ get_or f 2 0 ∷ get_or f 3 0 ∷ get_or f 4 0 ∷ get_or f 5 0 ∷ get_or f 6 0 ∷ get_or f 7 0 ∷ get_or f 8 0 ∷ get_or f 9 0 ∷ get_or f 10 0
    ∷ 0 ∷ 0 ∷ 0 ∷ 0 ∷ 0 ∷ 0 ∷ 0 ∷ 0 ∷ 0
    ∷ get_or x 0 0 ∷ get_or x 1 0 ∷ get_or x 2 0 ∷ get_or x 3 0
    ∷ get_or y 0 0 ∷ get_or y 1 0 ∷ get_or y 2 0 ∷ get_or y 3 0
    ∷ get_or z 0 0 ∷ get_or z 1 0 ∷ get_or z 2 0 ∷ get_or z 3 0 ∷ []

-- node i put at the front of chain b
unfoldable pub hung_at : List ℕ → ℕ → ℕ → List ℕ
hung_at r b i = laid (laid r (32 * i + 17) (to_le24 (head_at r b))) (head_spot b) (to_le24 (i + 1))

-- node i with no heads
unfoldable pub blank : List ℕ → ℕ → List ℕ
blank r i = laid r (32 * i + 11) (0 ∷ 0 ∷ 0 ∷ 0 ∷ 0 ∷ 0 ∷ [])
