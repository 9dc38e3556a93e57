-- The current label and the one step that changes it, for all versions; refusals 6 and 7. Assumes nothing.
use Rattle.std.specs.Prelude.{ℕ, ◌+◌, ◌-◌, List, [], ◌∷◌, ◌++◌, ◌&&◌, length, take, eqb, ltb, Option, Some, None}
use Rattle.format.specs.Bytes.{pick}
use Rattle.format.specs.declared.Cut.{Cut}
use Rattle.format.specs.declared.Cut.TheVariants.{Empty, ToDot, Trim, Back}

-- "label over 4,096" gives 7
abbrev pub label_limit : ℕ
label_limit = 4096

-- how many dots s has
unfoldable pub dots : List ℕ → ℕ
dots [] = 0
dots (b ∷ s) = pick (eqb b 46) (dots s + 1) (dots s)

-- of k bytes and then s: what stays of them, cut back to the dot of s that is the nth from the end of s ("that dot stays")
unfoldable pub dot_from : ℕ → ℕ → List ℕ → Option ℕ
dot_from n k [] = None
dot_from n k (b ∷ s) = pick (eqb b 46 && eqb (dots s + 1) n) (Some (k + 1)) (dot_from n (k + 1) s)

-- "the bytes left after dropping 16 must hold N dots; a dot at their very end is the first"
unfoldable pub kept_to_dot : List ℕ → ℕ → Option ℕ
kept_to_dot l n = pick (ltb (length l) 16) None (dot_from n 0 (take (length l - 16) l))

-- what stays of the label l
abbrev pub kept_of : List ℕ → Cut → Option ℕ
-- v3 to v7, 00: "empty it"
kept_of l Empty = Some 0
-- v3 to v7, 01-0e: "drop 16 bytes, then back to the Nth dot from the end; that dot stays"
kept_of l (ToDot n) = kept_to_dot l n
-- v3 to v7, 10-1f: "drop N-15 bytes"; "Dropping must leave at least one byte"
kept_of l (Trim n) = pick (ltb n (length l)) (Some (length l - n)) None
-- v8: "D bytes to drop"; "D up to the whole label is allowed"; 0 for the labels of v3 to v7, which only append
kept_of l (Back d) = pick (ltb (length l) d) None (Some (length l - d))

-- the label after a step: too short (6), too long (7), or its bytes
pub data Labelled : Type 0 where
  too_short : Labelled
  too_long : Labelled
  labelled : List ℕ → Labelled

abbrev pub appended : Option ℕ → List ℕ → List ℕ → Labelled
appended (Some k) l added = pick (ltb label_limit (k + length added)) too_long (labelled (take k l ++ added))
appended None l added = too_short

-- THE label step: what stays of the label, then the bytes to append
unfoldable pub label_step : List ℕ → Cut → List ℕ → Labelled
label_step l cut added = appended (kept_of l cut) l added
