-- How much of the name stayed (#107): "the number of bytes kept: the least length that the current label had since the previous item that
-- carried a label, or since the start, counting the start of that stretch and the item's own drop". Assumes nothing.
use Rattle.std.specs.Prelude.{ℕ, ◌+◌, ◌-◌, min, ◌≡◌, List, [], ◌∷◌, length, drop}
use Rattle.format.specs.Items.{Item, Stop, Shorten, Style, Move, NoDate, Date, Error, Xsect, Label, Line, Decoded, faulty, whole}
use Rattle.format.specs.State.{State, start, Record, leg, station, section, error, on, made}
use Rattle.format.specs.Reading.{next}

-- ---- the sentence

-- the least of a number and those of a list
unfoldable pub least_of : ℕ → List ℕ → ℕ
least_of n [] = n
least_of n (m ∷ ms) = min m (least_of n ms)

-- what an item's own drop leaves of a label: of an item that carries a label, the bytes before those that it appends; an item of no label
-- keeps none
abbrev pub own_drop : List ℕ → Item → ℕ
own_drop l Stop = 0
own_drop l (Shorten cut) = 0
own_drop l (Style k) = 0
own_drop l (Move p) = 0
own_drop l NoDate = 0
own_drop l (Date first last) = 0
own_drop l (Error t) = 0
own_drop l (Xsect last dims d added) = length l - d
own_drop l (Label flags p d added) = length l - d
own_drop l (Line flags p d added) = length l - d

abbrev pub drop_leaves : List ℕ → Decoded → ℕ
drop_leaves l (faulty k) = 0
drop_leaves l (whole n it) = own_drop l it

-- THE SENTENCE: the bytes kept by an item, of the lengths that the label had in its stretch. Between two items that carry a label nothing
-- lengthens it, so this is what the item's own drop leaves: the law `kept_is_drop`
abbrev pub kept_over : List ℕ → List ℕ → Decoded → ℕ
kept_over lengths l it = least_of (drop_leaves l it) lengths

-- "the previous item that carried a label": a leg, a station and a section carry one
abbrev pub carries_label : Record → List ℕ → List ℕ → List ℕ
carries_label (leg g label) fresh old = fresh
carries_label (station s label) fresh old = fresh
carries_label (section s label) fresh old = fresh
carries_label (error t) fresh old = old

-- the stretch at a place of a file: the label of the previous item that carried one (at first the empty label, "since the start"), and the
-- lengths that the current label had since then, the latest first and that at the start of the stretch last
pub data Stretch (version : ℕ) (file : List ℕ) (first : ℕ) : ℕ → State → List ℕ → List ℕ → Type 0 where
  begins : Stretch version file first first start [] (0 ∷ [])
  goes : {p : ℕ} {st : State} {before lengths : List ℕ} (n : ℕ) (st' : State) → Stretch version file first p st before lengths → next version (drop p file) st ≡ on n st'
      → Stretch version file first (p + n) st' before (length st'.label ∷ lengths)
  makes : {p : ℕ} {st : State} {before lengths : List ℕ} (n : ℕ) (r : Record) (st' : State) → Stretch version file first p st before lengths → next version (drop p file) st ≡ made n r st'
      → Stretch version file first (p + n) st' (carries_label r st'.label before) (carries_label r (length st'.label ∷ []) lengths)
