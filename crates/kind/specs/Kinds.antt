-- What the code's enums say of kinds of items. Assumes nothing.
use Rattle.std.specs.Prelude.{ℕ, ◌≡◌, List, Bool, drop, ltb, Option}
use Rattle.format.specs.Bytes.{pick, le16, le32, widened}
use Rattle.format.specs.Items.{Item, Stop as stop_item, Shorten as shorten_item, Style as style_item, NoDate as no_date_item, Xsect, Label as station_placed, Line as line_placed, Decoded, whole, reserved, labelled_item, point_of, dimensions_of, move_item, error_item, day_item, span_item, days_item, seconds_item, two_seconds_item, new_low_item, new_high_item, numbers}
use Rattle.format.specs.declared.LabelPart.{LabelPart}
use Rattle.length.specs.Parts.{finished}
use Rattle.kind.specs.declared.Tail.{Tail}
use Rattle.kind.specs.declared.Tail.TheVariants.{Short, Long, Station, Line}
use Rattle.kind.specs.declared.Kind.{Kind}
use Rattle.kind.specs.declared.Kind.TheVariants.{Reserved, Stop, Shorten, Style, Move, NoDate, Day, Span, Days, Seconds, TwoSeconds, Error, Labelled}

-- ---- what follows the label

-- how many bytes
abbrev pub tail_of : Tail → ℕ
tail_of (Short last) = 8
tail_of (Long last) = 16
tail_of (Station flags) = 12
tail_of (Line flags) = 12

-- the item, of D, the bytes to append and what follows them
abbrev pub make_of : Tail → ℕ → List ℕ → List ℕ → Item
make_of (Short last) d added rest = Xsect last (dimensions_of 2 (λ s. widened (le16 s)) rest) d added
make_of (Long last) d added rest = Xsect last (dimensions_of 4 le32 rest) d added
make_of (Station flags) d added rest = station_placed flags (point_of le32 rest) d added
make_of (Line flags) d added rest = line_placed flags (point_of le32 rest) d added

-- ---- kinds

-- an item with a label, after its code; a bare one has no label part
unfoldable pub labelled_by : Bool → Tail → (List ℕ → Option LabelPart) → List ℕ → Decoded
labelled_by bare tail p t = labelled_item (pick bare (numbers 0 0 0) (p t)) t (tail_of tail) (make_of tail)

-- the label part of an item at the front of s, where it is finished and the rest of the item is there
abbrev pub part_there : Bool → Tail → (List ℕ → Option LabelPart) → List ℕ → Option LabelPart
part_there bare tail p s = finished (pick bare (numbers 0 0 0) (p (drop 1 s))) (drop 1 s) (tail_of tail)

-- the item at the front of s, where its code is of the kind, and p reads a label part
abbrev pub kind_item : Kind → (List ℕ → Option LabelPart) → List ℕ → Decoded
kind_item Reserved p s = reserved
kind_item Stop p s = whole 1 stop_item
kind_item (Shorten cut) p s = whole 1 (shorten_item cut)
kind_item (Style style) p s = whole 1 (style_item style)
kind_item Move p s = move_item s
kind_item NoDate p s = whole 1 no_date_item
kind_item Day p s = day_item s
kind_item Span p s = span_item s
kind_item Days p s = days_item s
kind_item Seconds p s = seconds_item s
kind_item TwoSeconds p s = two_seconds_item s
kind_item Error p s = error_item s
kind_item (Labelled bare tail) p s = labelled_by bare tail p (drop 1 s)

-- a kind says what f does of every s, where p reads a label part; and so for every p
abbrev pub SaysBy : (List ℕ → Option LabelPart) → Kind → (List ℕ → Decoded) → Type 0
SaysBy p k f = (s : List ℕ) → kind_item k p s ≡ f s

abbrev pub Says : Kind → ((List ℕ → Option LabelPart) → List ℕ → Decoded) → Type 0
Says k f = (p : List ℕ → Option LabelPart) → SaysBy p k (f p)

-- ---- v8

-- a kind that v8 has
abbrev pub Newer : Kind → Type 0
Newer Reserved = Unit
Newer Stop = ⊥
Newer (Shorten cut) = ⊥
Newer (Style style) = Unit
Newer Move = Unit
Newer NoDate = Unit
Newer Day = Unit
Newer Span = Unit
Newer Days = Unit
Newer Seconds = ⊥
Newer TwoSeconds = ⊥
Newer Error = Unit
Newer (Labelled bare tail) = Unit

-- the item of a code in v8, at the front of s
unfoldable pub new_item : ℕ → List ℕ → Decoded
new_item code s = pick (ltb code 0x30) (new_low_item code s) (new_high_item code (drop 1 s))
