-- #105, items: how many bytes an item of v8 has at least, by what it says. Idea: the table of items gives each a size; a style has one byte, a
-- MOVE 13, an ERROR 21, a date at least as many as our codes of that date, and an item with a label its code, a part of at least our numbers
-- for the same D and A, the bytes to append and its fields, which for a section are 8 only where all four dimensions fit i16. A LINE with
-- 0x20 has 13 bytes and changes no label. Nothing here looks at the state. Assumes nothing.
use Rattle.std.specs.Prelude.{Option, None, Some}
use Prim.Native.Nat.{ℕ, ◌+◌, ◌-◌, ◌/◌, ◌%◌, ◌≤◌, ◌<◌}
use mathlib.Core.Path.{◌≡◌, refl, subst, ap}
use mathlib.Core.List.{List}
use mathlib.Core.Bool.{Bool, true, false, ◌||◌}
use native.Mathlib.Omega.{arith}
use lib.ListN.{length, get_or, take, drop, length-append, length-drop}
use lib.Seq.{length-take-le}
use lib.Dec.{ltb, leb}
use borrow.Author.Tests.{ltb-true, ltb-false, leb-false, eqb-false, eq-eqb, le-ltb, le-leb, lt-leb}
use Rattle.format.specs.Bytes.{pick, le16, le32, widened, Bytes}
use Rattle.format.specs.Items.{dimensions_of, Item, Stop, Shorten, Style, Move, NoDate, Date, Error, Xsect, Label, Line, Decoded, faulty, whole, numbers}
use Rattle.format.specs.Items.{sized, length_size, length_value, long_part, new_part, behind_code, labelled_item, station_item, line_item, section_item}
use Rattle.format.specs.Items.{move_item, error_item, day_item, span_item, days_item, new_date_item, new_low_item, new_high_item, item_of}
use Rattle.format.specs.declared.LabelPart.{LabelPart}
use Rattle.format.specs.declared.Dated.{Dated}
use Rattle.format.specs.declared.Dated.TheVariants.{Range}
use Rattle.format.specs.State.{date_of}
use Rattle.format.specs.Codes.{length_codes, part_codes, dated_codes, v8_dates, fits_short, all_short}
use Rattle.format.proofs.Basics.{pick_case, pick_true, pick_false}
use Rattle.format.proofs.Rows.{le16_width}
use Rattle.format.proofs.SheetLaws.{bytes_drop}
use Rattle.format.proofs.WritingLaws.{length_codes_lem}
use Rattle.format.proofs.ShortestParts.{length_short, part_one, part_most, part_size}

-- ---- the least sizes

-- "XSECT uses i16 if all four fit": the bytes of four dimensions
abbrev pub dimensions_size : Bool → ℕ
dimensions_size short = pick short 8 16

-- n bytes are no fewer than an item of v8 needs to say this
abbrev pub LeastItem : ℕ → Item → Type 0
-- the codes that shorten a label are those of v3 to v7
LeastItem n Stop = ⊥
LeastItem n (Shorten cut) = ⊥
LeastItem n (Style k) = 1 ≤ n
LeastItem n (Move p) = 13 ≤ n
LeastItem n NoDate = 1 ≤ n
LeastItem n (Date first last) = length (dated_codes v8_dates (date_of first last)) ≤ n
LeastItem n (Error t) = 21 ≤ n
LeastItem n (Xsect last size d added) = 1 + (part_size d added + dimensions_size (all_short size)) ≤ n
LeastItem n (Label flags p d added) = 1 + (part_size d added + 12) ≤ n
-- with 0x20 there is no label part, and D and A are 0
LeastItem n (Line flags p d added) = (13 ≤ n) × (0 < d + length added → 1 + (part_size d added + 12) ≤ n)

abbrev pub LeastDecoded : Decoded → Type 0
LeastDecoded (faulty k) = Unit
LeastDecoded (whole n it) = LeastItem n it

-- the numbers of a label part are no shorter than ours
abbrev pub LeastPart : Option LabelPart → Type 0
LeastPart None = Unit
LeastPart (Some q) = length (part_codes q.drop q.add) ≤ q.size

-- ---- label parts

-- a number in five bytes may be a small one
length_least : (t : List ℕ) → (length_size t ≡ 0 → ⊥) → length (length_codes (length_value t)) ≤ length_size t
unfolding length_size length_value pick
length_least t = go (ltb (length t) 1) (ltb (get_or t 0 0) 255) (ltb (length t) 5) refl
  where
    go : (x y z : Bool) → ltb (get_or t 0 0) 255 ≡ y → (◌≡◌ {A = ℕ} (pick x 0 (pick y 1 (pick z 0 5))) 0 → ⊥)
        → length (length_codes (pick y (get_or t 0 0) (le32 (drop 1 t)))) ≤ pick x 0 (pick y 1 (pick z 0 5))
    go true y z e f = absurd (f refl)
    go false true z e f = omega (arith, length_short (get_or t 0 0) (ltb-true _ _ e))
    go false false true e f = absurd (f refl)
    go false false false e f = (length_codes_lem (le32 (drop 1 t))).1

long_least : (t : List ℕ) → LeastPart (long_part t)
unfolding long_part
long_least t =
    let d = length_size (drop 1 t) in
    pick_case LeastPart _ _ _ (λ e. tt) λ e.
    pick_case LeastPart _ _ _ (λ f. tt) λ f.
    omega (
      arith,
      length_least (drop 1 t) (eqb-false _ _ e),
      length_least (drop (1 + d) t) (eqb-false _ _ f),
      part_most (length_value (drop 1 t)) (length_value (drop (1 + d) t)),
    )

pub part_size_lem : (t : List ℕ) → Bytes t → LeastPart (new_part t)
unfolding new_part
part_size_lem t b =
    let c = get_or t 0 0 in
    pick_case LeastPart _ _ _ (λ e. tt) λ e.
    pick_case LeastPart _ _ _ (λ f. long_least t) λ f.
    let h = b 0 in
    let z = eqb-false c 0 f in
    omega (arith, part_one (c / 16) (c % 16) (omega arith) (omega arith) (omega (arith, z)))

-- ---- items with a label

sized_least : (n : ℕ) (s : List ℕ) (it : Item) → LeastItem n it → LeastDecoded (sized n s it)
unfolding sized
sized_least n s it g = pick_case LeastDecoded _ _ _ (λ e. tt) (λ e. g)

labelled_least : (p : Option LabelPart) (t : List ℕ) (n : ℕ) (make : ℕ → List ℕ → List ℕ → Item)
    → ((k d : ℕ) (added rest : List ℕ) → p ≡ numbers k d (length added) → LeastItem (1 + (k + length added + n)) (make d added rest))
    → LeastDecoded (labelled_item p t n make)
unfolding labelled_item sized
labelled_least None t n make f = tt
labelled_least (Some q) t n make f =
    pick_case (λ (x : Decoded). LeastDecoded (behind_code x)) _ _ _ (λ e. tt) λ e.
    let h : q.size + q.add + n ≤ length t = ltb-false _ _ e in
    let added = take q.add (drop q.size t) in
    let z : length added ≡ q.add = length-take-le q.add (drop q.size t) (simp length-drop (omega arith)) in
    subst (λ (x : ℕ). LeastItem (1 + (q.size + x + n)) (make q.drop added (drop (q.size + q.add) t))) z (f q.size q.drop added (drop (q.size + q.add) t) (rw z))

numbers_least : (k d a : ℕ) (p : Option LabelPart) → LeastPart p → p ≡ numbers k d a → length (part_codes d a) ≤ k
numbers_least k d a p g e = subst LeastPart e g

-- equal label parts have equal numbers
pub same_numbers : {k d a m e b : ℕ} → numbers k d a ≡ numbers m e b → (k ≡ m) × (d ≡ e) × (a ≡ b)
same_numbers {k = k} {d = d} {a = a} {m = m} {e = e} {b = b} z =
    let y : ◌≡◌ {A = LabelPart} (record { size = k; drop = d; add = a }) (record { size = m; drop = e; add = b }) = cc in
    (ap (λ (q : LabelPart). q.size) y, ap (λ (q : LabelPart). q.drop) y, ap (λ (q : LabelPart). q.add) y)

station_size_lem : (flags : ℕ) (p : Option LabelPart) (t : List ℕ) → LeastPart p → LeastDecoded (station_item flags p t)
unfolding station_item
station_size_lem flags p t g = labelled_least p t 12 _ λ k d added rest e. omega (arith, numbers_least k d (length added) p g e)

line_size : (flags : ℕ) (p : Option LabelPart) (t : List ℕ) → LeastPart p → LeastDecoded (line_item flags p t)
unfolding line_item
line_size flags p t g = labelled_least p t 12 _ λ k d added rest e. (omega arith, λ h. omega (arith, numbers_least k d (length added) p g e))

-- "0x20 means no label bytes and no change"
same_line_size : (flags : ℕ) (t : List ℕ) → LeastDecoded (line_item flags (numbers 0 0 0) t)
unfolding line_item
same_line_size flags t =
    labelled_least (numbers 0 0 0) t 12 _ λ k d added rest e.
    let z = same_numbers e in
    let zd = z.1 in
    let za = z.2 in
    (omega arith, λ h. absurd (omega arith))

-- what an i16 says fits one
widened_fits : (n : ℕ) → fits_short (widened n) ≡ true
unfolding widened fits_short
widened_fits n =
    pick_case (λ (k : ℕ). (leb k 32767 || leb 4294934528 k) ≡ true) _ _ _
    (λ e. let h = ltb-true n 32768 e in rw (le-leb n 32767 (omega arith)))
    (λ e.
    let h = ltb-false n 32768 e in
    rw (lt-leb (n + 4294901760) 32767 (omega arith)) (le-leb 4294934528 (n + 4294901760) (omega arith)))

pub all_short_lem : (s : List ℕ) → all_short (dimensions_of 2 (λ u. widened (le16 u)) s) ≡ true
unfolding all_short
all_short_lem s = rw (widened_fits (le16 s), widened_fits (le16 (drop 2 s)), widened_fits (le16 (drop 4 s)), widened_fits (le16 (drop 6 s)))

dimensions_most : (b : Bool) → dimensions_size b ≤ 16
unfolding pick
dimensions_most true = omega arith
dimensions_most false = omega arith

section_size_lem : (code : ℕ) (p : Option LabelPart) (t : List ℕ) → LeastPart p → LeastDecoded (section_item code p t)
unfolding section_item
section_size_lem code p t g =
    pick_case LeastDecoded _ _ _
    (λ e. labelled_least p t 8 _ λ k d added rest q. omega (arith, numbers_least k d (length added) p g q, pick_true {X = ℕ} 8 16 (all_short_lem rest)))
    (λ e. labelled_least p t 16 _ λ k d added rest q.
    omega (arith, numbers_least k d (length added) p g q, dimensions_most (all_short (dimensions_of 4 le32 rest))))

-- ---- dates: our form of a date is the shortest for it

days_least : (first last : ℕ) → length (dated_codes v8_dates (date_of first last)) ≤ 5
unfolding date_of
days_least first last =
    pick_case (λ (x : Dated). length (dated_codes v8_dates x) ≤ 5) _ _ _
    (λ e. simp le16_width (omega arith))
    (λ e. pick_case (λ (x : List ℕ). length x ≤ 5) _ _ _ (λ f. simp (length-append, le16_width) (omega arith))
    (λ f. simp (length-append, le16_width) (omega arith)))

day_least : (day : ℕ) → length (dated_codes v8_dates (date_of day day)) ≤ 3
unfolding date_of pick
day_least day = rw (eq-eqb day day refl) (simp le16_width (omega arith))

range_least : (d e : ℕ) → e - d ≤ 255 → length (dated_codes v8_dates (Range d e)) ≤ 4
range_least d e h =
    pick_case (λ (x : List ℕ). length x ≤ 4) _ _ _ (λ f. simp (length-append, le16_width) (omega arith))
    (λ f. let k : 255 < e - d = leb-false _ _ f in absurd (omega arith))

span_least : (first span : ℕ) → span < 256 → length (dated_codes v8_dates (date_of first (first + span))) ≤ 4
unfolding date_of
span_least first span h =
    pick_case (λ (x : Dated). length (dated_codes v8_dates x) ≤ 4) _ _ _ (λ e. simp le16_width (omega arith)) (λ e. range_least first (first + span) (omega arith))

-- ---- every item of v8

low_size : (code : ℕ) (s : List ℕ) → Bytes s → LeastDecoded (new_low_item code s)
unfolding new_low_item move_item error_item new_date_item day_item span_item days_item
low_size code s b =
    pick_case LeastDecoded _ _ _ (λ e. omega arith) λ e.
    pick_case LeastDecoded _ _ _ (λ e. tt) λ e.
    pick_case LeastDecoded _ _ _ (λ e. sized_least 13 s _ (omega arith)) λ e.
    pick_case LeastDecoded _ _ _
    (λ e.
    pick_case LeastDecoded _ _ _ (λ e. omega arith) λ e.
    pick_case LeastDecoded _ _ _ (λ e. sized_least 3 s _ (day_least (le16 (drop 1 s)))) λ e.
    pick_case LeastDecoded _ _ _ (λ e. sized_least 4 s _ (span_least (le16 (drop 1 s)) (get_or s 3 0) (b 3))) λ e.
    sized_least 5 s _ (days_least (le16 (drop 1 s)) (le16 (drop 3 s))))
    λ e.
    pick_case LeastDecoded _ _ _ (λ e. sized_least 21 s _ (omega arith)) λ e. tt

high_size : (code : ℕ) (t : List ℕ) → Bytes t → LeastDecoded (new_high_item code t)
unfolding new_high_item
high_size code t b =
    let g = part_size_lem t b in
    pick_case LeastDecoded _ _ _ (λ e. section_size_lem code (new_part t) t g) λ e.
    pick_case LeastDecoded _ _ _ (λ e. tt) λ e.
    pick_case LeastDecoded _ _ _ (λ e. line_size (code - 0x40) (new_part t) t g) λ e.
    pick_case LeastDecoded _ _ _ (λ e. tt) λ e.
    pick_case LeastDecoded _ _ _ (λ e. same_line_size (code - 0x60) t) λ e.
    pick_case LeastDecoded _ _ _ (λ e. tt) λ e. station_size_lem (code - 0x80) (new_part t) t g

-- the law of `item_of`: an item of v8 is no shorter than what it says needs
pub item_size : (s : List ℕ) → Bytes s → LeastDecoded (item_of 8 s)
unfolding item_of
item_size s b =
    let code = get_or s 0 0 in
    pick_case LeastDecoded _ _ _ (λ e. tt) λ e.
    rw (pick_false _ _ (le-ltb 8 8 (omega arith)))
    (pick_case LeastDecoded _ _ _ (λ e. low_size code s b) λ e. high_size code (drop 1 s) (bytes_drop s b 1))
