-- A record's bytes. What stands before its label (`leg_front` and its like) is laid piece by piece over the front of a slice: `then` adds one piece
-- to those that stand there. With the label behind it that is the layout (`parts`), and laid into a sheet the two come to the whole record
-- (`record_laid`). Assumes nothing.
use Prim.Native.Nat.{ℕ, suc, ◌+◌, ◌-◌, ◌*◌, ◌/◌, ◌%◌, ◌≤◌, ◌<◌}
use mathlib.Core.Path.{◌≡◌, refl, sym, ap, ◌∙◌}
use mathlib.Core.List.{List, [], ◌∷◌, ◌++◌, append_assoc, append-nil}
use native.Mathlib.Omega.{arith}
use lib.ListN.{length, take, drop, get_or, set, length-append, take-append-drop}
use lib.Seq.{drop-cons, set_at, length-take-le}
use native.Mathlib.Numerals.{add-one}
use Rattle.format.specs.Bytes.{pick, over, to_be16, to_be32}
use Rattle.format.specs.Sheet.{sheet_version, point_bytes, dimension_bytes, traverse_bytes, date_kind, date_day, date_last, date_bytes, leg_size, station_size}
use Rattle.format.specs.Sheet.{section_size, error_size, leg_body, station_body, section_body, layout, header_layout}
use Rattle.format.specs.State.{Record, leg, station, section, error}
use Rattle.format.specs.Fields.{record_size}
use Rattle.format.specs.declared.Dated.{Dated}
use Rattle.format.specs.declared.Point.{Point}
use Rattle.format.specs.declared.Dimensions.{Dimensions}
use Rattle.format.specs.declared.Traverse.{Traverse}
use Rattle.format.specs.declared.Leg.{Leg as LegFields}
use Rattle.format.specs.declared.Station.{Station as StationFields}
use Rattle.format.specs.declared.Section.{Section as SectionFields}
use Rattle.format.specs.declared.Fields.{Fields}
use Rattle.format.specs.declared.Fields.TheVariants.{Leg, Station, Section, Error}
use Rattle.format.proofs.SheetLaws.{layout_leg, layout_station, layout_section}
use Rattle.layout.specs.Fronts.{leg_front, station_front, section_front, front_of, front_size, label_of}
use Rattle.layout.specs.Joined.{Joint}
use Rattle.wire.specs.Laid.{laid, laid_if}
use Rattle.wire.proofs.Laws.{laid_zero, laid_part, laid_next, laid_none, laid_some}

pub size_some : (f : Fields) (n : ℕ) → 0 < record_size f n
size_some (Leg flags style date from to) n = omega arith
size_some (Station s) n = omega arith
size_some (Section last unused date size) n = omega arith
size_some (Error traverse) n = omega arith

-- ---- a layout is a head and the label

-- the length that stands before a body
body_length : (body : List ℕ) (k : ℕ) → length (to_be16 (length body) ++ body) ≡ 2 + k → k ≡ length body
unfolding to_be16
body_length body k e = omega arith

leg_parts : (g : LegFields) (l : List ℕ) → leg_front g (length l) ++ l ≡ layout sheet_version (leg g l)
unfolding layout leg_front
leg_parts g l = rw (← body_length (leg_body g l) (leg_size + length l) (layout_leg sheet_version g l)) (simp append_assoc)

station_parts : (s : StationFields) (l : List ℕ) → station_front s (length l) ++ l ≡ layout sheet_version (station s l)
unfolding layout station_front
station_parts s l = rw (← body_length (station_body s l) (station_size + length l) (layout_station sheet_version s l)) (simp append_assoc)

section_parts : (s : SectionFields) (l : List ℕ) → section_front s (length l) ++ l ≡ layout sheet_version (section s l)
unfolding layout pick section_front
section_parts s l = rw (← body_length (section_body s l) (section_size + length l) (layout_section s l)) (simp append_assoc)

pub error_parts : (t : Traverse) → to_be16 error_size ++ (4 ∷ traverse_bytes to_be32 t) ≡ layout sheet_version (error t)
unfolding layout to_be16 to_be32
error_parts t = refl

pub front_length : (r : Record) (n : ℕ) → length (front_of r n) ≡ front_size r
unfolding leg_front station_front section_front to_be16 to_be32
front_length (leg g l) n = refl
front_length (station s l) n = refl
front_length (section s l) n = refl
front_length (error t) n = refl

pub parts : (r : Record) → front_of r (length (label_of r)) ++ label_of r ≡ layout sheet_version r
parts (leg g l) = leg_parts g l
parts (station s l) = station_parts s l
parts (section s l) = section_parts s l
parts (error t) = append-nil _ ∙ error_parts t

-- the record r has the label L of n bytes
module _ (r : Record) (L : List ℕ) (n : ℕ) (e : label_of r ≡ L) (w : length L ≡ n) where
  pub layout_parts : front_of r n ++ L ≡ layout sheet_version r
  layout_parts = rw (← w, ← e) (parts r)

  pub layout_length : length (layout sheet_version r) ≡ front_size r + n
  layout_length = sym (ap length layout_parts) ∙ length-append (front_of r n) L ∙ rw (front_length r n, w)

-- ---- one part after another

-- what is laid over the front of the part from k on is laid into the whole
pub part_laid : (d s y : List ℕ) (k : ℕ) → k ≤ length d → y ≡ over s (take (length d - k) (drop k d))
    → take k d ++ (y ++ drop (length d - k) (drop k d)) ≡ laid d k s
part_laid d s y k h ey = rw ey (laid_part d s k h (length d) refl)

-- what is laid behind what stands at the front stands there too
pub over_then : (S s t : List ℕ) (k : ℕ) → length s ≡ k → k + length t ≤ length S → laid (over s S) k t ≡ over (s ++ t) S
over_then S s t k e h =
    let z : k ≡ 0 + length s = omega arith in
    ap (λ (y : List ℕ). laid y k t) (sym (laid_zero S s))
    ∙ ap (λ (n : ℕ). laid (laid S 0 s) n t) z
    ∙ laid_next S s t 0 (omega arith)
    ∙ laid_zero S (s ++ t)

pub word_length : (n : ℕ) → length (to_be32 n) ≡ 4
unfolding to_be32
word_length n = refl

pub point_length : (p : Point) → length (point_bytes to_be32 p) ≡ 12
unfolding to_be32
point_length p = refl

-- three words in a row are a place
pub point_laid : (d : List ℕ) (k : ℕ) (p : Point) → k + 12 ≤ length d → laid (laid (laid d k (to_be32 p.x)) (k + 4) (to_be32 p.y)) (k + 8)
    (to_be32 p.z) ≡ laid d k (point_bytes to_be32 p)
point_laid d k p h =
    let X = to_be32 p.x in
    let Y = to_be32 p.y in
    let Z = to_be32 p.z in
    let e4 : k + 4 ≡ k + length X = rw (word_length p.x) in
    let e8 : k + 8 ≡ k + length (X ++ Y) = simp (length-append, word_length) in
    ap (λ (n : ℕ). laid (laid (laid d k X) n Y) (k + 8) Z) e4
    ∙ ap (λ (y : List ℕ). laid y (k + 8) Z) (laid_next d X Y k (omega arith))
    ∙ ap (λ (n : ℕ). laid (laid d k (X ++ Y)) n Z) e8
    ∙ laid_next d (X ++ Y) Z k (omega arith)
    ∙ simp append_assoc

pub dimensions_length : (d : Dimensions) → length (dimension_bytes to_be32 d) ≡ 16
unfolding to_be32
dimensions_length d = refl

-- four words in a row are dimensions
pub dimensions_laid : (s : List ℕ) (k : ℕ) (d : Dimensions) → k + 16 ≤ length s
    → laid (laid (laid (laid s k (to_be32 d.left)) (k + 4) (to_be32 d.right)) (k + 8) (to_be32 d.up)) (k + 12) (to_be32 d.down) ≡ laid s k
    (dimension_bytes to_be32 d)
dimensions_laid s k d h =
    let p : Point = record { x = d.left; y = d.right; z = d.up } in
    let W = to_be32 d.down in
    let e : k + 12 ≡ k + length (point_bytes to_be32 p) = rw (point_length p) in
    ap (λ (y : List ℕ). laid y (k + 12) W) (point_laid s k p (omega arith))
    ∙ ap (λ (n : ℕ). laid (laid s k (point_bytes to_be32 p)) n W) e
    ∙ laid_next s (point_bytes to_be32 p) W k (omega (arith, point_length p))
    ∙ simp append_assoc

-- ---- a front, piece by piece

-- a piece that is laid behind what stands at the front
pub then : (S s t y z : List ℕ) (k : ℕ) → y ≡ over s S → z ≡ laid y k t → length s ≡ k → k + length t ≤ length S → z ≡ over (s ++ t) S
then S s t y z k e f n h = f ∙ ap (λ (x : List ℕ). laid x k t) e ∙ over_then S s t k n h

pub start_word : (n kind first : ℕ) → n < 65536 → kind < 256 → first < 256 → to_be32 (n * 65536 + kind * 256 + first) ≡ to_be16 n ++ (kind ∷ first ∷ [])
unfolding to_be16 to_be32
start_word n kind first h i j =
    let w = n * 65536 + kind * 256 + first in
    let a : w / 16777216 % 256 ≡ n / 256 % 256 = omega arith in
    let b : w / 65536 % 256 ≡ n % 256 = omega arith in
    let c : w / 256 % 256 ≡ kind = omega arith in
    let d : w % 256 ≡ first = omega arith in
    rw (a, b, c, d)

pub days_word : (day last : ℕ) → day < 65536 → last < 65536 → to_be32 (day * 65536 + last) ≡ to_be16 day ++ to_be16 last
unfolding to_be16 to_be32
days_word day last h i =
    let w = day * 65536 + last in
    let a : w / 16777216 % 256 ≡ day / 256 % 256 = omega arith in
    let b : w / 65536 % 256 ≡ day % 256 = omega arith in
    let c : w / 256 % 256 ≡ last / 256 % 256 = omega arith in
    let d : w % 256 ≡ last % 256 = omega arith in
    rw (a, b, c, d)

pub byte_laid : (d : List ℕ) (k b : ℕ) → k < length d → set d k b ≡ laid d k (b ∷ [])
unfolding laid
byte_laid d k b h =
    ap (λ (x : List ℕ). set x k b) (sym (take-append-drop k d) ∙ ap (λ (x : List ℕ). take k d ++ x) (drop-cons d k 0 h))
    ∙ set_at (take k d) (get_or d k 0) (drop (suc k) d) b k (length-take-le k d (omega arith))
    ∙ rw (add-one k)

-- a kind and two days in one word are a date
pub date_laid : (S : List ℕ) (k : ℕ) (date : Dated) (a b : List ℕ) → k + 5 ≤ length S
    → a ≡ laid S k (date_kind date ∷ []) → b ≡ laid a (k + 1) (to_be32 (date_day date * 65536 + date_last date)) → date_day date < 65536 → date_last date < 65536
    → b ≡ laid S k (date_bytes date)
date_laid S k date a b h ea eb i j =
    eb
    ∙ ap (λ (x : List ℕ). laid x (k + 1) (to_be32 (date_day date * 65536 + date_last date))) ea
    ∙ laid_next S (date_kind date ∷ []) (to_be32 (date_day date * 65536 + date_last date)) k (omega arith)
    ∙ ap (λ (x : List ℕ). laid S k (date_kind date ∷ x)) (days_word (date_day date) (date_last date) i j)

pub leg_laid : (S : List ℕ) (g : LegFields) (n : ℕ) (a b c d e : List ℕ) → 34 ≤ length S
    → a ≡ over (to_be16 (leg_size + n) ++ (1 ∷ g.flags ∷ [])) S → b ≡ laid a 4 (g.style ∷ []) → c ≡ laid b 5 (date_bytes g.date)
    → d ≡ laid c 10 (point_bytes to_be32 g.from) → e ≡ laid d 22 (point_bytes to_be32 g.to) → e ≡ over (leg_front g n) S
unfolding leg_front to_be16 to_be32
leg_laid S g n a b c d e h ea eb ec ed ee =
    then S _ _ d e 22 (then S _ _ c d 10 (then S _ _ b c 5 (then S _ _ a b 4 ea eb refl (omega arith)) ec refl (omega arith)) ed refl (omega arith)) ee refl
    (omega arith)

pub station_laid : (S : List ℕ) (s : StationFields) (n : ℕ) (a b : List ℕ) → 16 ≤ length S
    → a ≡ over (to_be16 (station_size + n) ++ (2 ∷ s.flags ∷ [])) S → b ≡ laid a 4 (point_bytes to_be32 s.place) → b ≡ over (station_front s n) S
unfolding station_front to_be16 to_be32
station_laid S s n a b h ea eb = then S _ _ a b 4 ea eb refl (omega arith)

pub section_laid : (S : List ℕ) (s : SectionFields) (n : ℕ) (a b c : List ℕ) → 25 ≤ length S
    → a ≡ over (to_be16 (section_size + n) ++ (3 ∷ s.last ∷ [])) S → b ≡ laid a 4 (date_bytes s.date)
    → c ≡ laid b 9 (dimension_bytes to_be32 s.size) → c ≡ over (section_front s n) S
unfolding section_front to_be16 to_be32
section_laid S s n a b c h ea eb ec = then S _ _ b c 9 (then S _ _ a b 4 ea eb refl (omega arith)) ec refl (omega arith)

-- a label that is joined, and its length
abbrev pub joined : ℕ → List ℕ → List ℕ → List ℕ
joined keep added bytes = take keep bytes ++ added

pub joined_length : (keep : ℕ) (added bytes : List ℕ) → Joint keep added bytes → length (joined keep added bytes) ≡ keep + length added
joined_length keep added bytes J =
    let t = length-take-le keep bytes (omega (arith, J.few, J.whole)) in
    length-append (take keep bytes) added ∙ omega arith

-- ---- a record laid in where it fits

module _ (d : List ℕ) (k : ℕ) (s : List ℕ) where
  pub lay_none : length d < k + length s → d ≡ laid_if d k s
  lay_none h = sym (laid_none d s k h)

  pub lay_some : k + length s ≤ length d → (y : List ℕ) → y ≡ over s (take (length d - k) (drop k d)) → take k d ++ (y ++ drop (length d - k)
      (drop k d)) ≡ laid_if d k s
  lay_some h y ey = part_laid d s y k (omega arith) ey ∙ sym (laid_some d s k h)

-- ---- a record that is a front and a label, laid one after the other

-- over the front of a slice
pub record_over : (r : Record) (L S y z : List ℕ) (n : ℕ) → label_of r ≡ L → length L ≡ n → y ≡ over (front_of r n) S → z ≡ laid y (front_size r) L
    → front_size r + n ≤ length S → z ≡ over (layout sheet_version r) S
record_over r L S y z n e w ey ez h =
    then S (front_of r n) L y z (front_size r) ey ez (front_length r n) (omega arith) ∙ ap (λ (x : List ℕ). over x S) (layout_parts r L n e w)

-- into a sheet d from index `at` on: nothing where there is no room, else the front and, as R says, the label L of n bytes behind it
pub data Laying (R : List ℕ → List ℕ → ℕ → List ℕ → Type 0) (r : Record) (L : List ℕ) (n : ℕ) (d : List ℕ) (at : ℕ) : List ℕ → Type 0 where
  none : length d < at + front_size r + n → Laying R r L n d at d
  both : (y z : List ℕ) → at + front_size r + n ≤ length d → y ≡ over (front_of r n) (take (length d - at) (drop at d))
      → R (take at d ++ (y ++ drop (length d - at) (drop at d))) z (at + front_size r) L → Laying R r L n d at z

abbrev pub Exactly : List ℕ → List ℕ → ℕ → List ℕ → Type 0
Exactly x z at L = z ≡ laid x at L

record_laid : (r : Record) (L d d' : List ℕ) (at n : ℕ) → label_of r ≡ L → length L ≡ n → Laying Exactly r L n d at d'
    → d' ≡ laid_if d at (layout sheet_version r)
record_laid r L d _ at n e w (none h) = lay_none d at _ (omega (arith, layout_length r L n e w))
record_laid r L d _ at n e w (both y z h ey ez) =
    let F = front_of r n in
    let k = front_length r n in
    ez
    ∙ ap (λ (x : List ℕ). laid x (at + front_size r) L) (part_laid d F y at (omega arith) ey)
    ∙ ap (λ (j : ℕ). laid (laid d at F) (at + j) L) (sym k)
    ∙ laid_next d F L at (omega arith)
    ∙ ap (laid d at) (layout_parts r L n e w)
    ∙ sym (laid_some d (layout sheet_version r) at (omega (arith, layout_length r L n e w)))

-- with a joined label
pub short : (r : Record) (keep : ℕ) (added b d d' : List ℕ) (at : ℕ) → Joint keep added b → label_of r ≡ joined keep added b
    → Laying Exactly r (joined keep added b) (keep + length added) d at d' → d' ≡ laid_if d at (layout sheet_version r)
short r keep added b d d' at J e = record_laid r (joined keep added b) d d' at (keep + length added) e (joined_length keep added b J)

pub ruleset shorts = (short, none, both)

-- ---- the front of a sheet

-- three copies one after the other
pub front_laid : (S head title time : List ℕ) → length head + length title + length time ≤ length S
    → laid (laid (over head S) (length head) title) (length head + length title) time ≡ over (head ++ (title ++ time)) S
front_laid S head title time h =
    let z : length head ≡ 0 + length head = omega arith in
    let y : length head + length title ≡ 0 + length (head ++ title) = simp length-append (omega arith) in
    ap (λ (x : List ℕ). laid (laid x (length head) title) (length head + length title) time) (sym (laid_zero S head))
    ∙ ap (λ (n : ℕ). laid (laid (laid S 0 head) n title) (length head + length title) time) z
    ∙ ap (λ (x : List ℕ). laid x (length head + length title) time) (laid_next S head title 0 (omega arith))
    ∙ ap (λ (n : ℕ). laid (laid S 0 (head ++ title)) n time) y
    ∙ laid_next S (head ++ title) time 0 (omega arith)
    ∙ laid_zero S ((head ++ title) ++ time)
    ∙ ap (λ (x : List ℕ). over x S) (append_assoc head title time)

pub front_parts : (extended : ℕ) (title time : List ℕ) → (sheet_version ∷ (to_be16 (4 + length title + length time) ++ (0 ∷ extended ∷ to_be16
    (length title)))) ++ (title ++ time) ≡ sheet_version ∷ header_layout (record { extended = extended; title = title; time = time })
unfolding header_layout to_be16
front_parts extended title time =
    let n : suc (suc (suc (suc (length (title ++ time))))) ≡ 4 + length title + length time = simp length-append (omega arith) in
    rw n
