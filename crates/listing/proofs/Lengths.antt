-- A record's line is at most four times as long as the record in a sheet. Assumes nothing.
use mathlib.Core.Path.{refl}
use mathlib.Core.List.{List, [], ◌∷◌}
use Prim.Native.Nat.{ℕ, ◌+◌, ◌-◌, ◌*◌, ◌≤◌, ◌<◌}
use native.Mathlib.Omega.{arith}
use lib.ListN.{length, length-append}
use Rattle.format.specs.State.{Record, leg, station, section, error}
use Rattle.format.specs.Sheet.{layout}
use Rattle.format.specs.WellFormed.{GoodPoint, GoodDimensions, GoodTraverse, GoodDated, WellFormed}
use Rattle.format.specs.declared.Point.{Point}
use Rattle.format.specs.declared.Dimensions.{Dimensions}
use Rattle.format.specs.declared.Traverse.{Traverse}
use Rattle.format.specs.declared.Dated.{Dated}
use Rattle.format.specs.declared.Dated.TheVariants.{Undated, Day, Range}
use Rattle.format.proofs.Basics.{pick_case}
use Rattle.format.proofs.SheetLaws.{layout_leg, layout_station, section_least, layout_error}
use Rattle.listing.specs.Text.{decimal_text, signed_text, escaped_byte, escaped, text_of, spaced}
use Rattle.listing.specs.Lines.{none_word, leg_word, station_word, section_word, error_word, date_text, point_words, dimension_words, traverse_words, record_line}
use Rattle.listing.proofs.Digits.{digits_few}
use Rattle.listing.proofs.Parts.{leg_parts, station_parts, section_parts, error_parts}

-- ---- words

signed_few : (n : ℕ) → n < 4294967296 → length (signed_text n) ≤ 11
unfolding signed_text
signed_few n h =
    pick_case (λ (l : List ℕ). length l ≤ 11) _ _ _
    (λ e. let f = digits_few 9 n (omega arith) in omega arith)
    (λ e. let f = digits_few 9 (4294967296 - n) (omega arith) in omega arith)

date_few : (d : Dated) → GoodDated d → length (date_text d) ≤ 11
unfolding none_word
date_few Undated g = omega arith
date_few (Day d) g = let f = digits_few 4 d (omega arith) in omega arith
date_few (Range d e) g =
    let f = digits_few 4 d (omega arith) in
    let h = digits_few 4 e (omega arith) in
    simp length-append (omega arith)

byte_few : (b : ℕ) → length (escaped_byte b) ≤ 3
unfolding escaped_byte
byte_few b = pick_case (λ (l : List ℕ). length l ≤ 3) _ _ _ (λ e. omega arith) (λ e. omega arith)

escaped_few : (s : List ℕ) → length (escaped s) ≤ 3 * length s
unfolding escaped
escaped_few [] = omega arith
escaped_few (b ∷ s) =
    let r = escaped_few s in
    let f = byte_few b in
    simp length-append (omega arith)

text_few : (s : List ℕ) → length (text_of s) ≤ 3 * length s + 3
unfolding text_of
text_few s =
    let f = escaped_few s in
    let P : List ℕ → Type 0 = λ l. length l ≤ 3 * length s + 3 in
    pick_case P _ _ _ (λ e. omega arith) (λ e. pick_case P _ _ _ (λ e'. omega arith) (λ e'. omega arith))

-- numbers in a row, a space before each
point_few : (p : Point) → GoodPoint p → length (spaced (point_words p)) ≤ 36
unfolding spaced
point_few p g =
    let x = signed_few p.x g.x_fits in
    let y = signed_few p.y g.y_fits in
    let z = signed_few p.z g.z_fits in
    simp length-append (omega arith)

dimensions_few : (d : Dimensions) → GoodDimensions d → length (spaced (dimension_words d)) ≤ 48
unfolding spaced
dimensions_few d g =
    let l = signed_few d.left g.left_fits in
    let r = signed_few d.right g.right_fits in
    let u = signed_few d.up g.up_fits in
    let v = signed_few d.down g.down_fits in
    simp length-append (omega arith)

traverse_few : (t : Traverse) → GoodTraverse t → length (spaced (traverse_words t)) ≤ 60
unfolding spaced
traverse_few t g =
    let a = signed_few t.legs g.legs_fit in
    let b = signed_few t.total g.total_fits in
    let c = signed_few t.e g.e_fits in
    let d = signed_few t.h g.h_fits in
    let f = signed_few t.v g.v_fits in
    simp length-append (omega arith)

-- ---- lines

leg_few : (flags style : ℕ) (date : Dated) → flags ≤ 7 → style ≤ 5 → GoodDated date
    → length (spaced (decimal_text flags ∷ decimal_text style ∷ date_text date ∷ [])) ≤ 16
unfolding spaced
leg_few flags style date hf hs g =
    let a = digits_few 0 flags (omega arith) in
    let b = digits_few 0 style (omega arith) in
    let c = date_few date g in
    simp length-append (omega arith)

pub record_short : (version : ℕ) (r : Record) → WellFormed r → length (record_line r) ≤ 4 * length (layout version r)
unfolding leg_word station_word section_word error_word
record_short version (leg g label) w =
    let a = leg_few g.flags g.style g.date w.flags_fit w.style_fits w.date_fits in
    let b = point_few g.from w.from_fits in
    let c = point_few g.to w.to_fits in
    let d = text_few label in
    rw (← leg_parts g label) (simp length-append (omega (arith, layout_leg version g label)))
record_short version (station s label) w =
    let a = digits_few 2 s.flags (omega (arith, w.flags_fit)) in
    let b = point_few s.place w.place_fits in
    let c = text_few label in
    rw (← station_parts s label {n = s.flags} refl) (simp length-append (omega (arith, layout_station version s label)))
record_short version (section s label) w =
    let a = digits_few 0 s.last (omega (arith, w.last_fits)) in
    let b = dimensions_few s.size w.dimensions_fit in
    let c = text_few label in
    let d = date_few s.date w.date_fits in
    rw (← section_parts s label {n = s.last} refl) (simp length-append (omega (arith, section_least version s label)))
record_short version (error t) g =
    let a = traverse_few t g in
    rw (← error_parts t) (simp length-append (omega (arith, layout_error version t)))
