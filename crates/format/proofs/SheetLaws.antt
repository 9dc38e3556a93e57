-- Laws of sheets: the equation of reading records, and that the layout of well-formed records and reading them are each other's
-- inverse. Assumes nothing.
use Prim.Native.Nat.{ℕ, zero, suc, ◌+◌, ◌*◌, ◌/◌, ◌%◌, ◌-◌, ◌≤◌, ◌<◌}
use mathlib.Core.Path.{◌≡◌, refl, sym, ap, ap₂, ◌∙◌}
use mathlib.Core.List.{List, [], ◌∷◌, ◌++◌, append_assoc, append-nil}
use mathlib.Core.Bool.{Bool, true, false, ◌&&◌}
use native.Mathlib.Nat.{le_refl}
use native.Mathlib.Omega.{arith}
use lib.ListN.{length, get_or, take, drop, length-append, length-drop, take-append-drop}
use lib.Seq.{take-add, drop-cons, drop-drop, get_or-drop, take_at, drop_at, length-take-le}
use lib.Dec.{eqb, ltb, leb}
use borrow.Author.Tests.{eqb-true, ltb-true, leb-true, eq-eqb, ne_eqb, lt-ltb, le-leb, not-true}
use Rattle.format.specs.Bytes.{pick, be16, be32, to_be16, to_be32, Bytes}
use Rattle.format.specs.Header.{Header, line_end, ends_in_return, title_limit, time_limit}
use Rattle.format.specs.Label.{label_limit}
use Rattle.format.specs.Items.{point_of, dimensions_of, traverse_of}
use Rattle.format.specs.State.{Record, leg, station, section, error}
use Rattle.format.specs.Sheet.{sheet_version, undated_version, point_bytes, dimension_bytes, traverse_bytes, date_bytes, leg_body, station_body, section_body, undated_section_body, error_body, record_body, leg_size, station_size, section_size, undated_section_size, error_size, record_limit, date_kind, date_day, date_last, leg_fields, station_fields, section_fields, undated_section_fields, layout, layout_all, header_layout, sheet_of, Entry, flawed, entry, label_fits, label_from, good_date, date_from, leg_entry, station_entry, section_entry, undated_section_entry, error_entry, body_entry, framed, entry_of, entry_step, records_step, records_from, records_of, good_text, header_from, good_header, good_front, front_header, behind_front, version_result, version_of, sheet_result}
use Rattle.format.specs.Refusals.{Result, stop, also, Good, Refusal}
use Rattle.format.specs.WellFormed.{GoodPoint, GoodDimensions, GoodTraverse, GoodDated, GoodLeg, GoodStation, GoodSection, WellFormed, AllWellFormed, GoodHeader}
use Rattle.format.specs.declared.Traverse.{Traverse}
use Rattle.format.specs.declared.Dated.{Dated}
use Rattle.format.specs.declared.Dated.TheVariants.{Undated, Day, Range}
use Rattle.format.specs.declared.Leg.{Leg}
use Rattle.format.specs.declared.Station.{Station}
use Rattle.format.specs.declared.Section.{Section}
use Rattle.format.specs.declared.Fields.{Fields}
use Rattle.format.specs.declared.Fields.TheVariants.{Leg as FieldsLeg, Station as FieldsStation, Section as FieldsSection, Error as FieldsError}
use Rattle.format.specs.Fields.{record_of, record_size}
use Rattle.format.proofs.Basics.{pick_case, pick_true, pick_false, both, and_true, be16_to, be32_to}
use Rattle.format.proofs.IterateLaws.{iter_eq}

-- a label that fits
pub record Fits (n k : ℕ) : Type 0 where
  pub least : k ≤ n
  pub most : n ≤ k + label_limit

pub fits : (n k : ℕ) → label_fits n k ≡ true → Fits n k
fits n k e = let f = both _ _ e in record { least = leb-true k n f.0; most = leb-true n (k + label_limit) f.1 }

-- a record that is all there
pub record Framed (s : List ℕ) : Type 0 where
  pub length_there : 3 ≤ length s
  pub least : 1 ≤ be16 s
  pub inside : 2 + be16 s ≤ length s

pub frame : (s : List ℕ) → framed s ≡ true → Framed s
unfolding framed
frame s e =
    let f = both _ _ e in
    let g = both _ _ f.1 in
    record { length_there = leb-true _ _ f.0; least = leb-true _ _ g.0; inside = leb-true _ _ g.1 }

-- ---- the size of the record at the front

pub record Size (s : List ℕ) (n : ℕ) : Type 0 where
  pub least : 3 ≤ n
  pub inside : n ≤ length s
  pub whole : n ≡ 2 + be16 s
  pub most : n ≤ record_limit

abbrev pub SizedEntry : List ℕ → Entry → Type 0
SizedEntry s flawed = Unit
SizedEntry s (entry n r) = Size s n

module _ (s : List ℕ) (n : ℕ) (t : List ℕ) (least : 1 ≤ n) (inside : 2 + n ≤ length s) (whole : n ≡ be16 s) where
  size : n ≤ 4128 → Size s (2 + n)
  size h = record { least = omega arith; inside = inside; whole = omega arith; most = omega arith }

  labelled_size : (k : ℕ) → k ≤ 32 → label_fits n k ≡ true → Size s (2 + n)
  labelled_size k h e = let z = fits n k e in size (omega arith)

  sized_leg : SizedEntry s (leg_entry n t)
  unfolding leg_entry
  sized_leg = pick_case (SizedEntry s) _ _ _ (λ e. labelled_size 32 (omega arith) (both _ _ e).0) λ e. tt

  sized_station : SizedEntry s (station_entry n t)
  unfolding station_entry
  sized_station = pick_case (SizedEntry s) _ _ _ (λ e. labelled_size 14 (omega arith) (both _ _ e).0) λ e. tt

  sized_section : SizedEntry s (section_entry n t)
  unfolding section_entry
  sized_section = pick_case (SizedEntry s) _ _ _ (λ e. labelled_size 23 (omega arith) (both _ _ e).0) λ e. tt

  sized_undated : SizedEntry s (undated_section_entry n t)
  unfolding undated_section_entry
  sized_undated = pick_case (SizedEntry s) _ _ _ (λ e. labelled_size 18 (omega arith) (both _ _ e).0) λ e. tt

  sized_error : SizedEntry s (error_entry n t)
  unfolding error_entry
  sized_error = pick_case (SizedEntry s) _ _ _ (λ e. let z : n ≡ 21 = eqb-true _ _ e in size (omega arith)) λ e. tt

  sized_body : (version : ℕ) → SizedEntry s (body_entry version n t)
  unfolding body_entry
  sized_body version =
      pick_case (SizedEntry s) _ _ _ (λ e. sized_leg) λ e.
      pick_case (SizedEntry s) _ _ _ (λ e. sized_station) λ e.
      pick_case (SizedEntry s) _ _ _ (λ e. pick_case (SizedEntry s) _ _ _ (λ u. sized_undated) (λ u. sized_section)) λ e.
      pick_case (SizedEntry s) _ _ _ (λ e. sized_error) λ e. tt

pub sized_entry : (version : ℕ) (s : List ℕ) → SizedEntry s (entry_of version s)
unfolding entry_of
sized_entry version s = pick_case (SizedEntry s) _ _ _ (λ e. let f = frame s e in sized_body s (be16 s) (drop 2 s) f.least f.inside refl version) λ e. tt

pub entry_sized : (version : ℕ) (s : List ℕ) {k : ℕ} {r : Record} → entry_of version s ≡ entry k r → Size s k
entry_sized version s e = rw e at (sized_entry version s)

-- ---- the equation of reading records

entry_step_cong : (s : List ℕ) (it : Entry) → SizedEntry s it → (n : ℕ) (f g : ℕ → ℕ → Result) → ((k m : ℕ) → 0 < k → k ≤ length s → f k m ≡ g k m) → entry_step it n f ≡ entry_step it n g
entry_step_cong s flawed z n f g h = refl
entry_step_cong s (entry k r) z n f g h = ap (λ (x : Result). also r x) (h k (n + 1) (omega arith) z.inside)

records_step_cong : (version : ℕ) (at : ℕ) (s : List ℕ) (n : ℕ) (f g : ℕ → ℕ → Result) → ((k m : ℕ) → 0 < k → k ≤ length s → f k m ≡ g k m) → records_step version at s n f ≡ records_step version at s n g
unfolding records_step
records_step_cong version at s n f g h = ap (λ (x : Result). pick (eqb (length s) 0) (stop Good) x) (entry_step_cong s (entry_of version s) (sized_entry version s) n f g h)

records_eq : (version : ℕ) (at : ℕ) (s : List ℕ) (n : ℕ) → records_from version at s n ≡ records_step version at s n (λ k m. records_from version (at + k) (drop k s) m)
unfolding records_from
records_eq version at s n = iter_eq (records_step version) (λ p. stop Good) (records_step_cong version) at s n

pub records_none : (version : ℕ) (at n : ℕ) → records_from version at [] n ≡ stop Good
unfolding records_step pick
records_none version at n = records_eq version at [] n

pub records_more : (version : ℕ) (at : ℕ) (s : List ℕ) (n : ℕ) → 0 < length s → records_from version at s n ≡ entry_step (entry_of version s) n (λ k m. records_from version (at + k) (drop k s) m)
unfolding records_step
records_more version at s n h = records_eq version at s n ∙ pick_false _ _ (ne_eqb (length s) 0 λ e. omega arith)

-- ---- the lengths of layouts

pub layout_leg : (version : ℕ) (g : Leg) (label : List ℕ) → length (layout version (leg g label)) ≡ 2 + (leg_size + length label)
unfolding layout to_be16 to_be32
layout_leg version g label = omega arith

pub layout_station : (version : ℕ) (s : Station) (label : List ℕ) → length (layout version (station s label)) ≡ 2 + (station_size + length label)
unfolding layout to_be16 to_be32
layout_station version s label = omega arith

pub layout_section : (s : Section) (label : List ℕ) → length (layout sheet_version (section s label)) ≡ 2 + (section_size + length label)
unfolding layout to_be16 to_be32 pick
layout_section s label = omega arith

pub layout_error : (version : ℕ) (t : Traverse) → length (layout version (error t)) ≡ 2 + error_size
unfolding layout to_be16 to_be32
layout_error version t = refl

layout_is : (version : ℕ) (r : Record) → length (layout version r) ≡ 2 + length (record_body version r)
unfolding layout to_be16
layout_is version r = omega arith

section_most : (version : ℕ) (s : Section) (label : List ℕ) → length label ≤ label_limit → length (record_body version (section s label)) ≤ section_size + label_limit
unfolding to_be16 to_be32
section_most version s label h = pick_case (λ (b : List ℕ). length b ≤ section_size + label_limit) (eqb version undated_version) _ _ (λ e. omega arith) (λ e. omega arith)

-- a section takes at least what it does in version 1
pub section_least : (version : ℕ) (s : Section) (label : List ℕ) → 2 + (undated_section_size + length label) ≤ length (layout version (section s label))
unfolding layout to_be16 to_be32
section_least version s label =
    let h : undated_section_size + length label ≤ length (record_body version (section s label)) =
    pick_case (λ (b : List ℕ). undated_section_size + length label ≤ length b) (eqb version undated_version) _ _ (λ e. omega arith) (λ e. omega arith) in
    omega arith

body_some : (version : ℕ) (r : Record) → 1 ≤ length (record_body version r)
body_some version (leg g label) = omega arith
body_some version (station s label) = omega arith
body_some version (section s label) = pick_case (λ (b : List ℕ). 1 ≤ length b) (eqb version undated_version) _ _ (λ e. omega arith) (λ e. omega arith)
body_some version (error t) = omega arith

pub layout_length : (version : ℕ) (r : Record) → WellFormed r → length (layout version r) ≤ record_limit
layout_length version (leg g label) w = omega (arith, layout_leg version g label)
layout_length version (station s label) w = omega (arith, layout_station version s label)
layout_length version (section s label) w = omega (arith, layout_is version (section s label), section_most version s label w.label_fits)
layout_length version (error t) w = omega (arith, layout_error version t)

-- the size that the code adds up is that of the layout
pub layout_size : (f : Fields) (l : List ℕ) → length (layout sheet_version (record_of f l)) ≡ record_size f (length l)
layout_size (FieldsLeg flags style date from to) l = layout_leg sheet_version _ l ∙ omega arith
layout_size (FieldsStation s) l = layout_station sheet_version s l ∙ omega arith
layout_size (FieldsSection last unused date size) l = layout_section _ l ∙ omega arith
layout_size (FieldsError t) l = layout_error sheet_version t

-- ---- dates: kind, day and last day tell the date

pub record DateBack (x : Dated) : Type 0 where
  pub same : date_from (date_kind x) (date_day x) (date_last x) ≡ x
  pub good : good_date (date_kind x) (date_day x) (date_last x) ≡ true
  pub day_fits : date_day x < 65536
  pub last_fits : date_last x < 65536

pub date_back : (x : Dated) → GoodDated x → DateBack x
unfolding date_from good_date pick
date_back Undated w = record { same = refl; good = refl; day_fits = omega arith; last_fits = omega arith }
date_back (Day d) w = record { same = refl; good = refl; day_fits = w; last_fits = omega arith }
date_back (Range d e) w = record { same = refl; good = lt-ltb d e w.0; day_fits = omega (arith, w.0, w.1); last_fits = w.1 }

-- ---- one record, laid out and read

module _ (label rest : List ℕ) (n : ℕ) where
  label_back : (k : ℕ) → n ≡ k + length label → take (n - k) (label ++ rest) ≡ label
  label_back k e = let z : n - k ≡ length label = omega arith in rw z (take_at label rest (length label) refl)

  fits_back : (k : ℕ) → n ≡ k + length label → length label ≤ label_limit → label_fits n k ≡ true
  fits_back k e h = and_true (le-leb k n (omega arith)) (le-leb n (k + label_limit) (omega arith))

  leg_back : n ≡ leg_size + length label → (g : Leg) → GoodLeg g label → leg_entry n (leg_body g label ++ rest) ≡ entry (2 + n) (leg g label)
  unfolding leg_entry pick to_be16 to_be32
  leg_back en g w =
      let p = w.from_fits in
      let q = w.to_fits in
      let d = date_back g.date w.date_fits in
      simp (
        fits_back leg_size en w.label_fits,
        le-leb g.flags 0x07 w.flags_fit,
        le-leb g.style 5 w.style_fits,
        be16_to,
        d.day_fits,
        d.last_fits,
        d.good,
        d.same,
        be32_to,
        p.x_fits,
        p.y_fits,
        p.z_fits,
        q.x_fits,
        q.y_fits,
        q.z_fits,
        label_back leg_size en,
      )

  station_back : n ≡ station_size + length label → (s : Station) → GoodStation s label → station_entry n (station_body s label ++ rest) ≡ entry (2 + n) (station s label)
  unfolding station_entry pick to_be32
  station_back en s w =
      let g = w.place_fits in
      simp (fits_back station_size en w.label_fits, le-leb s.flags 0x7f w.flags_fit, be32_to, g.x_fits, g.y_fits, g.z_fits, label_back station_size en)

  section_back : n ≡ section_size + length label → (s : Section) → GoodSection s label → section_entry n (section_body s label ++ rest) ≡ entry (2 + n) (section s label)
  unfolding section_entry pick to_be16 to_be32
  section_back en s w =
      let g = w.dimensions_fit in
      let d = date_back s.date w.date_fits in
      simp (
        fits_back section_size en w.label_fits,
        le-leb s.last 1 w.last_fits,
        be16_to,
        d.day_fits,
        d.last_fits,
        d.good,
        d.same,
        be32_to,
        g.left_fits,
        g.right_fits,
        g.up_fits,
        g.down_fits,
        label_back section_size en,
      )

  undated_back : n ≡ undated_section_size + length label → (s : Section) → GoodSection s label → s.date ≡ Undated
      → undated_section_entry n (undated_section_body s label ++ rest) ≡ entry (2 + n) (section s label)
  unfolding undated_section_entry pick to_be32
  undated_back en s w u =
      let g = w.dimensions_fit in
      simp (fits_back undated_section_size en w.label_fits, le-leb s.last 1 w.last_fits, be32_to, g.left_fits, g.right_fits, g.up_fits, g.down_fits, label_back undated_section_size en)
      (ap (λ (d : Dated). entry (2 + n) (section (record { last = s.last; date = d; size = s.size }) label)) (sym u))

error_back : (t : Traverse) (rest : List ℕ) → GoodTraverse t → error_entry 21 (error_body t ++ rest) ≡ entry 23 (error t)
unfolding error_entry pick to_be32
error_back t rest g = simp (be32_to, g.legs_fit, g.total_fits, g.e_fits, g.h_fits, g.v_fits)

-- "a version 1 section having no date": the records that a sheet of the version has a layout for
abbrev pub Carries : ℕ → Record → Type 0
Carries version (leg g label) = Unit
Carries version (station s label) = Unit
Carries version (section s label) = version ≡ undated_version → s.date ≡ Undated
Carries version (error t) = Unit

body_back : (version : ℕ) (r : Record) → WellFormed r → Carries version r → (rest : List ℕ) (n : ℕ) → n ≡ length (record_body version r)
    → body_entry version n (record_body version r ++ rest) ≡ entry (2 + n) r
unfolding body_entry pick to_be16 to_be32
body_back version (leg g label) w c rest n en = leg_back label rest n (omega arith) g w
body_back version (station s label) w c rest n en = station_back label rest n (omega arith) s w
body_back version (section s label) w c rest n en = go (eqb version undated_version) refl
  where
    go : (t : Bool) → eqb version undated_version ≡ t → body_entry version n (record_body version (section s label) ++ rest) ≡ entry (2 + n) (section s label)
    go true e = let k = rw e at en in rw e (undated_back label rest n (omega arith) s w (c (eqb-true version undated_version e)))
    go false e = let k = rw e at en in rw e (section_back label rest n (omega arith) s w)
body_back version (error t) w c rest n en = rw en (error_back t rest w)

-- what is laid out is all there
is_framed : (s : List ℕ) → 1 ≤ be16 s → 2 + be16 s ≤ length s → framed s ≡ true
unfolding framed
is_framed s h1 h2 = and_true (le-leb 3 (length s) (omega arith)) (and_true (le-leb 1 (be16 s) h1) (le-leb (2 + be16 s) (length s) h2))

entry_framed : (version : ℕ) (s : List ℕ) → 1 ≤ be16 s → 2 + be16 s ≤ length s → entry_of version s ≡ body_entry version (be16 s) (drop 2 s)
unfolding entry_of
entry_framed version s h1 h2 = pick_true _ _ (is_framed s h1 h2)

-- "A well-formed record keeps the sheet's layout": it is read back
pub entry_layout : (version : ℕ) (r : Record) → WellFormed r → Carries version r → (rest : List ℕ) → entry_of version (layout version r ++ rest) ≡ entry (length (layout version r)) r
unfolding layout to_be16
entry_layout version r w c rest =
    let b = record_body version r in
    let most = layout_length version r w in
    let some = body_some version r in
    let e : be16 (layout version r ++ rest) ≡ length b = be16_to (length b) (b ++ rest) (omega arith) in
    let l = length-append b rest in
    entry_framed version (layout version r ++ rest) (omega arith) (omega arith) ∙ body_back version r w c rest (be16 (layout version r ++ rest)) e ∙ ap (λ (n : ℕ). entry n r) (omega arith)

-- ---- the other way: what is read is what is laid out

-- what is left of bytes is bytes
pub bytes_drop : (s : List ℕ) → Bytes s → (k : ℕ) → Bytes (drop k s)
bytes_drop s b k i = rw get_or-drop (b (k + i))

module _ (s : List ℕ) (b : Bytes s) where
  pub be16_fits : be16 s < 65536
  unfolding be16
  be16_fits = omega (arith, b 0, b 1)

  pub be32_fits : be32 s < 4294967296
  unfolding be32
  be32_fits = omega (arith, b 0, b 1, b 2, b 3)

-- the bytes of the number at the front are those that stand there
to_be16_lem : (s : List ℕ) → Bytes s → (m : ℕ) → 2 ≤ length s → to_be16 (be16 s) ++ take m (drop 2 s) ≡ take (2 + m) s
unfolding be16 to_be16
to_be16_lem [] b m h = absurd (omega arith)
to_be16_lem (x ∷ []) b m h = absurd (omega arith)
to_be16_lem (x ∷ y ∷ s) b m h =
    let hx : x < 256 = b 0 in
    let hy : y < 256 = b 1 in
    let ex : (x * 256 + y) / 256 % 256 ≡ x = omega arith in
    let ey : (x * 256 + y) % 256 ≡ y = omega arith in
    rw (take-add 2 m (x ∷ y ∷ s), ex, ey)

to_be32_lem : (s : List ℕ) → Bytes s → (m : ℕ) → 4 ≤ length s → to_be32 (be32 s) ++ take m (drop 4 s) ≡ take (4 + m) s
unfolding be32 to_be32
to_be32_lem [] b m h = absurd (omega arith)
to_be32_lem (x ∷ []) b m h = absurd (omega arith)
to_be32_lem (x ∷ y ∷ []) b m h = absurd (omega arith)
to_be32_lem (x ∷ y ∷ z ∷ []) b m h = absurd (omega arith)
to_be32_lem (x ∷ y ∷ z ∷ w ∷ s) b m h =
    let hx : x < 256 = b 0 in
    let hy : y < 256 = b 1 in
    let hz : z < 256 = b 2 in
    let hw : w < 256 = b 3 in
    let ex : (x * 16777216 + y * 65536 + z * 256 + w) / 16777216 % 256 ≡ x = omega arith in
    let ey : (x * 16777216 + y * 65536 + z * 256 + w) / 65536 % 256 ≡ y = omega arith in
    let ez : (x * 16777216 + y * 65536 + z * 256 + w) / 256 % 256 ≡ z = omega arith in
    let ew : (x * 16777216 + y * 65536 + z * 256 + w) % 256 ≡ w = omega arith in
    rw (take-add 4 m (x ∷ y ∷ z ∷ w ∷ s), ex, ey, ez, ew)

-- the same of what stands k bytes on: a byte, a number, and numbers in a row
module _ (t : List ℕ) (b : Bytes t) (k m : ℕ) where
  byte_take : k + 1 ≤ length t → get_or t k 0 ∷ take m (drop (k + 1) t) ≡ take (1 + m) (drop k t)
  byte_take h = rw (take-add 1 m (drop k t), drop-drop 1 k t, drop-cons t k 0 (omega arith))

  be16_take : k + 2 ≤ length t → to_be16 (be16 (drop k t)) ++ take m (drop (k + 2) t) ≡ take (2 + m) (drop k t)
  be16_take h = rw (← (drop-drop 2 k t)) (to_be16_lem (drop k t) (bytes_drop t b k) m (simp length-drop (omega arith)))

  be32_take : k + 4 ≤ length t → to_be32 (be32 (drop k t)) ++ take m (drop (k + 4) t) ≡ take (4 + m) (drop k t)
  be32_take h = rw (← (drop-drop 4 k t)) (to_be32_lem (drop k t) (bytes_drop t b k) m (simp length-drop (omega arith)))

module _ (u : List ℕ) (b : Bytes u) (m : ℕ) where
  point_take : 12 ≤ length u → point_bytes to_be32 (point_of be32 u) ++ take m (drop 12 u) ≡ take (12 + m) u
  point_take h =
      let z : 4 + (4 + (4 + m)) ≡ 12 + m = omega arith in
      simp append_assoc (rw (be32_take u b 8 m (omega arith), be32_take u b 4 (4 + m) (omega arith), be32_take u b 0 (4 + (4 + m)) (omega arith), z))

  dimensions_take : 16 ≤ length u → dimension_bytes to_be32 (dimensions_of 4 be32 u) ++ take m (drop 16 u) ≡ take (16 + m) u
  dimensions_take h =
      let z : 4 + (4 + (4 + (4 + m))) ≡ 16 + m = omega arith in
      simp append_assoc (rw (be32_take u b 12 m (omega arith), be32_take u b 8 (4 + m) (omega arith), be32_take u b 4 (4 + (4 + m)) (omega arith), be32_take u b 0 (4 + (4 + (4 + m))) (omega arith), z))

  traverse_take : 20 ≤ length u → traverse_bytes to_be32 (traverse_of be32 u) ++ take m (drop 20 u) ≡ take (20 + m) u
  traverse_take h =
      let z : 4 + (4 + (4 + (4 + (4 + m)))) ≡ 20 + m = omega arith in
      simp append_assoc (rw (be32_take u b 16 m (omega arith), be32_take u b 12 (4 + m) (omega arith), be32_take u b 8 (4 + (4 + m)) (omega arith), be32_take u b 4 (4 + (4 + (4 + m))) (omega arith), be32_take u b 0 (4 + (4 + (4 + (4 + m)))) (omega arith), z))

-- ---- a record read, by its kind

-- a date is good and has the kind and days that it was read from
pub record DateRead (kind d e : ℕ) (x : Dated) : Type 0 where
  pub kind_is : date_kind x ≡ kind
  pub day_is : date_day x ≡ d
  pub last_is : date_last x ≡ e
  pub fits : d < 65536 → e < 65536 → GoodDated x

date_cases : (kind d e : ℕ) (a b : Bool) → eqb kind 0 ≡ a → eqb kind 1 ≡ b → pick a (eqb d 0 && eqb e 0) (pick b (eqb e 0) (eqb kind 2 && ltb d e)) ≡ true
    → DateRead kind d e (pick a Undated (pick b (Day d) (Range d e)))
unfolding pick
date_cases kind d e true b ea eb q =
    let f = both (eqb d 0) (eqb e 0) q in
    record { kind_is = sym (eqb-true kind 0 ea); day_is = sym (eqb-true d 0 f.0); last_is = sym (eqb-true e 0 f.1); fits = λ hd he. tt }
date_cases kind d e false true ea eb q = record { kind_is = sym (eqb-true kind 1 eb); day_is = refl; last_is = sym (eqb-true e 0 q); fits = λ hd he. hd }
date_cases kind d e false false ea eb q =
    let f = both (eqb kind 2) (ltb d e) q in
    record { kind_is = sym (eqb-true kind 2 f.0); day_is = refl; last_is = refl; fits = λ hd he. (ltb-true d e f.1, he) }

pub date_read : (kind d e : ℕ) → good_date kind d e ≡ true → DateRead kind d e (date_from kind d e)
unfolding good_date date_from
date_read kind d e q = date_cases kind d e (eqb kind 0) (eqb kind 1) refl refl q

-- a date's five bytes at k, laid out again
date_take : (t : List ℕ) → Bytes t → (k m : ℕ) → k + 5 ≤ length t → good_date (get_or t k 0) (be16 (drop (k + 1) t)) (be16 (drop (k + 3) t)) ≡ true
    → date_bytes (date_from (get_or t k 0) (be16 (drop (k + 1) t)) (be16 (drop (k + 3) t))) ++ take m (drop (k + 5) t) ≡ take (5 + m) (drop k t)
date_take t b k m h d =
    let q = date_read (get_or t k 0) (be16 (drop (k + 1) t)) (be16 (drop (k + 3) t)) d in
    let z5 : k + 3 + 2 ≡ k + 5 = omega arith in
    let z3 : k + 1 + 2 ≡ k + 3 = omega arith in
    let z : 1 + (2 + (2 + m)) ≡ 5 + m = omega arith in
    rw (
      q.kind_is,
      q.day_is,
      q.last_is,
      append_assoc (to_be16 (be16 (drop (k + 1) t))) (to_be16 (be16 (drop (k + 3) t))) _,
      ← z5,
      be16_take t b (k + 3) m (omega arith),
      ← z3,
      be16_take t b (k + 1) (2 + m) (omega arith),
      byte_take t b k (2 + (2 + m)) (omega arith),
      z,
    )

-- the bytes of a body t from the kind on, laid out again
module _ (t : List ℕ) (b : Bytes t) (m : ℕ) where
  point_from : (k : ℕ) → k + 12 ≤ length t → point_bytes to_be32 (point_of be32 (drop k t)) ++ take m (drop (k + 12) t) ≡ take (12 + m) (drop k t)
  point_from k h = rw (drop-drop 12 k t) at (point_take (drop k t) (bytes_drop t b k) m (simp length-drop (omega arith)))

  dimensions_from : (k : ℕ) → k + 16 ≤ length t → dimension_bytes to_be32 (dimensions_of 4 be32 (drop k t)) ++ take m (drop (k + 16) t) ≡ take (16 + m) (drop k t)
  dimensions_from k h = rw (drop-drop 16 k t) at (dimensions_take (drop k t) (bytes_drop t b k) m (simp length-drop (omega arith)))

  -- the kind and the byte after it
  kind_take : (kind : ℕ) → 2 ≤ length t → get_or t 0 0 ≡ kind → kind ∷ get_or t 1 0 ∷ take m (drop 2 t) ≡ take (2 + m) t
  kind_take kind h e =
      let z : 1 + (1 + m) ≡ 2 + m = omega arith in
      rw (← e, byte_take t b 1 m (omega arith), byte_take t b 0 (1 + m) (omega arith), z)

module _ (t : List ℕ) (b : Bytes t) (n : ℕ) (inside : n ≤ length t) where
  station_take : station_size ≤ n → get_or t 0 0 ≡ 2 → station_body (station_fields t) (label_from n station_size t) ≡ take n t
  station_take h e =
      let z : 2 + (12 + (n - 14)) ≡ n = omega arith in
      rw (point_from t b (n - 14) 2 (omega arith), kind_take t b (12 + (n - 14)) 2 (omega arith) e, z)

  section_take : section_size ≤ n → get_or t 0 0 ≡ 3 → good_date (get_or t 2 0) (be16 (drop 3 t)) (be16 (drop 5 t)) ≡ true
      → section_body (section_fields t) (label_from n section_size t) ≡ take n t
  section_take h e d =
      let k = n - 23 in
      let z : 2 + (5 + (16 + k)) ≡ n = omega arith in
      rw (dimensions_from t b k 7 (omega arith), date_take t b 2 (16 + k) (omega arith) d, kind_take t b (5 + (16 + k)) 3 (omega arith) e, z)

  undated_take : undated_section_size ≤ n → get_or t 0 0 ≡ 3 → undated_section_body (undated_section_fields t) (label_from n undated_section_size t) ≡ take n t
  undated_take h e =
      let z : 2 + (16 + (n - 18)) ≡ n = omega arith in
      rw (dimensions_from t b (n - 18) 2 (omega arith), kind_take t b (16 + (n - 18)) 3 (omega arith) e, z)

  error_take : n ≡ 21 → get_or t 0 0 ≡ 4 → error_body (traverse_of be32 (drop 1 t)) ≡ take n t
  error_take en e =
      let q : traverse_bytes to_be32 (traverse_of be32 (drop 1 t)) ≡ take 20 (drop 1 t) = sym (append-nil _) ∙ traverse_take (drop 1 t) (bytes_drop t b 1) 0 (simp length-drop (omega arith)) in
      rw (q, ← e, byte_take t b 0 20 (omega arith), en)

  leg_take : leg_size ≤ n → get_or t 0 0 ≡ 1 → good_date (get_or t 3 0) (be16 (drop 4 t)) (be16 (drop 6 t)) ≡ true
      → leg_body (leg_fields t) (label_from n leg_size t) ≡ take n t
  leg_take h e d =
      let k = n - 32 in
      let z : 2 + (1 + (5 + (12 + (12 + k)))) ≡ n = omega arith in
      rw (
        point_from t b k 20 (omega arith),
        point_from t b (12 + k) 8 (omega arith),
        date_take t b 3 (12 + (12 + k)) (omega arith) d,
        byte_take t b 2 (5 + (12 + (12 + k))) (omega arith),
        kind_take t b (1 + (5 + (12 + (12 + k)))) 1 (omega arith) e,
        z,
      )

  -- the label that is read is no longer than a label may be
  label_short : (k : ℕ) → label_fits n k ≡ true → length (label_from n k t) ≤ label_limit
  label_short k e =
      let z = fits n k e in
      let l : length (label_from n k t) ≡ n - k = length-take-le (n - k) (drop k t) (simp length-drop (omega arith)) in
      omega arith

-- a body of n bytes, read as an entry
abbrev BodyRead : ℕ → ℕ → List ℕ → Entry → Type 0
BodyRead version n t flawed = Unit
BodyRead version n t (entry k r) = (k ≡ 2 + n) × (record_body version r ≡ take n t) × WellFormed r

module _ (version n : ℕ) (t : List ℕ) (b : Bytes t) (inside : n ≤ length t) where
  word_fits : (k j : ℕ) → be32 (drop j (drop k t)) < 4294967296
  word_fits k j = be32_fits (drop j (drop k t)) (bytes_drop (drop k t) (bytes_drop t b k) j)

  point_fits : (k : ℕ) → GoodPoint (point_of be32 (drop k t))
  point_fits k = record { x_fits = word_fits k 0; y_fits = word_fits k 4; z_fits = word_fits k 8 }

  leg_read : get_or t 0 0 ≡ 1 → BodyRead version n t (leg_entry n t)
  unfolding leg_entry
  leg_read e0 =
      pick_case (BodyRead version n t) _ _ _
      (λ e.
      let f = both (label_fits n leg_size) _ e in
      let g = both (leb (get_or t 1 0) 7) _ f.1 in
      let h = both (leb (get_or t 2 0) 5) _ g.1 in (
        refl,
        leg_take t b n inside (fits n leg_size f.0).least e0 h.1,
        record {
          flags_fit = leb-true _ _ g.0;
          style_fits = leb-true _ _ h.0;
          date_fits = (date_read _ _ _ h.1).fits (be16_fits _ (bytes_drop t b 4)) (be16_fits _ (bytes_drop t b 6));
          from_fits = point_fits 8;
          to_fits = point_fits 20;
          label_fits = label_short t b n inside leg_size f.0;
        },
      ))
      λ e. tt

  station_read : get_or t 0 0 ≡ 2 → BodyRead version n t (station_entry n t)
  unfolding station_entry
  station_read e0 =
      pick_case (BodyRead version n t) _ _ _
      (λ e.
      let f = both (label_fits n station_size) _ e in
      (refl, station_take t b n inside (fits n station_size f.0).least e0, record { flags_fit = leb-true _ _ f.1; place_fits = point_fits 2; label_fits = label_short t b n inside station_size f.0 }))
      λ e. tt

  dimensions_fit : (k : ℕ) → GoodDimensions (dimensions_of 4 be32 (drop k t))
  dimensions_fit k = record { left_fits = word_fits k 0; right_fits = word_fits k 4; up_fits = word_fits k 8; down_fits = word_fits k 12 }

  section_read : eqb version undated_version ≡ false → get_or t 0 0 ≡ 3 → BodyRead version n t (section_entry n t)
  unfolding section_entry
  section_read u e0 =
      pick_case (BodyRead version n t) _ _ _
      (λ e.
      let f = both (label_fits n section_size) _ e in
      let g = both (leb (get_or t 1 0) 1) _ f.1 in (
        refl,
        pick_false _ _ u ∙ section_take t b n inside (fits n section_size f.0).least e0 g.1,
        record {
          last_fits = leb-true _ _ g.0;
          date_fits = (date_read _ _ _ g.1).fits (be16_fits _ (bytes_drop t b 3)) (be16_fits _ (bytes_drop t b 5));
          dimensions_fit = dimensions_fit 7;
          label_fits = label_short t b n inside section_size f.0;
        },
      ))
      λ e. tt

  undated_read : eqb version undated_version ≡ true → get_or t 0 0 ≡ 3 → BodyRead version n t (undated_section_entry n t)
  unfolding undated_section_entry
  undated_read u e0 =
      pick_case (BodyRead version n t) _ _ _
      (λ e.
      let f = both (label_fits n undated_section_size) _ e in (
        refl,
        pick_true _ _ u ∙ undated_take t b n inside (fits n undated_section_size f.0).least e0,
        record { last_fits = leb-true _ _ f.1; date_fits = tt; dimensions_fit = dimensions_fit 2; label_fits = label_short t b n inside undated_section_size f.0 },
      ))
      λ e. tt

  error_read : get_or t 0 0 ≡ 4 → BodyRead version n t (error_entry n t)
  unfolding error_entry
  error_read e0 =
      pick_case (BodyRead version n t) _ _ _
      (λ e. (refl, error_take t b n inside (eqb-true n 21 e) e0, record { legs_fit = word_fits 1 0; total_fits = word_fits 1 4; e_fits = word_fits 1 8; h_fits = word_fits 1 12; v_fits = word_fits 1 16 }))
      λ e. tt

  body_read : BodyRead version n t (body_entry version n t)
  unfolding body_entry
  body_read =
      pick_case (BodyRead version n t) _ _ _ (λ e. leg_read (eqb-true (get_or t 0 0) 1 e)) λ e.
      pick_case (BodyRead version n t) _ _ _ (λ e. station_read (eqb-true (get_or t 0 0) 2 e)) λ e.
      pick_case (BodyRead version n t) _ _ _ (λ e. pick_case (BodyRead version n t) _ _ _ (λ u. undated_read u (eqb-true (get_or t 0 0) 3 e)) (λ u. section_read u (eqb-true (get_or t 0 0) 3 e))) λ e.
      pick_case (BodyRead version n t) _ _ _ (λ e. error_read (eqb-true (get_or t 0 0) 4 e)) λ e. tt

-- the record at the front of s: its bytes are its layout, and it is well-formed
abbrev pub EntryRead : ℕ → List ℕ → Entry → Type 0
EntryRead version s flawed = Unit
EntryRead version s (entry k r) = (take k s ≡ layout version r) × (k ≡ length (layout version r)) × WellFormed r

framed_read : (version : ℕ) (s : List ℕ) → Bytes s → 2 + be16 s ≤ length s → (it : Entry) → BodyRead version (be16 s) (drop 2 s) it → EntryRead version s it
unfolding layout
framed_read version s b h flawed x = tt
framed_read version s b h (entry k r) x =
    let n = be16 s in
    let l : length (take n (drop 2 s)) ≡ n = length-take-le n (drop 2 s) (simp length-drop (omega arith)) in
    let lr : length (record_body version r) ≡ n = ap length x.1 ∙ l in
    let e : take k s ≡ layout version r = rw (x.0, lr, x.1) (sym (to_be16_lem s b n (omega arith))) in
    (e, x.0 ∙ rw (layout_is version r, lr), x.2)

pub read_entry : (version : ℕ) (s : List ℕ) → Bytes s → EntryRead version s (entry_of version s)
unfolding entry_of
read_entry version s b =
    pick_case (EntryRead version s) _ _ _
    (λ e. let f = frame s e in framed_read version s b f.inside (body_entry version (be16 s) (drop 2 s)) (body_read version (be16 s) (drop 2 s) (bytes_drop s b 2) (simp length-drop (omega arith))))
    λ e. tt

pub entry_read : (version : ℕ) (s : List ℕ) → Bytes s → {k : ℕ} {r : Record} → entry_of version s ≡ entry k r → (take k s ≡ layout version r) × (k ≡ length (layout version r)) × WellFormed r
entry_read version s b e = rw e at (read_entry version s b)

-- ---- all the records of a list of bytes

layout_some : (version : ℕ) (r : Record) → 3 ≤ length (layout version r)
layout_some version r = omega (arith, layout_is version r, body_some version r)

abbrev pub AllCarried : ℕ → List Record → Type 0
AllCarried version [] = Unit
AllCarried version (r ∷ rs) = Carries version r × AllCarried version rs

-- version 2 carries every record
carries : (r : Record) → Carries sheet_version r
carries (leg g label) = tt
carries (station s label) = tt
carries (section s label) = λ e. absurd (omega arith)
carries (error t) = tt

pub all_carried : (rs : List Record) → AllCarried sheet_version rs
all_carried [] = tt
all_carried (r ∷ rs) = (carries r, all_carried rs)

layout_from : (version : ℕ) (rs : List Record) → AllWellFormed rs → AllCarried version rs → (at n : ℕ) → records_from version at (layout_all version rs) n ≡ record { records = rs; verdict = Good }
unfolding layout_all
layout_from version [] w c at n = records_none version at n
layout_from version (r ∷ rs) w c at n =
    let k = length (layout version r) in
    let h : 0 < length (layout version r ++ layout_all version rs) = omega (arith, layout_some version r, length-append (layout version r) (layout_all version rs)) in
    records_more version at (layout version r ++ layout_all version rs) n h
    ∙ rw (entry_layout version r w.0 c.0 (layout_all version rs), drop_at (layout version r) (layout_all version rs) k refl, layout_from version rs w.1 c.1 (at + k) (n + 1))

pub layout_records : (version : ℕ) (rs : List Record) → AllWellFormed rs → AllCarried version rs → records_of version (layout_all version rs) ≡ record { records = rs; verdict = Good }
unfolding records_of
layout_records version rs w c = layout_from version rs w c 0 0

-- what is read from s is well-formed, whatever the verdict; and s is its layout where the verdict is good
pub record RecordsRead (version : ℕ) (s : List ℕ) (x : Result) : Type 0 where
  pub formed : AllWellFormed x.records
  pub laid : x.verdict ≡ Good → layout_all version x.records ≡ s

step_read : (version : ℕ) (s : List ℕ) (it : Entry) → EntryRead version s it → (n : ℕ) (go : ℕ → ℕ → Result) → ((k m : ℕ) → 0 < k → RecordsRead version (drop k s) (go k m)) → RecordsRead version s (entry_step it n go)
unfolding layout_all
step_read version s flawed x n go h = record { formed = tt; laid = λ e. cc }
step_read version s (entry k r) x n go h =
    let g = h k (n + 1) (omega (arith, x.1, layout_some version r)) in
    record { formed = (x.2, g.formed); laid = λ e. rw (← x.0, g.laid e) (take-append-drop k s) }

read_list : (version : ℕ) (at : ℕ) (s : List ℕ) (n : ℕ) → Bytes s → ((k m : ℕ) → 0 < k → 0 < length s → RecordsRead version (drop k s) (records_from version (at + k) (drop k s) m)) → RecordsRead version s (records_from version at s n)
unfolding layout_all
read_list version at [] n b h = rw (records_none version at n) (record { formed = tt; laid = λ e. refl })
read_list version at (x ∷ s) n b h =
    rw (records_more version at (x ∷ s) n (omega arith))
    (step_read version (x ∷ s) (entry_of version (x ∷ s)) (read_entry version (x ∷ s) b) n _ λ k m hk. h k m hk (omega arith))

read_from_lem : (version : ℕ) (f at : ℕ) (s : List ℕ) (n : ℕ) → length s ≤ f → Bytes s → RecordsRead version s (records_from version at s n)
read_from_lem version zero at s n h b = read_list version at s n b λ k m hk hs. absurd (omega arith)
read_from_lem version (suc f) at s n h b = read_list version at s n b λ k m hk hs. read_from_lem version f (at + k) (drop k s) m (simp length-drop (omega arith)) (bytes_drop s b k)

pub records_read : (version : ℕ) (s : List ℕ) → Bytes s → RecordsRead version s (records_of version s)
unfolding records_of
records_read version s b = read_from_lem version (length s) 0 s 0 (le_refl _) b

pub records_formed : (version : ℕ) (s : List ℕ) → Bytes s → AllWellFormed (records_of version s).records
records_formed version s b = (records_read version s b).formed

pub records_layout : (version : ℕ) (s : List ℕ) → Bytes s → (rs : List Record) → records_of version s ≡ record { records = rs; verdict = Good } → (layout_all version rs ≡ s) × AllWellFormed rs
records_layout version s b rs e = let x = rw e at (records_read version s b) in (x.laid refl, x.formed)

-- ---- a sheet: its version byte, its header, its records

-- a text that keeps the header's rules
pub record GoodText (limit : ℕ) (l : List ℕ) : Type 0 where
  pub no_linefeed : line_end l ≡ length l
  pub short : length l ≤ limit
  pub no_return : ends_in_return l ≡ false

pub text_good : (limit : ℕ) (l : List ℕ) → good_text limit l ≡ true → GoodText limit l
unfolding good_text
text_good limit l e =
    let f = both (eqb (line_end l) (length l)) _ e in
    let g = both (leb (length l) limit) _ f.1 in
    record { no_linefeed = eqb-true (line_end l) (length l) f.0; short = leb-true (length l) limit g.0; no_return = not-true (ends_in_return l) g.1 }

pub good_text_lem : (limit : ℕ) (l : List ℕ) → GoodText limit l → good_text limit l ≡ true
unfolding good_text
good_text_lem limit l g = and_true (eq-eqb (line_end l) (length l) g.no_linefeed) (and_true (le-leb (length l) limit g.short) (rw g.no_return))

pub header_length : (h : Header) → length (header_layout h) ≡ 6 + length h.title + length h.time
unfolding header_layout to_be16
header_length h = omega (arith, length-append h.title h.time)

module _ (h : Header) (g : GoodHeader h) where
  pub title_short : length h.title ≤ 4096
  title_short = (text_good title_limit h.title g.title_good).short

  pub time_short : length h.time ≤ 64
  time_short = (text_good time_limit h.time g.time_good).short

  pub header_most : length (header_layout h) ≤ 4166
  header_most = omega (arith, header_length h, title_short, time_short)

  module _ (version : ℕ) (rest : List ℕ) where
    -- the header record behind its length
    abbrev body : List ℕ
    body = 0 ∷ h.extended ∷ (to_be16 (length h.title) ++ (h.title ++ (h.time ++ rest)))

    title_size : be16 (drop 2 body) ≡ length h.title
    title_size = be16_to (length h.title) (h.title ++ (h.time ++ rest)) (omega (arith, title_short))

    behind_title : drop (4 + length h.title) body ≡ h.time ++ rest
    unfolding to_be16
    behind_title = sym (drop-drop (length h.title) 4 body) ∙ drop_at h.title (h.time ++ rest) (length h.title) refl

    header_back : (n : ℕ) → n ≡ 4 + length h.title + length h.time → header_from n body ≡ h
    unfolding to_be16
    header_back n e =
        let z : n - (4 + length h.title) ≡ length h.time = omega arith in
        let et : take (be16 (drop 2 body)) (drop 4 body) ≡ h.title = rw title_size (take_at h.title (h.time ++ rest) (length h.title) refl) in
        let em : take (n - (4 + be16 (drop 2 body))) (drop (4 + be16 (drop 2 body)) body) ≡ h.time = rw (title_size, z, behind_title) (take_at h.time rest (length h.time) refl) in
        λ i. record { extended = h.extended; title = et i; time = em i }

    header_good : (n : ℕ) → n ≡ 4 + length h.title + length h.time → good_header n body ≡ true
    unfolding good_header
    header_good n e =
        let et = ap (λ (x : Header). good_text title_limit x.title) (header_back n e) ∙ g.title_good in
        let em = ap (λ (x : Header). good_text time_limit x.time) (header_back n e) ∙ g.time_good in
        and_true (le-leb h.extended 1 g.extended_fits) (and_true (le-leb (4 + be16 (drop 2 body)) n (omega (arith, title_size))) (and_true et em))

    abbrev front : List ℕ
    front = version ∷ (header_layout h ++ rest)

    front_size_lem : be16 (drop 1 front) ≡ 4 + length h.title + length h.time
    unfolding header_layout to_be16
    front_size_lem =
        let l = length-append h.title h.time in
        be16_to _ _ (omega (arith, title_short, time_short)) ∙ omega arith

    front_body : drop 3 front ≡ body
    unfolding header_layout to_be16
    front_body = rw (append_assoc h.title h.time rest)

    front_back : front_header front ≡ h
    unfolding front_header
    front_back = rw front_body (header_back (be16 (drop 1 front)) front_size_lem)

    front_good : good_front version front ≡ true
    unfolding good_front
    front_good =
        let n = be16 (drop 1 front) in
        let l = length-append (header_layout h) rest in
        let f : framed (drop 1 front) ≡ true = is_framed (drop 1 front) (omega (arith, front_size_lem)) (omega (arith, front_size_lem, header_length h)) in
        let q : good_header n (drop 3 front) ≡ true = rw front_body (header_good n front_size_lem) in
        and_true (eq-eqb version version refl) (and_true f (and_true (le-leb 4 n (omega (arith, front_size_lem))) q))

    behind_back : behind_front front ≡ rest
    unfolding behind_front
    behind_back = drop_at (version ∷ header_layout h) rest (3 + be16 (drop 1 front)) (omega (arith, front_size_lem, header_length h))

pub sheet_records : (h : Header) → GoodHeader h → (rs : List Record) → AllWellFormed rs → (sheet_result (sheet_of sheet_version h rs) ≡ record { records = rs; verdict = Good }) × (front_header (sheet_of sheet_version h rs) ≡ h)
unfolding sheet_result version_result version_of sheet_of pick
sheet_records h g rs w =
    let l = layout_all sheet_version rs in
    (pick_true _ _ (front_good h g sheet_version l) ∙ rw (behind_back h g sheet_version l) (layout_records sheet_version rs w (all_carried rs)), front_back h g sheet_version l)

-- what a good front says
pub record FrontRead (version : ℕ) (sheet : List ℕ) : Type 0 where
  pub laid : version ∷ (header_layout (front_header sheet) ++ behind_front sheet) ≡ sheet
  pub header : GoodHeader (front_header sheet)

-- the header record of n bytes t
module _ (t : List ℕ) (b : Bytes t) (n : ℕ) (inside : n ≤ length t) (least : 4 ≤ n) (q : good_header n t ≡ true) where
  record HeaderRead : Type 0 where
    kind : get_or t 0 0 ≡ 0
    extended : get_or t 1 0 ≤ 1
    title_inside : 4 + be16 (drop 2 t) ≤ n
    title : good_text title_limit (header_from n t).title ≡ true
    time : good_text time_limit (header_from n t).time ≡ true

  header_parts : HeaderRead
  unfolding good_header
  header_parts =
      let f = both (eqb (get_or t 0 0) 0 && leb (get_or t 1 0) 1) _ q in
      let g = both (eqb (get_or t 0 0) 0) _ f.0 in
      let h = both (leb (4 + be16 (drop 2 t)) n) _ f.1 in
      let i = both (good_text title_limit (header_from n t).title) _ h.1 in
      record { kind = eqb-true _ _ g.0; extended = leb-true _ _ g.1; title_inside = leb-true _ _ h.0; title = i.0; time = i.1 }

  texts_are : (header_from n t).title ++ (header_from n t).time ≡ take (n - 4) (drop 4 t)
  texts_are =
      let k = be16 (drop 2 t) in
      let z : n - 4 ≡ k + (n - (4 + k)) = omega (arith, header_parts.title_inside) in
      rw (z, take-add k (n - (4 + k)) (drop 4 t), drop-drop k 4 t)

  title_length : length (header_from n t).title ≡ be16 (drop 2 t)
  title_length = length-take-le (be16 (drop 2 t)) (drop 4 t) (simp length-drop (omega (arith, header_parts.title_inside)))

  header_bytes : 0 ∷ get_or t 1 0 ∷ (to_be16 (length (header_from n t).title) ++ ((header_from n t).title ++ (header_from n t).time)) ≡ take n t
  header_bytes =
      let z : 2 + (2 + (n - 4)) ≡ n = omega arith in
      rw (title_length, texts_are, be16_take t b 2 (n - 4) (omega arith), kind_take t b (2 + (n - 4)) 0 (omega arith) header_parts.kind, z)

pub front_read : (version : ℕ) (sheet : List ℕ) → Bytes sheet → good_front version sheet ≡ true → FrontRead version sheet
unfolding good_front front_header behind_front header_layout
front_read version sheet b e =
    let s = drop 1 sheet in
    let n = be16 s in
    let t = drop 3 sheet in
    let c = both (eqb (get_or sheet 0 0) version) _ e in
    let d = both (framed s) _ c.1 in
    let f = both (leb 4 n) _ d.1 in
    let byte : get_or sheet 0 0 ≡ version = eqb-true _ _ c.0 in
    let w = frame s d.0 in
    let least : 4 ≤ n = leb-true 4 n f.0 in
    let ls = length-drop 1 sheet in
    let lt = length-drop 3 sheet in
    let inside : n ≤ length t = omega arith in
    let bt = bytes_drop sheet b 3 in
    let hr = header_parts t bt n inside least f.1 in
    let body = header_bytes t bt n inside least f.1 in
    let l : length (take n t) ≡ n = length-take-le n t inside in
    let es : to_be16 n ++ take n t ≡ take (2 + n) s = rw (drop-drop 2 1 sheet) at (to_be16_lem s (bytes_drop sheet b 1) n (omega arith)) in
    let eh : header_layout (front_header sheet) ≡ take (2 + n) s = ap (λ (x : List ℕ). to_be16 (length x) ++ x) body ∙ rw l es in
    let z : 1 + (2 + n) ≡ 3 + n = omega arith in
    let eb : drop (3 + n) sheet ≡ drop (2 + n) s = rw (← z) (sym (drop-drop (2 + n) 1 sheet)) in
    let ec : sheet ≡ version ∷ s = drop-cons sheet 0 0 (omega arith) ∙ ap (λ (x : ℕ). x ∷ s) byte in
    record {
      laid = ap₂ (λ (x y : List ℕ). version ∷ (x ++ y)) eh eb ∙ ap (λ (x : List ℕ). version ∷ x) (take-append-drop (2 + n) s) ∙ sym ec;
      header = record { extended_fits = hr.extended; title_good = hr.title; time_good = hr.time };
    }

pub bytes_behind : (sheet : List ℕ) → Bytes sheet → Bytes (behind_front sheet)
unfolding behind_front
bytes_behind sheet b = bytes_drop sheet b (3 + be16 (drop 1 sheet))

-- a sheet that is good in its version is the layout of its header and records in that version
pub record SheetRead (version : ℕ) (sheet : List ℕ) (rs : List Record) : Type 0 where
  pub laid : sheet_of version (front_header sheet) rs ≡ sheet
  pub header : GoodHeader (front_header sheet)
  pub formed : AllWellFormed rs

version_sheet : (version : ℕ) (sheet : List ℕ) → Bytes sheet → (rs : List Record) → version_result version sheet ≡ record { records = rs; verdict = Good } → SheetRead version sheet rs
unfolding version_result sheet_of
version_sheet version sheet b rs =
    pick_case (λ (x : Result). x ≡ record { records = rs; verdict = Good } → SheetRead version sheet rs) (good_front version sheet) _ _
    (λ e q.
    let f = front_read version sheet b e in
    let x = records_layout version (behind_front sheet) (bytes_behind sheet b) rs q in
    record { laid = rw x.0 f.laid; header = f.header; formed = x.1 })
    λ e q. let v : Refusal 12 0 ≡ Good = ap (λ (x : Result). x.verdict) q in absurd (let z : ◌≡◌ {A = ℕ} 0 1 = cc in omega arith)

pub records_sheet : (sheet : List ℕ) → Bytes sheet → (rs : List Record) → sheet_result sheet ≡ record { records = rs; verdict = Good } → SheetRead (version_of sheet) sheet rs
unfolding sheet_result
records_sheet sheet b rs q = version_sheet (version_of sheet) sheet b rs q

-- the records of a sheet are well-formed, whatever the verdict
pub sheet_formed : (sheet : List ℕ) → Bytes sheet → AllWellFormed (sheet_result sheet).records
unfolding sheet_result version_result
sheet_formed sheet b =
    pick_case (λ (x : Result). AllWellFormed x.records) (good_front (version_of sheet) sheet) _ _ (λ e. records_formed (version_of sheet) (behind_front sheet) (bytes_behind sheet b)) λ e. tt
