-- Items as a writer makes them, whatever the version: what stands behind a code is read back. A version says which item a code is, and a
-- label part how its numbers are read; the rest is argued once. Assumes nothing.
use Rattle.std.specs.Prelude.{Option, None, Some}
use Prim.Native.Nat.{ℕ, suc, ◌+◌, ◌-◌, ◌%◌, ◌≤◌, ◌<◌}
use mathlib.Core.Path.{◌≡◌, refl, sym, ap, ap₂, ◌∙◌, subst}
use mathlib.Core.List.{List, [], ◌∷◌, ◌++◌, append_assoc}
use mathlib.Core.Bool.{Bool, true, false}
use native.Mathlib.Omega.{arith}
use lib.ListN.{length, take, drop, length-append}
use lib.Seq.{take-append_seam, drop-append_seam, drop-append-add}
use lib.Dec.{eqb, ltb}
use borrow.Author.Tests.{eqb-true, lt-ltb, le-ltb, eq-eqb, ne_eqb}
use Rattle.format.specs.Bytes.{pick, le16, le32, to_le16, to_le32}
use Rattle.format.specs.Items.{point_of, traverse_of, Item, NoDate, Xsect, Label, Line, whole, sized, labelled_item, station_item, line_item, numbers}
use Rattle.format.specs.Items.{section_item, move_item, error_item, day_item, span_item, days_item, item_of}
use Rattle.format.specs.declared.LabelPart.{LabelPart}
use Rattle.format.specs.State.{State, error, dated_by, moved, on, made, date_of, bad_dates}
use Rattle.format.specs.Sheet.{point_bytes, dimension_bytes, traverse_bytes}
use Rattle.format.specs.WellFormed.{GoodPoint, GoodDimensions, GoodTraverse, GoodDated}
use Rattle.format.specs.Reading.{next}
use Rattle.format.specs.Codes.{dated_codes, same_date, date_if, same_point, stands_at, move_if, all_short}
use Rattle.format.specs.declared.DateCodes.{DateCodes}
use Rattle.format.specs.declared.Point.{Point}
use Rattle.format.specs.declared.Dimensions.{Dimensions}
use Rattle.format.specs.declared.Traverse.{Traverse}
use Rattle.format.specs.declared.Dated.{Dated}
use Rattle.format.specs.declared.Dated.TheVariants.{Undated, Day, Range}
use Rattle.format.proofs.Basics.{pick_case, pick_true, pick_false, and_true, both, le16_to}
use Rattle.format.proofs.Rows.{le16_width, le32_width, point_back, traverse_back, wide_dimensions_back, short_dimensions_back}
use Rattle.format.proofs.GoingLaws.{Goes, stays, goes_on_lem}

-- a code is a byte that is there
pub there : (c : ℕ) (t : List ℕ) → ltb (length (c ∷ t)) 1 ≡ false
there c t = le-ltb (suc (length t)) 1 (omega arith)

-- ---- an item with a label

-- the bytes P are read as the numbers of a label part: D bytes to drop, and those of `added` to append
pub record PartRead (part : List ℕ → Option LabelPart) (P : List ℕ) (D : ℕ) (added : List ℕ) : Type 0 where
  pub numbers : (tail : List ℕ) → part (P ++ (added ++ tail)) ≡ numbers (length P) D (length added)

module _ (version : ℕ) {part : List ℕ → Option LabelPart} {P : List ℕ} {D : ℕ} {added : List ℕ} (reads : PartRead part P D added) where
  -- a code, the label part and what follows it
  abbrev pub item : ℕ → List ℕ → List ℕ
  item c fields = c ∷ ((P ++ added) ++ fields)

  behind : (fields rest : List ℕ) (n : ℕ) (make : ℕ → List ℕ → List ℕ → Item) → length fields ≡ n
      → labelled_item (part (((P ++ added) ++ fields) ++ rest)) (((P ++ added) ++ fields) ++ rest) n make
      ≡ whole (suc (length ((P ++ added) ++ fields))) (make D added (fields ++ rest))
  unfolding labelled_item sized pick
  behind fields rest n make e =
      let tail = fields ++ rest in
      let e0 : ((P ++ added) ++ fields) ++ rest ≡ P ++ (added ++ tail) = simp append_assoc in
      let e2 : drop (length P) (P ++ (added ++ tail)) ≡ added ++ tail = drop-append_seam P (added ++ tail) in
      let e3 : take (length added) (added ++ tail) ≡ added = take-append_seam added tail in
      let e4 : drop (length P + length added) (P ++ (added ++ tail)) ≡ tail = drop-append-add P (added ++ tail) (length added) ∙ drop-append_seam added tail in
      let h : length P + length added + n ≤ length (P ++ (added ++ tail)) = simp length-append (omega arith) in
      let z : 1 + (length P + length added + n) ≡ suc (length ((P ++ added) ++ fields)) = simp length-append (omega arith) in
      rw (e0, reads.numbers tail) (simp (e2, e3, e4, le-ltb _ _ h) (rw z))

  module _ (c : ℕ) (rest : List ℕ) where
    pub station_read_back : (flags : ℕ) (p : Point) → ((t : List ℕ) → item_of version (c ∷ t) ≡ station_item flags (part t) t) → GoodPoint p
        → item_of version (item c (point_bytes to_le32 p) ++ rest) ≡ whole (length (item c (point_bytes to_le32 p))) (Label flags p D added)
    unfolding station_item
    station_read_back flags p is g = is _ ∙ behind (point_bytes to_le32 p) rest 12 _ (simp (length-append, le32_width)) ∙ rw (point_back p rest g)

    pub line_read_back : (flags : ℕ) (p : Point) → ((t : List ℕ) → item_of version (c ∷ t) ≡ line_item flags (part t) t) → GoodPoint p
        → item_of version (item c (point_bytes to_le32 p) ++ rest) ≡ whole (length (item c (point_bytes to_le32 p))) (Line flags p D added)
    unfolding line_item
    line_read_back flags p is g = is _ ∙ behind (point_bytes to_le32 p) rest 12 _ (simp (length-append, le32_width)) ∙ rw (point_back p rest g)

    module _ (last : ℕ) (d : Dimensions) (is : (t : List ℕ) → item_of version (c ∷ t) ≡ section_item c (part t) t) (e : c % 2 ≡ last) (g : GoodDimensions d) where
      pub short_section_read_back : c < 0x32 → all_short d ≡ true
          → item_of version (item c (dimension_bytes to_le16 d) ++ rest) ≡ whole (length (item c (dimension_bytes to_le16 d))) (Xsect last d D added)
      unfolding section_item
      short_section_read_back h q =
          is _
          ∙ pick_true _ _ (lt-ltb c 0x32 h)
          ∙ behind (dimension_bytes to_le16 d) rest 8 _ (simp (length-append, le16_width))
          ∙ rw (e, short_dimensions_back d rest g q)

      pub wide_section_read_back : 0x32 ≤ c
          → item_of version (item c (dimension_bytes to_le32 d) ++ rest) ≡ whole (length (item c (dimension_bytes to_le32 d))) (Xsect last d D added)
      unfolding section_item
      wide_section_read_back h =
          is _
          ∙ pick_false _ _ (le-ltb c 0x32 h)
          ∙ behind (dimension_bytes to_le32 d) rest 16 _ (simp (length-append, le32_width))
          ∙ rw (e, wide_dimensions_back d rest g)

-- ---- a code that is written only where a part of the state differs from x: either way the state then has x

module _ (version : ℕ) {X : Type 0} (get : State → X) (set : X → State → State) (again : (st : State) → set (get st) st ≡ st) where
  pub written_if : (st : State) (x : X) (test : Bool) (code rest : List ℕ) → (test ≡ true → get st ≡ x)
      → (test ≡ false → next version (code ++ rest) st ≡ on (length code) (set x st))
      → Goes version (pick test [] code ++ rest) st [] (length (pick test [] code)) (set x st)
  unfolding pick
  written_if st x true code rest f g = subst (λ (s : State). Goes version rest st [] 0 s) (sym (again st) ∙ ap (λ (y : X). set y st) (f refl)) stays
  written_if st x false code rest f g = goes_on_lem code rest st (set x st) (g refl)

-- ---- dates

-- which items a version's codes of dates are
pub record DatesRead (version : ℕ) (c : DateCodes) : Type 0 where
  pub is_none : (t : List ℕ) → item_of version (c.none ∷ t) ≡ whole 1 NoDate
  pub is_day : (t : List ℕ) → item_of version (c.day ∷ t) ≡ day_item (c.day ∷ t)
  pub is_span : (t : List ℕ) → item_of version (c.span ∷ t) ≡ span_item (c.span ∷ t)
  pub is_days : (t : List ℕ) → item_of version (c.days ∷ t) ≡ days_item (c.days ∷ t)

pub same_date_lem : (d e : Dated) → same_date d e ≡ true → d ≡ e
unfolding same_date
same_date_lem Undated Undated t = refl
same_date_lem Undated (Day d) t = cc
same_date_lem Undated (Range d e) t = cc
same_date_lem (Day c) Undated t = cc
same_date_lem (Day c) (Day d) t = ap Day (eqb-true c d t)
same_date_lem (Day c) (Range d e) t = cc
same_date_lem (Range b c) Undated t = cc
same_date_lem (Range b c) (Day d) t = cc
same_date_lem (Range b c) (Range d e) t = let p = both (eqb b d) (eqb c e) t in ap₂ Range (eqb-true b d p.0) (eqb-true c e p.1)

pub same_date_refl : (d : Dated) → same_date d d ≡ true
unfolding same_date
same_date_refl Undated = refl
same_date_refl (Day d) = eq-eqb d d refl
same_date_refl (Range d e) = and_true (eq-eqb d d refl) (eq-eqb e e refl)

module _ {version : ℕ} {c : DateCodes} (D : DatesRead version c) (st : State) (rest : List ℕ) where
  day_next : (d : ℕ) → d < 65536 → next version (c.day ∷ (to_le16 d ++ rest)) st ≡ on 3 (dated_by (Day d) st)
  unfolding next day_item sized bad_dates date_of to_le16 pick
  day_next d h =
      let e : le16 (to_le16 d ++ rest) ≡ d = le16_to d rest h in
      let k : 3 ≤ suc (suc (suc (length rest))) = omega arith in
      rw (D.is_day (to_le16 d ++ rest)) (simp (le-ltb _ _ k, e, le-ltb d d (omega arith), le-ltb 65535 d (omega arith), eq-eqb d d refl))

  span_next : (d e : ℕ) → d < e → e < 65536 → next version (c.span ∷ ((to_le16 d ++ (e - d) ∷ []) ++ rest)) st ≡ on 4 (dated_by (Range d e) st)
  unfolding next span_item sized bad_dates date_of to_le16 pick
  span_next d e h0 h1 =
      let f : le16 (to_le16 d ++ ((e - d) ∷ rest)) ≡ d = le16_to d ((e - d) ∷ rest) (omega arith) in
      let k : 4 ≤ suc (suc (suc (suc (length rest)))) = omega arith in
      let z : d + (e - d) ≡ e = omega arith in
      let x : d ≡ e → ⊥ = λ q. omega arith in
      rw (D.is_span ((to_le16 d ++ (e - d) ∷ []) ++ rest)) (simp (le-ltb _ _ k, f, z, le-ltb e d (omega arith), le-ltb 65535 e (omega arith), ne_eqb d e x))

  days_next : (d e : ℕ) → d < e → e < 65536 → next version (c.days ∷ ((to_le16 d ++ to_le16 e) ++ rest)) st ≡ on 5 (dated_by (Range d e) st)
  unfolding next days_item sized bad_dates date_of to_le16 pick
  days_next d e h0 h1 =
      let f : le16 (to_le16 d ++ (to_le16 e ++ rest)) ≡ d = le16_to d (to_le16 e ++ rest) (omega arith) in
      let g : le16 (to_le16 e ++ rest) ≡ e = le16_to e rest h1 in
      let k : 5 ≤ suc (suc (suc (suc (suc (length rest))))) = omega arith in
      let x : d ≡ e → ⊥ = λ q. omega arith in
      rw (D.is_days ((to_le16 d ++ to_le16 e) ++ rest)) (simp (le-ltb _ _ k, f, g, le-ltb e d (omega arith), le-ltb 65535 e (omega arith), ne_eqb d e x))

  -- the codes of a date are read back as that date
  date_next : (date : Dated) → GoodDated date → next version (dated_codes c date ++ rest) st ≡ on (length (dated_codes c date)) (dated_by date st)
  unfolding to_le16 next
  date_next Undated g = rw (D.is_none rest)
  date_next (Day d) g = day_next d g
  date_next (Range d e) g =
      pick_case (λ (x : List ℕ). next version (x ++ rest) st ≡ on (length x) (dated_by (Range d e) st)) _ _ _ (λ q. span_next d e g.0 g.1)
      (λ q. days_next d e g.0 g.1)

  -- "date if it differs"
  pub date_if_read : (date : Dated) → GoodDated date
      → Goes version (date_if c st.setting.date date ++ rest) st [] (length (date_if c st.setting.date date)) (dated_by date st)
  unfolding date_if
  date_if_read date g =
      written_if version (λ s. s.setting.date) dated_by (λ s. refl) st date _ (dated_codes c date) rest (same_date_lem st.setting.date date)
      (λ e. date_next date g)

-- ---- MOVE and ERROR

pub same_point_lem : (p q : Point) → same_point p q ≡ true → p ≡ q
unfolding same_point
same_point_lem p q t =
    let a = both (eqb p.x q.x) _ t in
    let b = both (eqb p.y q.y) (eqb p.z q.z) a.1 in
    λ i. record { x = eqb-true p.x q.x a.0 i; y = eqb-true p.y q.y b.0 i; z = eqb-true p.z q.z b.1 i }

pub same_point_refl : (p : Point) → same_point p p ≡ true
unfolding same_point
same_point_refl p = and_true (eq-eqb p.x p.x refl) (and_true (eq-eqb p.y p.y refl) (eq-eqb p.z p.z refl))

pub stands_at_lem : (q : Option Point) (p : Point) → stands_at q p ≡ true → q ≡ Some p
stands_at_lem None p t = cc
stands_at_lem (Some q) p t = ap Some (same_point_lem q p t)

-- the state with another position
abbrev placed : Option Point → State → State
placed q st = record { label = st.label; setting = record { style = st.setting.style; date = st.setting.date; position = q } }

module _ (version : ℕ) (st : State) (rest : List ℕ) where
  move_next : ((t : List ℕ) → item_of version (0x0f ∷ t) ≡ move_item (0x0f ∷ t)) → (p : Point) → GoodPoint p
      → next version (0x0f ∷ (point_bytes to_le32 p ++ rest)) st ≡ on 13 (moved p st)
  unfolding next move_item sized pick
  move_next is p g =
      let e : point_of le32 (point_bytes to_le32 p ++ rest) ≡ p = point_back p rest g in
      let k : 13 ≤ suc (length (point_bytes to_le32 p ++ rest)) = simp (length-append, le32_width) (omega arith) in
      rw (is (point_bytes to_le32 p ++ rest)) (simp (le-ltb _ _ k, e))

  pub error_next : (c : ℕ) → ((t : List ℕ) → item_of version (c ∷ t) ≡ error_item (c ∷ t)) → (t : Traverse) → GoodTraverse t
      → next version ((c ∷ traverse_bytes to_le32 t) ++ rest) st ≡ made (length (c ∷ traverse_bytes to_le32 t)) (error t) st
  unfolding next error_item sized pick
  error_next c is t g =
      let e : traverse_of le32 (traverse_bytes to_le32 t ++ rest) ≡ t = traverse_back t rest g in
      let k : 21 ≤ suc (length (traverse_bytes to_le32 t ++ rest)) = simp (length-append, le32_width) (omega arith) in
      let n : suc (length (traverse_bytes to_le32 t)) ≡ 21 = simp (length-append, le32_width) in
      rw (is (traverse_bytes to_le32 t ++ rest)) (simp (le-ltb _ _ k, e, n))

  -- "MOVE if the position is unset or differs from "from""
  pub move_if_read : ((t : List ℕ) → item_of version (0x0f ∷ t) ≡ move_item (0x0f ∷ t)) → (from : Point) → GoodPoint from
      → Goes version (move_if st.setting.position from ++ rest) st [] (length (move_if st.setting.position from)) (moved from st)
  unfolding move_if
  move_if_read is from g =
      let n : length (0x0f ∷ point_bytes to_le32 from) ≡ 13 = simp (length-append, le32_width) in
      written_if version (λ s. s.setting.position) placed (λ s. refl) st (Some from) _ (0x0f ∷ point_bytes to_le32 from) rest
      (stands_at_lem st.setting.position from)
      (λ e. rw n (move_next is from g))
