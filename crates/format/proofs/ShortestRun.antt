-- #105, the run: a v8 file is no shorter than ours of the same header and records. Idea: `cost st rs` is the length of what the writer still
-- writes from the state st for the records rs, closing codes included. An item of n bytes that goes from st to st' makes the record r or none,
-- and either way cost st (r, then rs) ≤ n + cost st' rs; so a whole run costs no more than its bytes. Style, date and MOVE items are triangle
-- inequalities: what the writer writes from st is what it writes from st' and at most that style, date or MOVE more (`Extra`), however many
-- records later the change is seen. For a record, the state before its item already has the style, date and position that the record shows,
-- so that only the item itself is written. The end item needs the closing codes of a style that is normal. Assumes nothing.
use Rattle.std.specs.Prelude.{Option, None, Some}
use Prim.Native.Nat.{ℕ, ◌+◌, ◌≤◌}
use mathlib.Core.Path.{◌≡◌, refl, ap, subst}
use mathlib.Core.List.{List, [], ◌∷◌, ◌++◌}
use mathlib.Core.Bool.{true, ◌&&◌}
use native.Mathlib.Omega.{arith}
use lib.ListN.{length, drop, length-append, length-drop}
use lib.Dec.{eqb}
use borrow.Author.Tests.{eq-eqb}
use Rattle.format.specs.Bytes.{to_le16, to_le32, Bytes}
use Rattle.format.specs.Header.{Header, opened, opening_of, magic}
use Rattle.format.specs.Label.{Labelled, too_short, too_long, labelled, label_step}
use Rattle.format.specs.declared.Cut.TheVariants.{Back}
use Rattle.format.specs.Items.{Item, Stop, Shorten, Style, Move, NoDate, Date, Error, Xsect, Label, Line, Decoded, faulty, whole, item_of}
use Rattle.format.specs.State.{State, start, Record, leg, station, section, error, styled, dated_by, moved}
use Rattle.format.specs.State.{Next, bad, end, on, made, date_of, on_label, leg_from, apply, next_of}
use Rattle.format.specs.Sheet.{dimension_bytes}
use Rattle.format.specs.Refusals.{Result, stop, Good, Refusal}
use Rattle.format.specs.Reading.{next, after_item, read_step, run, items_of}
use Rattle.format.specs.Codes.{dated_codes, v8_dates, same_date, style_if, date_if, move_if, line_codes, station_codes, section_codes}
use Rattle.format.specs.Codes.{error_codes, codes, after, closing, header_codes, label_codes, kept_bytes}
use Rattle.format.specs.Writing.{v8, codes_all, after_all, encode_all, file_of}
use Rattle.format.specs.declared.Point.{Point}
use Rattle.format.specs.declared.Dimensions.{Dimensions}
use Rattle.format.specs.declared.Traverse.{Traverse}
use Rattle.format.specs.declared.Leg.{Leg}
use Rattle.format.specs.declared.Station.{Station}
use Rattle.format.specs.declared.Section.{Section}
use Rattle.format.specs.declared.Dated.{Dated}
use Rattle.format.specs.declared.Dated.TheVariants.{Undated}
use Rattle.format.specs.declared.Setting.{Setting}
use Rattle.format.proofs.Basics.{pick_case, pick_true, pick_false, both}
use Rattle.format.proofs.Rows.{le16_width, le32_width}
use Rattle.format.proofs.IterateLaws.{iter_ind}
use Rattle.format.proofs.HeaderLaws.{opening_fits}
use Rattle.format.proofs.SheetLaws.{bytes_drop}
use Rattle.format.proofs.ReadingLaws.{SizedNext, next_sized}
use Rattle.format.proofs.WrittenItems.{same_date_lem, same_date_refl, same_point_refl}
use Rattle.format.proofs.ShortestParts.{label_steps, label_differs, label_least}
use Rattle.format.proofs.ShortestItems.{LeastItem, LeastDecoded, item_size}

-- ---- what writing costs

unfoldable pub cost : State → List Record → ℕ
cost st rs = length (encode_all v8 st rs)

pub cost_none : (st : State) → cost st [] ≡ length (closing st.setting.style)
unfolding cost encode_all codes_all after_all
cost_none st = refl

pub cost_more : (st : State) (r : Record) (rs : List Record) → cost st (r ∷ rs) ≡ length (codes st r) + cost (after st r) rs
unfolding cost encode_all codes_all after_all
cost_more st r rs = simp length-append (omega arith)

-- ---- `codes`: the parts of a leg's and of a section's

leg_size_lem : (st : State) (g : Leg) (label : List ℕ)
    → length (codes st (leg g label))
    ≡ length (style_if st.setting.style g.style) + length (date_if v8_dates st.setting.date g.date)
    + length (move_if st.setting.position g.from) + length (line_codes st.label g.flags g.to label)
leg_size_lem st g label = simp length-append (omega arith)

section_size_lem : (st : State) (s : Section) (label : List ℕ)
    → length (codes st (section s label)) ≡ length (date_if v8_dates st.setting.date s.date) + length (section_codes st.label s label)
section_size_lem st s label = simp length-append

-- ---- one setting and another: for a style, the end, a date and a place, writing from a takes at most so many bytes more than from b

pub record Extra (style date move : ℕ) (a b : Setting) : Type 0 where
  pub at_style : (x : ℕ) → length (style_if a.style x) ≤ style + length (style_if b.style x)
  pub at_end : length (closing a.style) ≤ style + length (closing b.style)
  pub at_date : (x : Dated) → length (date_if v8_dates a.date x) ≤ date + length (date_if v8_dates b.date x)
  pub at_move : (x : Point) → length (move_if a.position x) ≤ move + length (move_if b.position x)

abbrev pub state_of : List ℕ → Setting → State
state_of l setting = record { label = l; setting = setting }

-- a section has the date that it says from then on, whatever it was
after_date : {n d m : ℕ} {a b : Setting} → Extra n d m a b → (date : Dated)
    → Extra n 0 m (record { style = a.style; date = date; position = a.position }) (record { style = b.style; date = date; position = b.position })
after_date E date = record { at_style = E.at_style; at_end = E.at_end; at_date = λ x. omega arith; at_move = E.at_move }

-- so the whole costs at most all of that more: a leg settles style, date and place, a section the date, and the end the style
pub extra_cost : (n d m : ℕ) (a b : Setting) → Extra n d m a b → (rs : List Record) (l : List ℕ) → cost (state_of l a) rs ≤ n + d + m + cost (state_of l b) rs
extra_cost n d m a b E [] l = omega (arith, cost_none (state_of l a), cost_none (state_of l b), E.at_end)
extra_cost n d m a b E (leg g label ∷ rs) l =
    omega (
      arith,
      cost_more (state_of l a) (leg g label) rs,
      cost_more (state_of l b) (leg g label) rs,
      leg_size_lem (state_of l a) g label,
      leg_size_lem (state_of l b) g label,
      E.at_style g.style,
      E.at_date g.date,
      E.at_move g.from,
    )
extra_cost n d m a b E (station s label ∷ rs) l =
    omega (arith, cost_more (state_of l a) (station s label) rs, cost_more (state_of l b) (station s label) rs, extra_cost n d m a b E rs label)
extra_cost n d m a b E (section s label ∷ rs) l =
    let c = extra_cost n 0 m _ _ (after_date E s.date) rs label in
    omega (
      arith,
      cost_more (state_of l a) (section s label) rs,
      cost_more (state_of l b) (section s label) rs,
      section_size_lem (state_of l a) s label,
      section_size_lem (state_of l b) s label,
      E.at_date s.date,
      c,
    )
extra_cost n d m a b E (error t ∷ rs) l =
    omega (arith, cost_more (state_of l a) (error t) rs, cost_more (state_of l b) (error t) rs, extra_cost n d m a b E rs l)

-- ---- style, date and MOVE items: the triangle inequalities

closing_size : (style : ℕ) → (1 ≤ length (closing style)) × (length (closing style) ≤ 2)
unfolding closing
closing_size style =
    pick_case (λ (s : List ℕ). (1 ≤ length s) × (length s ≤ 2)) _ _ _ (λ e. (omega arith, omega arith)) (λ e. (omega arith, omega arith))

module _ (st : State) where
  abbrev its : Setting
  its = st.setting

  -- a change of style is one code
  style_most : (x : ℕ) → length (style_if its.style x) ≤ 1
  unfolding style_if
  style_most x = pick_case (λ (s : List ℕ). length s ≤ 1) _ _ _ (λ e. omega arith) (λ e. omega arith)

  pub style_extra : (k : ℕ) → Extra 1 0 0 its (styled k st).setting
  style_extra k =
      record {
        at_style = λ x. omega (arith, style_most x);
        at_end = omega (arith, closing_size its.style, closing_size k);
        at_date = λ x. omega arith;
        at_move = λ x. omega arith;
      }

  -- a MOVE has 13 bytes, theirs and ours
  move_most : (x : Point) → length (move_if its.position x) ≤ 13
  unfolding move_if
  move_most x = pick_case (λ (s : List ℕ). length s ≤ 13) _ _ _ (λ e. omega arith) (λ e. simp (length-append, le32_width) (omega arith))

  pub move_extra : (p : Point) → Extra 0 0 13 its (moved p st).setting
  move_extra p =
      record {
        at_style = λ x. omega arith;
        at_end = omega arith;
        at_date = λ x. omega arith;
        at_move = λ x. omega (arith, move_most x);
      }

  date_most : (x : Dated) → length (date_if v8_dates its.date x) ≤ length (dated_codes v8_dates x)
  unfolding date_if
  date_most x = pick_case (λ (s : List ℕ). length s ≤ length (dated_codes v8_dates x)) _ _ _ (λ e. omega arith) (λ e. omega arith)

  -- from the date d on another date's codes are written, or that date is d and its codes are worth those of d
  date_worth : (d x : Dated) → length (date_if v8_dates its.date x) ≤ length (dated_codes v8_dates d) + length (date_if v8_dates d x)
  unfolding date_if
  date_worth d x =
      let m = date_most x in
      pick_case (λ (s : List ℕ). length (date_if v8_dates its.date x) ≤ length (dated_codes v8_dates d) + length s) (same_date d x) [] (dated_codes v8_dates x)
      (λ e. omega (arith, ap (λ (y : Dated). length (dated_codes v8_dates y)) (same_date_lem d x e)))
      (λ e. omega arith)

  pub date_extra : (d : Dated) → Extra 0 (length (dated_codes v8_dates d)) 0 its (dated_by d st).setting
  date_extra d =
      record {
        at_style = λ x. omega arith;
        at_end = omega arith;
        at_date = date_worth d;
        at_move = λ x. omega arith;
      }

-- ---- a record's codes in the state before its item

-- an XSECT is its code, its label part and four dimensions
short_size : (code : ℕ) (name : List ℕ) (size : Dimensions) → length (code ∷ (name ++ dimension_bytes to_le16 size)) ≡ 9 + length name
short_size code name size = simp (length-append, le16_width) (omega arith)

wide_size : (code : ℕ) (name : List ℕ) (size : Dimensions) → length (code ∷ (name ++ dimension_bytes to_le32 size)) ≡ 17 + length name
wide_size code name size = simp (length-append, le32_width) (omega arith)

module _ (st : State) (n : ℕ) where
  -- the label that the item gives
  abbrev Gives : ℕ → List ℕ → List ℕ → Type 0
  Gives d added l = label_step st.label (Back d) added ≡ labelled l

  pub station_least : (s : Station) (d : ℕ) (added l : List ℕ) → LeastItem n (Label s.flags s.place d added) → Gives d added l
      → length (codes st (station s l)) ≤ n
  unfolding station_codes
  station_least s d added l i e =
      let c = label_least st.label d added l (label_steps st.label d added l e) in
      simp (length-append, le32_width) (omega arith)

  xsect_least : (s : Section) (d : ℕ) (added l : List ℕ) → LeastItem n (Xsect s.last s.size d added) → Gives d added l
      → length (section_codes st.label s l) ≤ n
  unfolding section_codes
  xsect_least s d added l i e =
      let c = label_least st.label d added l (label_steps st.label d added l e) in
      let name = label_codes st.label l (kept_bytes st.label l) in
      let short = short_size (0x30 + s.last) name s.size in
      let wide = wide_size (0x32 + s.last) name s.size in
      pick_case (λ (x : List ℕ). length x ≤ n) _ _ _
      (λ q. omega (arith, pick_true {X = ℕ} 8 16 q, short, wide)) (λ q. omega (arith, pick_false {X = ℕ} 8 16 q, short, wide))

  line_least : (flags : ℕ) (to : Point) (d : ℕ) (added l : List ℕ) → LeastItem n (Line flags to d added) → Gives d added l
      → length (line_codes st.label flags to l) ≤ n
  unfolding line_codes
  line_least flags to d added l i e =
      pick_case (λ (x : List ℕ). length x ≤ n) _ _ _
      (λ q. simp (length-append, le32_width) (omega (arith, i.0)))
      (λ q.
      let c = label_differs st.label d added l (label_steps st.label d added l e) q in
      let h = i.1 c.0 in
      simp (length-append, le32_width) (omega arith))

  pub error_least : (t : Traverse) → 21 ≤ n → length (codes st (error t)) ≤ n
  unfolding error_codes
  error_least t h = simp (length-append, le32_width) h

  -- the style, the date and the position are the reader's own: nothing is written for them
  no_style : length (style_if st.setting.style st.setting.style) ≡ 0
  unfolding style_if
  no_style = ap length (pick_true _ _ (eq-eqb st.setting.style st.setting.style refl))

  no_date : length (date_if v8_dates st.setting.date st.setting.date) ≡ 0
  unfolding date_if
  no_date = ap length (pick_true _ _ (same_date_refl st.setting.date))

  no_move : (from : Point) → length (move_if (Some from) from) ≡ 0
  unfolding move_if
  no_move from = ap length (pick_true _ _ (same_point_refl from))

  pub section_least : (last : ℕ) (size : Dimensions) (d : ℕ) (added l : List ℕ) → LeastItem n (Xsect last size d added) → Gives d added l
      → length (codes st (section (record { last = last; date = st.setting.date; size = size }) l)) ≤ n
  section_least last size d added l i e =
      let s : Section = record { last = last; date = st.setting.date; size = size } in
      omega (arith, section_size_lem st s l, no_date, xsect_least s d added l i e)

  pub leg_least : (from : Point) (flags : ℕ) (to : Point) (l : List ℕ) → st.setting.position ≡ Some from → length (line_codes st.label flags to l) ≤ n
      → length (codes st (leg (record { flags = flags; style = st.setting.style; date = st.setting.date; from = from; to = to }) l)) ≤ n
  leg_least from flags to l q h =
      let g : Leg = record { flags = flags; style = st.setting.style; date = st.setting.date; from = from; to = to } in
      omega (arith, leg_size_lem st g l, no_style, no_date, ap (λ (p : Option Point). length (move_if p from)) q, no_move from, h)

-- ---- what an item comes to: whether it makes a record or none, what writing costs falls by no more than the item's size

abbrev pub LeastNext : State → Next → Type 0
LeastNext st (bad k) = Unit
LeastNext st end = cost st [] ≤ 1
LeastNext st (on n st') = (rs : List Record) → cost st rs ≤ n + cost st' rs
LeastNext st (made n r st') = (rs : List Record) → cost st (r ∷ rs) ≤ n + cost st' rs

made_least : (st : State) (n : ℕ) (r : Record) → length (codes st r) ≤ n → LeastNext st (made n r (after st r))
made_least st n r h = λ rs. omega (arith, cost_more st r rs)

on_label_lem : (st : State) (x : Labelled) (go : List ℕ → Next) → ((l : List ℕ) → x ≡ labelled l → LeastNext st (go l)) → LeastNext st (on_label x go)
on_label_lem st too_short go f = tt
on_label_lem st too_long go f = tt
on_label_lem st (labelled l) go f = f l refl

module _ (st : State) (n : ℕ) where
  -- 00 is the end only where the style is normal
  end_least : (k : ℕ) → (eqb k 0 && eqb st.setting.style 0) ≡ true → cost st [] ≤ 1
  unfolding closing
  end_least k e =
      let z : length (closing st.setting.style) ≡ 1 = ap length (pick_true _ _ (both (eqb k 0) (eqb st.setting.style 0) e).1) in
      omega (arith, cost_none st)

  leg_next : (p : Option Point) → st.setting.position ≡ p → (flags : ℕ) (to : Point) (l : List ℕ) → length (line_codes st.label flags to l) ≤ n
      → LeastNext st (leg_from p n st flags to l)
  leg_next None q flags to l h = tt
  leg_next (Some from) q flags to l h = made_least st n _ (leg_least st n from flags to l q h)

  apply_least : (it : Item) → LeastItem n it → LeastNext st (apply st n it)
  apply_least Stop i = absurd i
  apply_least (Shorten cut) i = absurd i
  apply_least (Style k) i =
      pick_case (LeastNext st) _ _ _ (λ e. end_least k e) λ e rs. omega (arith, extra_cost 1 0 0 _ _ (style_extra st k) rs st.label, i)
  apply_least (Move p) i = λ rs. omega (arith, extra_cost 0 0 13 _ _ (move_extra st p) rs st.label, i)
  apply_least NoDate i = λ rs. omega (arith, extra_cost 0 _ 0 _ _ (date_extra st Undated) rs st.label, i)
  apply_least (Date first last) i =
      pick_case (LeastNext st) _ _ _ (λ e. tt) λ e rs. omega (arith, extra_cost 0 _ 0 _ _ (date_extra st (date_of first last)) rs st.label, i)
  apply_least (Error t) i = made_least st n (error t) (error_least st n t i)
  apply_least (Xsect last size d added) i =
      on_label_lem st (label_step st.label (Back d) added) _ λ l e. made_least st n _ (section_least st n last size d added l i e)
  apply_least (Label flags p d added) i =
      on_label_lem st (label_step st.label (Back d) added) _ λ l e. made_least st n _ (station_least st n _ d added l i e)
  apply_least (Line flags p d added) i =
      on_label_lem st (label_step st.label (Back d) added) _ λ l e. leg_next st.setting.position refl flags p l (line_least st n flags p d added l i e)

next_of_least : (st : State) (x : Decoded) → LeastDecoded x → LeastNext st (next_of st x)
next_of_least st (faulty k) i = tt
next_of_least st (whole n it) i = apply_least st n it i

-- the law of `next`
pub next_least : (s : List ℕ) → Bytes s → (st : State) → LeastNext st (next 8 s st)
unfolding next
next_least s b st = next_of_least st (item_of 8 s) (item_size s b)

-- ---- a run, and a file

-- from any state, what reads as these records to a good end is no shorter than what is written for them
abbrev NoShorter : List ℕ → State → Result → Type 0
NoShorter s st x = Bytes s → x.verdict ≡ Good → cost st x.records ≤ length s

after_least : (p : ℕ) (s : List ℕ) (st : State) (x : Next) (go : ℕ → State → Result) → ((k : ℕ) (st' : State) → NoShorter (drop k s) st' (go k st'))
    → Bytes s → SizedNext (length s) x → LeastNext st x → (after_item x p s go).verdict ≡ Good → cost st (after_item x p s go).records ≤ length s
after_least p s st (bad k) go h b z f e = absurd (let w : ◌≡◌ {A = ℕ} 0 1 = cc in omega arith)
after_least p s st end go h b z f e = omega arith
after_least p s st (on n st') go h b z f e =
    omega (arith, f (go n st').records, h n st' (bytes_drop s b n) e, length-drop n s)
after_least p s st (made n r st') go h b z f e =
    omega (arith, f (go n st').records, h n st' (bytes_drop s b n) e, length-drop n s)

-- the law of `run`
pub run_least : (p : ℕ) (s : List ℕ) (st : State) → NoShorter s st (run 8 p s st)
unfolding run read_step
run_least p s st =
    iter_ind (read_step 8) (λ p. stop (Refusal 5 p)) NoShorter (λ p u v b e. absurd (let w : ◌≡◌ {A = ℕ} 0 1 = cc in omega arith))
    (λ p u v go h b e. after_least p u v (next 8 u v) go h b (next_sized 8 u v) (next_least u b v) e) p s st

-- the closing codes are needed from every state
pub end_needed : (p : ℕ) (s : List ℕ) (st : State) → Bytes s → run 8 p s st ≡ stop Good → length (closing st.setting.style) ≤ length s
end_needed p s st b e =
    let c = run_least p s st b (ap (λ (x : Result). x.verdict) e) in
    omega (arith, cost_none st, ap (λ (x : Result). cost st x.records) e)

header_size : (h : Header) → length (header_codes h) ≡ 27 + length h.title + length h.time
unfolding header_codes magic
header_size h = simp length-append (omega arith)

-- "no v8 file giving the same sheet is shorter than ours": every v8 file of bytes that reads is at least as long as ours of its header and records
pub shortest : (file : List ℕ) → Bytes file → (place : ℕ) (h : Header) (rs : List Record) → opening_of file ≡ opened 8 place h
    → items_of 8 place file ≡ record { records = rs; verdict = Good } → length (file_of v8 h rs) ≤ length file
unfolding items_of file_of cost
shortest file b place h rs o e =
    let F = opening_fits file o in
    let p = F.place_new refl in
    let i = F.inside in
    let good : (run 8 place (drop place file) start).verdict ≡ Good = ap (λ (x : Result). x.verdict) e in
    let c : cost start rs ≤ length (drop place file) =
    subst (λ (x : List Record). cost start x ≤ length (drop place file)) (ap (λ (x : Result). x.records) e)
    (run_least place (drop place file) start (bytes_drop file b place) good) in
    simp length-append (omega (arith, header_size h, length-drop place file, c))
