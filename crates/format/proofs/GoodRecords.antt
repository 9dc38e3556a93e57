-- What reading makes of bytes can be written: every record that the items of a file make, in every version, is well-formed, and none has a
-- style that cannot be said. Assumes nothing.
use Rattle.std.specs.Prelude.{Option, None, Some}
use Prim.Native.Nat.{ℕ, ◌+◌, ◌-◌, ◌%◌, ◌≤◌, ◌<◌}
use mathlib.Core.Path.{◌≡◌, refl, sym, ◌∙◌}
use mathlib.Core.List.{List, []}
use mathlib.Core.Bool.{Bool, true, false, ◌&&◌, not}
use native.Mathlib.Omega.{arith}
use lib.ListN.{length, get_or, take, drop}
use lib.Dec.{eqb, ltb}
use borrow.Author.Tests.{eqb-true, eqb-false, eq-eqb, ltb-true, ltb-false}
use Rattle.format.specs.Bytes.{pick, le16, le32, widened, Bytes}
use Rattle.format.specs.Label.{label_step, label_limit}
use Rattle.format.specs.declared.Cut.{Cut}
use Rattle.format.specs.declared.Cut.TheVariants.{Empty, Back}
use Rattle.format.specs.Items.{point_of, dimensions_of, traverse_of, Item, Stop, Shorten, Style, Move, NoDate, Date, Error, Xsect, Label, Line, numbers}
use Rattle.format.specs.Items.{Decoded, faulty, whole, sized, behind_code, old_part, new_part, labelled_item, station_item, line_item, section_item}
use Rattle.format.specs.Items.{move_item, error_item, day_item, span_item, days_item, seconds_item, two_seconds_item, old_date_item, v7_date_item}
use Rattle.format.specs.Items.{old_middle_item, old_low_item, old_high_item, new_date_item, new_low_item, new_high_item, item_of}
use Rattle.format.specs.declared.LabelPart.{LabelPart}
use Rattle.format.specs.State.{State, start, named, Record, leg, station, section, error, Next, bad, end, on, made, bad_dates, date_of, on_label}
use Rattle.format.specs.State.{leg_from, apply, next_of}
use Rattle.format.specs.Refusals.{Result, stop, Good, Refusal}
use Rattle.format.specs.WellFormed.{GoodPoint, GoodDimensions, GoodTraverse, GoodDated, WellFormed, AllWellFormed}
use Rattle.format.specs.Reading.{next, after_item, read_step, run, items_of}
use Rattle.format.specs.Writing.{v8, records_verdict}
use Rattle.format.specs.Codes.{after, unsayable}
use Rattle.format.specs.declared.Point.{Point}
use Rattle.format.proofs.Basics.{pick_case, neither}
use Rattle.format.proofs.IterateLaws.{iter_ind}
use Rattle.format.proofs.ApplyLaws.{label_case, leg_case}
use Rattle.format.proofs.SheetLaws.{bytes_drop}

-- ---- numbers

le16_fits : (s : List ℕ) → Bytes s → le16 s < 65536
unfolding le16
le16_fits s b = omega (arith, b 0, b 1)

le32_fits : (s : List ℕ) → Bytes s → le32 s < 4294967296
unfolding le32
le32_fits s b = omega (arith, b 0, b 1, b 2, b 3)

short_fits : (s : List ℕ) → Bytes s → widened (le16 s) < 4294967296
unfolding widened
short_fits s b = let h = le16_fits s b in pick_case (λ (n : ℕ). n < 4294967296) _ _ _ (λ e. omega arith) (λ e. omega arith)

point_good : (s : List ℕ) → Bytes s → GoodPoint (point_of le32 s)
point_good s b =
    record { x_fits = le32_fits s b; y_fits = le32_fits (drop 4 s) (bytes_drop s b 4); z_fits = le32_fits (drop 8 s) (bytes_drop s b 8) }

dimensions_good : (width : ℕ) (number : List ℕ → ℕ) → ((s : List ℕ) → Bytes s → number s < 4294967296) → (s : List ℕ) → Bytes s
    → GoodDimensions (dimensions_of width number s)
dimensions_good width number f s b =
    record {
      left_fits = f s b;
      right_fits = f (drop width s) (bytes_drop s b width);
      up_fits = f (drop (width + width) s) (bytes_drop s b (width + width));
      down_fits = f (drop (width + width + width) s) (bytes_drop s b (width + width + width));
    }

traverse_good : (s : List ℕ) → Bytes s → GoodTraverse (traverse_of le32 s)
traverse_good s b =
    record {
      legs_fit = le32_fits s b;
      total_fits = le32_fits (drop 4 s) (bytes_drop s b 4);
      e_fits = le32_fits (drop 8 s) (bytes_drop s b 8);
      h_fits = le32_fits (drop 12 s) (bytes_drop s b 12);
      v_fits = le32_fits (drop 16 s) (bytes_drop s b 16);
    }

-- ---- items

abbrev GoodItem : Item → Type 0
GoodItem Stop = Unit
GoodItem (Shorten cut) = Unit
GoodItem (Style k) = k < 5
GoodItem (Move p) = GoodPoint p
GoodItem NoDate = Unit
GoodItem (Date first last) = Unit
GoodItem (Error t) = GoodTraverse t
GoodItem (Xsect last d n added) = (last ≤ 1) × GoodDimensions d
GoodItem (Label flags p n added) = (flags ≤ 127) × GoodPoint p
GoodItem (Line flags p n added) = (flags ≤ 7) × GoodPoint p

abbrev GoodDecoded : Decoded → Type 0
GoodDecoded (faulty k) = Unit
GoodDecoded (whole n it) = GoodItem it

sized_good : (n : ℕ) (s : List ℕ) (it : Item) → GoodItem it → GoodDecoded (sized n s it)
unfolding sized
sized_good n s it g = pick_case GoodDecoded _ _ _ (λ e. tt) (λ e. g)

behind_good : (x : Decoded) → GoodDecoded x → GoodDecoded (behind_code x)
behind_good (faulty k) g = tt
behind_good (whole n it) g = g

labelled_good : (p : Option LabelPart) (t : List ℕ) (n : ℕ) (make : ℕ → List ℕ → List ℕ → Item) → Bytes t
    → ((d : ℕ) (added rest : List ℕ) → Bytes rest → GoodItem (make d added rest)) → GoodDecoded (labelled_item p t n make)
unfolding labelled_item
labelled_good None t n make b f = tt
labelled_good (Some q) t n make b f =
    let it = make q.drop (take q.add (drop q.size t)) (drop (q.size + q.add) t) in
    behind_good (sized (q.size + q.add + n) t it) (sized_good (q.size + q.add + n) t it (f q.drop (take q.add (drop q.size t)) (drop (q.size + q.add) t) (bytes_drop t b (q.size + q.add))))

station_good : (flags : ℕ) (p : Option LabelPart) (t : List ℕ) → Bytes t → flags ≤ 127 → GoodDecoded (station_item flags p t)
unfolding station_item
station_good flags p t b h = labelled_good p t 12 _ b (λ d added rest c. (h, point_good rest c))

line_good : (flags : ℕ) (p : Option LabelPart) (t : List ℕ) → Bytes t → flags ≤ 7 → GoodDecoded (line_item flags p t)
unfolding line_item
line_good flags p t b h = labelled_good p t 12 _ b (λ d added rest c. (h, point_good rest c))

section_good : (code : ℕ) (p : Option LabelPart) (t : List ℕ) → Bytes t → GoodDecoded (section_item code p t)
unfolding section_item
section_good code p t b =
    let h : code % 2 ≤ 1 = omega arith in
    pick_case GoodDecoded _ _ _
    (λ e. labelled_good p t 8 _ b (λ d added rest c. (h, dimensions_good 2 (λ (s : List ℕ). widened (le16 s)) short_fits rest c)))
    (λ e. labelled_good p t 16 _ b (λ d added rest c. (h, dimensions_good 4 le32 le32_fits rest c)))

module _ (s : List ℕ) (b : Bytes s) where
  move_good : GoodDecoded (move_item s)
  unfolding move_item
  move_good = sized_good 13 s _ (point_good (drop 1 s) (bytes_drop s b 1))

  error_good : GoodDecoded (error_item s)
  unfolding error_item
  error_good = sized_good 21 s _ (traverse_good (drop 1 s) (bytes_drop s b 1))

  new_date_good : (code : ℕ) → GoodDecoded (new_date_item code s)
  unfolding new_date_item day_item span_item days_item
  new_date_good code =
      pick_case GoodDecoded _ _ _ (λ e. tt) λ e.
      pick_case GoodDecoded _ _ _ (λ e. sized_good 3 s _ tt) λ e.
      pick_case GoodDecoded _ _ _ (λ e. sized_good 4 s _ tt) λ e. sized_good 5 s _ tt

  old_date_good : (code : ℕ) → GoodDecoded (old_date_item code s)
  unfolding old_date_item seconds_item two_seconds_item
  old_date_good code =
      pick_case GoodDecoded _ _ _ (λ e. sized_good 5 s _ tt) λ e.
      pick_case GoodDecoded _ _ _ (λ e. sized_good 9 s _ tt) λ e. tt

  v7_date_good : (code : ℕ) → GoodDecoded (v7_date_item code s)
  unfolding v7_date_item day_item span_item days_item
  v7_date_good code =
      pick_case GoodDecoded _ _ _ (λ e. sized_good 3 s _ tt) λ e.
      pick_case GoodDecoded _ _ _ (λ e. sized_good 4 s _ tt) λ e.
      pick_case GoodDecoded _ _ _ (λ e. sized_good 5 s _ tt) λ e.
      pick_case GoodDecoded _ _ _ (λ e. tt) λ e. tt

  old_middle_good : (version code : ℕ) → GoodDecoded (old_middle_item version code s)
  unfolding old_middle_item
  old_middle_good version code =
      pick_case GoodDecoded _ _ _ (λ e. pick_case GoodDecoded _ _ _ (λ e. tt) λ e. error_good) λ e.
      pick_case GoodDecoded _ _ _ (λ e. tt) λ e.
      pick_case GoodDecoded _ _ _ (λ e. old_date_good code) λ e. v7_date_good code

  old_low_good : (code : ℕ) → GoodDecoded (old_low_item code s)
  unfolding old_low_item
  old_low_good code =
      pick_case GoodDecoded _ _ _ (λ e. tt) λ e.
      pick_case GoodDecoded _ _ _ (λ e. tt) λ e.
      pick_case GoodDecoded _ _ _ (λ e. move_good) λ e. tt

  new_low_good : (code : ℕ) → GoodDecoded (new_low_item code s)
  unfolding new_low_item
  new_low_good code =
      pick_case GoodDecoded _ _ _ (λ e. ltb-true code 0x05 e) λ e.
      pick_case GoodDecoded _ _ _ (λ e. tt) λ e.
      pick_case GoodDecoded _ _ _ (λ e. move_good) λ e.
      pick_case GoodDecoded _ _ _ (λ e. new_date_good code) λ e.
      pick_case GoodDecoded _ _ _ (λ e. error_good) λ e. tt

module _ (t : List ℕ) (b : Bytes t) where
  old_high_good : (version code : ℕ) → GoodDecoded (old_high_item version code t)
  unfolding old_high_item
  old_high_good version code =
      pick_case GoodDecoded _ _ _ (λ e. pick_case GoodDecoded _ _ _ (λ e. tt) λ e. section_good code (old_part t) t b) λ e.
      pick_case GoodDecoded _ _ _ (λ e. tt) λ e.
      pick_case GoodDecoded _ _ _ (λ e. station_good (code - 0x40) (old_part t) t b (let h = ltb-true code 0x60 e in omega arith)) λ e.
      pick_case GoodDecoded _ _ _ (λ e. tt) λ e.
      pick_case GoodDecoded _ _ _ (λ e. line_good (code - 0x80) (old_part t) t b (let h = ltb-true code 0x88 e in omega arith)) λ e. tt

  new_high_good : (code : ℕ) → code < 256 → GoodDecoded (new_high_item code t)
  unfolding new_high_item
  new_high_good code h =
      pick_case GoodDecoded _ _ _ (λ e. section_good code (new_part t) t b) λ e.
      pick_case GoodDecoded _ _ _ (λ e. tt) λ e.
      pick_case GoodDecoded _ _ _ (λ e. line_good (code - 0x40) (new_part t) t b (let k = ltb-true code 0x48 e in omega arith)) λ e.
      pick_case GoodDecoded _ _ _ (λ e. tt) λ e.
      pick_case GoodDecoded _ _ _ (λ e. line_good (code - 0x60) (numbers 0 0 0) t b (let k = ltb-true code 0x68 e in omega arith)) λ e.
      pick_case GoodDecoded _ _ _ (λ e. tt) λ e. station_good (code - 0x80) (new_part t) t b (omega arith)

item_good : (version : ℕ) (s : List ℕ) → Bytes s → GoodDecoded (item_of version s)
unfolding item_of
item_good version s b =
    let code = get_or s 0 0 in
    pick_case GoodDecoded _ _ _ (λ e. tt) λ e.
    pick_case GoodDecoded _ _ _
    (λ e.
    pick_case GoodDecoded _ _ _ (λ e. old_low_good s b code) λ e.
    pick_case GoodDecoded _ _ _ (λ e. old_middle_good s b version code) λ e. old_high_good (drop 1 s) (bytes_drop s b 1) version code)
    λ e.
    pick_case GoodDecoded _ _ _ (λ e. new_low_good s b code) λ e. new_high_good (drop 1 s) (bytes_drop s b 1) code (b 0)

-- ---- what an item comes to

abbrev pub GoodPosition : Option Point → Type 0
GoodPosition None = Unit
GoodPosition (Some p) = GoodPoint p

pub record GoodState (st : State) : Type 0 where
  pub label_short : length st.label ≤ label_limit
  pub style_fits : st.setting.style ≤ 5
  pub date_fits : GoodDated st.setting.date
  pub position_fits : GoodPosition st.setting.position

abbrev pub GoodNext : Next → Type 0
GoodNext (bad k) = Unit
GoodNext end = Unit
GoodNext (on n st) = GoodState st
GoodNext (made n r st) = WellFormed r × GoodState st

date_good : (first last : ℕ) → bad_dates first last ≡ false → GoodDated (date_of first last)
unfolding bad_dates date_of
date_good first last e =
    let f = neither (ltb last first) (ltb 65535 last) e in
    let h = ltb-false last first f.0 in
    let k = ltb-false 65535 last f.1 in
    pick_case GoodDated _ _ _ (λ q. let z = eqb-true first last q in omega arith) (λ q. let z = eqb-false first last q in (omega (arith, z), omega arith))

module _ (st : State) (n : ℕ) (g : GoodState st) where
  named_good : (l : List ℕ) → length l ≤ label_limit → GoodState (named l st)
  named_good l h = record { label_short = h; style_fits = g.style_fits; date_fits = g.date_fits; position_fits = g.position_fits }

  good_label : (cut : Cut) (added : List ℕ) (go : List ℕ → Next) → ((l : List ℕ) → length l ≤ label_limit → GoodNext (go l))
      → GoodNext (on_label (label_step st.label cut added) go)
  good_label cut added go f = label_case GoodNext st.label cut added go tt tt f

  leg_good : (p : Option Point) → GoodPosition p → (flags : ℕ) (to : Point) → flags ≤ 7 → GoodPoint to → (l : List ℕ) → length l ≤ label_limit
      → GoodNext (leg_from p n st flags to l)
  leg_good None q flags to hf hp l h = tt
  leg_good (Some from) q flags to hf hp l h = (
    record { flags_fit = hf; style_fits = g.style_fits; date_fits = g.date_fits; from_fits = q; to_fits = hp; label_fits = h },
    record { label_short = h; style_fits = g.style_fits; date_fits = g.date_fits; position_fits = hp },
  )

  apply_good : (it : Item) → GoodItem it → GoodNext (apply st n it)
  apply_good Stop i = pick_case GoodNext _ _ _ (λ e. tt) λ e. good_label Empty [] _ named_good
  apply_good (Shorten cut) i = good_label cut [] _ named_good
  apply_good (Style k) i =
      pick_case GoodNext _ _ _ (λ e. tt) λ e. record
      { label_short = g.label_short; style_fits = omega (arith, i); date_fits = g.date_fits; position_fits = g.position_fits }
  apply_good (Move p) i = record { label_short = g.label_short; style_fits = g.style_fits; date_fits = g.date_fits; position_fits = i }
  apply_good NoDate i = record { label_short = g.label_short; style_fits = g.style_fits; date_fits = tt; position_fits = g.position_fits }
  apply_good (Date first last) i =
      pick_case GoodNext _ _ _ (λ e. tt) λ e.
      record { label_short = g.label_short; style_fits = g.style_fits; date_fits = date_good first last e; position_fits = g.position_fits }
  apply_good (Error t) i = (i, g)
  apply_good (Xsect last d k added) i =
      good_label (Back k) added _ λ l h.
      (record { last_fits = i.0; date_fits = g.date_fits; dimensions_fit = i.1; label_fits = h }, named_good l h)
  apply_good (Label flags p k added) i =
      good_label (Back k) added _ λ l h.
      (record { flags_fit = i.0; place_fits = i.1; label_fits = h }, named_good l h)
  apply_good (Line flags p k added) i =
      good_label (Back k) added _ λ l h.
      leg_good st.setting.position g.position_fits flags p i.0 i.1 l h

next_of_good : (st : State) → GoodState st → (x : Decoded) → GoodDecoded x → GoodNext (next_of st x)
next_of_good st g (faulty k) i = tt
next_of_good st g (whole n it) i = apply_good st n g it i

pub next_good : (version : ℕ) (s : List ℕ) (st : State) → Bytes s → GoodState st → GoodNext (next version s st)
unfolding next
next_good version s st b g = next_of_good st g (item_of version s) (item_good version s b)

-- ---- a file's records

pub start_good : GoodState start
start_good = record { label_short = omega arith; style_fits = omega arith; date_fits = tt; position_fits = tt }

-- what a run keeps: from a good state, bytes make well-formed records
abbrev Makes : List ℕ → State → Result → Type 0
Makes s st x = Bytes s → GoodState st → AllWellFormed x.records

after_makes : (at : ℕ) (s : List ℕ) (x : Next) (go : ℕ → State → Result) → ((k : ℕ) (st : State) → Makes (drop k s) st (go k st)) → Bytes s → GoodNext x
    → AllWellFormed (after_item x at s go).records
after_makes at s (bad k) go h b g = tt
after_makes at s end go h b g = tt
after_makes at s (on n st) go h b g = h n st (bytes_drop s b n) g
after_makes at s (made n r st) go h b g = (g.0, h n st (bytes_drop s b n) g.1)

run_makes : (version at : ℕ) (s : List ℕ) (st : State) → Makes s st (run version at s st)
unfolding run read_step
run_makes version at s st =
    iter_ind (read_step version) (λ p. stop (Refusal 5 p)) Makes (λ p u v b g. tt)
    (λ p u v go h b g. after_makes p u (next version u v) go h b (next_good version u v b g)) at s st

-- every record of a file of bytes is well-formed, in every version
pub items_formed : (version place : ℕ) (file : List ℕ) → Bytes file → AllWellFormed (items_of version place file).records
unfolding items_of
items_formed version place file b = run_makes version place (drop place file) start (bytes_drop file b place) start_good

-- ---- 13 is never due of them: a leg whose style is not said follows none whose style is

-- the style of what an item comes to, after a style
abbrev LegStyle : Record → ℕ → Type 0
LegStyle (leg g label) k = g.style ≡ k
LegStyle (station s label) k = Unit
LegStyle (section s label) k = Unit
LegStyle (error t) k = Unit

abbrev StyleNext : ℕ → Next → Type 0
StyleNext k (bad n) = Unit
StyleNext k end = Unit
StyleNext k (on n st) = st.setting.style ≡ 5 → k ≡ 5
StyleNext k (made n r st) = (st.setting.style ≡ k) × LegStyle r k

module _ (st : State) (n : ℕ) where
  style_label : (cut : Cut) (added : List ℕ) (go : List ℕ → Next) → ((l : List ℕ) → StyleNext st.setting.style (go l))
      → StyleNext st.setting.style (on_label (label_step st.label cut added) go)
  style_label cut added go f = label_case (StyleNext st.setting.style) st.label cut added go tt tt (λ l z. f l)

  apply_style : (it : Item) → GoodItem it → StyleNext st.setting.style (apply st n it)
  apply_style Stop i = pick_case (StyleNext st.setting.style) _ _ _ (λ e. tt) λ e. style_label Empty [] _ (λ l q. q)
  apply_style (Shorten cut) i = style_label cut [] _ (λ l q. q)
  apply_style (Style k) i = pick_case (StyleNext st.setting.style) _ _ _ (λ e. tt) λ e q. absurd (omega (arith, i, q))
  apply_style (Move p) i = λ q. q
  apply_style NoDate i = λ q. q
  apply_style (Date first last) i = pick_case (StyleNext st.setting.style) _ _ _ (λ e. tt) λ e q. q
  apply_style (Error t) i = (refl, tt)
  apply_style (Xsect last d k added) i = style_label (Back k) added _ (λ l. (refl, tt))
  apply_style (Label flags p k added) i = style_label (Back k) added _ (λ l. (refl, tt))
  apply_style (Line flags p k added) i = style_label (Back k) added _
      (λ l. leg_case (StyleNext st.setting.style) st.setting.position n st flags p l tt (λ from. (refl, refl)))

next_of_style : (st : State) (x : Decoded) → GoodDecoded x → StyleNext st.setting.style (next_of st x)
next_of_style st (faulty k) i = tt
next_of_style st (whole n it) i = apply_style st n it i

next_style : (version : ℕ) (s : List ℕ) (st : State) → Bytes s → StyleNext st.setting.style (next version s st)
unfolding next
next_style version s st b = next_of_style st (item_of version s) (item_good version s b)

-- the writer's style is not said where the reader's is not
abbrev Sayable : List ℕ → State → Result → Type 0
Sayable s st x = Bytes s → (n : ℕ) (w : State) → (st.setting.style ≡ 5 → w.setting.style ≡ 5) → records_verdict v8 n w x.records ≡ Good

record_sayable : (r : Record) (k : ℕ) (w : State) → LegStyle r k → (k ≡ 5 → w.setting.style ≡ 5) → (unsayable w.setting.style r ≡ false)
    × (k ≡ 5 → (after w r).setting.style ≡ 5)
record_sayable (leg g label) k w e h =
    (pick_style (eqb g.style 5) refl, λ q. e ∙ q)
  where
    pick_style : (b : Bool) → eqb g.style 5 ≡ b → (b && not (eqb w.setting.style 5)) ≡ false
    pick_style true q = rw (eq-eqb w.setting.style 5 (h (sym e ∙ eqb-true g.style 5 q)))
    pick_style false q = refl
record_sayable (station s label) k w e h = (refl, h)
record_sayable (section s label) k w e h = (refl, h)
record_sayable (error t) k w e h = (refl, h)

after_sayable : (at : ℕ) (s : List ℕ) (st : State) (x : Next) (go : ℕ → State → Result) → ((k : ℕ) (st' : State) → Sayable (drop k s) st' (go k st'))
    → Bytes s → StyleNext st.setting.style x
    → (n : ℕ) (w : State) → (st.setting.style ≡ 5 → w.setting.style ≡ 5) → records_verdict v8 n w (after_item x at s go).records ≡ Good
unfolding records_verdict pick
after_sayable at s st (bad k) go h b g n w e = refl
after_sayable at s st end go h b g n w e = refl
after_sayable at s st (on m st') go h b g n w e = h m st' (bytes_drop s b m) n w (λ q. e (g q))
after_sayable at s st (made m r st') go h b g n w e =
    let z = record_sayable r st.setting.style w g.1 e in
    rw z.0 (h m st' (bytes_drop s b m) (n + 1) (after w r) (λ q. z.1 (sym g.0 ∙ q)))

run_sayable : (version at : ℕ) (s : List ℕ) (st : State) → Sayable s st (run version at s st)
unfolding run read_step records_verdict
run_sayable version at s st =
    iter_ind (read_step version) (λ p. stop (Refusal 5 p)) Sayable (λ p u v b n w e. refl)
    (λ p u v go h b n w e. after_sayable p u v (next version u v) go h b (next_style version u v b) n w e) at s st

pub items_sayable : (version place : ℕ) (file : List ℕ) → Bytes file → records_verdict v8 0 start (items_of version place file).records ≡ Good
unfolding items_of
items_sayable version place file b = run_sayable version place (drop place file) start (bytes_drop file b place) 0 start (λ q. q)
