-- Laws of reading: every item uses at least one byte that is there (progress), the equation of `run`, and the label's bound, once for all
-- versions. Assumes nothing.
use Rattle.std.specs.Prelude.{None, Option, Some}
use Prim.Native.Nat.{ℕ, ◌+◌, ◌-◌, ◌≤◌, ◌<◌}
use mathlib.Core.Path.{◌≡◌, refl, sym, ap, ◌∙◌, subst}
use mathlib.Core.Bool.{true}
use mathlib.Core.List.{List, []}
use native.Mathlib.Omega.{arith}
use lib.ListN.{length, get_or, take, drop, length-drop}
use lib.Seq.{drop-drop}
use borrow.Author.Rules.{part_to_end}
use borrow.Author.Tests.{ltb-false, lt-ltb, le-ltb}
use Rattle.format.specs.Bytes.{pick}
use Rattle.format.specs.Label.{label_step, label_limit}
use Rattle.format.specs.declared.Cut.{Cut}
use Rattle.format.specs.declared.Cut.TheVariants.{Empty, Back}
use Rattle.format.specs.Items.{Item, Stop, Shorten, Style, Move, NoDate, Date, Error, Xsect, Label, Line, Decoded, faulty, whole, sized, numbers}
use Rattle.format.specs.Items.{behind_code, labelled_item, station_item, line_item, section_item, move_item, error_item, day_item, span_item, days_item}
use Rattle.format.specs.Items.{seconds_item, two_seconds_item, old_part, new_part, old_date_item, v7_date_item, old_middle_item, old_low_item, old_high_item}
use Rattle.format.specs.Items.{new_date_item, new_low_item, new_high_item, item_of}
use Rattle.format.specs.declared.LabelPart.{LabelPart}
use Rattle.format.specs.State.{State, Record, Next, bad, end, on, made, on_label, apply, next_of}
use Rattle.format.specs.Refusals.{reader_number, Result, stop, also, Good, Refusal}
use Rattle.format.specs.Reading.{next, ended, after_item, read_step, run, Reached, begins, goes, makes}
use Rattle.format.specs.declared.Point.{Point}
use Rattle.format.proofs.Basics.{pick_case}
use Rattle.format.proofs.IterateLaws.{iter_eq}
use Rattle.format.proofs.ApplyLaws.{label_case, leg_case}

-- ---- progress: the size of an item, where m bytes are there; a refusal has one of the reader's numbers

abbrev pub SizedItem : ℕ → Decoded → Type 0
SizedItem m (faulty k) = reader_number k ≡ true
SizedItem m (whole n it) = (1 ≤ n) × (n ≤ m)

sized_sized : (n : ℕ) (s : List ℕ) (it : Item) → 1 ≤ n → SizedItem (length s) (sized n s it)
unfolding sized
sized_sized n s it h = pick_case (SizedItem (length s)) _ _ _ (λ e. refl) λ e. (h, ltb-false _ _ e)

sized_behind : (m : ℕ) (n : ℕ) (t : List ℕ) (it : Item) → 1 + length t ≤ m → SizedItem m (behind_code (sized n t it))
unfolding sized
sized_behind m n t it h =
    pick_case (λ (x : Decoded). SizedItem m (behind_code x)) _ _ _ (λ e. refl) λ e.
    let z : n ≤ length t = ltb-false _ _ e in (omega arith, omega arith)

sized_labelled : (m : ℕ) (p : Option LabelPart) (t : List ℕ) (n : ℕ) (make : ℕ → List ℕ → List ℕ → Item) → 1 + length t ≤ m → SizedItem m (labelled_item p t n make)
unfolding labelled_item
sized_labelled m None t n make h = refl
sized_labelled m (Some q) t n make h = sized_behind m (q.size + q.add + n) t _ h

sized_section : (m code : ℕ) (p : Option LabelPart) (t : List ℕ) → 1 + length t ≤ m → SizedItem m (section_item code p t)
unfolding section_item
sized_section m code p t h = pick_case (SizedItem m) _ _ _ (λ e. sized_labelled m p t 8 _ h) (λ e. sized_labelled m p t 16 _ h)

sized_station : (m flags : ℕ) (p : Option LabelPart) (t : List ℕ) → 1 + length t ≤ m → SizedItem m (station_item flags p t)
unfolding station_item
sized_station m flags p t h = sized_labelled m p t 12 _ h

sized_line : (m flags : ℕ) (p : Option LabelPart) (t : List ℕ) → 1 + length t ≤ m → SizedItem m (line_item flags p t)
unfolding line_item
sized_line m flags p t h = sized_labelled m p t 12 _ h

sized_old_middle : (version code : ℕ) (s : List ℕ) → 1 ≤ length s → SizedItem (length s) (old_middle_item version code s)
unfolding old_middle_item old_date_item v7_date_item error_item seconds_item two_seconds_item day_item span_item days_item
sized_old_middle version code s h =
    let P = SizedItem (length s) in
    pick_case P _ _ _ (λ e. pick_case P _ _ _ (λ e. refl) (λ e. sized_sized 21 s _ (omega arith))) λ e.
    pick_case P _ _ _ (λ e. refl) λ e.
    pick_case P _ _ _
    (λ e. pick_case P _ _ _ (λ e. sized_sized 5 s _ (omega arith)) λ e. pick_case P _ _ _ (λ e. sized_sized 9 s _ (omega arith)) λ e. refl)
    λ e.
    pick_case P _ _ _ (λ e. sized_sized 3 s _ (omega arith)) λ e.
    pick_case P _ _ _ (λ e. sized_sized 4 s _ (omega arith)) λ e.
    pick_case P _ _ _ (λ e. sized_sized 5 s _ (omega arith)) λ e.
    pick_case P _ _ _ (λ e. (omega arith, h)) λ e. refl

sized_old_low : (code : ℕ) (s : List ℕ) → 1 ≤ length s → SizedItem (length s) (old_low_item code s)
unfolding old_low_item move_item
sized_old_low code s h =
    let P = SizedItem (length s) in
    pick_case P _ _ _ (λ e. (omega arith, h)) λ e.
    pick_case P _ _ _ (λ e. (omega arith, h)) λ e.
    pick_case P _ _ _ (λ e. sized_sized 13 s _ (omega arith)) λ e. (omega arith, h)

sized_old_high : (m version code : ℕ) (t : List ℕ) → 1 + length t ≤ m → SizedItem m (old_high_item version code t)
unfolding old_high_item
sized_old_high m version code t h =
    let P = SizedItem m in
    pick_case P _ _ _ (λ e. pick_case P _ _ _ (λ e. refl) (λ e. sized_section m code (old_part t) t h)) λ e.
    pick_case P _ _ _ (λ e. refl) λ e.
    pick_case P _ _ _ (λ e. sized_station m (code - 0x40) (old_part t) t h) λ e.
    pick_case P _ _ _ (λ e. refl) λ e.
    pick_case P _ _ _ (λ e. sized_line m (code - 0x80) (old_part t) t h) λ e. refl

sized_new_low : (code : ℕ) (s : List ℕ) → 1 ≤ length s → SizedItem (length s) (new_low_item code s)
unfolding new_low_item move_item error_item new_date_item day_item span_item days_item
sized_new_low code s h =
    let P = SizedItem (length s) in
    pick_case P _ _ _ (λ e. (omega arith, h)) λ e.
    pick_case P _ _ _ (λ e. refl) λ e.
    pick_case P _ _ _ (λ e. sized_sized 13 s _ (omega arith)) λ e.
    pick_case P _ _ _
    (λ e.
    pick_case P _ _ _ (λ e. (omega arith, h)) λ e.
    pick_case P _ _ _ (λ e. sized_sized 3 s _ (omega arith)) λ e.
    pick_case P _ _ _ (λ e. sized_sized 4 s _ (omega arith)) λ e. sized_sized 5 s _ (omega arith))
    λ e.
    pick_case P _ _ _ (λ e. sized_sized 21 s _ (omega arith)) λ e. refl

sized_new_high : (m code : ℕ) (t : List ℕ) → 1 + length t ≤ m → SizedItem m (new_high_item code t)
unfolding new_high_item
sized_new_high m code t h =
    let P = SizedItem m in
    pick_case P _ _ _ (λ e. sized_section m code (new_part t) t h) λ e.
    pick_case P _ _ _ (λ e. refl) λ e.
    pick_case P _ _ _ (λ e. sized_line m (code - 0x40) (new_part t) t h) λ e.
    pick_case P _ _ _ (λ e. refl) λ e.
    pick_case P _ _ _ (λ e. sized_line m (code - 0x60) (numbers 0 0 0) t h) λ e.
    pick_case P _ _ _ (λ e. refl) λ e. sized_station m (code - 0x80) (new_part t) t h

-- every item, of every version, uses at least one byte and no more than are there
pub progress : (version : ℕ) (s : List ℕ) → SizedItem (length s) (item_of version s)
unfolding item_of
progress version s =
    let P = SizedItem (length s) in
    let code = get_or s 0 0 in
    pick_case P _ _ _ (λ e. refl) λ e.
    let h : 1 ≤ length s = ltb-false _ _ e in
    let k : 1 + length (drop 1 s) ≤ length s = simp length-drop (omega arith) in
    pick_case P _ _ _
    (λ e.
    pick_case P _ _ _ (λ e. sized_old_low code s h) λ e.
    pick_case P _ _ _ (λ e. sized_old_middle version code s h) λ e. sized_old_high (length s) version code (drop 1 s) k)
    λ e.
    pick_case P _ _ _ (λ e. sized_new_low code s h) λ e. sized_new_high (length s) code (drop 1 s) k

-- ---- the same of what an item comes to

abbrev pub SizedNext : ℕ → Next → Type 0
SizedNext m (bad k) = reader_number k ≡ true
SizedNext m end = 1 ≤ m
SizedNext m (on n st) = (1 ≤ n) × (n ≤ m)
SizedNext m (made n r st) = (1 ≤ n) × (n ≤ m)

module _ (m : ℕ) (st : State) (n : ℕ) (h : 1 ≤ n) (k : n ≤ m) where
  sized_label : (cut : Cut) (added : List ℕ) (go : List ℕ → Next) → ((l : List ℕ) → SizedNext m (go l))
      → SizedNext m (on_label (label_step st.label cut added) go)
  sized_label cut added go f = label_case (SizedNext m) st.label cut added go refl refl (λ l z. f l)

  sized_apply : (it : Item) → SizedNext m (apply st n it)
  sized_apply Stop = pick_case (SizedNext m) _ _ _ (λ e. omega arith) λ e. sized_label Empty [] _ (λ l. (h, k))
  sized_apply (Shorten cut) = sized_label cut [] _ (λ l. (h, k))
  sized_apply (Style s) = pick_case (SizedNext m) _ _ _ (λ e. omega arith) λ e. (h, k)
  sized_apply (Move p) = (h, k)
  sized_apply NoDate = (h, k)
  sized_apply (Date first last) = pick_case (SizedNext m) _ _ _ (λ e. refl) λ e. (h, k)
  sized_apply (Error t) = (h, k)
  sized_apply (Xsect last dims d added) = sized_label (Back d) added _ (λ l. (h, k))
  sized_apply (Label flags p d added) = sized_label (Back d) added _ (λ l. (h, k))
  sized_apply (Line flags p d added) = sized_label (Back d) added _ (λ l. leg_case (SizedNext m) st.setting.position n st flags p l refl (λ from. (h, k)))

sized_next_of : (m : ℕ) (st : State) (x : Decoded) → SizedItem m x → SizedNext m (next_of st x)
sized_next_of m st (faulty k) z = z
sized_next_of m st (whole n it) z = sized_apply m st n z.0 z.1 it

pub next_sized : (version : ℕ) (s : List ℕ) (st : State) → SizedNext (length s) (next version s st)
unfolding next
next_sized version s st = sized_next_of (length s) st (item_of version s) (progress version s)

-- ---- the order of refusals in an item: "6, 7, 9, 8"

-- with no position, a LINE is refused for its label first
pub label_before_position : (st : State) (n flags : ℕ) (p : Point) (d : ℕ) (added : List ℕ) → st.setting.position ≡ None
    → apply st n (Line flags p d added) ≡ on_label (label_step st.label (Back d) added) (λ l. bad 8)
label_before_position st n flags p d added e = rw e

-- ---- the equation of `run`

after_cong : (m : ℕ) (x : Next) (at : ℕ) (s : List ℕ) (f g : ℕ → State → Result) → SizedNext m x
    → ((k : ℕ) (st : State) → 0 < k → k ≤ m → f k st ≡ g k st) → after_item x at s f ≡ after_item x at s g
after_cong m (bad k) at s f g z e = refl
after_cong m end at s f g z e = refl
after_cong m (on n st) at s f g z e = e n st z.0 z.1
after_cong m (made n r st) at s f g z e = ap (also r) (e n st z.0 z.1)

read_cong : (version at : ℕ) (s : List ℕ) (st : State) (f g : ℕ → State → Result)
    → ((k : ℕ) (st' : State) → 0 < k → k ≤ length s → f k st' ≡ g k st') → read_step version at s st f ≡ read_step version at s st g
unfolding read_step
read_cong version at s st f g e = after_cong (length s) (next version s st) at s f g (next_sized version s st) e

-- reading s is reading its first item, and then what follows it
pub run_eq : (version at : ℕ) (s : List ℕ) (st : State) → run version at s st ≡ after_item (next version s st) at s
    (λ n st'. run version (at + n) (drop n s) st')
unfolding run read_step
run_eq version at s st = iter_eq (read_step version) (λ p. stop (Refusal 5 p)) (read_cong version) at s st

-- by what the first item comes to
module _ (version at : ℕ) (s : List ℕ) (st : State) where
  pub run_bad : {k : ℕ} → next version s st ≡ bad k → run version at s st ≡ stop (Refusal k at)
  run_bad e = run_eq version at s st ∙ rw e

  pub run_after : next version s st ≡ end → 1 < length s → run version at s st ≡ stop (Refusal 10 (at + 1))
  unfolding ended pick
  run_after e h = run_eq version at s st ∙ simp (e, lt-ltb _ _ h)

  pub run_done : next version s st ≡ end → length s ≤ 1 → run version at s st ≡ stop Good
  unfolding ended pick
  run_done e h = run_eq version at s st ∙ simp (e, le-ltb _ _ h)

  pub run_on : {n : ℕ} {st' : State} → next version s st ≡ on n st' → run version at s st ≡ run version (at + n) (drop n s) st'
  run_on e = run_eq version at s st ∙ rw e

  pub run_made : {n : ℕ} {r : Record} {st' : State} → next version s st ≡ made n r st' → run version at s st ≡ also r (run version (at + n) (drop n s) st')
  run_made e = run_eq version at s st ∙ rw e

-- ---- the same at a place of a file: x is what the item there comes to, in the part that code cuts out from there on

-- the item's bytes are there
abbrev pub Within : ℕ → ℕ → Next → Type 0
Within m at (bad k) = Unit
Within m at end = Unit
Within m at (on n st) = (1 ≤ n) × (at + n ≤ m)
Within m at (made n r st) = (1 ≤ n) × (at + n ≤ m)

within : (m at : ℕ) (x : Next) → at ≤ m → SizedNext (m - at) x → Within m at x
within m at (bad k) h z = tt
within m at end h z = tt
within m at (on n st) h z = (z.0, omega (arith, z.1))
within m at (made n r st) h z = (z.0, omega (arith, z.1))

module _ (version : ℕ) (file : List ℕ) (at : ℕ) (st : State) where
  abbrev next_there : Next
  next_there = next version (take (length file - at) (drop at file)) st

  abbrev left : Result
  left = run version at (drop at file) st

  pub next_there_lem : {x : Next} → x ≡ next_there → next version (drop at file) st ≡ x
  next_there_lem e = sym (rw part_to_end at e)

  pub there_within : {x : Next} → at ≤ length file → x ≡ next_there → Within (length file) at x
  there_within {x} h e = within (length file) at x h (rw (← next_there_lem e, ← length-drop at file) (next_sized version (drop at file) st))

  pub left_bad : {k : ℕ} → bad k ≡ next_there → left ≡ stop (Refusal k at)
  left_bad e = run_bad version at (drop at file) st (next_there_lem e)

  pub left_after : end ≡ next_there → 1 < length (drop at file) → left ≡ stop (Refusal 10 (at + 1))
  left_after e h = run_after version at (drop at file) st (next_there_lem e) h

  pub left_done : end ≡ next_there → length (drop at file) ≤ 1 → left ≡ stop Good
  left_done e h = run_done version at (drop at file) st (next_there_lem e) h

  pub left_on : {n : ℕ} {st' : State} → on n st' ≡ next_there → left ≡ run version (at + n) (drop (at + n) file) st'
  left_on {n} e = run_on version at (drop at file) st (next_there_lem e) ∙ rw (drop-drop n at file)

  pub left_made : {n : ℕ} {r : Record} {st' : State} → made n r st' ≡ next_there → left ≡ also r (run version (at + n) (drop (at + n) file) st')
  left_made {n} e = run_made version at (drop at file) st (next_there_lem e) ∙ rw (drop-drop n at file)

-- ---- the label's bound, in every state that reading reaches

abbrev pub ShortNext : Next → Type 0
ShortNext (bad k) = Unit
ShortNext end = Unit
ShortNext (on n st) = length st.label ≤ label_limit
ShortNext (made n r st) = length st.label ≤ label_limit

module _ (st : State) (n : ℕ) (h : length st.label ≤ label_limit) where
  short_label : (cut : Cut) (added : List ℕ) (go : List ℕ → Next) → ((l : List ℕ) → length l ≤ label_limit → ShortNext (go l))
      → ShortNext (on_label (label_step st.label cut added) go)
  short_label cut added go f = label_case ShortNext st.label cut added go tt tt f

  short_apply : (it : Item) → ShortNext (apply st n it)
  short_apply Stop = pick_case ShortNext _ _ _ (λ e. tt) λ e. short_label Empty [] _ (λ l z. z)
  short_apply (Shorten cut) = short_label cut [] _ (λ l z. z)
  short_apply (Style s) = pick_case ShortNext _ _ _ (λ e. tt) λ e. h
  short_apply (Move p) = h
  short_apply NoDate = h
  short_apply (Date first last) = pick_case ShortNext _ _ _ (λ e. tt) λ e. h
  short_apply (Error t) = h
  short_apply (Xsect last dims d added) = short_label (Back d) added _ (λ l z. z)
  short_apply (Label flags p d added) = short_label (Back d) added _ (λ l z. z)
  short_apply (Line flags p d added) = short_label (Back d) added _ (λ l z. leg_case ShortNext st.setting.position n st flags p l tt (λ from. z))

short_next_of : (st : State) (x : Decoded) → length st.label ≤ label_limit → ShortNext (next_of st x)
short_next_of st (faulty k) h = tt
short_next_of st (whole n it) h = short_apply st n h it

pub next_short : (version : ℕ) (s : List ℕ) (st : State) → length st.label ≤ label_limit → ShortNext (next version s st)
unfolding next
next_short version s st h = short_next_of st (item_of version s) h

-- so in every state that reading reaches, in every version, the label has at most 4,096 bytes
pub reached_short : {version : ℕ} {file : List ℕ} {first p : ℕ} {st : State} → Reached version file first p st → length st.label ≤ label_limit
reached_short begins = omega arith
reached_short {version} {file} (goes {p = q} {st = st₀} n st' r e) = subst ShortNext e (next_short version (drop q file) st₀ (reached_short r))
reached_short {version} {file} (makes {p = q} {st = st₀} n rec st' r e) = subst ShortNext e (next_short version (drop q file) st₀ (reached_short r))
