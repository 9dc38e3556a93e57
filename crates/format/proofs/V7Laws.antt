-- Laws of writing v7 (#110). A label is shortened by codes of its own, which make no record; the item behind them appends. So from a state
-- whose style is not said, reading the codes of a record makes that record, its style not said, leaves the state that writing leaves, and goes
-- on at what follows. Assumes nothing.
use Rattle.std.specs.Prelude.{Some, Option}
use Rattle.format.specs.declared.Point.{Point}
use Prim.Native.Nat.{ℕ, zero, suc, ◌+◌, ◌-◌, ◌*◌, ◌/◌, ◌%◌, ◌≤◌, ◌<◌}
use mathlib.Core.Path.{◌≡◌, refl, sym, ◌∙◌, subst}
use mathlib.Core.List.{List, [], ◌∷◌, ◌++◌, append_assoc, append-nil}
use mathlib.Core.Bool.{false}
use native.Mathlib.Omega.{arith}
use lib.ListN.{length, take, drop, length-append, length-drop}
use lib.Seq.{take-take, take_all, length-take-le}
use lib.Dec.{eqb, ltb}
use borrow.Author.Tests.{ltb-true, ltb-false, eqb-true, eqb-false, lt-ltb, le-ltb, ne_eqb}
use Rattle.format.specs.Bytes.{pick, le16, le32, to_le16, to_le32}
use Rattle.format.specs.Label.{kept_of, labelled, label_step, label_limit}
use Rattle.format.specs.declared.Cut.TheVariants.{Trim, Back}
use Rattle.format.specs.Items.{Shorten, whole, old_part, station_item, line_item, section_item, move_item, error_item, v7_date_item, old_middle_item, numbers}
use Rattle.format.specs.Items.{old_low_item, old_high_item, item_of}
use Rattle.format.specs.State.{not_said, State, Record, leg, station, section, error, named, dated_by, moved, on, made}
use Rattle.format.specs.Sheet.{point_bytes, dimension_bytes, traverse_bytes}
use Rattle.format.specs.WellFormed.{GoodLeg, GoodStation, GoodSection, WellFormed}
use Rattle.format.specs.Refusals.{stop, Good}
use Rattle.format.specs.Reading.{next, run}
use Rattle.format.specs.Codes.{common, date_if, move_if, all_short}
use Rattle.format.specs.V7Codes.{sixteens, trim_codes, shorten_codes, old_length_codes, added_codes, labelled_codes, v7_dates, v7_section_codes, v7_codes}
use Rattle.format.specs.V7Codes.{unstyled, v7_after, v7_closing, v7_unable}
use Rattle.format.specs.declared.Dated.{Dated}
use Rattle.format.specs.declared.Leg.{Leg}
use Rattle.format.specs.declared.Station.{Station}
use Rattle.format.specs.declared.Section.{Section}
use Rattle.format.proofs.Basics.{pick_case, le16_to, le32_to}
use Rattle.format.proofs.LabelLaws.{step_fits}
use Rattle.format.proofs.ApplyLaws.{stop_end, stop_empties}
use Rattle.format.proofs.ReadingLaws.{run_done, run_on}
use Rattle.format.proofs.GoingLaws.{Goes, stays, goes_as, goes_on_lem, goes_made, goes_append}
use Rattle.format.proofs.WritingLaws.{Shares, common_shares, label_read}
use Rattle.format.proofs.WrittenItems.{there, PartRead, station_read_back, line_read_back, short_section_read_back, wide_section_read_back}
use Rattle.format.proofs.WrittenItems.{DatesRead, date_if_read, move_if_read, error_next}

-- ---- which item a code of v7 is

module _ (c : ℕ) (t : List ℕ) where
  code_trim : 0x10 ≤ c → c < 0x20 → item_of 7 (c ∷ t) ≡ whole 1 (Shorten (Trim (c - 15)))
  unfolding item_of old_low_item pick
  code_trim h k =
      let a : c ≡ 0 → ⊥ = λ q. omega arith in
      let b : c ≡ 15 → ⊥ = λ q. omega arith in
      simp (there c t, lt-ltb c 0x20 k, ne_eqb c 0 a, le-ltb c 15 (omega arith), ne_eqb c 15 b)

  code_high : 0x30 ≤ c → item_of 7 (c ∷ t) ≡ old_high_item 7 c t
  unfolding item_of pick
  code_high h = simp (there c t, le-ltb c 0x20 (omega arith), le-ltb c 0x30 h)

  code_section : 0x30 ≤ c → c < 0x34 → item_of 7 (c ∷ t) ≡ section_item c (old_part t) t
  unfolding old_high_item pick
  code_section h k = code_high h ∙ simp (lt-ltb c 0x34 k)

  code_station : 0x40 ≤ c → c < 0x60 → item_of 7 (c ∷ t) ≡ station_item (c - 0x40) (old_part t) t
  unfolding old_high_item pick
  code_station h k = code_high (omega arith) ∙ simp (le-ltb c 0x34 (omega arith), le-ltb c 0x40 h, lt-ltb c 0x60 k)

  code_line : 0x80 ≤ c → c < 0x88 → item_of 7 (c ∷ t) ≡ line_item (c - 0x80) (old_part t) t
  unfolding old_high_item pick
  code_line h k =
      code_high (omega arith) ∙ simp (le-ltb c 0x34 (omega arith), le-ltb c 0x40 (omega arith), le-ltb c 0x60 (omega arith), le-ltb c 0x80 h, lt-ltb c 0x88 k)

dates_read : DatesRead 7 v7_dates
unfolding item_of old_middle_item v7_date_item pick
dates_read =
    record {
      is_none = λ t. simp (there 0x24 t);
      is_day = λ t. simp (there 0x20 t);
      is_span = λ t. simp (there 0x21 t);
      is_days = λ t. simp (there 0x23 t);
    }

code_move : (t : List ℕ) → item_of 7 (0x0f ∷ t) ≡ move_item (0x0f ∷ t)
unfolding item_of old_low_item pick
code_move t = simp (there 0x0f t)

code_error : (t : List ℕ) → item_of 7 (0x22 ∷ t) ≡ error_item (0x22 ∷ t)
unfolding item_of old_middle_item pick
code_error t = simp (there 0x22 t)

-- ---- the length of what is appended is read back

old_length_read : (n : ℕ) (rest : List ℕ) → n < 4294967296 → old_part (old_length_codes n ++ rest) ≡ numbers (length (old_length_codes n)) 0 n
unfolding old_part old_length_codes to_le16 to_le32 pick
old_length_read n rest h =
    pick_case (λ (x : List ℕ). old_part (x ++ rest) ≡ numbers (length x) 0 n) (ltb n 0xfe) _ _
    (λ e. simp (le-ltb (suc (length rest)) 1 (omega arith), e))
    (λ e. pick_case (λ (x : List ℕ). old_part (x ++ rest) ≡ numbers (length x) 0 n) (ltb n 65790) _ _
    (λ q.
    let low = ltb-false n 0xfe e in
    let high = ltb-true n 65790 q in
    let v : le16 (to_le16 (n - 254) ++ rest) ≡ n - 254 = le16_to (n - 254) rest (omega arith) in
    let z : n - 254 + 254 ≡ n = omega arith in
    simp (le-ltb (suc (suc (suc (length rest)))) 1 (omega arith), le-ltb (suc (suc (suc (length rest)))) 3 (omega arith), v, z))
    (λ q.
    let v : le32 (to_le32 n ++ rest) ≡ n = le32_to n rest h in
    simp (le-ltb (suc (suc (suc (suc (suc (length rest)))))) 1 (omega arith), le-ltb (suc (suc (suc (suc (suc (length rest)))))) 5 (omega arith), v)))

part_back : (m : List ℕ) (k : ℕ) → length m ≤ label_limit → PartRead old_part (old_length_codes (length m - k)) 0 (drop k m)
part_back m k h = record { numbers = λ tail. rw (length-drop k m) (old_length_read (length m - k) (drop k m ++ tail) (omega arith)) }

-- ---- shortening

trim_next : (st : State) (rest : List ℕ) (c : ℕ) → 0x10 ≤ c → c < 0x20 → c - 15 < length st.label → length st.label ≤ label_limit
    → next 7 (c ∷ rest) st ≡ on 1 (named (take (length st.label - (c - 15)) st.label) st)
unfolding next pick
trim_next st rest c h0 h1 h2 h3 =
    let l = st.label in
    let n = c - 15 in
    let k : kept_of l (Trim n) ≡ Some (length l - n) = simp (lt-ltb n (length l) h2) in
    let e : label_step l (Trim n) [] ≡ labelled (take (length l - n) l) = step_fits l (Trim n) [] (length l - n) k (omega arith) ∙ rw append-nil in
    rw (code_trim c rest h0 h1, e)

module _ (rest : List ℕ) where
  -- 16 bytes at a time, down to k of them
  sixteens_go : (n k : ℕ) (st : State) → k + n * 16 ≡ length st.label → 0 < k → length st.label ≤ label_limit
      → Goes 7 (sixteens n ++ rest) st [] (length (sixteens n)) (named (take k st.label) st)
  unfolding sixteens
  sixteens_go zero k st e h m =
      let t : take k st.label ≡ st.label = take_all k st.label (omega arith) in
      subst (λ (l : List ℕ). Goes 7 rest st [] 0 (named l st)) (sym t) stays
  sixteens_go (suc n) k st e h m =
      let l = st.label in
      let j = length l - 16 in
      let st₁ = named (take j l) st in
      let f : length (take j l) ≡ j = length-take-le j l (omega arith) in
      let d : take k (take j l) ≡ take k l = take-take k j l (omega arith) in
      let a : next 7 (0x1f ∷ (sixteens n ++ rest)) st ≡ on 1 st₁ = trim_next st (sixteens n ++ rest) 0x1f (omega arith) (omega arith) (omega arith) m in
      let b = sixteens_go n k st₁ (rw f (omega arith)) h (rw f (omega arith)) in
      let one : 1 + length (sixteens n) ≡ suc (length (sixteens n)) = omega arith in
      goes_as refl one
      (goes_append (0x1f ∷ []) (sixteens n ++ rest) (goes_on_lem (0x1f ∷ []) (sixteens n ++ rest) st st₁ a)
      (subst (λ (x : List ℕ). Goes 7 (sixteens n ++ rest) st₁ [] (length (sixteens n)) (named x st)) d b))

  -- then the rest
  rest_go : (r k : ℕ) (st : State) → k + r ≡ length st.label → r < 16 → 0 < k → length st.label ≤ label_limit
      → Goes 7 (pick (eqb r 0) [] ((0x0f + r) ∷ []) ++ rest) st [] (length (pick (eqb r 0) [] ((0x0f + r) ∷ []))) (named (take k st.label) st)
  rest_go r k st e h p m =
      pick_case (λ (x : List ℕ). Goes 7 (x ++ rest) st [] (length x) (named (take k st.label) st)) (eqb r 0) [] ((0x0f + r) ∷ [])
      (λ q.
      let z = eqb-true r 0 q in
      let t : take k st.label ≡ st.label = take_all k st.label (omega arith) in
      subst (λ (l : List ℕ). Goes 7 rest st [] 0 (named l st)) (sym t) stays)
      (λ q.
      let z = eqb-false r 0 q in
      let y : length st.label - (0x0f + r - 15) ≡ k = omega arith in
      goes_on_lem ((0x0f + r) ∷ []) rest st (named (take k st.label) st)
      (rw y at (trim_next st rest (0x0f + r) (omega (arith, z)) (omega arith) (omega arith) m)))

trims_go : (k : ℕ) (st : State) (rest : List ℕ) → k ≤ length st.label → 0 < k → length st.label ≤ label_limit
    → Goes 7 (trim_codes (length st.label - k) ++ rest) st [] (length (trim_codes (length st.label - k))) (named (take k st.label) st)
unfolding trim_codes
trims_go k st rest h p m =
    let l = st.label in
    let d = length l - k in
    let q = d / 16 in
    let r = d % 16 in
    let S = sixteens q in
    let R = pick (eqb r 0) [] ((0x0f + r) ∷ []) in
    let st₁ = named (take (k + r) l) st in
    let f : length (take (k + r) l) ≡ k + r = length-take-le (k + r) l (omega arith) in
    let t : take k (take (k + r) l) ≡ take k l = take-take k (k + r) l (omega arith) in
    let a = sixteens_go (R ++ rest) q (k + r) st (omega arith) (omega arith) m in
    let b = rest_go rest r k st₁ (sym f) (omega arith) p (rw f (omega arith)) in
    goes_as (sym (append_assoc S R rest)) (sym (length-append S R))
    (goes_append S (R ++ rest) a (subst (λ (x : List ℕ). Goes 7 (R ++ rest) st₁ [] (length R) (named x st)) t b))

no_bytes : (l : List ℕ) → length l ≡ 0 → l ≡ []
no_bytes [] e = refl
no_bytes (x ∷ l) e = absurd (omega arith)

empty_next : (st : State) (rest : List ℕ) → (length st.label ≡ 0 → ⊥) → next 7 (0x00 ∷ rest) st ≡ on 1 (named [] st)
unfolding next item_of old_low_item pick
empty_next st rest h = simp (there 0x00 rest) (stop_empties st 1 h)

-- from any label to its first k bytes
shorten_go : (k : ℕ) (st : State) (rest : List ℕ) → k ≤ length st.label → length st.label ≤ label_limit
    → Goes 7 (shorten_codes (length st.label) k ++ rest) st [] (length (shorten_codes (length st.label) k)) (named (take k st.label) st)
unfolding shorten_codes
shorten_go k st rest h m =
    pick_case (λ (x : List ℕ). Goes 7 (x ++ rest) st [] (length x) (named (take k st.label) st)) (eqb k 0) _ _
    (λ q.
    let z = eqb-true k 0 q in
    rw z (pick_case (λ (x : List ℕ). Goes 7 (x ++ rest) st [] (length x) (named [] st)) (eqb (length st.label) 0) [] (0x00 ∷ [])
    (λ e. subst (λ (y : List ℕ). Goes 7 rest st [] 0 (named y st)) (no_bytes st.label (eqb-true (length st.label) 0 e)) stays)
    (λ e. goes_on_lem (0x00 ∷ []) rest st (named [] st) (empty_next st rest (eqb-false (length st.label) 0 e)))))
    (λ q. (let z = eqb-false k 0 q in trims_go k st rest h (omega (arith, z)) m))

-- ---- an item with a label: shortened first, then the item appends

label_on : (l m : List ℕ) (k : ℕ) → Shares l m k → length m ≤ label_limit → label_step (take k l) (Back 0) (drop k m) ≡ labelled m
label_on l m k s h =
    let f : length (take k l) ≡ k = length-take-le k l s.first in
    let z : length (take k l) - k ≡ 0 = omega arith in
    let t : take k (take k l) ≡ take k l = take-take k k l (omega arith) in
    rw z at (label_read (take k l) m k (record { first = omega arith; second = s.second; equal = t ∙ s.equal }) h)

module _ (st : State) (rest : List ℕ) (hl : length st.label ≤ label_limit) (m : List ℕ) (hm : length m ≤ label_limit) where
  -- how many bytes stay, and the state once the others are off
  abbrev k : ℕ
  k = common st.label m

  abbrev shorter : State
  shorter = named (take k st.label) st

  abbrev item : ℕ → List ℕ → List ℕ
  item c fields = c ∷ (added_codes m k ++ fields)

  labelled_go : (c : ℕ) (fields : List ℕ) (r : Record) (st' : State) → next 7 (item c fields ++ rest) shorter ≡ made (length (item c fields)) r st'
      → Goes 7 (labelled_codes st.label m c fields ++ rest) st (r ∷ []) (length (labelled_codes st.label m c fields)) st'
  unfolding labelled_codes
  labelled_go c fields r st' e =
      let S = shorten_codes (length st.label) k in
      let s = common_shares st.label m in
      goes_as (sym (append_assoc S (item c fields) rest)) (sym (length-append S (item c fields)))
      (goes_append S (item c fields ++ rest) (shorten_go k st (item c fields ++ rest) s.first hl) (goes_made (item c fields) rest shorter r st' e))

  station_go : (s : Station) → GoodStation s m → s.flags ≤ 0x1f
      → Goes 7 (labelled_codes st.label m (0x40 + s.flags) (point_bytes to_le32 s.place) ++ rest) st (station s m ∷ [])
      (length (labelled_codes st.label m (0x40 + s.flags) (point_bytes to_le32 s.place))) (named m st)
  unfolding added_codes next
  station_go s g h =
      let z : 0x40 + s.flags - 0x40 ≡ s.flags = omega arith in
      labelled_go (0x40 + s.flags) (point_bytes to_le32 s.place) (station s m) (named m st)
      (rw (
        station_read_back 7 (part_back m k hm) (0x40 + s.flags) rest s.flags s.place
            (λ t. code_station (0x40 + s.flags) t (omega arith) (omega arith) ∙ rw z) g.place_fits,
        label_on st.label m k (common_shares st.label m) hm,
      ))

  -- XSECT, where the date is the section's
  xsect_go : (s : Section) → GoodSection s m → st.setting.date ≡ s.date
      → Goes 7 (v7_section_codes st.label s m ++ rest) st (section s m ∷ []) (length (v7_section_codes st.label s m)) (named m st)
  unfolding v7_section_codes added_codes next
  xsect_go s g hd =
      let d = s.size in
      let h = g.last_fits in
      let e = label_on st.label m k (common_shares st.label m) hm in
      let is : (c : ℕ) → 0x30 ≤ c → c < 0x34 → (t : List ℕ) → item_of 7 (c ∷ t) ≡ section_item c (old_part t) t = λ c a b t. code_section c t a b in
      pick_case (λ (x : List ℕ). Goes 7 (x ++ rest) st (section s m ∷ []) (length x) (named m st)) (all_short d) _ _
      (λ q.
      labelled_go (0x30 + s.last) (dimension_bytes to_le16 d) (section s m) (named m st)
      (rw (
        short_section_read_back 7 (part_back m k hm) (0x30 + s.last) rest s.last d (is (0x30 + s.last) (omega arith) (omega arith)) (omega arith)
            g.dimensions_fit (omega arith) q,
        e,
        hd,
      )))
      (λ q.
      labelled_go (0x32 + s.last) (dimension_bytes to_le32 d) (section s m) (named m st)
      (rw (
        wide_section_read_back 7 (part_back m k hm) (0x32 + s.last) rest s.last d (is (0x32 + s.last) (omega arith) (omega arith)) (omega arith)
            g.dimensions_fit (omega arith),
        e,
        hd,
      )))

  -- LINE, where date and position are the leg's and the style is not said
  line_go : (g : Leg) → GoodLeg g m → st.setting.style ≡ not_said → st.setting.date ≡ g.date → st.setting.position ≡ Some g.from
      → Goes 7 (labelled_codes st.label m (0x80 + g.flags) (point_bytes to_le32 g.to) ++ rest) st (unstyled (leg g m) ∷ [])
      (length (labelled_codes st.label m (0x80 + g.flags) (point_bytes to_le32 g.to))) (moved g.to (named m st))
  unfolding added_codes next
  line_go g w hs hd hp =
      let z : 0x80 + g.flags - 0x80 ≡ g.flags = omega arith in
      let f = w.flags_fit in
      labelled_go (0x80 + g.flags) (point_bytes to_le32 g.to) (unstyled (leg g m)) (moved g.to (named m st))
      (rw (
        line_read_back 7 (part_back m k hm) (0x80 + g.flags) rest g.flags g.to
            (λ t. code_line (0x80 + g.flags) t (omega arith) (omega arith) ∙ rw z) w.to_fits,
        label_on st.label m k (common_shares st.label m) hm,
        hp,
      )
      (rw (hs, hd)))

-- ---- the codes of a record

-- a state whose style is not said
abbrev unsaid : List ℕ → Dated → Option Point → State
unsaid l date position = record { label = l; setting = record { style = not_said; date = date; position = position } }

module _ (l : List ℕ) (date : Dated) (position : Option Point) (hl : length l ≤ label_limit) (rest : List ℕ) where
  abbrev here : State
  here = unsaid l date position

  leg_go : (g : Leg) (m : List ℕ) → GoodLeg g m
      → Goes 7 (v7_codes here (leg g m) ++ rest) here (unstyled (leg g m) ∷ []) (length (v7_codes here (leg g m))) (v7_after here (leg g m))
  unfolding date_if move_if labelled_codes
  leg_go g m w =
      let D = date_if v7_dates date g.date in
      let M = move_if position g.from in
      let L = labelled_codes l m (0x80 + g.flags) (point_bytes to_le32 g.to) in
      let dated = dated_by g.date here in
      let e : (D ++ (M ++ L)) ++ rest ≡ D ++ (M ++ (L ++ rest)) = simp append_assoc in
      let n : length D + (length M + length L) ≡ length (D ++ (M ++ L)) = simp length-append in
      goes_as (sym e) n
      (goes_append D (M ++ (L ++ rest)) (date_if_read dates_read here (M ++ (L ++ rest)) g.date w.date_fits)
      (goes_append M (L ++ rest) (move_if_read 7 dated (L ++ rest) code_move g.from w.from_fits)
      (line_go (moved g.from dated) rest hl m w.label_fits g w refl refl refl)))

  section_go : (s : Section) (m : List ℕ) → GoodSection s m
      → Goes 7 (v7_codes here (section s m) ++ rest) here (section s m ∷ []) (length (v7_codes here (section s m))) (v7_after here (section s m))
  unfolding date_if
  section_go s m w =
      let D = date_if v7_dates date s.date in
      let X = v7_section_codes l s m in
      goes_as (sym (append_assoc D X rest)) (sym (length-append D X))
      (goes_append D (X ++ rest) (date_if_read dates_read here (X ++ rest) s.date w.date_fits)
      (xsect_go (dated_by s.date here) rest hl m w.label_fits s w refl))

  record_go : (r : Record) → WellFormed r → v7_unable r ≡ false
      → Goes 7 (v7_codes here r ++ rest) here (unstyled r ∷ []) (length (v7_codes here r)) (v7_after here r)
  record_go (leg g m) w u = leg_go g m w
  record_go (station s m) w u = station_go here rest hl m w.label_fits s w (ltb-false 0x1f s.flags u)
  record_go (section s m) w u = section_go s m w
  record_go (error t) w u = goes_made (0x22 ∷ traverse_bytes to_le32 t) rest here (error t) here (error_next 7 here rest 0x22 code_error t w)

-- a state that reading v7 is in: its style is not said, and the label is not too long
pub record V7State (st : State) : Type 0 where
  pub style_is : st.setting.style ≡ not_said
  pub label_fits : length st.label ≤ label_limit

pub v7_codes_go : (st : State) (r : Record) → V7State st → WellFormed r → v7_unable r ≡ false → (rest : List ℕ)
    → Goes 7 (v7_codes st r ++ rest) st (unstyled r ∷ []) (length (v7_codes st r)) (v7_after st r)
v7_codes_go st r s w u rest =
    let e : unsaid st.label st.setting.date st.setting.position ≡ st =
    λ i. record { label = st.label; setting = record { style = sym s.style_is i; date = st.setting.date; position = st.setting.position } } in
    subst (λ (x : State). Goes 7 (v7_codes x r ++ rest) x (unstyled r ∷ []) (length (v7_codes x r)) (v7_after x r)) e
    (record_go st.label st.setting.date st.setting.position s.label_fits rest r w u)

pub v7_after_fits : (st : State) (r : Record) → V7State st → WellFormed r → V7State (v7_after st r)
v7_after_fits st (leg g m) s w = record { style_is = refl; label_fits = w.label_fits }
v7_after_fits st (station x m) s w = record { style_is = s.style_is; label_fits = w.label_fits }
v7_after_fits st (section x m) s w = record { style_is = s.style_is; label_fits = w.label_fits }
v7_after_fits st (error t) s w = s

-- ---- the closing codes end the file

end_read : (st : State) (at : ℕ) → length st.label ≡ 0 → run 7 at (0x00 ∷ []) st ≡ stop Good
unfolding next item_of old_low_item pick
end_read st at e = run_done 7 at (0x00 ∷ []) st (stop_end st 1 e) (omega arith)

pub v7_closing_read : (st : State) (at : ℕ) → run 7 at (v7_closing st.label) st ≡ stop Good
unfolding v7_closing
v7_closing_read st at =
    pick_case (λ (x : List ℕ). run 7 at x st ≡ stop Good) (eqb (length st.label) 0) _ _ (λ q. end_read st at (eqb-true (length st.label) 0 q))
    (λ q. run_on 7 at (0x00 ∷ 0x00 ∷ []) st (empty_next st (0x00 ∷ []) (eqb-false (length st.label) 0 q)) ∙ end_read (named [] st) (at + 1) refl)
