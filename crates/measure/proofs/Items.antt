-- What an item of v8 comes to, in every state of which measuring keeps the same. Assumes nothing.
use Rattle.std.specs.Prelude.{Option, None, Some, Result, Ok, Err}
use Prim.Native.Nat.{ℕ, ◌+◌, ◌-◌, ◌≤◌, ◌<◌}
use mathlib.Core.Path.{◌≡◌, refl, sym, ap, ◌∙◌}
use mathlib.Core.List.{List, ◌++◌}
use mathlib.Core.Bool.{Bool, true, false}
use native.Mathlib.Omega.{arith}
use native.Mathlib.Decide.{dec_lt}
use lib.ListN.{length, get_or, take, drop, length-append, length-drop}
use lib.Seq.{length-take-le}
use borrow.Author.Tests.{lt-ltb, le-ltb}
use Rattle.format.specs.Bytes.{pick, le32}
use Rattle.format.specs.Label.{label_step, label_limit}
use Rattle.format.specs.declared.Cut.TheVariants.{Back}
use Rattle.format.specs.Items.{Item, Style as style_item, Move as move_to, NoDate as no_date_item, Date as date_item, Error as error_of, Decoded, sized, new_part, point_of, item_of, numbers}
use Rattle.format.specs.State.{State, leg, error, named, styled, dated_by, moved, bad, date_of, on_label, leg_from, apply, next_of}
use Rattle.format.specs.Reading.{next}
use Rattle.format.specs.declared.Fault.{Fault}
use Rattle.format.specs.declared.Fault.TheVariants.{Unfinished, LabelTooShort, LabelTooLong, NoPosition, BadDate}
use Rattle.format.specs.declared.Point.{Point}
use Rattle.format.specs.declared.Traverse.{Traverse}
use Rattle.format.specs.declared.Dated.TheVariants.{Undated}
use Rattle.format.proofs.LabelLaws.{step_short, step_long, step_fits, back_lacks, back_keeps}
use Rattle.format.proofs.ApplyLaws.{style_other as style_others, style_first as style_firsts, style_end as style_ends, date_before as dates_before, date_late as dates_late, date_on as dates_on}
use Rattle.format.specs.Sheet.{sheet_version}
use Rattle.format.proofs.SheetLaws.{layout_leg, layout_station, layout_section, layout_error}
use Rattle.kind.specs.Kinds.{tail_of, make_of, labelled_by, part_there, new_item}
use Rattle.kind.specs.declared.Tail.{Tail}
use Rattle.kind.specs.declared.Tail.TheVariants.{Short, Long, Station, Line}
use Rattle.kind.proofs.Labelled.{labelled_short, labelled_fits, labelled_made}
use Rattle.measure.specs.Measures.{is_set, Keeps, Makes, ComesIn, Comes, tail_next, Tailed}
use Rattle.measure.specs.declared.Measured.{Measured}
use Rattle.measure.specs.declared.Measured.TheVariants.{End, Styled, Moved, Passes, Made}

-- ---- a style, after another

module _ (k old len : ℕ) (placed : Bool) where
  abbrev StyleComes : Result Measured Fault → Type 0
  StyleComes r = ComesIn r len old placed (λ st. apply st 1 (style_item k))

  restyled : (st : State) → Keeps st len old placed → Keeps (styled k st) len k placed
  restyled st K = record { label_is = K.label_is; style_is = refl; position_is = K.position_is }

  pub style_other : (k ≡ 0 → ⊥) → StyleComes (Ok (Styled k))
  style_other h st K = record { after = styled k st; same = style_others st 1 k h; keeps = restyled st K }

  pub style_first : k ≡ 0 → (old ≡ 0 → ⊥) → StyleComes (Ok (Styled k))
  style_first z h st K = record { after = styled k st; same = style_firsts st 1 k z (λ q. h (sym K.style_is ∙ q)); keeps = restyled st K }

  pub style_set : ((k ≡ 0) × (old ≡ 0) → ⊥) → StyleComes (Ok (Styled k))
  style_set h = go (dec_lt 0 k)
    where
      go : Dec (0 < k) → StyleComes (Ok (Styled k))
      go (yes p) = style_other (λ z. omega arith)
      go (no n) = let z : k ≡ 0 = omega arith in style_first z (λ q. h (z, q))

  pub style_end : k ≡ 0 → old ≡ 0 → StyleComes (Ok End)
  style_end z h st K = style_ends st 1 k z (K.style_is ∙ h)

-- ---- items of a fixed size

pub sized_short : (n : ℕ) (s : List ℕ) (it : Item) → length s < n → Comes (Err Unfinished) (λ st. next_of st (sized n s it))
unfolding sized pick
sized_short n s it h len style placed st K = simp (lt-ltb _ _ h)

pub sized_whole : (n : ℕ) (s : List ℕ) (it : Item) (r : Result Measured Fault) (len style : ℕ) (placed : Bool) → n ≤ length s → ComesIn r len style placed (λ st. apply st n it)
    → ComesIn r len style placed (λ st. next_of st (sized n s it))
unfolding sized pick
sized_whole n s it r len style placed h f st K = simp (le-ltb _ _ h) (f st K)

pub sized_comes : (n : ℕ) (s : List ℕ) (it : Item) (r : Result Measured Fault) → n ≤ length s → Comes r (λ st. apply st n it) → Comes r (λ st. next_of st (sized n s it))
sized_comes n s it r h f len style placed = sized_whole n s it r len style placed h (f len style placed)

pub comes_moved : (p : Point) → Comes (Ok Moved) (λ st. apply st 13 (move_to p))
comes_moved p len style placed st K = record { after = moved p st; same = refl; keeps = record { label_is = K.label_is; style_is = K.style_is; position_is = refl } }

pub comes_undated : Comes (Ok (Passes 1)) (λ st. apply st 1 no_date_item)
comes_undated len style placed st K = record { after = dated_by Undated st; same = refl; keeps = record { label_is = K.label_is; style_is = K.style_is; position_is = K.position_is } }

pub comes_error : (t : Traverse) (len style : ℕ) (placed : Bool) → ComesIn (Ok (Made 21 len 23)) len style placed (λ st. apply st 21 (error_of t))
comes_error t len style placed st K = record { after = st; gives = error t; same = refl; size = layout_error sheet_version t; keeps = K }

-- ---- a date

module _ (n first last : ℕ) where
  abbrev DateComes : Result Measured Fault → Type 0
  DateComes r = Comes r (λ st. apply st n (date_item first last))

  pub date_before : last < first → DateComes (Err BadDate)
  date_before h len style placed st K = dates_before st n first last h

  pub date_late : first ≤ last → 65535 < last → DateComes (Err BadDate)
  date_late h k len style placed st K = dates_late st n first last h k

  pub date_on : first ≤ last → last ≤ 65535 → DateComes (Ok (Passes n))
  date_on h k len style placed st K =
      record {
        after = dated_by (date_of first last) st;
        same = dates_on st n first last h k;
        keeps = record { label_is = K.label_is; style_is = K.style_is; position_is = K.position_is };
      }

-- ---- an item with a label, once it has the label

module _ (placed : Bool) (n m : ℕ) where
  renamed : (st : State) (len style : ℕ) (l : List ℕ) → Keeps st len style placed → length l ≡ m → Keeps (named l st) m style placed
  renamed st len style l K h = record { label_is = h; style_is = K.style_is; position_is = K.position_is }

  pub tail_short : (last : ℕ) → Tailed (Ok (Made n m (25 + m))) (Short last) placed n m
  tail_short last st len style K rest l h = record { after = named l st; gives = _; same = refl; size = layout_section _ l ∙ omega arith; keeps = renamed st len style l K h }

  pub tail_long : (last : ℕ) → Tailed (Ok (Made n m (25 + m))) (Long last) placed n m
  tail_long last st len style K rest l h = record { after = named l st; gives = _; same = refl; size = layout_section _ l ∙ omega arith; keeps = renamed st len style l K h }

  pub tail_station : (flags : ℕ) → Tailed (Ok (Made n m (16 + m))) (Station flags) placed n m
  tail_station flags st len style K rest l h = record { after = named l st; gives = _; same = refl; size = layout_station sheet_version _ l ∙ omega arith; keeps = renamed st len style l K h }

  pub tail_unset : (flags : ℕ) → placed ≡ false → Tailed (Err NoPosition) (Line flags) placed n m
  tail_unset flags e st len style K rest l h = go st.setting.position (K.position_is ∙ e)
    where
      go : (p : Option Point) → is_set p ≡ false → leg_from p n st flags (point_of le32 rest) l ≡ bad 8
      go None q = refl
      go (Some from) q = absurd (let z : ◌≡◌ {A = ℕ} 0 1 = cc in omega arith)

  pub tail_line : (flags : ℕ) → placed ≡ true → Tailed (Ok (Made n m (34 + m))) (Line flags) placed n m
  tail_line flags e st len style K rest l h = go st.setting.position (K.position_is ∙ e)
    where
      go : (p : Option Point) → is_set p ≡ true → Makes (leg_from p n st flags (point_of le32 rest) l) n (34 + m) m style placed
      go None q = absurd (let z : ◌≡◌ {A = ℕ} 0 1 = cc in omega arith)
      go (Some from) q =
          record {
            after = moved (point_of le32 rest) (named l st);
            gives = leg (record { flags = flags; style = st.setting.style; date = st.setting.date; from = from; to = point_of le32 rest }) l;
            same = refl;
            size = layout_leg sheet_version _ l ∙ omega arith;
            keeps = record { label_is = h; style_is = K.style_is; position_is = sym e };
          }

-- ---- its label step

tail_apply : (tail : Tail) (st : State) (n d : ℕ) (added rest : List ℕ) → apply st n (make_of tail d added rest) ≡ on_label (label_step st.label (Back d) added) (λ l. tail_next tail st n rest l)
tail_apply (Short last) st n d added rest = refl
tail_apply (Long last) st n d added rest = refl
tail_apply (Station flags) st n d added rest = refl
tail_apply (Line flags) st n d added rest = refl

module _ (s : List ℕ) (bare : Bool) (tail : Tail) (len style : ℕ) (placed : Bool) where
  abbrev LabelComes : Result Measured Fault → Type 0
  LabelComes r = ComesIn r len style placed (λ st. next_of st (labelled_by bare tail new_part (drop 1 s)))

  pub label_unfinished : None ≡ part_there bare tail new_part s → LabelComes (Err Unfinished)
  label_unfinished e st K = ap (next_of st) (sym (labelled_short s bare tail new_part e))

  module _ (k d a : ℕ) (e : numbers k d a ≡ part_there bare tail new_part s) where
    abbrev added : List ℕ
    added = take a (drop (1 + k) s)

    abbrev rest : List ℕ
    rest = drop (1 + (k + a)) s

    abbrev size : ℕ
    size = 1 + (k + a + tail_of tail)

    added_length : length added ≡ a
    added_length = let f = labelled_fits s bare tail new_part k d a e in let l = length-drop 1 s in length-take-le a (drop (1 + k) s) (simp length-drop (omega arith))

    comes : (st : State) → next_of st (labelled_by bare tail new_part (drop 1 s)) ≡ on_label (label_step st.label (Back d) added) (λ l. tail_next tail st size rest l)
    comes st = ap (next_of st) (sym (labelled_made s bare tail new_part k d a e)) ∙ tail_apply tail st size d added rest

    pub label_six : len < d → LabelComes (Err LabelTooShort)
    label_six h st K = comes st ∙ rw (step_short st.label (Back d) added (back_lacks st.label d (omega (arith, K.label_is))))

    pub label_seven : d ≤ len → label_limit < len - d + a → LabelComes (Err LabelTooLong)
    label_seven h j st K =
        let z = added_length in
        let q = K.label_is in
        comes st ∙ rw (step_long st.label (Back d) added (length st.label - d) (back_keeps st.label d (omega arith)) (omega arith))

    pub label_tailed : d ≤ len → len - d + a ≤ label_limit → (r : Result Measured Fault) → Tailed r tail placed size (len - d + a) → LabelComes r
    label_tailed h j r T st K =
        let z = added_length in
        let q = K.label_is in
        let l = take (length st.label - d) st.label ++ added in
        let t = length-take-le (length st.label - d) st.label (omega arith) in
        let w : length l ≡ len - d + a = omega (arith, length-append (take (length st.label - d) st.label) added) in
        rw (comes st, step_fits st.label (Back d) added (length st.label - d) (back_keeps st.label d (omega arith)) (omega arith)) (T st len style K rest l w)

-- ---- the item at the front of s

module _ (s : List ℕ) (code : ℕ) (h : 1 ≤ length s) (c : get_or s 0 0 ≡ code) where
  item_is : new_item code s ≡ item_of 8 s
  unfolding new_item item_of pick
  item_is = simp (c, le-ltb _ _ h)

  pub kind_comes : (r : Result Measured Fault) (len style : ℕ) (placed : Bool) (x : Decoded) → x ≡ new_item code s → ComesIn r len style placed (λ st. next_of st x) → ComesIn r len style placed (λ st. next 8 s st)
  unfolding next
  kind_comes r len style placed x e f st K = rw (← item_is, ← e) (f st K)

pub nothing_comes : (s : List ℕ) → length s < 1 → Comes (Err Unfinished) (λ st. next 8 s st)
unfolding next item_of pick
nothing_comes s h len style placed st K = simp (lt-ltb _ _ h)
