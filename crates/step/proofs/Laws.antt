-- One step, by what the item at the stand comes to, on plain values. Room first: what the code says of an item before it touches the label makes
-- the same record, so the same room is enough. Then an item with room enough. Assumes nothing.
use Rattle.std.specs.Prelude.{Some, None, Result, Ok, Err}
use Rattle.format.specs.Faults.{fault_number}
use Rattle.format.specs.declared.Fault.{Fault}
use Rattle.format.specs.declared.Fault.TheVariants.{LabelTooShort, LabelTooLong}
use Rattle.format.specs.declared.Refusal.{Refusal}
use Prim.Native.Nat.{ℕ, ◌+◌, ◌-◌, ◌≤◌, ◌<◌}
use mathlib.Core.Logic.{inl, inr}
use native.Mathlib.Omega.{arith}
use mathlib.Core.Path.{◌≡◌, refl, sym, ap, ap₂, ◌∙◌}
use mathlib.Core.List.{List, [], ◌∷◌, ◌++◌}
use lib.ListN.{length, take, drop, length-drop, length-append, drop_of_length-le}
use lib.Seq.{length-take-le, take_all, take-length, take_at}
use borrow.Author.Rules.{part_to_end}
use mathlib.Core.Bool.{Bool, true, false}
use lib.Dec.{ltb}
use borrow.Author.Tests.{ltb-true, ltb-false, lt-ltb, le-ltb}
use Rattle.format.specs.Bytes.{pick, over}
use Rattle.format.specs.Header.{Opening, shut, opened}
use Rattle.format.specs.Label.{Labelled, too_short, too_long, labelled, kept_of, label_step}
use Rattle.format.specs.State.{State, Record, Next, bad, end, on, made, on_label, apply, next_of}
use Rattle.format.specs.Sheet.{sheet_version, layout}
use Rattle.format.specs.Reading.{next, ended}
use Rattle.format.specs.Items.{Item, Stop as stop_item, Style as style_item, Move as move_item, NoDate as no_date_item, Date as date_item, Shorten as shorten_item, Error as error_item, Xsect as xsect_item, Label as label_item, Line as line_item, Decoded, faulty, whole, item_of}
use Rattle.format.specs.Outline.{drop_leaves}
use Rattle.format.specs.Fields.{record_of, state_of, record_size}
use Rattle.format.specs.Stepping.{stand_of, step_next, recorded, step_of, step_buffer}
use Rattle.format.specs.Answers.{begun, unopened, open_outcome}
use Rattle.format.proofs.Basics.{pick_case}
use Rattle.format.proofs.ReadingLaws.{SizedNext, next_sized}
use Rattle.format.specs.declared.Cut.{Cut}
use Rattle.format.specs.declared.Cut.TheVariants.{Empty, Back}
use Rattle.format.specs.declared.Setting.{Setting}
use Rattle.format.specs.declared.Fields.{Fields}
use Rattle.format.specs.declared.Fields.TheVariants.{Leg as FieldsLeg, Station as FieldsStation, Section as FieldsSection, Error as FieldsError}
use Rattle.format.proofs.ApplyLaws.{label_case, leg_case}
use Rattle.format.specs.declared.Stepped.TheVariants.{End as EndStep}
use Rattle.wire.proofs.Laws.{length_over, laid_zero, laid_some}
use Rattle.decode.specs.Seen.{item_seen, Reads}
use Rattle.decode.specs.declared.Body.{Body}
use Rattle.decode.specs.declared.Item.{Item as Told}
use Rattle.decode.specs.declared.Item.TheVariants.{Stop, Style, Move, NoDate, Date, Error as ErrorTold, Relabel}
use Rattle.decode.specs.contracts.Item as Items
use Rattle.label.specs.Seen.{Tells as LabelTells}
use Rattle.item.specs.Seen.{seen, Tells, TellsKept, Does, made_of}
use Rattle.item.specs.declared.Step.{Step as ItemStep}
use Rattle.item.specs.declared.Step.TheVariants.{End, On, Made}
use Rattle.item.specs.contracts.Step as Steps'
use types.Run.{OneOf, miss}
use borrow.Enum.Refused.{Among, opened as opened_tag}
use denote.Enum.Declared.{tag_of}
use Rattle.item.proofs.Steps.{label_refused, label_fits_lem, comes_relabelled}
use Rattle.format.proofs.SheetLaws.{layout_size}
use Rattle.step.specs.Standing.{stand_seen, lesser, Fresh, Opens, behind_item, room_of, room_for, step_room, Peeks, Recorded, Within, After, Steps}
use Rattle.step.specs.declared.Phase.TheVariants.{Going, Ended, Refused}
use Rattle.step.specs.declared.Stand.{Stand as Held}
use Rattle.step.specs.declared.Taken.{Taken}

-- ---- opening

pub opens_shut : (x : Refusal) (o : Opening) (h : Held) (v q : ℕ) → unopened x.number x.place ≡ open_outcome o → Fresh h (Refused x) v q → Opens h (stand_of o)
opens_shut x (shut m r) h v q e F = record { same = λ label. rw F.phase_is (let a : x.number ≡ m = cc in let b : x.place ≡ r = cc in rw (a, b)) }
opens_shut x (opened w r k) h v q e F = absurd (let z : ◌≡◌ {A = ℕ} 0 1 = cc in omega arith)

pub opens_at : (v p : ℕ) (o : Opening) (h : Held) → begun v p ≡ open_outcome o → Fresh h Going v p → Opens h (stand_of o)
opens_at v p (shut m r) h e F = absurd (let z : ◌≡◌ {A = ℕ} 0 1 = cc in omega arith)
opens_at v p (opened w r k) h e F =
    record { same = λ label. rw (F.phase_is, F.version_is, F.place_is, F.label_empty, F.setting_is) (let a : v ≡ w = cc in let b : p ≡ r = cc in rw (a, b)) }

-- ---- the lesser of two numbers

pub lesser_most : (a b : ℕ) → lesser a b ≤ b
unfolding lesser
lesser_most a b = pick_case (λ (n : ℕ). n ≤ b) _ _ _ (λ e. omega arith) (λ e. ltb-false b a e)

-- a place past a list finds nothing of it
drop_lesser : (p : ℕ) (s : List ℕ) → drop (lesser p (length s)) s ≡ drop p s
unfolding lesser
drop_lesser p s =
    pick_case (λ (n : ℕ). drop n s ≡ drop p s) _ _ _
    (λ e. let l = ltb-true (length s) p e in drop_of_length-le s {i = length s} (omega arith) ∙ sym (drop_of_length-le s {i = p} (omega arith)))
    (λ e. refl)

-- a length past a list is all of it
take_lesser : (k : ℕ) (s : List ℕ) → take (lesser k (length s)) s ≡ take k s
unfolding lesser
take_lesser k s =
    pick_case (λ (n : ℕ). take n s ≡ take k s) _ _ _
    (λ e. let l = ltb-true (length s) k e in take-length s ∙ sym (take_all k s (omega arith)))
    (λ e. refl)

-- ---- a stand that does not go on

pub stands_still : (h : Held) (label file old : List ℕ) → h.phase ≡ Ended → Steps h label file old (record { answer = Ok EndStep; stand = h }) label old
unfolding step_buffer over
stands_still h label file old e = record { answer = rw e; stand = rw e; buffer = rw e }

pub stands_refused : (h : Held) (label file old : List ℕ) (x : Refusal) → h.phase ≡ Refused x → Steps h label file old (record { answer = Err x; stand = h }) label old
unfolding step_buffer over
stands_refused h label file old x e = record { answer = rw e; stand = rw e; buffer = rw e }

-- ---- room for the record of an item

-- the code's record takes as many bytes as the definition's
made_size : (m : ℕ) (f : Fields) (b : List ℕ) → length b ≡ 4096 → m ≤ 4096 → length (layout sheet_version (record_of f (take m b))) ≡ record_size f m
made_size m f b w l =
    let e : length (take m b) ≡ m = length-take-le m b (omega arith) in
    layout_size f (take m b) ∙ rw e

-- what tells an item tells its room
pub tells_room : (r : Result ItemStep Fault) (b : List ℕ) (x : Next) → Tells r b x → Peeks r x
tells_room (Err k) b x T = record { same = λ room. rw (← T.same); short = tt }
tells_room (Ok End) b x T = record { same = λ room. rw (← T.same); short = tt }
tells_room (Ok (On n m st)) b x T = record { same = λ room. rw (← T.same); short = T.short }
tells_room (Ok (Made n m st f kept)) b x T = record { same = λ room. rw (← T.same, made_size m f b T.whole T.short); short = T.short }

-- an item that can make no record
on_room : (x : Labelled) (n : ℕ) (go : List ℕ → State) (room : ℕ) → Ok tt ≡ room_for (on_label x (λ l. on n (go l))) room
on_room too_short n go room = refl
on_room too_long n go room = refl
on_room (labelled l) n go room = refl

module _ (version : ℕ) (s : List ℕ) (st : State) where
  none : (it : Told) → Reads (Ok it) s (item_of version s) → ((room : ℕ) → Ok tt ≡ room_for (next_of st (item_seen (Ok it) s)) room) → Peeks (Ok End) (next version s st)
  unfolding next
  none it R e = record { same = λ room. e room ∙ ap (λ x. room_for (next_of st x) room) R.same; short = tt }

  -- every item but the two that can
  pub none_of : (it : Told) → OneOf (0 ∷ 1 ∷ 2 ∷ 3 ∷ 4 ∷ []) (tag_of Items.the_type it) → Reads (Ok it) s (item_of version s) → Peeks (Ok End) (next version s st)
  none_of Stop o R = none Stop R (λ room. pick_case (λ (x : Next). Ok tt ≡ room_for x room) _ _ _ (λ e. refl) (λ e. on_room (label_step st.label Empty []) 1 _ room))
  none_of (Style k) o R = none (Style k) R (λ room. pick_case (λ (x : Next). Ok tt ≡ room_for x room) _ _ _ (λ e. refl) (λ e. refl))
  none_of (Move p) o R = none (Move p) R (λ room. refl)
  none_of NoDate o R = none NoDate R (λ room. refl)
  none_of (Date n first last) o R = none (Date n first last) R (λ room. pick_case (λ (x : Next). Ok tt ≡ room_for x room) _ _ _ (λ e. refl) (λ e. refl))
  none_of (ErrorTold t) o R = absurd (miss (0 ∷ 1 ∷ 2 ∷ 3 ∷ 4 ∷ []) 5 tt o)
  none_of (Relabel n cut from count body) o R = absurd (miss (0 ∷ 1 ∷ 2 ∷ 3 ∷ 4 ∷ []) 6 tt o)

  -- the same, as an arm knows it
  pub none_among : (it : Told) → Among (0 ∷ 1 ∷ 2 ∷ 3 ∷ 4 ∷ []) (tag_of Items.the_type it) → Reads (Ok it) s (item_of version s) → Peeks (Ok End) (next version s st)
  none_among it o R = none_of it (opened_tag o) R

  -- and none at all
  pub none_faulty : (e : Fault) → Reads (Err e) s (item_of version s) → Peeks (Err e) (next version s st)
  unfolding next
  none_faulty e R = record { same = λ room. ap (λ x. room_for (next_of st x) room) R.same; short = tt }

-- what makes no record wants no room
pub no_room : (r : ItemStep) (room : ℕ) → OneOf (0 ∷ 1 ∷ []) (tag_of Steps'.the_type r) → Ok tt ≡ step_room (Ok r) room
no_room End room o = refl
no_room (On n m st) room o = refl
no_room (Made n m st f kept) room o = absurd (miss (0 ∷ 1 ∷ []) 2 tt o)

pub no_room_among : (r : ItemStep) (room : ℕ) → Among (0 ∷ 1 ∷ []) (tag_of Steps'.the_type r) → Ok tt ≡ step_room (Ok r) room
no_room_among r room o = no_room r room (opened_tag o)

-- room for every record is room for this one
module _ (room : ℕ) (ample : 4130 ≤ room) where
  abbrev Ample : Next → Type 0
  Ample x = Ok tt ≡ room_for x room

  ample_size : (size : ℕ) → size ≤ 4130 → Ok tt ≡ room_of size room
  unfolding room_of pick
  ample_size size l = rw (le-ltb room size (omega arith))

  ample_made : (f : Fields) (l : List ℕ) → length l ≤ 4096 → Ok tt ≡ room_of (length (layout sheet_version (record_of f l))) room
  ample_made f l h = ample_size _ (rw (layout_size f l) (most f))
    where
      most : (f : Fields) → record_size f (length l) ≤ 4130
      most (FieldsLeg flags style date from to) = omega arith
      most (FieldsStation s) = omega arith
      most (FieldsSection last unused date size) = omega arith
      most (FieldsError t) = omega arith

  ample_apply : (st : State) (n : ℕ) (it : Item) → Ample (apply st n it)
  ample_apply st n stop_item = pick_case Ample _ _ _ (λ e. refl) (λ e. on_room (label_step st.label Empty []) n _ room)
  ample_apply st n (shorten_item cut) = on_room (label_step st.label cut []) n _ room
  ample_apply st n (style_item k) = pick_case Ample _ _ _ (λ e. refl) (λ e. refl)
  ample_apply st n (move_item p) = refl
  ample_apply st n no_date_item = refl
  ample_apply st n (date_item first last) = pick_case Ample _ _ _ (λ e. refl) (λ e. refl)
  ample_apply st n (error_item t) = ample_made (FieldsError t) [] (omega arith)
  ample_apply st n (xsect_item last dims d added) = label_case Ample st.label (Back d) added _ refl refl (λ l h. ample_made (FieldsSection last 0 st.setting.date dims) l h)
  ample_apply st n (label_item flags p d added) = label_case Ample st.label (Back d) added _ refl refl (λ l h. ample_made (FieldsStation (record { flags = flags; place = p })) l h)
  ample_apply st n (line_item flags p d added) =
      label_case Ample st.label (Back d) added _ refl refl
      (λ l h. leg_case Ample st.setting.position n st flags p l refl (λ from. ample_made (FieldsLeg flags st.setting.style st.setting.date from p) l h))

  ample_of : (st : State) (x : Decoded) → Ample (next_of st x)
  ample_of st (faulty k) = refl
  ample_of st (whole n it) = ample_apply st n it

  pub ample_room : (version : ℕ) (s : List ℕ) (st : State) → Ok tt ≡ room_for (next version s st) room
  unfolding next
  ample_room version s st = ample_of st (item_of version s)

-- the test of room
pub room_lacks : (size room : ℕ) → room < size → Err size ≡ room_of size room
unfolding room_of pick
room_lacks size room l = rw (lt-ltb room size l)

pub room_enough : (size room : ℕ) → size ≤ room → Ok tt ≡ room_of size room
unfolding room_of pick
room_enough size room l = rw (le-ltb room size l)

-- an item with a label: the buffer as it will be is not there, so it is said
module _ (version : ℕ) (s : List ℕ) (st : Setting) (len : ℕ) (b : List ℕ) (w : length b ≡ 4096) (h : len ≤ 4096) (n : ℕ) (cut : Cut) (from count : ℕ) (body : Body)
    (R : Reads (Ok (Relabel n cut from count body)) s (item_of version s)) where
  abbrev l : List ℕ
  l = take len b

  abbrev added : List ℕ
  added = take count (drop from s)

  abbrev x : Next
  x = next version s (state_of st l)

  added_count : length added ≡ count
  added_count = length-take-le count (drop from s) (rw (length-drop from s) (omega (arith, R.sound.0)))

  added_size : (k : ℕ) → k ≤ len → length (take k l ++ added) ≡ k + count
  added_size k i =
      let a : length l ≡ len = length-take-le len b (omega arith) in
      let d : length (take k l) ≡ k = length-take-le k l (omega arith) in
      length-append (take k l) added ∙ rw (d, added_count)

  pub peek_short : kept_of l cut ≡ None → Peeks (Err LabelTooShort) x
  unfolding label_step
  peek_short e =
      let T : LabelTells (Err LabelTooShort) b (label_step l cut added) = record { same = rw e; whole = w; short = inl refl } in
      tells_room (Err LabelTooShort) b x (comes_relabelled version s st l b n cut from count body (Err LabelTooShort) R (label_refused _ _ _ LabelTooShort T))

  pub peek_long : (k : ℕ) → kept_of l cut ≡ Some k → k ≤ 4096 → 4096 - k < count → Peeks (Err LabelTooLong) x
  unfolding label_step pick
  peek_long k e i j =
      let T : LabelTells (Err LabelTooLong) b (label_step l cut added) = record { same = rw (e, added_count, lt-ltb 4096 (k + count) (omega arith)); whole = w; short = inr refl } in
      tells_room (Err LabelTooLong) b x (comes_relabelled version s st l b n cut from count body (Err LabelTooLong) R (label_refused _ _ _ LabelTooLong T))

  pub peek_fits : (k : ℕ) (r : Result ItemStep Fault) → kept_of l cut ≡ Some k → k ≤ len → count ≤ 4096 - k → Does r (λ c. made_of body (state_of st []) n (take (k + count) c)) (k + count) → Peeks r x
  unfolding label_step pick over
  peek_fits k r e i j D =
      let new : List ℕ = take k l ++ added in
      let c : List ℕ = over new b in
      let z : length new ≡ k + count = added_size k i in
      let T : LabelTells (Ok (record { len = k + count; kept = k })) c (label_step l cut added) =
      record {
        same = rw (e, added_count, le-ltb 4096 (k + count) (omega arith)) (ap labelled (take_at new (drop (length new) b) (k + count) z));
        whole = length_over new b (omega arith) ∙ w;
        short = omega arith;
      } in
      tells_room r c x (comes_relabelled version s st l c n cut from count body r R (label_fits_lem _ _ _ (record { len = k + count; kept = k }) r T D))

-- ---- one item

module _ (h : Held) (label file old : List ℕ) (g : h.phase ≡ Going) (full : length label ≡ 4096) where
  abbrev state : State
  state = state_of h.setting (take h.len label)

  abbrev rest : List ℕ
  rest = drop h.place file

  -- where the code looks for the item, and how much of the label's buffer it takes
  abbrev at : ℕ
  at = lesser h.place (length file)

  abbrev pub there : Next
  there = next h.version (take (length file - at) (drop at file)) (state_of h.setting (take (lesser h.len 4096) label))

  pub rest_is : take (length file - at) (drop at file) ≡ rest
  rest_is = part_to_end file at ∙ drop_lesser h.place file

  label_is : take (lesser h.len 4096) label ≡ take h.len label
  label_is = rw (← full) (take_lesser h.len label)

  there_is : there ≡ next h.version rest state
  there_is = ap₂ (λ (s : List ℕ) (l : List ℕ). next h.version s (state_of h.setting l)) rest_is label_is

  one : (x : Next) → x ≡ there → step_of (stand_seen h label) file (length old) ≡ step_next x h.version h.place state rest (length old)
  one x e = rw g (ap (λ (y : Next). step_next y h.version h.place state rest (length old)) (sym (e ∙ there_is)))

  -- 11, before anything is touched
  lack_made : (n : ℕ) (r : Record) (st : State) → made n r st ≡ there → (k : ℕ) → Err k ≡ room_of (length (layout sheet_version r)) (length old)
      → Steps h label file old (record { answer = Err (record { number = 11; place = k }); stand = h }) label old
  unfolding step_buffer over recorded room_of pick
  lack_made n r st e k q = go (ltb (length old) (length (layout sheet_version r))) refl
    where
      S : Bool → Type 0
      S x = Steps h label file old (record { answer = Err (record { number = 11; place = k }); stand = h }) label old

      go : (x : Bool) → ltb (length old) (length (layout sheet_version r)) ≡ x → S x
      go true f =
          let p = rw f at q in
          let z : k ≡ length (layout sheet_version r) = cc in
          record { answer = rw (one _ e, f, z); stand = rw (one _ e, f) (rw g); buffer = rw (one _ e, f) }
      go false f = absurd (let p = rw f at q in let z : ◌≡◌ {A = ℕ} 0 1 = cc in omega arith)

  pub step_lacks : (k : ℕ) → Err k ≡ room_for there (length old) → Steps h label file old (record { answer = Err (record { number = 11; place = k }); stand = h }) label old
  step_lacks k q = go there refl
    where
      go : (x : Next) → x ≡ there → Steps h label file old (record { answer = Err (record { number = 11; place = k }); stand = h }) label old
      go (bad j) e = absurd (let p = rw (← e) at q in let z : ◌≡◌ {A = ℕ} 0 1 = cc in omega arith)
      go end e = absurd (let p = rw (← e) at q in let z : ◌≡◌ {A = ℕ} 0 1 = cc in omega arith)
      go (on n st) e = absurd (let p = rw (← e) at q in let z : ◌≡◌ {A = ℕ} 0 1 = cc in omega arith)
      go (made n r st) e = lack_made n r st e k (rw (← e) at q)

  module _ (b : List ℕ) where
    abbrev pub Found : Result ItemStep Fault → Type 0
    Found it = Tells it b there

    size : (it : Result ItemStep Fault) → Found it → SizedNext (length file - h.place) (seen it b)
    size it T = rw (T.same ∙ there_is, ← length-drop h.place file) (next_sized h.version rest state)

    pub step_within : (it : ItemStep) → Found (Ok it) → length file ≤ 9223372036854775807 → Within h it
    step_within End T i = omega (arith, size (Ok End) T)
    step_within (On n m st) T i = let z = size (Ok (On n m st)) T in omega (arith, z.0, z.1)
    step_within (Made n m st f kept) T i = let z = size (Ok (Made n m st f kept)) T in (omega (arith, z.0, z.1), T.short)

    -- an item that is refused
    pub step_refused : (e : Fault) → Found (Err e) → (t : Taken) → (t.answer ≡ Err (record { number = fault_number e; place = h.place })) × (t.stand.phase ≡ Refused (record { number = fault_number e; place = h.place }))
        → Steps h label file old t b old
    unfolding step_buffer over
    step_refused e T t S = record { answer = rw (S.0, one _ T.same); stand = rw (S.1, one _ T.same); buffer = rw (one _ T.same) }

    -- the end item, where others follow it, and where none do
    end_after : (t : Taken) → Found (Ok End) → 1 < length rest → (t.answer ≡ Err (record { number = 10; place = h.place + 1 })) × (t.stand.phase ≡ Refused (record { number = 10; place = h.place + 1 })) → Steps h label file old t b old
    unfolding step_buffer over ended pick
    end_after t T l S =
        record { answer = rw (S.0, one _ T.same, lt-ltb _ _ l); stand = rw (S.1, one _ T.same, lt-ltb _ _ l); buffer = rw (one _ T.same) }

    end_last : (t : Taken) → Found (Ok End) → length rest ≤ 1 → (t.answer ≡ Ok EndStep) × (t.stand.phase ≡ Ended) → Steps h label file old t b old
    unfolding step_buffer over ended pick
    end_last t T l S =
        record { answer = rw (S.0, one _ T.same, le-ltb _ _ l); stand = rw (S.1, one _ T.same, le-ltb _ _ l); buffer = rw (one _ T.same) }

    -- an item that makes a record, with room for it
    made_step : (n m : ℕ) (st : Setting) (f : Fields) (kept : ℕ) → Found (Ok (Made n m st f kept)) → record_size f m ≤ length old → kept ≡ drop_leaves state.label (item_of h.version rest)
        → (t : Taken) (new : List ℕ) → Recorded (behind_item h n m st) b f kept old t new → Steps h label file old t b new
    unfolding step_buffer recorded pick
    made_step n m st f kept T l K t new S =
        let rec : Record = record_of f (take m b) in
        let k = made_size m f b T.whole T.short in
        let z : 0 + length (layout sheet_version rec) ≤ length old = omega (arith, k) in
        let y : new ≡ over (layout sheet_version rec) old = S.buffer ∙ laid_some old (layout sheet_version rec) 0 z ∙ laid_zero old (layout sheet_version rec) in
        record {
          answer = rw (S.answer, one _ T.same, k, le-ltb _ _ l, K);
          stand = rw (S.stand, one _ T.same, k, le-ltb _ _ l);
          buffer = rw (one _ T.same, k, le-ltb _ _ l) y;
        }

    room_is : (f : Fields) (m : ℕ) → Ok tt ≡ room_of (record_size f m) (length old) → record_size f m ≤ length old
    unfolding room_of pick
    room_is f m q = go (ltb (length old) (record_size f m)) refl
      where
        go : (x : Bool) → ltb (length old) (record_size f m) ≡ x → record_size f m ≤ length old
        go true e = absurd (let p = rw e at q in let z : ◌≡◌ {A = ℕ} 0 1 = cc in omega arith)
        go false e = ltb-false (length old) (record_size f m) e

    abbrev kept_there : ℕ
    kept_there = drop_leaves (take (lesser h.len 4096) label) (item_of h.version (take (length file - at) (drop at file)))

    kept_is : kept_there ≡ drop_leaves state.label (item_of h.version rest)
    kept_is = rw (rest_is, label_is)

    pub step_after_lem : (it : ItemStep) → Found (Ok it) → TellsKept (Ok it) kept_there → Ok tt ≡ room_for there (length old) → (left : ℕ) → left ≡ length rest → (t : Taken) (new : List ℕ) → After h it left b old t new
        → Steps h label file old t b new
    unfolding step_buffer over
    step_after_lem End T K q left e t new S = rw S.1 (go (ltb 1 (length rest)) refl)
      where
        go : (x : Bool) → ltb 1 (length rest) ≡ x → Steps h label file old t b old
        go true f = let l = ltb-true 1 (length rest) f in end_after t T l (S.0.more (omega arith))
        go false f = let l = ltb-false 1 (length rest) f in end_last t T l (S.0.none (omega arith))
    step_after_lem (On n m st) T K q left e t new S =
        record { answer = rw (S.0, one _ T.same); stand = rw (S.1, one _ T.same); buffer = rw (one _ T.same) S.2 }
    step_after_lem (Made n m st f kept) T K q left e t new S =
        made_step n m st f kept T (room_is f m (rw (← T.same, made_size m f b T.whole T.short) at q)) (K ∙ kept_is) t new S
