-- What each item does to the state, on plain values. Assumes nothing.
use Rattle.std.specs.Prelude.{Option, Some, None, Result, Ok, Err}
use Prim.Native.Nat.{ℕ, ◌-◌, ◌≤◌, ◌<◌}
use mathlib.Core.Path.{◌≡◌, refl, sym, ap, ◌∙◌}
use mathlib.Core.List.{List, []}
use mathlib.Core.Logic.{◌⊎◌, inl, inr}
use native.Mathlib.Omega.{arith}
use lib.ListN.{length, take, drop}
use lib.Seq.{length-take-le}
use mathlib.Core.Bool.{Bool, true, false}
use lib.Dec.{ltb}
use Rattle.format.specs.Bytes.{pick}
use Rattle.format.specs.Faults.{fault_number}
use Rattle.format.specs.declared.Fault.{Fault}
use Rattle.format.specs.declared.Fault.TheVariants.{LabelTooShort, LabelTooLong, NoPosition, BadDate}
use Rattle.format.specs.Label.{Labelled, too_short, too_long, labelled, kept_of, label_step}
use Rattle.format.specs.Outline.{own_drop, drop_leaves}
use Rattle.format.proofs.Basics.{pick_case}
use Rattle.format.specs.declared.Cut.{Cut}
use Rattle.format.specs.declared.Cut.TheVariants.{Back}
use Rattle.format.specs.Items.{Item, Style as style_item, Date as date_item, whole, item_of}
use Rattle.format.specs.State.{State, Next, bad, end, on, made, date_of, named, on_label, leg_from, apply, next_of}
use Rattle.format.specs.Reading.{next}
use Rattle.format.specs.declared.Point.{Point}
use Rattle.format.specs.declared.Traverse.{Traverse}
use Rattle.format.specs.declared.Dated.TheVariants.{Undated}
use Rattle.format.proofs.ApplyLaws.{style_other as style_others, style_first as style_firsts, style_end as style_ends, date_before as dates_before, date_late as dates_late, date_on as dates_on, stop_end, stop_empties, leg_unset as legs_unset, leg_set as legs_set}
use Rattle.label.specs.Seen.{Tells as LabelTells}
use Rattle.label.specs.declared.Relabelled.{Relabelled}
use Rattle.decode.specs.Seen.{item_seen, relabel_item, dropped, Suits, Reads}
use Rattle.item.specs.Seen.{seen, Tells, TellsKept, made_of, Does}
use Rattle.decode.specs.declared.Body.{Body}
use Rattle.decode.specs.declared.Body.TheVariants.{Only, Section as SectionBody, Station as StationBody, Line as LineBody}
use Rattle.decode.specs.declared.Item.{Item as Told}
use Rattle.decode.specs.declared.Item.TheVariants.{Stop, Move, NoDate, Error as ErrorTold, Relabel}
use Rattle.format.specs.Fields.{state_of}
use Rattle.format.specs.declared.Setting.{Setting}
use Rattle.format.specs.declared.Fields.TheVariants.{Leg, Error}
use Rattle.item.specs.declared.Step.{Step}
use Rattle.item.specs.declared.Step.TheVariants.{End, On, Made}

-- ---- a style

module _ (k len : ℕ) (st to : Setting) where
  abbrev StyleDoes : Result Step Fault → Type 0
  StyleDoes r = Does r (λ b. apply (state_of st (take len b)) 1 (style_item k)) len

  pub style_other : to ≡ record { style = k; date = st.date; position = st.position } → (k ≡ 0 → ⊥) → StyleDoes (Ok (On 1 len to))
  style_other e h = record { same = λ b. rw e (sym (style_others (state_of st (take len b)) 1 k h)); short = λ q. q }

  pub style_first : to ≡ record { style = k; date = st.date; position = st.position } → k ≡ 0 → (st.style ≡ 0 → ⊥) → StyleDoes (Ok (On 1 len to))
  style_first e z h = record { same = λ b. rw e (sym (style_firsts (state_of st (take len b)) 1 k z h)); short = λ q. q }

  pub style_end : k ≡ 0 → st.style ≡ 0 → StyleDoes (Ok End)
  style_end z h = record { same = λ b. sym (style_ends (state_of st (take len b)) 1 k z h); short = λ q. tt }

-- ---- a date

module _ (n first last len : ℕ) (st to : Setting) where
  abbrev DateDoes : Result Step Fault → Type 0
  DateDoes r = Does r (λ b. apply (state_of st (take len b)) n (date_item first last)) len

  pub date_before : last < first → DateDoes (Err BadDate)
  date_before h = record { same = λ b. sym (dates_before (state_of st (take len b)) n first last h); short = λ q. tt }

  pub date_late : first ≤ last → 65535 < last → DateDoes (Err BadDate)
  date_late h k = record { same = λ b. sym (dates_late (state_of st (take len b)) n first last h k); short = λ q. tt }

  pub date_on : first ≤ last → last ≤ 65535 → to ≡ record { style = st.style; date = date_of first last; position = st.position } → DateDoes (Ok (On n len to))
  date_on h k e = record { same = λ b. rw e (sym (dates_on (state_of st (take len b)) n first last h k)); short = λ q. q }

-- ---- an item whose label is in the buffer

module _ (n len kept : ℕ) (st to : Setting) where
  abbrev MadeDoes : Body → Result Step Fault → Type 0
  MadeDoes body r = Does r (λ b. made_of body (state_of st []) n (take len b)) len

  pub leg_unset : (flags : ℕ) (p : Point) → st.position ≡ None → MadeDoes (LineBody flags p) (Err NoPosition)
  leg_unset flags p e = record { same = λ b. sym (legs_unset (state_of st []) n flags p (take len b) e); short = λ q. tt }

  pub leg_made : (flags : ℕ) (from p : Point) → st.position ≡ Some from → to ≡ record { style = st.style; date = st.date; position = Some p }
      → MadeDoes (LineBody flags p) (Ok (Made n len to (Leg flags st.style st.date from p) kept))
  leg_made flags from p e f = record { same = λ b. rw f (sym (legs_set (state_of st []) n flags p (take len b) e)); short = λ q. q }

-- ---- the label step first

module _ (x : Labelled) (b : List ℕ) (go : List ℕ → Next) where
  pub label_refused : (f : Fault) → LabelTells (Err f) b x → Tells (Err f) b (on_label x go)
  label_refused f T = record { same = by T.short; whole = T.whole; short = tt }
    where
      by : (f ≡ LabelTooShort) ⊎ (f ≡ LabelTooLong) → bad (fault_number f) ≡ on_label x go
      by (inl e) = rw e (ap (λ (y : Labelled). on_label y go) (rw e at T.same))
      by (inr e) = rw e (ap (λ (y : Labelled). on_label y go) (rw e at T.same))

  pub label_fits_lem : (m : Relabelled) (r : Result Step Fault) → LabelTells (Ok m) b x → Does r (λ c. go (take m.len c)) m.len → Tells r b (on_label x go)
  label_fits_lem m r T D = record { same = D.same b ∙ ap (λ (y : Labelled). on_label y go) T.same; whole = T.whole; short = D.short T.short }

-- ---- the item at the front of s

made_label : (body : Body) (st : Setting) (l : List ℕ) (n : ℕ) (m : List ℕ) → made_of body (state_of st []) n m ≡ made_of body (state_of st l) n m
made_label Only st l n m = refl
made_label (SectionBody last size) st l n m = refl
made_label (StationBody flags p) st l n m = refl
made_label (LineBody flags p) st l n m = go st.position
  where
    go : (q : Option Point) → leg_from q n (state_of st []) flags p m ≡ leg_from q n (state_of st l) flags p m
    go None = refl
    go (Some from) = refl

-- an item that changes the label is its label step first
relabel_apply : (st : State) (n : ℕ) (body : Body) (cut : Cut) (count : ℕ) (s : List ℕ) → Suits body cut count
    → apply st n (relabel_item body cut (take count s)) ≡ on_label (label_step st.label cut (take count s)) (λ l. made_of body st n l)
relabel_apply st n Only cut count s e = rw e
relabel_apply st n (SectionBody last size) cut count s e = rw (sym e)
relabel_apply st n (StationBody flags p) cut count s e = rw (sym e)
relabel_apply st n (LineBody flags p) cut count s e = rw (sym e)

module _ (version : ℕ) (s : List ℕ) (st : Setting) (len : ℕ) (b : List ℕ) (w : length b ≡ 4096) (h : len ≤ 4096) where
  abbrev Comes : Result Step Fault → Type 0
  Comes r = Tells r b (next version s (state_of st (take len b)))

  -- what an item is seen to be, applied
  due : (it : Result Told Fault) → Reads it s (item_of version s) → next_of (state_of st (take len b)) (item_seen it s) ≡ next version s (state_of st (take len b))
  unfolding next
  due it R = ap (next_of (state_of st (take len b))) R.same

  pub comes_faulty : (e : Fault) → Reads (Err e) s (item_of version s) → Comes (Err e)
  comes_faulty e R = record { same = due (Err e) R; whole = w; short = tt }

  pub comes_end : Reads (Ok Stop) s (item_of version s) → len ≡ 0 → Comes (Ok End)
  comes_end R e = record { same = sym (stop_end (state_of st (take len b)) 1 (rw e)) ∙ due (Ok Stop) R; whole = w; short = tt }

  pub comes_emptied : Reads (Ok Stop) s (item_of version s) → (len ≡ 0 → ⊥) → Comes (Ok (On 1 0 st))
  comes_emptied R e =
      let t : length (take len b) ≡ len = length-take-le len b (omega arith) in
      record { same = sym (stop_empties (state_of st (take len b)) 1 (λ q. e (sym t ∙ q))) ∙ due (Ok Stop) R; whole = w; short = omega arith }

  pub comes_does : (it : Result Told Fault) (n : ℕ) (i : Item) (r : Result Step Fault) → item_seen it s ≡ whole n i → Reads it s (item_of version s) → Does r (λ c. apply (state_of st (take len c)) n i) len → Comes r
  comes_does it n i r e R D = record { same = D.same b ∙ ap (next_of (state_of st (take len b))) (sym e) ∙ due it R; whole = w; short = D.short h }

  pub comes_moved : (p : Point) (to : Setting) → Reads (Ok (Move p)) s (item_of version s) → to ≡ record { style = st.style; date = st.date; position = Some p } → Comes (Ok (On 13 len to))
  comes_moved p to R e = record { same = rw e (due (Ok (Move p)) R); whole = w; short = h }

  pub comes_undated : (to : Setting) → Reads (Ok NoDate) s (item_of version s) → to ≡ record { style = st.style; date = Undated; position = st.position } → Comes (Ok (On 1 len to))
  comes_undated to R e = record { same = rw e (due (Ok NoDate) R); whole = w; short = h }

  pub comes_error : (t : Traverse) → Reads (Ok (ErrorTold t)) s (item_of version s) → Comes (Ok (Made 21 len st (Error t) 0))
  comes_error t R = record { same = due (Ok (ErrorTold t)) R; whole = w; short = h }

-- the label's bytes may change: b is the buffer before, c after
pub comes_relabelled : (version : ℕ) (s : List ℕ) (st : Setting) (l c : List ℕ) (n : ℕ) (cut : Cut) (from count : ℕ) (body : Body) (r : Result Step Fault) → Reads (Ok (Relabel n cut from count body)) s (item_of version s)
    → Tells r c (on_label (label_step l cut (take count (drop from s))) (λ m. made_of body (state_of st []) n m)) → Tells r c (next version s (state_of st l))
unfolding next
comes_relabelled version s st l c n cut from count body r R T =
    let e = relabel_apply (state_of st l) n body cut count (drop from s) R.sound.1 in
    let f : on_label (label_step l cut (take count (drop from s))) (λ m. made_of body (state_of st []) n m) ≡ on_label (label_step l cut (take count (drop from s))) (λ m. made_of body (state_of st l) n m) =
    same_label (label_step l cut (take count (drop from s))) in
    record { same = T.same ∙ f ∙ sym e ∙ ap (next_of (state_of st l)) R.same; whole = T.whole; short = T.short }
  where
    same_label : (x : Labelled) → on_label x (λ m. made_of body (state_of st []) n m) ≡ on_label x (λ m. made_of body (state_of st l) n m)
    same_label too_short = refl
    same_label too_long = refl
    same_label (labelled m) = made_label body st l n m

-- ---- how many bytes of the label an item kept

-- an item that makes no record has no number to tell
abbrev NotMade : Next → Type 0
NotMade (bad k) = Unit
NotMade end = Unit
NotMade (on n st) = Unit
NotMade (made n r st) = ⊥

kept_none : (r : Result Step Fault) (b : List ℕ) (x : Next) (y : ℕ) → seen r b ≡ x → NotMade x → TellsKept r y
kept_none (Err k) b x y e h = tt
kept_none (Ok End) b x y e h = tt
kept_none (Ok (On n m st)) b x y e h = tt
kept_none (Ok (Made n m st f kept)) b x y e h = absurd (rw (← e) at h)

pub style_kept : (r : Result Step Fault) (b l : List ℕ) (st : Setting) (k y : ℕ) → seen r b ≡ apply (state_of st l) 1 (style_item k) → TellsKept r y
style_kept r b l st k y e = kept_none r b _ y e (pick_case NotMade _ _ _ (λ t. tt) (λ t. tt))

pub date_kept : (r : Result Step Fault) (b l : List ℕ) (st : Setting) (n first last y : ℕ) → seen r b ≡ apply (state_of st l) n (date_item first last) → TellsKept r y
date_kept r b l st n first last y e = kept_none r b _ y e (pick_case NotMade _ _ _ (λ t. tt) (λ t. tt))

-- what D leaves of a label
back_stays : (l : List ℕ) (cut : Cut) (d kept : ℕ) → cut ≡ Back d → kept_of l cut ≡ Some kept → kept ≡ length l - d
unfolding pick
back_stays l cut d kept e q = go (ltb (length l) d) (rw e at q)
  where
    go : (t : Bool) → pick t None (Some (length l - d)) ≡ Some kept → kept ≡ length l - d
    go true z = absurd (let y : ◌≡◌ {A = ℕ} 0 1 = cc in omega arith)
    go false z = cc

shortens : (x : Labelled) (n : ℕ) (st : State) → NotMade (on_label x (λ m. on n (named m st)))
shortens too_short n st = tt
shortens too_long n st = tt
shortens (labelled m) n st = tt

module _ (l c : List ℕ) (st : Setting) (n : ℕ) (cut : Cut) (count : ℕ) (added : List ℕ) (kept : ℕ) (e : kept_of l cut ≡ Some kept) where
  stayed : (body : Body) (r : Result Step Fault) → Suits body cut count → Tells r c (on_label (label_step l cut added) (λ m. made_of body (state_of st []) n m)) → TellsKept r kept
      → TellsKept r (own_drop l (relabel_item body cut added))
  stayed body (Err k) u T q = tt
  stayed body (Ok End) u T q = tt
  stayed body (Ok (On a m to)) u T q = tt
  stayed Only (Ok (Made a m to f k)) u T q = kept_none (Ok (Made a m to f k)) c _ 0 T.same (shortens (label_step l cut added) n (state_of st []))
  stayed (SectionBody last size) (Ok (Made a m to f k)) u T q = q ∙ back_stays l cut (dropped cut) kept u e
  stayed (StationBody flags p) (Ok (Made a m to f k)) u T q = q ∙ back_stays l cut (dropped cut) kept u e
  stayed (LineBody flags p) (Ok (Made a m to f k)) u T q = q ∙ back_stays l cut (dropped cut) kept u e

pub relabelled_kept : (version : ℕ) (s : List ℕ) (st : Setting) (l c : List ℕ) (n : ℕ) (cut : Cut) (from count : ℕ) (body : Body) (r : Result Step Fault) (kept : ℕ)
    → Reads (Ok (Relabel n cut from count body)) s (item_of version s) → Tells r c (on_label (label_step l cut (take count (drop from s))) (λ m. made_of body (state_of st []) n m))
    → kept_of l cut ≡ Some kept → TellsKept r kept → TellsKept r (drop_leaves l (item_of version s))
relabelled_kept version s st l c n cut from count body r kept R T e q =
    rw (← R.same) (stayed l c st n cut count (take count (drop from s)) kept e body r R.sound.1 T q)

pub error_kept : (version : ℕ) (s l : List ℕ) (t : Traverse) → Reads (Ok (ErrorTold t)) s (item_of version s) → 0 ≡ drop_leaves l (item_of version s)
error_kept version s l t R = ap (drop_leaves l) R.same
