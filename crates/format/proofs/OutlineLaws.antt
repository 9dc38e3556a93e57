-- How much of the name stayed (#107): what an item's own drop leaves is the least length in its stretch, and the kept bytes are a common
-- start of the previous label and this one. Assumes nothing.
use Rattle.format.specs.Refusals.{Verdict, Good, Refusal}
use Rattle.std.specs.Prelude.{Option, Some, None}
use Prim.Native.Nat.{ℕ, zero, suc, ◌-◌, ◌≤◌}
use native.Mathlib.Omega.{arith}
use mathlib.Core.Path.{◌≡◌, refl, sym, ap, ◌∙◌}
use mathlib.Core.List.{List, [], ◌∷◌, ◌++◌, append-nil}
use mathlib.Core.Bool.{Bool, true, false}
use lib.ListN.{length, take, drop, length-append}
use lib.Seq.{take-length, take-append-le, length-take-le}
use lib.Dec.{ltb}
use borrow.Author.Tests.{eq-eqb}
use Rattle.format.specs.Codes.{common, kept_bytes, all_short, line_codes, station_codes, section_codes}
use Rattle.format.specs.WellFormed.{GoodPoint, GoodStation, GoodSection}
use Rattle.format.specs.declared.Station.{Station}
use Rattle.format.specs.declared.Section.{Section}
use Rattle.format.specs.Bytes.{pick, same}
use Rattle.format.specs.Label.{Labelled, kept_of, appended, label_step, label_limit}
use Rattle.format.specs.declared.Cut.{Cut}
use Rattle.format.specs.declared.Cut.TheVariants.{Empty, Back}
use Rattle.format.specs.declared.Point.{Point}
use Rattle.format.specs.Items.{Item, Stop, Shorten, Style, Move, NoDate, Date, Error, Xsect, Label, Line, Decoded, faulty, whole, item_of}
use Rattle.format.specs.State.{State, Record, leg, station, section, error, Next, bad, end, on, made, named, on_label, leg_from, apply, next_of}
use Rattle.format.specs.Reading.{next, ended}
use Rattle.format.specs.Stepping.{Stand, before as stands_before, Step, wrote, stop_answer, recorded, step_next, step_of}
use Rattle.format.specs.Outline.{least_of, own_drop, drop_leaves, kept_over, carries_label, Stretch, begins, goes, makes}
use Rattle.format.proofs.Basics.{pick_case, same_true}
use Rattle.format.proofs.WritingLaws.{Shares, common_shares, kept_shares, common_le, station_item_lem, line_item_lem, short_section_item}
use Rattle.format.proofs.WritingLaws.{wide_section_item, same_line_item}

-- ---- what an item does to the label

-- a start of a label
abbrev pub StartOf : List ℕ → List ℕ → Type 0
StartOf m l = (length m ≤ length l) × (take (length m) l ≡ m)

take_start : (k : ℕ) (l : List ℕ) → StartOf (take k l) l
take_start zero l = (omega arith, refl)
take_start (suc k) [] = (omega arith, refl)
take_start (suc k) (x ∷ l) = let s = take_start k l in (omega (arith, s.0), ap (λ (t : List ℕ). x ∷ t) s.1)

take_shorter : (k j : ℕ) (l : List ℕ) → k ≤ j → take k (take j l) ≡ take k l
take_shorter zero j l h = refl
take_shorter (suc k) zero l h = absurd (omega arith)
take_shorter (suc k) (suc j) [] h = refl
take_shorter (suc k) (suc j) (x ∷ l) h = ap (λ (t : List ℕ). x ∷ t) (take_shorter k j l (omega arith))

start_self : (l : List ℕ) → StartOf l l
start_self l = (omega arith, take-length l)

start_start : (a b c : List ℕ) → StartOf a b → StartOf b c → StartOf a c
start_start a b c p q = (omega (arith, p.0, q.0), sym (take_shorter (length a) (length b) c p.0) ∙ ap (take (length a)) q.1 ∙ p.1)

-- the label after a step: what is kept of the old one, then what is appended
pub record Begins (l : List ℕ) (cut : Cut) (added m : List ℕ) : Type 0 where
  pub keep : ℕ
  pub kept : kept_of l cut ≡ Some keep
  pub same : m ≡ take keep l ++ added

module _ (P : Next → Type 0) (l : List ℕ) (cut : Cut) (added : List ℕ) (go : List ℕ → Next) (p : P (bad 6)) (q : P (bad 7))
    (f : (m : List ℕ) → Begins l cut added m → P (go m)) where
  appended_case : (k : Option ℕ) → kept_of l cut ≡ k → P (on_label (appended k l added) go)
  appended_case None e = p
  appended_case (Some n) e =
      pick_case (λ (x : Labelled). P (on_label x go)) _ _ _ (λ t. q) (λ t. f (take n l ++ added) (record { keep = n; kept = e; same = refl }))

  begin_case : P (on_label (label_step l cut added) go)
  unfolding label_step
  begin_case = appended_case (kept_of l cut) refl

-- what an item that makes a record leaves: of a label that it carries, the kept bytes are the old one's
abbrev Appends : Record → List ℕ → ℕ → List ℕ → Type 0
Appends (leg g label) l kept m = Shares l m kept
Appends (station s label) l kept m = Shares l m kept
Appends (section s label) l kept m = Shares l m kept
Appends (error t) l kept m = (m ≡ l) × (kept ≡ 0)

-- an item that makes no record leaves a start of the label
abbrev Leaves : List ℕ → ℕ → Next → Type 0
Leaves l kept (bad k) = Unit
Leaves l kept end = Unit
Leaves l kept (on n st) = StartOf st.label l
Leaves l kept (made n r st) = Appends r l kept st.label

-- what D leaves of a label, and what is appended to it
back_keeps_from : (l : List ℕ) (d : ℕ) (added m : List ℕ) → Begins l (Back d) added m → Shares l m (length l - d)
unfolding pick
back_keeps_from l d added m b = go (ltb (length l) d) refl b.kept
  where
    go : (t : Bool) → ltb (length l) d ≡ t → pick t None (Some (length l - d)) ≡ Some b.keep → Shares l m (length l - d)
    go true e q = absurd (let z : ◌≡◌ {A = ℕ} 0 1 = cc in omega arith)
    go false e q =
        let k : length l - d ≡ b.keep = cc in
        let h : b.keep ≤ length l = omega arith in
        let t : length (take b.keep l) ≡ b.keep = length-take-le b.keep l h in
        rw (k, b.same)
        (record {
          first = h;
          second = simp length-append (omega arith);
          equal = sym (take-append-le b.keep (take b.keep l) added (omega arith) ∙ take_shorter b.keep b.keep l (omega arith));
        })

module _ (st : State) (n : ℕ) where
  shortened : (kept : ℕ) (cut : Cut) → Leaves st.label kept (on_label (label_step st.label cut []) (λ l. on n (named l st)))
  shortened kept cut =
      begin_case (Leaves st.label kept) st.label cut [] _ tt tt
      λ m b. rw (b.same, append-nil (take b.keep st.label)) (take_start b.keep st.label)

  leg_leaves : (p : Option Point) (flags : ℕ) (to : Point) (kept : ℕ) (m : List ℕ) → Shares st.label m kept → Leaves st.label kept (leg_from p n st flags to m)
  leg_leaves None flags to kept m k = tt
  leg_leaves (Some from) flags to kept m k = k

  apply_leaves : (it : Item) → Leaves st.label (own_drop st.label it) (apply st n it)
  apply_leaves Stop = pick_case (Leaves st.label 0) _ _ _ (λ e. tt) (λ e. shortened 0 Empty)
  apply_leaves (Shorten cut) = shortened 0 cut
  apply_leaves (Style k) = pick_case (Leaves st.label 0) _ _ _ (λ e. tt) (λ e. start_self st.label)
  apply_leaves (Move p) = start_self st.label
  apply_leaves NoDate = start_self st.label
  apply_leaves (Date first last) = pick_case (Leaves st.label 0) _ _ _ (λ e. tt) (λ e. start_self st.label)
  apply_leaves (Error t) = (refl, refl)
  apply_leaves (Xsect last dims d added) = begin_case (Leaves st.label (length st.label - d)) st.label (Back d) added _ tt tt
      λ m b. back_keeps_from st.label d added m b
  apply_leaves (Label flags p d added) = begin_case (Leaves st.label (length st.label - d)) st.label (Back d) added _ tt tt
      λ m b. back_keeps_from st.label d added m b
  apply_leaves (Line flags p d added) =
      begin_case (Leaves st.label (length st.label - d)) st.label (Back d) added _ tt tt
      λ m b. leg_leaves st.setting.position flags p (length st.label - d) m (back_keeps_from st.label d added m b)

next_leaves : (version : ℕ) (s : List ℕ) (st : State) → Leaves st.label (drop_leaves st.label (item_of version s)) (next version s st)
unfolding next
next_leaves version s st = go (item_of version s)
  where
    go : (it : Decoded) → Leaves st.label (drop_leaves st.label it) (next_of st it)
    go (faulty k) = tt
    go (whole n it) = apply_leaves st n it

-- ---- a stretch: the label is a start of the one at its beginning, and was never shorter than it is

abbrev AllAtLeast : ℕ → List ℕ → Type 0
AllAtLeast k [] = Unit
AllAtLeast k (m ∷ ms) = (k ≤ m) × AllAtLeast k ms

at_least_less : (j k : ℕ) (ms : List ℕ) → j ≤ k → AllAtLeast k ms → AllAtLeast j ms
at_least_less j k [] h a = tt
at_least_less j k (m ∷ ms) h a = (omega (arith, a.0), at_least_less j k ms h a.1)

least_is : (own k : ℕ) (ms : List ℕ) → own ≤ k → AllAtLeast k ms → least_of own ms ≡ own
unfolding least_of
least_is own k [] h a = refl
least_is own k (m ∷ ms) h a = let e = least_is own k ms h a.1 in omega (arith, a.0, e)

record Lasts (label before lengths : List ℕ) : Type 0 where
  start_of : StartOf label before
  at_least : AllAtLeast (length label) lengths

module _ (version : ℕ) (file : List ℕ) (first : ℕ) where
  made_lasts : (r : Record) (st st' : State) (before lengths : List ℕ) (kept : ℕ) → Appends r st.label kept st'.label → Lasts st.label before lengths
      → Lasts st'.label (carries_label r st'.label before) (carries_label r (length st'.label ∷ []) lengths)
  made_lasts (leg g label) st st' before lengths kept a l = record { start_of = start_self st'.label; at_least = (omega arith, tt) }
  made_lasts (station s label) st st' before lengths kept a l = record { start_of = start_self st'.label; at_least = (omega arith, tt) }
  made_lasts (section s label) st st' before lengths kept a l = record { start_of = start_self st'.label; at_least = (omega arith, tt) }
  made_lasts (error t) st st' before lengths kept a l = rw a.0 l

  lasts : {p : ℕ} {st : State} {before lengths : List ℕ} → Stretch version file first p st before lengths → Lasts st.label before lengths
  lasts begins = record { start_of = (omega arith, refl); at_least = (omega arith, tt) }
  lasts (goes {p} {st} {before} {lengths} n st' S e) =
      let l = lasts S in
      let s : StartOf st'.label st.label = rw e at (next_leaves version (drop p file) st) in
      record {
        start_of = start_start st'.label st.label before s l.start_of;
        at_least = (omega arith, at_least_less (length st'.label) (length st.label) lengths s.0 l.at_least);
      }
  lasts (makes {p} {st} {before} {lengths} n r st' S e) =
      made_lasts r st st' before lengths _ (rw e at (next_leaves version (drop p file) st)) (lasts S)

  module _ {p : ℕ} {st : State} {before lengths : List ℕ} (S : Stretch version file first p st before lengths) (n : ℕ) (r : Record) (st' : State)
      (e : next version (drop p file) st ≡ made n r st') where
    abbrev kept : ℕ
    kept = drop_leaves st.label (item_of version (drop p file))

    leaves : Appends r st.label kept st'.label
    leaves = rw e at (next_leaves version (drop p file) st)

    within : (r : Record) → Appends r st.label kept st'.label → kept ≤ length st.label
    within (leg g label) a = a.first
    within (station s label) a = a.first
    within (section s label) a = a.first
    within (error t) a = omega (arith, a.1)

    -- what the item's own drop leaves is the least length in its stretch
    pub kept_is_drop : kept_over lengths st.label (item_of version (drop p file)) ≡ kept
    kept_is_drop = least_is kept (length st.label) lengths (within r leaves) (lasts S).at_least

    -- "0 for an error record"; else the kept bytes are a common start of the label before and this one, so an outline may trust them
    abbrev Outlines : Record → Type 0
    Outlines (leg g label) = Shares before st'.label kept
    Outlines (station s label) = Shares before st'.label kept
    Outlines (section s label) = Shares before st'.label kept
    Outlines (error t) = kept ≡ 0

    from_before : Shares st.label st'.label kept → Shares before st'.label kept
    from_before k =
        let s = (lasts S).start_of in
        record {
          first = omega (arith, k.first, s.0);
          second = k.second;
          equal = sym (take_shorter kept (length st.label) before k.first)
              ∙ ap (take kept) s.1 ∙ k.equal;
        }

    outlines : (r : Record) → Appends r st.label kept st'.label → Outlines r
    outlines (leg g label) a = from_before a
    outlines (station s label) a = from_before a
    outlines (section s label) a = from_before a
    outlines (error t) a = a.1

    pub kept_is_common : Outlines r
    kept_is_common = outlines r leaves

-- "at most the longest common start"
pub kept_at_most : (l m : List ℕ) (k : ℕ) → Shares l m k → k ≤ common l m
unfolding common pick
kept_at_most l m zero K = omega arith
kept_at_most [] m (suc k) K = absurd (omega (arith, K.first))
kept_at_most (x ∷ l) [] (suc k) K = absurd (omega (arith, K.second))
kept_at_most (x ∷ l) (y ∷ m) (suc k) K =
    let e : ◌≡◌ {A = List ℕ} (x ∷ take k l) (y ∷ take k m) = K.equal in
    let h : x ≡ y = cc in
    let t : take k l ≡ take k m = cc in
    let r = kept_at_most l m k (record { first = omega (arith, K.first); second = omega (arith, K.second); equal = t }) in
    rw (eq-eqb x y h) (omega arith)

-- ---- in a house-written file the number is what the writing rules kept

module _ (last label : List ℕ) (hl : length last ≤ label_limit) (rest : List ℕ) where
  -- what is left where all but k bytes are dropped
  drop_back : (k : ℕ) → k ≤ length last → length last - (length last - k) ≡ k
  drop_back k h = omega arith

  pub station_kept : (s : Station) → GoodStation s label → drop_leaves last (item_of 8 (station_codes last s label ++ rest)) ≡ kept_bytes last label
  unfolding station_codes
  station_kept s g =
      let k = kept_bytes last label in
      rw (station_item_lem last label k hl g.label_fits s.flags s.place rest g.place_fits) (drop_back k (kept_shares last label).first)

  pub section_kept : (s : Section) → GoodSection s label → drop_leaves last (item_of 8 (section_codes last s label ++ rest)) ≡ kept_bytes last label
  unfolding section_codes
  section_kept s g =
      let k = kept_bytes last label in
      let b = drop_back k (kept_shares last label).first in
      pick_case (λ (x : List ℕ). drop_leaves last (item_of 8 (x ++ rest)) ≡ k) (all_short s.size) _ _
      (λ e. rw (short_section_item last label k hl g.label_fits s.last s.size rest g.last_fits g.dimensions_fit e) b)
      (λ e. rw (wide_section_item last label k hl g.label_fits s.last s.size rest g.last_fits g.dimensions_fit) b)

  -- a leg keeps the longest common start; with 0x20 that is the whole label
  pub line_kept : (flags : ℕ) (to : Point) → flags ≤ 7 → GoodPoint to → length label ≤ label_limit
      → drop_leaves last (item_of 8 (line_codes last flags to label ++ rest)) ≡ common last label
  unfolding line_codes
  line_kept flags to hf g hm =
      pick_case (λ (x : List ℕ). drop_leaves last (item_of 8 (x ++ rest)) ≡ common last label) (same last label) _ _
      (λ e.
      let q = same_true last label e in
      let n = ap length q in
      let c = common_le last label in
      let m = kept_at_most last label (length last) (record { first = omega arith; second = omega arith; equal = ap (take (length last)) q }) in
      rw (same_line_item flags to rest hf g) (omega (arith, c.0)))
      (λ e. rw (line_item_lem last label (common last label) hl hm flags to rest hf g) (drop_back (common last label) (common_shares last label).first))

-- ---- what a step answers with its record is the sentence's number

module _ {version : ℕ} {file : List ℕ} {first p : ℕ} {st : State} {label lengths : List ℕ} (S : Stretch version file first p st label lengths) (room b k : ℕ)
  where
    abbrev it : Decoded
    it = item_of version (drop p file)

    stop_never : (v : Verdict) → stop_answer v ≡ wrote b k → ⊥
    stop_never Good e = let z : ◌≡◌ {A = ℕ} 0 1 = cc in omega arith
    stop_never (Refusal n q) e = let z : ◌≡◌ {A = ℕ} 0 1 = cc in omega arith

    recorded_kept : (here there : Stand) (r : Record) (kept : ℕ) → (recorded here there r kept room).answer ≡ wrote b k → k ≡ kept
    unfolding recorded
    recorded_kept here there r kept =
        pick_case (λ (s : Step). s.answer ≡ wrote b k → k ≡ kept) _ _ _ (λ t e. absurd (let z : ◌≡◌ {A = ℕ} 0 1 = cc in omega arith)) (λ t e. cc)

    pub step_kept : (step_of (stands_before version p st) file room).answer ≡ wrote b k → k ≡ kept_over lengths st.label it
    step_kept = go (next version (drop p file) st) refl
      where
        go : (x : Next) → next version (drop p file) st ≡ x → (step_next x version p st (drop p file) room).answer ≡ wrote b k → k ≡ kept_over lengths st.label it
        go (bad n) e q = absurd (stop_never (Refusal n p) q)
        go end e q = absurd (stop_never (ended p (drop p file)) q)
        go (on n st') e q = absurd (let z : ◌≡◌ {A = ℕ} 0 1 = cc in omega arith)
        go (made n r st') e q = recorded_kept _ _ r _ q ∙ sym (kept_is_drop version file first S n r st' e)
