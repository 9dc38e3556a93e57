-- Laws of salvaging (#111): the place of the report stands in the file; where reading accepts, salvaging gives the same sheet and refusal 0;
-- no record is made up or changed. The idea of the last: an item is settled by its own bytes (FrontLaws), and the items before the place
-- end there. Assumes nothing.
use Prim.Native.Nat.{ℕ, zero, suc, ◌+◌, ◌-◌, ◌≤◌, ◌<◌}
use mathlib.Core.Path.{◌≡◌, refl, sym, ap, ◌∙◌}
use mathlib.Core.List.{List, [], ◌∷◌, ◌++◌}
use mathlib.Core.Bool.{Bool, true, false}
use native.Mathlib.Omega.{arith}
use lib.ListN.{length, take, drop, length-drop}
use lib.Seq.{take-take, take-add, drop-append_seam, length-take-le}
use lib.Dec.{ltb}
use borrow.Author.Tests.{ltb-true, ltb-false}
use Rattle.format.specs.Bytes.{pick}
use Rattle.format.specs.Header.{Header, Opening, shut, opened, file_limit, opening_of}
use Rattle.format.specs.Sheet.{sheet_version, sheet_of}
use Rattle.format.specs.Items.{Item, Stop, Shorten, Style, Move, NoDate, Date, Error, Xsect, Label, Line, Decoded, faulty, whole, item_of}
use Rattle.format.specs.State.{State, start, Record, Next, bad, end, on, made, on_label, apply}
use Rattle.format.specs.Label.{label_step}
use Rattle.format.specs.Reading.{next, run, items_of, read_outcome, read_buffer, read_from}
use Rattle.format.specs.Refusals.{Result, accepted, refused, outcome_of, Verdict, Good, Refusal}
use Rattle.format.specs.declared.Cut.{Cut}
use Rattle.format.specs.declared.Cut.TheVariants.{Empty, Back}
use Rattle.format.proofs.Basics.{pick_case}
use Rattle.format.proofs.ApplyLaws.{label_case, leg_case}
use Rattle.format.proofs.HeaderLaws.{opening_fits}
use Rattle.format.proofs.OpeningLaws.{opening_settled}
use Rattle.format.proofs.ReadingLaws.{SizedNext, next_sized, run_bad, run_after, run_done, run_on, run_made}
use Rattle.read.proofs.FrontLaws.{item_settled}
use Rattle.read.specs.Salvage.{saved, unsaved, report_place, saved_by, salvage_outcome, salvage_buffer, salvage_from}

-- ---- the place of a report stands between the first item and the end of the file

record Between (low high : ℕ) (v : Verdict) : Type 0 where
  least : low ≤ report_place v high
  most : report_place v high ≤ high

-- one item, and the same of what follows it
between_item : (version at : ℕ) (s : List ℕ) (st : State)
    → ((n : ℕ) (st' : State) → 1 ≤ n → n ≤ length s → Between (at + n) (at + n + length (drop n s)) (run version (at + n) (drop n s) st').verdict)
    → Between at (at + length s) (run version at s st).verdict
between_item version at s st next-between = go (next version s st) refl (next_sized version s st)
  where
    P : Result → Type 0
    P x = Between at (at + length s) x.verdict

    onward : (n : ℕ) (st' : State) → 1 ≤ n → n ≤ length s → P (run version (at + n) (drop n s) st')
    onward n st' a b =
        let l = length-drop n s in
        let e : at + n + length (drop n s) ≡ at + length s = omega arith in
        let z = rw e at (next-between n st' a b) in
        record { least = omega (arith, z.least); most = z.most }

    last : (b : Bool) → ltb 1 (length s) ≡ b → next version s st ≡ end → P (run version at s st)
    last true q e = let l = ltb-true 1 (length s) q in rw (run_after version at s st e l) (record { least = omega arith; most = omega arith })
    last false q e = rw (run_done version at s st e (ltb-false 1 (length s) q)) (record { least = omega arith; most = omega arith })

    go : (x : Next) → next version s st ≡ x → SizedNext (length s) x → P (run version at s st)
    go (bad k) e z = rw (run_bad version at s st e) (record { least = omega arith; most = omega arith })
    go end e z = last (ltb 1 (length s)) refl e
    go (on n st') e z = rw (run_on version at s st e) (onward n st' z.0 z.1)
    go (made n r st') e z = rw (run_made version at s st e) (onward n st' z.0 z.1)

-- f is more than the bytes that are left: each item takes one at least
run_between : (f version at : ℕ) (s : List ℕ) (st : State) → length s < f → Between at (at + length s) (run version at s st).verdict
run_between zero version at s st h = absurd (omega arith)
run_between (suc f) version at s st h =
    between_item version at s st (λ n st' a b. run_between f version (at + n) (drop n s) st' (let l = length-drop n s in omega arith))

report_between : (version place : ℕ) (file : List ℕ) → place ≤ length file → Between place (length file) (items_of version place file).verdict
unfolding items_of
report_between version place file h =
    let l = length-drop place file in
    let e : place + length (drop place file) ≡ length file = omega arith in
    rw e at (run_between (suc (length (drop place file))) version place (drop place file) start (omega arith))

pub report_inside : (version place : ℕ) (file : List ℕ) → place ≤ length file → report_place (items_of version place file).verdict (length file) ≤ length file
report_inside version place file h = (report_between version place file h).most

-- ---- where reading accepts, salvaging gives the same sheet, refusal 0 and the file's length as place

self_less : (n : ℕ) → n - n ≡ 0
self_less n = omega arith

pub accepted_saved : (file : List ℕ) (room b n v : ℕ) → read_outcome file room ≡ accepted b n v → salvage_outcome file room ≡ saved b n v 0 (length file) 0
unfolding read_outcome salvage_outcome pick
accepted_saved file room b n v e = go (opening_of file) e
  where
    good : (x : Verdict) (bytes records version : ℕ) → outcome_of x bytes records version room ≡ accepted b n v
        → pick (ltb room bytes) (unsaved 11 bytes) (saved_by x bytes records version (length file)) ≡ saved b n v 0 (length file) 0
    good Good bytes records version e = same (ltb room bytes) e
      where
        same : (c : Bool) → pick c (refused 11 bytes) (accepted bytes records version) ≡ accepted b n v
            → pick c (unsaved 11 bytes) (saved bytes records version 0 (length file) (length file - length file)) ≡ saved b n v 0 (length file) 0
        same true e = absurd (let z : ◌≡◌ {A = ℕ} 0 1 = cc in omega arith)
        same false e = rw (self_less (length file)) (let z1 : bytes ≡ b = cc in let z2 : records ≡ n = cc in let z3 : version ≡ v = cc in rw (z1, z2, z3))
    good (Refusal k p) bytes records version e = absurd (let z : ◌≡◌ {A = ℕ} 0 1 = cc in omega arith)

    go : (o : Opening) → read_from o file room ≡ accepted b n v → salvage_from o file room ≡ saved b n v 0 (length file) 0
    go (shut k p) e = absurd (let z : ◌≡◌ {A = ℕ} 0 1 = cc in omega arith)
    go (opened w p h) e = good (items_of w p file).verdict (length (sheet_of sheet_version h (items_of w p file).records)) (length (items_of w p file).records) w e

pub accepted_sheet : (file old : List ℕ) (b n v : ℕ) → read_outcome file (length old) ≡ accepted b n v → salvage_buffer file old ≡ read_buffer file old
unfolding salvage_buffer read_buffer
accepted_sheet file old b n v e = rw (accepted_saved file (length old) b n v e, e)

-- ---- no record is made up or changed: what is saved is the front of the records of every file that agrees with this one before the place

-- the records ys begin with xs
pub record Begins (xs ys : List Record) : Type 0 where
  pub rest : List Record
  pub whole_is : ys ≡ xs ++ rest

begins_none : (ys : List Record) → Begins [] ys
begins_none ys = record { rest = ys; whole_is = refl }

begins_also : (r : Record) (xs ys : List Record) → Begins xs ys → Begins (r ∷ xs) (r ∷ ys)
begins_also r xs ys B = record { rest = B.rest; whole_is = ap (λ (z : List Record). r ∷ z) B.whole_is }

-- lists that agree in n + m elements
agree_first : (n m : ℕ) (s s' : List ℕ) → take (n + m) s ≡ take (n + m) s' → take n s ≡ take n s'
agree_first n m s s' e = sym (take-take n (n + m) s (omega arith)) ∙ ap (take n) e ∙ take-take n (n + m) s' (omega arith)

agree_rest : (n m : ℕ) (s s' : List ℕ) → take (n + m) s ≡ take (n + m) s' → take m (drop n s) ≡ take m (drop n s')
agree_rest n m s s' e =
    sym (drop-append_seam (take n s) (take m (drop n s)))
    ∙ ap (drop (length (take n s))) (sym (take-add n m s) ∙ e ∙ take-add n m s')
    ∙ ap (λ (l : List ℕ). drop (length l) (take n s' ++ take m (drop n s'))) (agree_first n m s s' e)
    ∙ drop-append_seam (take n s') (take m (drop n s'))

-- an item goes on by its own size
abbrev Goes : ℕ → Next → Type 0
Goes n (bad k) = Unit
Goes n end = Unit
Goes n (on m st) = m ≡ n
Goes n (made m r st) = m ≡ n

module _ (st : State) (n : ℕ) where
  label_goes : (cut : Cut) (added : List ℕ) (go : List ℕ → Next) → ((l : List ℕ) → Goes n (go l)) → Goes n (on_label (label_step st.label cut added) go)
  label_goes cut added go f = label_case (Goes n) st.label cut added go tt tt (λ l z. f l)

  apply_goes : (it : Item) → Goes n (apply st n it)
  apply_goes Stop = pick_case (Goes n) _ _ _ (λ e. tt) λ e. label_goes Empty [] _ (λ l. refl)
  apply_goes (Shorten cut) = label_goes cut [] _ (λ l. refl)
  apply_goes (Style s) = pick_case (Goes n) _ _ _ (λ e. tt) λ e. refl
  apply_goes (Move p) = refl
  apply_goes NoDate = refl
  apply_goes (Date first last) = pick_case (Goes n) _ _ _ (λ e. tt) λ e. refl
  apply_goes (Error t) = refl
  apply_goes (Xsect last dims d added) = label_goes (Back d) added _ (λ l. refl)
  apply_goes (Label flags p d added) = label_goes (Back d) added _ (λ l. refl)
  apply_goes (Line flags p d added) = label_goes (Back d) added _ (λ l. leg_case (Goes n) st.setting.position n st flags p l tt (λ from. refl))

-- what is left from an item of s on stops at most q bytes behind its place
abbrev Stops : ℕ → ℕ → List ℕ → State → ℕ → Type 0
Stops version at s st q = report_place (run version at s st).verdict (at + length s) ≤ at + q

abbrev Saves : ℕ → ℕ → List ℕ → List ℕ → State → Type 0
Saves version at s s' st = Begins (run version at s st).records (run version at s' st).records

-- one item, and the same of what follows it
module _ (version at : ℕ) (s s' : List ℕ) (st : State) (q : ℕ) (agree : take q s ≡ take q s')
    (then : (n : ℕ) (st' : State) (r : ℕ) → 1 ≤ n → n ≤ length s → Stops version (at + n) (drop n s) st' r → take r (drop n s) ≡ take r (drop n s') → Saves version (at + n) (drop n s) (drop n s') st') where
  onward : (n : ℕ) (st' : State) → 1 ≤ n → n ≤ length s → report_place (run version (at + n) (drop n s) st').verdict (at + length s) ≤ at + q
      → (take n s ≡ take n s') × Saves version (at + n) (drop n s) (drop n s') st'
  onward n st' a b h =
      let l = length-drop n s in
      let e : at + n + length (drop n s) ≡ at + length s = omega arith in
      let z = rw e at (run_between (suc (length (drop n s))) version (at + n) (drop n s) st' (omega arith)) in
      let i : n ≤ q = omega (arith, z.least) in
      let k : n + (q - n) ≡ q = omega arith in
      let g : take (n + (q - n)) s ≡ take (n + (q - n)) s' = rw k agree in
      (agree_first n (q - n) s s' g, then n st' (q - n) a b (rw e (omega arith)) (agree_rest n (q - n) s s' g))

  at_end : (c : Bool) → ltb 1 (length s) ≡ c → next version s st ≡ end → Saves version at s s' st
  at_end true f e = rw (run_after version at s st e (ltb-true 1 (length s) f)) (begins_none _)
  at_end false f e = rw (run_done version at s st e (ltb-false 1 (length s) f)) (begins_none _)

  saves_item : (n : ℕ) (it : Item) → item_of version s ≡ whole n it → (y : Next) → apply st n it ≡ y → Goes n y → SizedNext (length s) y → Stops version at s st q → Saves version at s s' st
  unfolding next
  saves_item n it i (bad k) f g z h = let e : next version s st ≡ bad k = rw i f in rw (run_bad version at s st e) (begins_none _)
  saves_item n it i end f g z h = let e : next version s st ≡ end = rw i f in at_end (ltb 1 (length s)) refl e
  saves_item n it i (on m st') f g z h =
      let e : next version s st ≡ on m st' = rw i f in
      let R = run_on version at s st e in
      let o = onward m st' z.0 z.1 (rw R at h) in
      let i' : item_of version s' ≡ whole n it = item_settled version s s' n it i (rw (← g) o.0) in
      let e' : next version s' st ≡ on m st' = rw i' f in
      rw (R, run_on version at s' st e') o.1
  saves_item n it i (made m r st') f g z h =
      let e : next version s st ≡ made m r st' = rw i f in
      let R = run_made version at s st e in
      let o = onward m st' z.0 z.1 (rw R at h) in
      let i' : item_of version s' ≡ whole n it = item_settled version s s' n it i (rw (← g) o.0) in
      let e' : next version s' st ≡ made m r st' = rw i' f in
      rw (R, run_made version at s' st e') (begins_also r _ _ o.1)

  saves_first : (x : Decoded) → item_of version s ≡ x → Stops version at s st q → Saves version at s s' st
  unfolding next
  saves_first (faulty k) i h = let e : next version s st ≡ bad k = rw i in rw (run_bad version at s st e) (begins_none _)
  saves_first (whole n it) i h =
      let z : SizedNext (length s) (apply st n it) = rw i at (next_sized version s st) in
      saves_item n it i (apply st n it) refl (apply_goes st n it) z h

run_saves : (f version at : ℕ) (s s' : List ℕ) (st : State) (q : ℕ) → length s < f → Stops version at s st q → take q s ≡ take q s' → Saves version at s s' st
run_saves zero version at s s' st q l h agree = absurd (omega arith)
run_saves (suc f) version at s s' st q l h agree =
    saves_first version at s s' st q agree
    (λ n st' r a b h' agree'. run_saves f version (at + n) (drop n s) (drop n s') st' r (let z = length-drop n s in omega arith) h' agree')
    (item_of version s) refl h

pub saved_begins : (version place : ℕ) (file other : List ℕ) → place ≤ length file
    → take (report_place (items_of version place file).verdict (length file)) file ≡ take (report_place (items_of version place file).verdict (length file)) other
    → Begins (items_of version place file).records (items_of version place other).records
unfolding items_of
saved_begins version place file other h agree =
    let s = drop place file in
    let l = length-drop place file in
    let e : place + length s ≡ length file = omega arith in
    let z = report_between version place file h in
    let p = report_place (run version place s start).verdict (length file) in
    let k : place + (p - place) ≡ p = omega (arith, z.least) in
    run_saves (suc (length s)) version place s (drop place other) start (p - place) (omega arith) (rw e (omega arith)) (agree_rest place (p - place) file other (rw k agree))

-- "cut any good file at any byte", behind its header
pub cut_begins : (version place c : ℕ) (file : List ℕ) → place ≤ c → c ≤ length file → Begins (items_of version place (take c file)).records (items_of version place file).records
cut_begins version place c file h k =
    let l = length-take-le c file k in
    let i = report_inside version place (take c file) (omega arith) in
    saved_begins version place (take c file) file (omega arith) (take-take (report_place (items_of version place (take c file)).verdict (length (take c file))) c file (omega (arith, i, l)))

-- ---- the same of files: the header too is settled by its own bytes, which stand before the place

-- what is saved of a file that opens is the front of the records of every file that agrees with it before the place; and that one opens alike
pub salvaged_begins : (file other : List ℕ) {version place : ℕ} {h : Header} → length other ≤ file_limit → opening_of file ≡ opened version place h
    → take (report_place (items_of version place file).verdict (length file)) file ≡ take (report_place (items_of version place file).verdict (length file)) other
    → (opening_of other ≡ opened version place h) × Begins (items_of version place file).records (items_of version place other).records
salvaged_begins file other {version} {place} {h} few e agree =
    let i = (opening_fits file e).inside in
    let p = report_place (items_of version place file).verdict (length file) in
    let z = report_between version place file i in
    let k : place + (p - place) ≡ p = omega (arith, z.least) in
    let first : take place file ≡ take place other = agree_first place (p - place) file other (rw k agree) in
    (opening_settled file other few e first, saved_begins version place file other i agree)

-- "cut any good file at any byte": at its first item's place or behind it. The cut file opens alike, and what is saved of it is the front of
-- the whole file's records
pub cut_salvaged : (file : List ℕ) (n : ℕ) {version place : ℕ} {h : Header} → opening_of file ≡ opened version place h → place ≤ n → n ≤ length file
    → (opening_of (take n file) ≡ opened version place h) × Begins (items_of version place (take n file)).records (items_of version place file).records
cut_salvaged file n {version} {place} {h} e behind inside =
    let F = opening_fits file e in
    let l = length-take-le n file inside in
    let first : take place file ≡ take place (take n file) = sym (take-take place n file behind) in
    (opening_settled file (take n file) (omega (arith, F.few)) e first, cut_begins version place n file behind inside)
