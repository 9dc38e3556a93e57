-- The items up to the next record, on plain values: what comes from an item on is what comes as a whole. Assumes nothing.
use Rattle.format.specs.Refusals.{Refusal}
use mathlib.Core.Path.{◌≡◌, refl, sym, ap, ◌∙◌}
use mathlib.Core.List.{List, []}
use Prim.Native.Nat.{ℕ, ◌+◌, ◌-◌, ◌≤◌, ◌<◌}
use native.Mathlib.Omega.{arith}
use lib.ListN.{length, take, drop}
use lib.Seq.{drop-drop}
use borrow.Author.Tests.{lt-ltb, le-ltb}
use Rattle.format.specs.State.{State, Next, bad, end, on, made}
use Rattle.format.specs.Reading.{next, ended, run}
use Rattle.format.specs.Fields.{state_of}
use Rattle.format.specs.declared.Fields.{Fields}
use Rattle.format.specs.declared.Setting.{Setting}
use Rattle.format.proofs.Basics.{pick_true, pick_false, less_or_not}
use Rattle.format.proofs.IterateLaws.{iter_eq}
use Rattle.format.proofs.ReadingLaws.{SizedNext, next_sized, Within, next_there_lem, there_within, left_bad, left_after, left_done, left_on, left_made}
use Rattle.item.specs.Seen.{seen, Tells}
use Rattle.std.specs.Prelude.{Result, Ok, Err}
use Rattle.format.specs.Faults.{fault_number}
use Rattle.format.specs.declared.Fault.{Fault}
use Rattle.format.specs.declared.Refusal.{Refusal as Refused}
use Rattle.item.specs.declared.Step.{Step}
use Rattle.item.specs.declared.Step.TheVariants.{End, On, Made}
use Rattle.scan.specs.Places.{state_at, left_at, Coming, stops, coming_item, coming_step, coming, ended_at, Finds}
use Rattle.scan.specs.declared.Place.{Place}
use Rattle.scan.specs.declared.Found.{Found}
use Rattle.scan.specs.declared.Found.TheVariants.{Record as FoundRecord}

-- ---- the equation of `coming`

item_cong : (m : ℕ) (x : Next) (at : ℕ) (s : List ℕ) (f g : ℕ → State → Coming) → SizedNext m x
    → ((k : ℕ) (st : State) → 0 < k → k ≤ m → f k st ≡ g k st) → coming_item x at s f ≡ coming_item x at s g
item_cong m (bad k) at s f g z e = refl
item_cong m end at s f g z e = refl
item_cong m (on n st) at s f g z e = e n st z.0 z.1
item_cong m (made n r st) at s f g z e = refl

coming_cong : (version at : ℕ) (s : List ℕ) (st : State) (f g : ℕ → State → Coming)
    → ((k : ℕ) (st' : State) → 0 < k → k ≤ length s → f k st' ≡ g k st') → coming_step version at s st f ≡ coming_step version at s st g
unfolding coming_step
coming_cong version at s st f g e = item_cong (length s) (next version s st) at s f g (next_sized version s st) e

pub coming_eq : (version at : ℕ) (s : List ℕ) (st : State)
    → coming version at s st ≡ coming_item (next version s st) at s (λ n st'. coming version (at + n) (drop n s) st')
unfolding coming coming_step
coming_eq version at s st = iter_eq (coming_step version) (λ p. stops (Refusal 5 p)) (coming_cong version) at s st

-- at a place of a file, by what the item there comes to
module _ (version : ℕ) (file : List ℕ) (at : ℕ) (st : State) where
  abbrev there : Coming
  there = coming version at (drop at file) st

  coming_by : {x : Next} → x ≡ next version (take (length file - at) (drop at file)) st
      → there ≡ coming_item x at (drop at file) (λ n st'. coming version (at + n) (drop (at + n) file) st')
  coming_by {x} e =
      coming_eq version at (drop at file) st ∙ rw (next_there_lem version file at st e) (item_same x)
    where
      item_same : (y : Next)
          → coming_item y at (drop at file) (λ n st'. coming version (at + n) (drop n (drop at file)) st')
          ≡ coming_item y at (drop at file) (λ n st'. coming version (at + n) (drop (at + n) file) st')
      item_same (bad k) = refl
      item_same end = refl
      item_same (on n st') = ap (λ (s : List ℕ). coming version (at + n) s st') (drop-drop n at file)
      item_same (made n r st') = refl

-- ---- the loop

abbrev state_in : Setting → ℕ → List ℕ → State
state_in setting len b = state_of setting (take len b)

-- the loop has come from `was` to an item at `at`
pub record Going (version : ℕ) (file : List ℕ) (was : Place) (b₀ : List ℕ) (at len : ℕ) (setting : Setting) (b : List ℕ) : Type 0 where
  pub inside : at ≤ length file
  pub short : len ≤ 4096
  pub whole : length b ≡ 4096
  pub on : was.at ≤ at
  pub same : left_at version file was b₀ ≡ run version at (drop at file) (state_in setting len b)
  pub next_is : coming version was.at (drop was.at file) (state_at was b₀) ≡ coming version at (drop at file) (state_in setting len b)

pub going_first : (version : ℕ) (file : List ℕ) (was : Place) (b : List ℕ) → was.at ≤ length file → was.len ≤ 4096 → length b ≡ 4096
    → Going version file was b was.at was.len was.setting b
going_first version file was b h s w = record { inside = h; short = s; whole = w; on = omega arith; same = refl; next_is = refl }

module _ (version : ℕ) (file : List ℕ) (was : Place) (b₀ : List ℕ) (at len : ℕ) (setting : Setting) (b : List ℕ)
    (G : Going version file was b₀ at len setting b) where
  abbrev st : State
  st = state_in setting len b

  abbrev pub Tell : Result Step Fault → List ℕ → Type 0
  Tell it b' = Tells it b' (next version (take (length file - at) (drop at file)) st)

  came : (it : Result Step Fault) (b' : List ℕ) → Tell it b'
      → coming version was.at (drop was.at file) (state_at was b₀)
      ≡ coming_item (seen it b') at (drop at file) (λ n st'. coming version (at + n) (drop (at + n) file) st')
  came it b' T = G.next_is ∙ coming_by version file at st T.same

  pub finds_bad : (e : Fault) (b' : List ℕ) → Tell (Err e) b' → Finds version file was b₀ (Err (record { number = fault_number e; place = at })) b'
  finds_bad e b' T = record { next_is = sym (came (Err e) b' T); same = G.same ∙ left_bad version file at st T.same; further = T.whole }

  pub finds_ended : (b' : List ℕ) → Tell (Ok End) b' → {r : Result Found Refused} → r ≡ ended_at at (length (drop at file)) → Finds version file was b₀ r b'
  unfolding ended_at ended
  finds_ended b' T e =
      less_or_not 1 (length (drop at file))
      (λ h.
      let t = lt-ltb 1 (length (drop at file)) h in
      rw (e ∙ pick_true _ _ t)
      (record { next_is = sym (came (Ok End) b' T ∙ ap stops (pick_true _ _ t)); same = G.same ∙ left_after version file at st T.same h; further = T.whole }))
      λ h.
      let t = le-ltb 1 (length (drop at file)) h in
      rw (e ∙ pick_false _ _ t)
      (record { next_is = sym (came (Ok End) b' T ∙ ap stops (pick_false _ _ t)); same = G.same ∙ left_done version file at st T.same h; further = T.whole })

  -- the item's bytes are there; which buffer they are seen by is all one
  pub item_within : (it : Result Step Fault) (b : List ℕ) → Tell it b → Within (length file) at (seen it [])
  item_within (Err e) b T = tt
  item_within (Ok End) b T = tt
  item_within (Ok (On n m to)) b T = there_within version file at st G.inside T.same
  item_within (Ok (Made n m to f kept)) b T = there_within version file at st G.inside T.same

  pub going_on : (n m : ℕ) (st' : Setting) (b' : List ℕ) → Tell (Ok (On n m st')) b' → Going version file was b₀ (at + n) m st' b'
  going_on n m st' b' T =
      let z = item_within (Ok (On n m st')) b' T in
      record {
        inside = z.1;
        short = T.short;
        whole = T.whole;
        on = omega (arith, G.on);
        same = G.same ∙ left_on version file at st T.same;
        next_is = came (Ok (On n m st')) b' T;
      }

  pub finds_record : (n m : ℕ) (st' : Setting) (f : Fields) (kept : ℕ) (b' : List ℕ) → Tell (Ok (Made n m st' f kept)) b'
      → Finds version file was b₀ (Ok (FoundRecord (record { at = at + n; len = m; setting = st' }) f)) b'
  finds_record n m st' f kept b' T =
      let z = item_within (Ok (Made n m st' f kept)) b' T in
      record {
        next_is = sym (came (Ok (Made n m st' f kept)) b' T);
        same = G.same ∙ left_made version file at st T.same;
        further = (omega (arith, G.on), record { place_inside = z.1; label_short = T.short; label_whole = T.whole });
      }
