-- Reading the first bytes of a list, item by item: the records made and the state left, what `run` makes of them, and where reading has
-- then got. Assumes nothing.
use Prim.Native.Nat.{ℕ, ◌+◌}
use native.Mathlib.Nat.{add-zero, zero-add, add_assoc}
use mathlib.Core.Path.{◌≡◌, refl, sym, ap, ◌∙◌, subst}
use mathlib.Core.List.{List, [], ◌∷◌, ◌++◌}
use lib.ListN.{length, drop}
use lib.Seq.{drop-drop, drop-append_seam}
use Rattle.format.specs.State.{State, Record, on, made}
use Rattle.format.specs.Refusals.{Result, also}
use Rattle.format.specs.Reading.{next, run, Reached, goes, makes}
use Rattle.format.proofs.ReadingLaws.{run_on, run_made}

-- the items in the first k bytes of s make rs from the state st and leave st'
pub data Goes (version : ℕ) : List ℕ → State → List Record → ℕ → State → Type 0 where
  stays : {s : List ℕ} {st : State} → Goes version s st [] 0 st
  past : {s : List ℕ} {st : State} {rs : List Record} {k : ℕ} {st' : State} (n : ℕ) (st₁ : State) → next version s st ≡ on n st₁
      → Goes version (drop n s) st₁ rs k st' → Goes version s st rs (n + k) st'
  adds : {s : List ℕ} {st : State} {rs : List Record} {k : ℕ} {st' : State} (n : ℕ) (r : Record) (st₁ : State) → next version s st ≡ made n r st₁
      → Goes version (drop n s) st₁ rs k st' → Goes version s st (r ∷ rs) (n + k) st'

module _ {version : ℕ} where
  -- the same with the count, or what is read, spelled otherwise
  pub goes_as : {s s' : List ℕ} {st st' : State} {rs : List Record} {k k' : ℕ} → s ≡ s' → k ≡ k' → Goes version s st rs k st' → Goes version s' st rs k' st'
  goes_as {s} {s'} {st} {st'} {rs} {k} {k'} e f g =
      subst (λ (x : List ℕ). Goes version x st rs k' st') e (subst (λ (n : ℕ). Goes version s st rs n st') f g)

  -- one item, which is the first bytes
  pub goes_on_lem : (item rest : List ℕ) (st st' : State) → next version (item ++ rest) st ≡ on (length item) st'
      → Goes version (item ++ rest) st [] (length item) st'
  goes_on_lem item rest st st' e = goes_as refl (add-zero (length item)) (past (length item) st' e stays)

  pub goes_made : (item rest : List ℕ) (st : State) (r : Record) (st' : State) → next version (item ++ rest) st ≡ made (length item) r st'
      → Goes version (item ++ rest) st (r ∷ []) (length item) st'
  goes_made item rest st r st' e = goes_as refl (add-zero (length item)) (adds (length item) r st' e stays)

  -- and then what follows
  pub goes_then : {s : List ℕ} {st st₁ st₂ : State} {rs rs' : List Record} {k k' : ℕ} → Goes version s st rs k st₁ → Goes version (drop k s) st₁ rs' k' st₂
      → Goes version s st (rs ++ rs') (k + k') st₂
  goes_then {k' = k'} stays g = goes_as refl (sym (zero-add k')) g
  goes_then {s} {k' = k'} (past {k = k} n st₁ e f) g =
      goes_as refl (sym (add_assoc n k k')) (past n st₁ e (goes_then f (goes_as (sym (drop-drop k n s)) refl g)))
  goes_then {s} {k' = k'} (adds {k = k} n r st₁ e f) g =
      goes_as refl (sym (add_assoc n k k')) (adds n r st₁ e (goes_then f (goes_as (sym (drop-drop k n s)) refl g)))

  pub goes_append : (a rest : List ℕ) {st st₁ st₂ : State} {rs rs' : List Record} {k : ℕ} → Goes version (a ++ rest) st rs (length a) st₁
      → Goes version rest st₁ rs' k st₂ → Goes version (a ++ rest) st (rs ++ rs') (length a + k) st₂
  goes_append a rest f g = goes_then f (goes_as (sym (drop-append_seam a rest)) refl g)

-- ---- what `run` makes of it

abbrev pub also_all : List Record → Result → Result
also_all [] x = x
also_all (r ∷ rs) x = also r (also_all rs x)

pub goes_run : {version : ℕ} {s : List ℕ} {st st' : State} {rs : List Record} {k : ℕ} → Goes version s st rs k st' → (at : ℕ)
    → run version at s st ≡ also_all rs (run version (at + k) (drop k s) st')
goes_run {version} {s} {st} stays at = rw (add-zero at)
goes_run {version} {s} {st} {st'} {rs} (past {k = k} n st₁ e f) at =
    run_on version at s st e ∙ rw (goes_run f (at + n), drop-drop k n s, add_assoc at n k)
goes_run {version} {s} {st} (adds {rs = rs} {k = k} n r st₁ e f) at =
    run_made version at s st e ∙ rw (goes_run f (at + n), drop-drop k n s, add_assoc at n k)

-- ---- where reading has got

reached_on : {version : ℕ} {file : List ℕ} {first : ℕ} {s : List ℕ} {st st' : State} {rs : List Record} {k : ℕ} → Goes version s st rs k st' → (p : ℕ)
    → s ≡ drop p file → Reached version file first p st → Reached version file first (p + k) st'
reached_on {version} {file} {first} {st = st} stays p q r = subst (λ (n : ℕ). Reached version file first n st) (sym (add-zero p)) r
reached_on {version} {file} {first} {s} {st} {st'} (past {k = k} n st₁ e f) p q r =
    subst (λ (m : ℕ). Reached version file first m st') (add_assoc p n k)
    (reached_on f (p + n) (ap (drop n) q ∙ drop-drop n p file) (goes n st₁ r (ap (λ (x : List ℕ). next version x st) (sym q) ∙ e)))
reached_on {version} {file} {first} {s} {st} {st'} (adds {k = k} n rec st₁ e f) p q r =
    subst (λ (m : ℕ). Reached version file first m st') (add_assoc p n k)
    (reached_on f (p + n) (ap (drop n) q ∙ drop-drop n p file) (makes n rec st₁ r (ap (λ (x : List ℕ). next version x st) (sym q) ∙ e)))

pub goes_reached : {version : ℕ} {file : List ℕ} {first p : ℕ} {st st' : State} {rs : List Record} {k : ℕ} → Goes version (drop p file) st rs k st'
    → Reached version file first p st → Reached version file first (p + k) st'
goes_reached {p = p} g r = reached_on g p refl r
