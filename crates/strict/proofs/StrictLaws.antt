-- The equation of strict reading, and what it has to do with ordinary reading: as long as no record is refused, both make the same records from
-- the same items, so they stop at the same place or strict reading stops sooner. Assumes nothing.
use Prim.Native.Nat.{ℕ, zero, suc, ◌+◌, ◌-◌, ◌≤◌, ◌<◌}
use mathlib.Core.Path.{◌≡◌, refl, ap, ◌∙◌}
use mathlib.Core.List.{List, ◌∷◌}
use native.Mathlib.Omega.{arith}
use lib.ListN.{length, take, drop, length-drop}
use lib.Seq.{drop-drop}
use Rattle.format.specs.State.{State, Record, Next, bad, end, on, made}
use Rattle.format.specs.Refusals.{Result, stop, also, Good, Refusal}
use Rattle.format.specs.Reading.{next, after_item, run, items_of}
use Rattle.format.proofs.IterateLaws.{iter_eq}
use Rattle.format.proofs.ReadingLaws.{SizedNext, next_sized, next_there_lem, run_eq}
use Rattle.strict.specs.Strict.{Judgement, fine, faulty, judged, Stand, unless, after_strictly, strict_step, strict_run, strict_items}

-- ---- the equation of `strict_run`

after_cong : (m room : ℕ) (x : Next) (at : ℕ) (s : List ℕ) (earlier : List Record) (f g : ℕ → Stand → Result) → SizedNext m x
    → ((k : ℕ) (y : Stand) → 0 < k → k ≤ m → f k y ≡ g k y) → after_strictly x room at s earlier f ≡ after_strictly x room at s earlier g
after_cong m room (bad k) at s earlier f g z e = refl
after_cong m room end at s earlier f g z e = refl
after_cong m room (on n st) at s earlier f g z e = e n _ z.0 z.1
after_cong m room (made n r st) at s earlier f g z e = ap (λ (y : Result). unless (judged room earlier r) at (also r y)) (e n _ z.0 z.1)

strict_cong : (version room at : ℕ) (s : List ℕ) (x : Stand) (f g : ℕ → Stand → Result)
    → ((k : ℕ) (y : Stand) → 0 < k → k ≤ length s → f k y ≡ g k y) → strict_step version room at s x f ≡ strict_step version room at s x g
unfolding strict_step
strict_cong version room at s x f g e = after_cong (length s) room (next version s x.state) at s x.earlier f g (next_sized version s x.state) e

-- strict reading of s is that of its first item, and then of what follows it
pub strict_eq : (version room at : ℕ) (s : List ℕ) (x : Stand) → strict_run version room at s x ≡ after_strictly (next version s x.state) room at s x.earlier
    (λ n y. strict_run version room (at + n) (drop n s) y)
unfolding strict_run strict_step
strict_eq version room at s x = iter_eq (strict_step version room) (λ p. stop (Refusal 5 p)) (strict_cong version room) at s x

-- at a place of a file, by what the item there comes to
pub strict_left : (version room : ℕ) (file : List ℕ) (at : ℕ) (x : Stand) {y : Next} → y ≡ next version (take (length file - at) (drop at file)) x.state
    → strict_run version room at (drop at file) x ≡ after_strictly y room at (drop at file) x.earlier (λ n z. strict_run version room (at + n) (drop (at + n) file) z)
strict_left version room file at x {y} e =
    strict_eq version room at (drop at file) x ∙ rw (next_there_lem version file at x.state e) (item_same y)
  where
    item_same : (y : Next) → after_strictly y room at (drop at file) x.earlier (λ n z. strict_run version room (at + n) (drop n (drop at file)) z) ≡ after_strictly y room at (drop at file) x.earlier (λ n z. strict_run version room (at + n) (drop (at + n) file) z)
    item_same (bad k) = refl
    item_same end = refl
    item_same (on n st) = ap (λ (s : List ℕ). strict_run version room (at + n) s (record { state = st; earlier = x.earlier })) (drop-drop n at file)
    item_same (made n r st) =
        ap (λ (s : List ℕ). unless (judged room x.earlier r) at (also r (strict_run version room (at + n) s (record { state = st; earlier = r ∷ x.earlier })))) (drop-drop n at file)

-- ---- where strict reading finds nothing to refuse, ordinary reading gives the same records

module _ (version room : ℕ) where
  abbrev Same : Result → Result → Type 0
  Same x y = x.verdict ≡ Good → x ≡ y

  same_unless : (j : Judgement) (at : ℕ) (r : Record) (x y : Result) → Same x y → Same (unless j at (also r x)) (also r y)
  same_unless fine at r x y h e = ap (also r) (h e)
  same_unless (faulty k) at r x y h e = let z : ◌≡◌ {A = ℕ} 0 1 = cc in absurd (omega arith)

  same_after : (x : Next) (m at : ℕ) (s : List ℕ) (earlier : List Record) (f : ℕ → Stand → Result) (g : ℕ → State → Result) → SizedNext m x
      → ((n : ℕ) (st : State) (before : List Record) → 1 ≤ n → n ≤ m → Same (f n (record { state = st; earlier = before })) (g n st))
      → Same (after_strictly x room at s earlier f) (after_item x at s g)
  same_after (bad k) m at s earlier f g z h e = refl
  same_after end m at s earlier f g z h e = refl
  same_after (on n st) m at s earlier f g z h e = h n st earlier z.0 z.1 e
  same_after (made n r st) m at s earlier f g z h e = same_unless (judged room earlier r) at r (f n (record { state = st; earlier = r ∷ earlier })) (g n st) (h n st (r ∷ earlier) z.0 z.1) e

  same_run : (fuel at : ℕ) (s : List ℕ) (x : Stand) → length s < fuel → Same (strict_run version room at s x) (run version at s x.state)
  same_run zero at s x h = absurd (omega arith)
  same_run (suc fuel) at s x h =
      rw (strict_eq version room at s x, run_eq version at s x.state)
      (same_after (next version s x.state) (length s) at s x.earlier _ _ (next_sized version s x.state)
      (λ n st before l k. same_run fuel (at + n) (drop n s) (record { state = st; earlier = before }) (simp length-drop (omega arith))))

  pub strict_same : (place : ℕ) (file : List ℕ) → (strict_items version room place file).verdict ≡ Good → strict_items version room place file ≡ items_of version place file
  unfolding strict_items items_of
  strict_same place file e = same_run (suc (length (drop place file))) place (drop place file) _ (omega arith) e
