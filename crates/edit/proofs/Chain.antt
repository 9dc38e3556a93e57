-- Records written one after another, in pieces. Assumes nothing.
use Prim.Native.Nat.{ℕ, ◌+◌}
use mathlib.Core.Path.{◌≡◌, sym, ap, ◌∙◌}
use mathlib.Core.List.{List, [], ◌∷◌, ◌++◌}
use lib.ListN.{length, take, drop}
use lib.Seq.{drop-drop, take-add}
use Rattle.format.specs.State.{State, Record}
use Rattle.format.specs.Refusals.{Result}
use Rattle.counts.specs.declared.Tally.{Tally}
use Rattle.format.specs.Writing.{v8}
use Rattle.counts.proofs.Left.{Left, left_more}
use Rattle.edit.specs.Pens.{Written, none, more}

pub written_then : {st st' st'' : State} {d d' d'' : List ℕ} {t t' t'' : Tally} {rs ts : List Record} → Written st d t rs st' d' t'
    → Written st' d' t' ts st'' d'' t'' → Written st d t (rs ++ ts) st'' d'' t''
written_then none w = w
written_then (more A v) w = more A (written_then v w)

-- what is left once they are written
pub left_written : {st st' : State} {d d' : List ℕ} {t t' : Tally} {rs : List Record} → Written st d t rs st' d' t'
    → (x₀ : Result) (head : ℕ) (d₀ : List ℕ) (x : Result)
    → Left v8 x₀ head d₀ d t st (record { records = rs ++ x.records; verdict = x.verdict }) → length d ≡ length d₀
    → (Left v8 x₀ head d₀ d' t' st' x) × (length d' ≡ length d₀)
left_written none x₀ head d₀ x L k = (L, k)
left_written (more {st = st} {d = d} {d' = d₁} {t = t} {t' = t₁} {r = r} {rs = rs} A w) x₀ head d₀ x L k =
    left_written w x₀ head d₀ x (left_more v8 x₀ head d₀ d d₁ t t₁ st r (record { records = rs ++ x.records; verdict = x.verdict }) L k A) (A.kept ∙ k)

-- ---- one record further in a list

module _ (k : ℕ) (rs : List Record) (r : Record) (ts : List Record) (e : drop k rs ≡ r ∷ ts) where
  pub drop_next : drop (k + 1) rs ≡ ts
  drop_next = sym (drop-drop 1 k rs) ∙ ap (drop 1) e

  pub take_next : take (k + 1) rs ≡ take k rs ++ (r ∷ [])
  take_next = take-add k 1 rs ∙ ap (λ (l : List Record). take k rs ++ take 1 l) e
