-- The old bytes that end an edited file, on plain values: they are laid behind what is written, and the answer is `settle`'s. Assumes
-- nothing.
use Rattle.std.specs.Prelude.{Result}
use Prim.Native.Nat.{ℕ, ◌+◌, ◌-◌, ◌≤◌}
use mathlib.Core.Path.{◌≡◌, refl, sym, ap, ◌∙◌}
use mathlib.Core.List.{List, ◌++◌}
use native.Mathlib.Omega.{arith}
use lib.ListN.{length, take, drop}
use lib.Seq.{take_at, length-take-le}
use Rattle.format.specs.Bytes.{over}
use Rattle.format.specs.Writing.{v8}
use Rattle.format.specs.Answers.{answer_of, verdict_of}
use Rattle.format.specs.declared.Done.{Done}
use Rattle.format.specs.declared.Refusal.{Refusal}
use Rattle.format.proofs.Basics.{less_or_not}
use Rattle.wire.specs.Laid.{laid, laid_if}
use Rattle.wire.proofs.Laws.{laid_none, laid_some, laid_part, length_laid}
use Rattle.counts.specs.Tallies.{settled, final_outcome, Finished}
use Rattle.counts.specs.declared.Tally.{Tally}

pub laid_length : (d : List ℕ) (k : ℕ) (s : List ℕ) → length (laid_if d k s) ≡ length d
laid_length d k s = less_or_not (length d) (k + length s) (λ h. ap length (laid_none d s k h)) λ h. ap length (laid_some d s k h) ∙ length_laid d s k h

pub lay_fits : (d s y : List ℕ) (at : ℕ) → at + length s ≤ length d → y ≡ over s (take (length d - at) (drop at d))
    → take at d ++ (y ++ drop (length d - at) (drop at d)) ≡ laid_if d at s
lay_fits d s y at h e = rw e (laid_part d s at (omega arith) (length d) refl) ∙ sym (laid_some d s at h)

laid_stays : (d : List ℕ) (k : ℕ) (s : List ℕ) → k ≤ length d → take k (laid_if d k s) ≡ take k d
unfolding laid
laid_stays d k s l =
    less_or_not (length d) (k + length s) (λ h. ap (take k) (laid_none d s k h))
    λ h. ap (take k) (laid_some d s k h) ∙ take_at (take k d) _ k (length-take-le k d l)

-- d' is what laying the tail leaves
pub tail_finished : (d tail : List ℕ) (t : Tally) {d' : List ℕ} → d' ≡ laid_if d t.bytes tail → (r : Result Done Refusal)
    → answer_of r ≡ settled 8 (verdict_of t.fault) (t.bytes + length tail) t.records → Finished v8 d d' tail t r
unfolding final_outcome
tail_finished d tail t e r q =
    record {
      answer = q;
      kept = ap length e ∙ laid_length d t.bytes tail;
      stays = λ l. ap (take t.bytes) e ∙ laid_stays d t.bytes tail l;
      written = λ h. e ∙ laid_some d tail t.bytes h;
    }
