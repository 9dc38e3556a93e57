-- Pieces that are written one after another, on plain values. Assumes nothing.
use Prim.Native.Nat.{ℕ, ◌+◌, ◌-◌, ◌≤◌, ◌<◌}
use mathlib.Core.Path.{◌≡◌, refl, sym, ap, ap₂, ◌∙◌}
use mathlib.Core.List.{List, [], ◌++◌}
use native.Mathlib.Omega.{arith}
use lib.ListN.{length, take, drop, length-append}
use Rattle.format.specs.Bytes.{over}
use Rattle.wire.specs.Laid.{laid}
use Rattle.wire.proofs.Laws.{laid_nil, laid_zero, laid_next, laid_part, length_laid}
use Rattle.part.specs.Lays.{Lays, Puts}

-- ---- `put`

module _ (d s : List ℕ) (k : ℕ) where
  pub put_none : length d < k + length s → Lays d d k s (length s) (k + length s)
  put_none h = record { end = refl; most = omega arith; kept = refl; laid_in = λ q. absurd (omega arith) }

  pub put_some : k + length s ≤ length d → (y : List ℕ) → y ≡ over s (take (length d - k) (drop k d))
      → Lays d (take k d ++ (y ++ drop (length d - k) (drop k d))) k s (length s) (k + length s)
  put_some h y e =
      let z : take k d ++ (y ++ drop (length d - k) (drop k d)) ≡ laid d k s = rw e (laid_part d s k (omega arith) (length d) refl) in
      record { end = refl; most = omega arith; kept = ap length z ∙ length_laid d s k h; laid_in = λ q. z }

-- ---- no piece, a piece and then another, a piece from the front on

pub lays_none : {d : List ℕ} {k : ℕ} (m : ℕ) → Lays d d k [] m k
lays_none {d} {k} m = record { end = omega arith; most = omega arith; kept = refl; laid_in = λ q. sym (laid_nil d k) }

module _ {d d' X : List ℕ} {k m r : ℕ} (f : Lays d d' k X m r) where
  pub lays_as : {Y : List ℕ} → X ≡ Y → Lays d d' k Y m r
  lays_as e = rw e at f

  pub lays_within : (n : ℕ) → m ≤ n → Lays d d' k X n r
  lays_within n h = record { end = f.end; most = omega (arith, f.most); kept = f.kept; laid_in = f.laid_in }

pub lays_then : {d e f X Y : List ℕ} {k a b m n : ℕ} → Lays d e k X m a → Lays e f a Y n b → Lays d f k (X ++ Y) (m + n) b
lays_then {d} {e} {f} {X} {Y} {k} {a} {b} {m} {n} p q =
    let l = length-append X Y in
    record {
      end = omega (arith, p.end, q.end);
      most = omega (arith, p.most, q.most);
      kept = q.kept ∙ p.kept;
      laid_in = λ h.
          let x = p.laid_in (omega (arith, q.end)) in
          let y = q.laid_in (omega (arith, p.kept)) in
          y ∙ ap₂ (λ (z : List ℕ) (i : ℕ). laid z i Y) x p.end ∙ laid_next d X Y k (omega (arith, p.end, q.end));
    }

pub puts_front : {d d' X : List ℕ} {m r : ℕ} → Lays d d' 0 X m r → Puts d d' X m r
puts_front {d} {d'} {X} f = record { size = omega (arith, f.end); most = omega (arith, f.most); kept = f.kept; written = λ h. f.laid_in h ∙ laid_zero d X }
