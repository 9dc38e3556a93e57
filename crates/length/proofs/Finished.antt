-- An item with a label part, where the part is finished. Assumes nothing.
use Rattle.std.specs.Prelude.{Option, None, Some}
use mathlib.Core.Path.{◌≡◌, refl, sym}
use mathlib.Core.List.{List}
use mathlib.Core.Bool.{Bool, true, false}
use Prim.Native.Nat.{ℕ, ◌+◌, ◌≤◌}
use native.Mathlib.Omega.{arith}
use lib.ListN.{length, take, drop}
use lib.Dec.{ltb}
use borrow.Author.Tests.{ltb-false}
use Rattle.format.specs.Bytes.{pick}
use Rattle.format.specs.Items.{Item, faulty, whole, sized, labelled_item, numbers}
use Rattle.format.specs.declared.LabelPart.{LabelPart}
use Rattle.format.proofs.Basics.{second_picked}
use Rattle.format.proofs.ShortestItems.{same_numbers}
use Rattle.length.specs.Parts.{finished}

-- ---- a part with its bytes and n more

module _ (t : List ℕ) (n : ℕ) where
  -- a finished part is the part, and there
  finished_is : (l c b k d a : ℕ) → numbers k d a ≡ finished (numbers l c b) t n → (ltb (length t) (l + b + n) ≡ false) × (k ≡ l) × (d ≡ c) × (a ≡ b)
  finished_is l c b k d a e =
      let p = second_picked (λ q. let z : ◌≡◌ {A = ℕ} 0 1 = cc in omega arith) (sym e) in
      let s = same_numbers p.1 in
      (p.0, sym s.0, sym s.1, sym s.2)

  pub finished_fits : (p : Option LabelPart) (k d a : ℕ) → numbers k d a ≡ finished p t n → k + a + n ≤ length t
  finished_fits None k d a e = absurd (let z : ◌≡◌ {A = ℕ} 0 1 = cc in omega arith)
  finished_fits (Some q) k d a e =
      let f = finished_is q.size q.drop q.add k d a e in
      omega (arith, f.1, f.3, ltb-false (length t) (q.size + q.add + n) f.0)

  module _ (make : ℕ → List ℕ → List ℕ → Item) where
    pub labelled_none : (p : Option LabelPart) → None ≡ finished p t n → faulty 5 ≡ labelled_item p t n make
    unfolding labelled_item sized pick
    labelled_none None e = refl
    labelled_none (Some q) e = go (ltb (length t) (q.size + q.add + n)) refl e
      where
        go : (f : Bool) → ltb (length t) (q.size + q.add + n) ≡ f → None ≡ pick f None (numbers q.size q.drop q.add) → faulty 5 ≡ labelled_item (numbers q.size q.drop q.add) t n make
        go true f e = rw f
        go false f e = cc

    pub labelled_some : (p : Option LabelPart) (k d a : ℕ) → numbers k d a ≡ finished p t n
        → whole (1 + (k + a + n)) (make d (take a (drop k t)) (drop (k + a) t)) ≡ labelled_item p t n make
    unfolding labelled_item sized pick
    labelled_some None k d a e = absurd (let z : ◌≡◌ {A = ℕ} 0 1 = cc in omega arith)
    labelled_some (Some q) k d a e = let f = finished_is q.size q.drop q.add k d a e in rw (f.0, f.1, f.2, f.3)
