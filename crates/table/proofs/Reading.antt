-- What the code reads of a node. Assumes nothing.
use Prim.Native.Nat.{ℕ, ◌+◌, ◌-◌, ◌*◌}
use mathlib.Core.Path.{◌≡◌, refl, sym, ◌∙◌}
use mathlib.Core.List.{List}
use mathlib.Core.Bool.{Bool, true, false}
use native.Mathlib.Omega.{arith}
use lib.ListN.{length, drop, take}
use lib.Seq.{drop-drop}
use Rattle.format.specs.Bytes.{le16, le32, same}
use Rattle.piece.specs.Pieces.{le40, piece}
use Rattle.format.proofs.Basics.{same_true, same_refl}
use Rattle.table.specs.Room.{start_at, size_at, hash_at, name_at}
use Rattle.table.specs.Good.{Hit}
use Rattle.table.specs.Told.{Says}

module _ (r : List ℕ) (i : ℕ) where
  pub hash_here : le32 (drop 7 (drop (32 * i) r)) ≡ hash_at r i
  unfolding hash_at
  hash_here = rw (drop-drop 7 (32 * i) r)

  pub size_here : le16 (drop 5 (drop (32 * i) r)) ≡ size_at r i
  unfolding size_at
  size_here = rw (drop-drop 5 (32 * i) r)

  pub start_here : le40 (drop (32 * i) r) ≡ start_at r i
  unfolding start_at
  start_here = refl

  pub name_here : (start size : ℕ) → start ≡ start_at r i → size ≡ size_at r i → take (length r - start + size - (length r - start)) (drop (length r - start) r) ≡ name_at r i
  unfolding name_at piece
  name_here start size a b =
      let e : length r - start + size - (length r - start) ≡ size = omega arith in
      rw (e, a, b)

  pub says : (h : ℕ) (name : List ℕ) (b : Bool) → hash_at r i ≡ h → b ≡ same (name_at r i) name → Says b (Hit r i h name)
  says h name true t e = record { hash = t; name_same = same_true (name_at r i) name (sym e) }
  says h name false t e = λ x. let q : false ≡ true = e ∙ rw x.name_same (same_refl name) in let z : ◌≡◌ {A = ℕ} 0 1 = cc in omega arith
