-- Numbers in a row, of points, dimensions and traverse errors: what an item is written with is read back. Assumes nothing.
use Prim.Native.Nat.{ℕ, ◌<◌}
use mathlib.Core.Path.{◌≡◌, refl}
use mathlib.Core.List.{List, ◌++◌}
use mathlib.Core.Bool.{Bool, true, false, ◌||◌}
use lib.ListN.{length}
use lib.Dec.{leb}
use borrow.Author.Tests.{leb-true}
use Rattle.format.specs.Bytes.{le16, le32, to_le16, to_le32, widened}
use Rattle.format.specs.Items.{point_of, dimensions_of, traverse_of}
use Rattle.format.specs.Sheet.{point_bytes, dimension_bytes, traverse_bytes}
use Rattle.format.specs.WellFormed.{GoodPoint, GoodDimensions, GoodTraverse}
use Rattle.format.specs.Codes.{fits_short, all_short}
use Rattle.format.specs.declared.Point.{Point}
use Rattle.format.specs.declared.Dimensions.{Dimensions}
use Rattle.format.specs.declared.Traverse.{Traverse}
use Rattle.format.proofs.Basics.{both, le32_to, widened_low, widened_high}

pub point_back : (p : Point) (rest : List ℕ) → GoodPoint p → point_of le32 (point_bytes to_le32 p ++ rest) ≡ p
unfolding to_le32
point_back p rest g = simp (le32_to, g.x_fits, g.y_fits, g.z_fits)

pub traverse_back : (t : Traverse) (rest : List ℕ) → GoodTraverse t → traverse_of le32 (traverse_bytes to_le32 t ++ rest) ≡ t
unfolding to_le32
traverse_back t rest g = simp (le32_to, g.legs_fit, g.total_fits, g.e_fits, g.h_fits, g.v_fits)

pub wide_dimensions_back : (d : Dimensions) (rest : List ℕ) → GoodDimensions d → dimensions_of 4 le32 (dimension_bytes to_le32 d ++ rest) ≡ d
unfolding to_le32
wide_dimensions_back d rest g = simp (le32_to, g.left_fits, g.right_fits, g.up_fits, g.down_fits)

-- an i32 that fits an i16 is written in two bytes
short_back : (n : ℕ) (rest : List ℕ) → fits_short n ≡ true → n < 4294967296 → widened (le16 (to_le16 n ++ rest)) ≡ n
unfolding fits_short
short_back n rest f h = go (leb n 32767) refl f
  where
    go : (b : Bool) → leb n 32767 ≡ b → (b || leb 4294934528 n) ≡ true → widened (le16 (to_le16 n ++ rest)) ≡ n
    go true e q = widened_low n rest (leb-true n 32767 e)
    go false e q = widened_high n rest (leb-true 4294934528 n q) h

pub short_dimensions_back : (d : Dimensions) (rest : List ℕ) → GoodDimensions d → all_short d ≡ true
    → dimensions_of 2 (λ s. widened (le16 s)) (dimension_bytes to_le16 d ++ rest) ≡ d
unfolding all_short to_le16
short_dimensions_back d rest g e =
    let p = both (fits_short d.left) _ e in
    let q = both (fits_short d.right) _ p.1 in
    let r = both (fits_short d.up) (fits_short d.down) q.1 in
    simp (short_back, p.0, q.0, r.0, r.1, g.left_fits, g.right_fits, g.up_fits, g.down_fits)

-- ---- lengths, which do not depend on the numbers

pub le16_width : (n : ℕ) → length (to_le16 n) ≡ 2
unfolding to_le16
le16_width n = refl

pub le32_width : (n : ℕ) → length (to_le32 n) ≡ 4
unfolding to_le32
le32_width n = refl
