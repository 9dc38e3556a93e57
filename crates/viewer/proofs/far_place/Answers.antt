-- `viewer::far_place` meets its contract. Assumes nothing.
use native.Mathlib.Omega.{arith}
use mathlib.Core.Path.{◌≡◌, sym, ◌∙◌}
use lib.Dec.{ltb}
use lib.IntN.{◌-ℤ◌, nat_abs}
use Rattle.format.specs.Viewer.{farthest}
use Rattle.viewer.proofs.Differences.{came_far, far_first, far_second, far_third}
use Rattle.viewer.proofs.far_place.Goals as goal

pub returns-then-is_far : goal.returns-then-is_far
returns-then-is_far c =
    far_first (c.args.c.x -ℤ c.args.origin.x) (c.args.c.y -ℤ c.args.origin.y) (c.args.c.z -ℤ c.args.origin.z) (sym ((let it : c.is_far.result ≡ ltb farthest (nat_abs (c.args.c.x -ℤ c.args.origin.x)) = came_far c.args.c.x c.args.origin.x _ (omega arith) (omega arith) c.is_far.ensures in it)) ∙ c.if-is_far.true)

pub returns-then-is_far-2 : goal.returns-then-is_far-2
returns-then-is_far-2 c =
    far_second (c.args.c.x -ℤ c.args.origin.x) (c.args.c.y -ℤ c.args.origin.y) (c.args.c.z -ℤ c.args.origin.z)
    (sym (let it : c.is_far.result ≡ ltb farthest (nat_abs (c.args.c.x -ℤ c.args.origin.x)) = came_far c.args.c.x c.args.origin.x _ (omega arith) (omega arith) c.is_far.ensures in it) ∙ c.if-is_far.false)
    (sym ((let it : c.is_far-2.result ≡ ltb farthest (nat_abs (c.args.c.y -ℤ c.args.origin.y)) = came_far c.args.c.y c.args.origin.y _ (omega arith) (omega arith) c.is_far-2.ensures in it)) ∙ c.if-is_far-2.true)

pub returns : goal.returns
returns c =
    far_third (c.args.c.x -ℤ c.args.origin.x) (c.args.c.y -ℤ c.args.origin.y) (c.args.c.z -ℤ c.args.origin.z)
    (sym (let it : c.is_far.result ≡ ltb farthest (nat_abs (c.args.c.x -ℤ c.args.origin.x)) = came_far c.args.c.x c.args.origin.x _ (omega arith) (omega arith) c.is_far.ensures in it) ∙ c.if-is_far.false)
    (sym (let it : c.is_far-2.result ≡ ltb farthest (nat_abs (c.args.c.y -ℤ c.args.origin.y)) = came_far c.args.c.y c.args.origin.y _ (omega arith) (omega arith) c.is_far-2.ensures in it) ∙ c.if-is_far-2.false)
    _
    ((let it : c.is_far-3.result ≡ ltb farthest (nat_abs (c.args.c.z -ℤ c.args.origin.z)) = came_far c.args.c.z c.args.origin.z _ (omega arith) (omega arith) c.is_far-3.ensures in it))
