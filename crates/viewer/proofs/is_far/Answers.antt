-- `viewer::is_far` meets its contract. Assumes nothing.
use mathlib.Core.Path.{◌≡◌, ◌∙◌}
use lib.IntN.{◌-ℤ◌}
use Rattle.viewer.proofs.Differences.{passed, far_above, far_below}
use Rattle.viewer.proofs.is_far.Goals as goal

pub returns-then-d-gt-FARTHEST : goal.returns-then-d-gt-FARTHEST
returns-then-d-gt-FARTHEST c = far_above _ _ c.less-d.type_inv ((let it : c.less-d.result ≡ c.args.a -ℤ c.args.o = c.less-d.ensures ∙ passed c.args.a c.args.o c.ranges.a c.ranges.o in it)) c.if-d-gt-FARTHEST.true

pub returns : goal.returns
returns c = far_below _ _ c.less-d.type_inv ((let it : c.less-d.result ≡ c.args.a -ℤ c.args.o = c.less-d.ensures ∙ passed c.args.a c.args.o c.ranges.a c.ranges.o in it)) c.if-d-gt-FARTHEST.false
