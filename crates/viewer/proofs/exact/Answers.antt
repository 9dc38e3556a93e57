-- `viewer::exact` meets its contract. Assumes nothing.
use mathlib.Core.Path.{◌≡◌, ◌∙◌}
use lib.IntN.{◌-ℤ◌}
use Rattle.viewer.proofs.Differences.{passed, float_fits, float_is}
use Rattle.viewer.proofs.exact.Goals as goal

pub int_to_float-result : goal.int_to_float-result
int_to_float-result c = float_fits _ _ c.less-d.type_inv ((let it : c.less-d.result ≡ c.args.a -ℤ c.args.o = c.less-d.ensures ∙ passed c.args.a c.args.o c.ranges.a c.ranges.o in it)) c.requires

pub returns : goal.returns
returns c = float_is _ _ c.less-d.type_inv ((let it : c.less-d.result ≡ c.args.a -ℤ c.args.o = c.less-d.ensures ∙ passed c.args.a c.args.o c.ranges.a c.ranges.o in it))
