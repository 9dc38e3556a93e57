-- `month_length` meets its contract: a month is what the days before the next have more. Assumes nothing.
use Prim.Native.Nat.{◌+◌, ◌-◌}
use mathlib.Core.Path.{◌≡◌, ap, ◌∙◌}
use native.Mathlib.Omega.{arith}
use Rattle.format.specs.Times.{month_days, month_length}
use Rattle.seconds.proofs.Days.{months_next}
use Rattle.seconds.proofs.month_length.Goals as goal

pub overflow_sub-result : goal.overflow_sub-result
overflow_sub-result c =
    omega (
      arith,
      (let it : c.days_before-next.result ≡ c.days_before.result + month_length c.args.extra
          c.args.month = let e : c.args.month + 1 - 1 ≡ c.args.month = omega arith in
          c.days_before-next.ensures
          ∙ ap (month_days c.args.extra) e
          ∙ months_next c.args.extra c.args.month c.requires.1
          ∙ rw (← c.days_before.ensures) in it),
    )

pub returns : goal.returns
returns c =
    omega (
      arith,
      (let it : c.days_before-next.result ≡ c.days_before.result + month_length c.args.extra
          c.args.month = let e : c.args.month + 1 - 1 ≡ c.args.month = omega arith in
          c.days_before-next.ensures
          ∙ ap (month_days c.args.extra) e
          ∙ months_next c.args.extra c.args.month c.requires.1
          ∙ rw (← c.days_before.ensures) in it),
    )
