-- `label::label_step` meets its contract. Assumes nothing.
use native.Mathlib.Omega.{arith}
use mathlib.Core.Path.{refl, sym}
use Rattle.std.proofs.Common.{inl, inr}
use Rattle.format.proofs.LabelLaws.{step_short, step_long}
use Rattle.label.proofs.Steps.{step_whole, step_laid}
use Rattle.label.proofs.label_step.Goals as goal

pub returns-in_default : goal.returns-in_default
returns-in_default c =
    let e = rw c.in_default.is at c.kept_of-kept.ensures in
    (record { same = sym (step_short _ _ _ (sym e.0)); whole = c.requires.1; short = inl refl }, tt)

pub overflow_sub-keep : goal.overflow_sub-keep
overflow_sub-keep c =
    let e = rw c.in-Some.is at c.kept_of-kept.ensures in
    omega (arith, e.1, c.requires)

pub returns-then-keep-added : goal.returns-then-keep-added
returns-then-keep-added c =
    let e = rw c.in-Some.is at c.kept_of-kept.ensures in
    (record { same = sym (step_long _ _ _ _ (sym e.0) (omega (arith, c.if-keep-added.true))); whole = c.requires.1; short = inr refl }, tt)

pub append-requires : goal.append-requires
append-requires c =
    let e = rw c.in-Some.is at c.kept_of-kept.ensures in
    (omega (arith, e.1, c.requires, c.if-keep-added.false), c.requires.1)

pub returns : goal.returns
returns c =
    let e = rw c.in-Some.is at c.kept_of-kept.ensures in
    let h = c.if-keep-added.false in
    rw c.append.ensures (
      record {
        same = step_laid c.args.bytes.now c.args.len _ c.args.added.now c.requires.1 e.1 (omega (arith, h, e.1, c.requires)) _ e.0;
        whole = step_whole c.args.bytes.now c.args.len _ c.args.added.now c.requires.1 e.1 (omega (arith, h, e.1, c.requires));
        short = omega (arith, h, e.1, c.requires);
      },
      sym e.0,
    )
