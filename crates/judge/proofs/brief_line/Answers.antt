-- `judge::brief_line` meets its contract. Assumes nothing.
use native.Mathlib.Omega.{arith}
use Rattle.judge.proofs.Briefly.{brief_line_is}
use Rattle.judge.proofs.brief_line.Goals as goal

pub returns-else-label-keep : goal.returns-else-label-keep
returns-else-label-keep c =
    brief_line_is c.args.s.now c.args.label.now c.args.len c.index-part.result c.requires.0 c.requires.1
    c.if-s-lt29.false
    c.if-code-lt64.false
    c.if-code-gt71.false
    c.index-part.ensures.0
    c.index-part.ensures.1
    c.if-part-eq0.false c.if-len-off.false
    c.if-keep.false (λ h k q. c.if-label-keep.false q)

pub returns-else-add-ne0 : goal.returns-else-add-ne0
returns-else-add-ne0 c =
    let z = c.if-add-ne0.false in
    brief_line_is c.args.s.now c.args.label.now c.args.len c.index-part.result c.requires.0 c.requires.1
    c.if-s-lt29.false
    c.if-code-lt64.false c.if-code-gt71.false
    c.index-part.ensures.0 c.index-part.ensures.1
    c.if-part-eq0.false c.if-len-off.false c.if-keep.false (λ h k q. omega (arith, k, z))

pub returns-else-off-ne0 : goal.returns-else-off-ne0
returns-else-off-ne0 c =
    let z = c.if-off-ne0.false in
    brief_line_is c.args.s.now c.args.label.now c.args.len c.index-part.result c.requires.0 c.requires.1
    c.if-s-lt29.false
    c.if-code-lt64.false c.if-code-gt71.false
    c.index-part.ensures.0 c.index-part.ensures.1 c.if-part-eq0.false
    c.if-len-off.false c.if-keep.false (λ h k q. omega (arith, h, z))
