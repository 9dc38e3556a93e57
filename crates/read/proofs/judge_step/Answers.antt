-- `read::judge_step` meets its contract. Assumes nothing.
use native.Mathlib.Omega.{arith}
use mathlib.Core.Path.{refl}
use Rattle.read.proofs.Ruling.{record_bytes}
use Rattle.read.proofs.judge_step.Goals as goal

pub judge-requires : goal.judge-requires
judge-requires c =
    (c.requires.0, rw c.in-Made.is at c.requires.1, c.requires.2, c.requires.3)

pub record_size-requires : goal.record_size-requires
record_size-requires c =
    rw c.in-Made.is at c.requires.1

pub returns-in-End : goal.returns-in-End
returns-in-End c = rw c.in-End.is (λ earlier K. refl)

pub returns-in-On : goal.returns-in-On
returns-in-On c =
    let e = c.in-On.is in
    let h = rw e at c.requires.1 in
    rw e (λ earlier K. ((refl, refl, refl, refl), h, omega arith, K))

pub returns-in_ok-index-in-Made : goal.returns-in_ok-index-in-Made
returns-in_ok-index-in-Made c =
    let e = c.in-Made.is in
    let h = rw e at c.requires.1 in
    let J = rw c.in_ok-index-in-Made.was at c.judge.ensures in
    let n = c.record_size.ensures in
    let k = record_bytes c.in-Made.fields _ c.args.bytes.now _ h c.requires.2 n.0 in
    rw e (λ earlier K. rw (J earlier K).0 ((refl, k, refl, refl), h, n.1, (J earlier K).1))
