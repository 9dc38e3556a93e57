-- `judge::judge_records` meets its contract. Assumes nothing.
use Rattle.judge.proofs.Walk.{Judging}
use Rattle.judge.proofs.judge_records.Given as goal

abbrev pub invariant-loop-passed : goal.invariant-loop-passed
invariant-loop-passed l =
    Judging l.file l.initial.place l.initial.label l.limit l.place l.label l.passed l.spare.bytes l.room
