-- `sha256::early_rounds` meets its contract. Assumes nothing.
use Rattle.std.proofs.Common.{◌≡◌, ◌*◌, take}
use Rattle.sha256.specs.Digest.{rounds}
use Rattle.sha256.proofs.early_rounds.Given as goal

abbrev pub invariant-loop-turn : goal.invariant-loop-turn
invariant-loop-turn l = l.s ≡ rounds (take (4 * l.turn) l.k) (take (4 * l.turn) l.w) l.initial.s
