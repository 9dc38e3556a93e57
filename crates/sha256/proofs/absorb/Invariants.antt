-- `sha256::absorb` meets its contract. Assumes nothing.
use Rattle.std.proofs.Common.{◌≡◌, ◌*◌, ◌-◌, ◌/◌, length, drop}
use Rattle.sha256.specs.Digest.{blocks}
use Rattle.sha256.proofs.absorb.Given as goal

abbrev pub invariant-loop-n : goal.invariant-loop-n
invariant-loop-n l = blocks ((length l.bytes - l.n * 64) / 64) (drop (l.n * 64) l.bytes) l.s ≡ blocks (length l.bytes / 64) l.bytes l.initial.s
