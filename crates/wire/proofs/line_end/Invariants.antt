-- `line_end` meets its contract. i bytes, and those before a linefeed in what is left, are all before the first linefeed. Assumes nothing.
use Prim.Native.Nat.{◌+◌}
use mathlib.Core.Path.{◌≡◌}
use lib.ListN.{drop}
use Rattle.format.specs.Header.{line_end}
use Rattle.wire.proofs.line_end.Given as goal

abbrev pub invariant-loop-i : goal.invariant-loop-i
invariant-loop-i l = l.i + line_end (drop l.i l.s) ≡ line_end l.s
