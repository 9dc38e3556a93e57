-- What was taken in of a message after a part more, in the numbers that its caller holds. Assumes nothing.
use Prim.Native.Nat.{ℕ}
use mathlib.Core.Path.{◌≡◌, ap, ◌∙◌}
use mathlib.Core.List.{List}
use Rattle.sha256.specs.Streams.{updated, stream_of, running_of, state_stream}
use Rattle.sha256.specs.declared.Running.{Running}

pub update_stores : (s n d d' b : List ℕ) (run next : Running) → run ≡ running_of s → running_of n ≡ next → stream_of next d' ≡ updated (stream_of run d) b
    → state_stream n d' ≡ updated (state_stream s d) b
update_stores s n d d' b run next e f u =
    ap (λ (y : Running). stream_of y d') f ∙ (u ∙ ap (λ (y : Running). updated (stream_of y d) b) e)
