-- An item of n bytes: the answer where they are not all there, and where they are. Assumes nothing.
use Rattle.std.specs.Prelude.{Result, Err}
use Prim.Native.Nat.{ℕ, ◌≤◌, ◌<◌}
use mathlib.Core.Path.{◌≡◌, ◌∙◌}
use mathlib.Core.List.{List}
use lib.ListN.{length}
use borrow.Author.Tests.{lt-ltb, le-ltb}
use Rattle.format.specs.Bytes.{pick}
use Rattle.format.specs.Items.{Item, Decoded, whole, sized}
use Rattle.decode.specs.Seen.{item_seen, Sound, Reads}
use Rattle.decode.specs.declared.Item.{Item as Told}
use Rattle.format.specs.declared.Fault.{Fault}
use Rattle.format.specs.declared.Fault.TheVariants.{Unfinished}

-- an answer that reads x, where x is y
pub reads_as : {r : Result Told Fault} {s : List ℕ} {x y : Decoded} → Reads r s x → x ≡ y → Reads r s y
reads_as R e = record { same = R.same ∙ e; sound = R.sound }

module _ (n : ℕ) (s : List ℕ) (it : Item) where
  pub reads_short : length s < n → Reads (Err Unfinished) s (sized n s it)
  unfolding sized pick
  reads_short h = record { same = simp (lt-ltb _ _ h); sound = tt }

  pub reads_whole : {r : Result Told Fault} → n ≤ length s → item_seen r s ≡ whole n it → Sound r s → Reads r s (sized n s it)
  unfolding sized pick
  reads_whole h e f = record { same = simp (le-ltb _ _ h) e; sound = f }
