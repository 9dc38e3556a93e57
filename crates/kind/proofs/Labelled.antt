-- An item with a label: its size, and the bytes to append where they lie. Assumes nothing.
use Rattle.std.specs.Prelude.{Option, None}
use mathlib.Core.Path.{◌≡◌, ◌∙◌}
use mathlib.Core.List.{List}
use mathlib.Core.Bool.{Bool}
use Prim.Native.Nat.{ℕ, ◌+◌, ◌≤◌}
use lib.ListN.{length, take, drop}
use lib.Seq.{drop-drop}
use Rattle.format.specs.Bytes.{pick}
use Rattle.format.specs.Items.{faulty, whole, numbers}
use Rattle.format.specs.declared.LabelPart.{LabelPart}
use Rattle.length.specs.Parts.{finished}
use Rattle.length.proofs.Finished.{finished_fits, labelled_none, labelled_some}
use Rattle.kind.specs.Kinds.{tail_of, make_of, labelled_by, part_there}
use Rattle.kind.specs.declared.Tail.{Tail}

module _ (s : List ℕ) (bare : Bool) (tail : Tail) (p : List ℕ → Option LabelPart) where
  pub labelled_short : None ≡ part_there bare tail p s → faulty 5 ≡ labelled_by bare tail p (drop 1 s)
  unfolding labelled_by
  labelled_short e = labelled_none (drop 1 s) (tail_of tail) (make_of tail) (pick bare (numbers 0 0 0) (p (drop 1 s))) e

  pub labelled_fits : (k d a : ℕ) → numbers k d a ≡ part_there bare tail p s → k + a + tail_of tail ≤ length (drop 1 s)
  labelled_fits k d a e = finished_fits (drop 1 s) (tail_of tail) (pick bare (numbers 0 0 0) (p (drop 1 s))) k d a e

  pub labelled_made : (k d a : ℕ) → numbers k d a ≡ part_there bare tail p s
      → whole (1 + (k + a + tail_of tail)) (make_of tail d (take a (drop (1 + k) s)) (drop (1 + (k + a)) s)) ≡ labelled_by bare tail p (drop 1 s)
  unfolding labelled_by
  labelled_made k d a e = rw (← drop-drop k 1 s, ← drop-drop (k + a) 1 s)
      (labelled_some (drop 1 s) (tail_of tail) (make_of tail) (pick bare (numbers 0 0 0) (p (drop 1 s))) k d a e)

  -- the part x, and the count n of what follows, as the code has them
  pub labelled_there : (x q : Option LabelPart) (n : ℕ) → x ≡ pick bare (numbers 0 0 0) (p (drop 1 s)) → n ≡ tail_of tail → q ≡ finished x (drop 1 s) n
      → q ≡ part_there bare tail p s
  labelled_there x q n ex en e = e ∙ rw (ex, en)
