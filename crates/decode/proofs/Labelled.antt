-- An item with a label, as its body makes it. Assumes nothing.
use Rattle.std.specs.Prelude.{Option}
use mathlib.Core.Path.{◌≡◌, refl, ap, ◌∙◌}
use mathlib.Core.List.{List}
use mathlib.Core.Bool.{Bool}
use Prim.Native.Nat.{ℕ, ◌+◌}
use lib.ListN.{take, drop}
use Rattle.format.specs.Items.{whole, numbers}
use Rattle.format.specs.declared.LabelPart.{LabelPart}
use Rattle.format.specs.declared.Cut.TheVariants.{Back}
use Rattle.kind.specs.Kinds.{tail_of, make_of, labelled_by, part_there}
use Rattle.kind.proofs.Labelled.{labelled_made}
use Rattle.decode.specs.Bodies.{Bodied, Bodies, body_item}
use Rattle.decode.specs.Seen.{relabel_item, Suits}
use Rattle.kind.specs.declared.Tail.{Tail}
use Rattle.decode.specs.declared.Body.{Body}
use Rattle.decode.specs.declared.Body.TheVariants.{Only, Section, Station, Line}

pub relabel_back : (body : Body) (d : ℕ) (added : List ℕ) → Bodied body → relabel_item body (Back d) added ≡ body_item body d added
relabel_back Only d added h = absurd h
relabel_back (Section last size) d added h = refl
relabel_back (Station flags place) d added h = refl
relabel_back (Line flags place) d added h = refl

pub suits_back : (body : Body) (d count : ℕ) → Bodied body → Suits body (Back d) count
suits_back Only d count h = absurd h
suits_back (Section last size) d count h = refl
suits_back (Station flags place) d count h = refl
suits_back (Line flags place) d count h = refl

-- the item of a body
pub labelled_whole : (s : List ℕ) (bare : Bool) (tail : Tail) (p : List ℕ → Option LabelPart) (k d a : ℕ) → numbers k d a ≡ part_there bare tail p s → (body : Body)
    → Bodies body (λ c added. make_of tail c added (drop (1 + (k + a)) s)) → whole (1 + (k + a + tail_of tail)) (relabel_item body (Back d) (take a (drop (1 + k) s))) ≡ labelled_by bare tail p (drop 1 s)
labelled_whole s bare tail p k d a e body B =
    ap (whole (1 + (k + a + tail_of tail))) (relabel_back body d (take a (drop (1 + k) s)) B.bodied ∙ B.same d (take a (drop (1 + k) s)))
    ∙ labelled_made s bare tail p k d a e
