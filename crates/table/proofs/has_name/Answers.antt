-- `table::has_name` meets its contract. Assumes nothing.
use Prim.Native.Nat.{ℕ}
use mathlib.Core.Path.{◌≡◌, sym, ap, ◌∙◌}
use mathlib.Core.List.{List}
use native.Mathlib.Omega.{arith}
use borrow.Author.Rules.{part_to_end}
use Rattle.format.specs.Bytes.{same}
use Rattle.table.specs.Room.{start_at, size_at, hash_at}
use Rattle.table.proofs.Reading.{hash_here, size_here, start_here, name_here, says}
use Rattle.table.proofs.has_name.Goals as goal

pub returns-then-g-h : goal.returns-then-g-h
returns-then-g-h c =
    λ x. c.if-g-h.true ((let it : c.get_le32-g.result ≡ hash_at c.args.room.now c.args.i = (simp part_to_end at c.get_le32-g.ensures.0) ∙ hash_here _ _ in it) ∙ x.hash)

pub overflow_sub-from : goal.overflow_sub-from
overflow_sub-from c =
    let z = c.requires.2 in omega (arith, (let it : c.get_le40-start.result ≡ start_at c.args.room.now c.args.i = (simp part_to_end at c.get_le40-start.ensures) ∙ start_here _ _ in it), (let it : c.get_le16-size.result ≡ size_at c.args.room.now c.args.i = (simp part_to_end at c.get_le16-size.ensures.0) ∙ size_here _ _ in it), z)

pub slice_bounds-same_name-end : goal.slice_bounds-same_name-end
slice_bounds-same_name-end c =
    let z = c.requires.2 in omega (arith, (let it : c.get_le40-start.result ≡ start_at c.args.room.now c.args.i = (simp part_to_end at c.get_le40-start.ensures) ∙ start_here _ _ in it), (let it : c.get_le16-size.result ≡ size_at c.args.room.now c.args.i = (simp part_to_end at c.get_le16-size.ensures.0) ∙ size_here _ _ in it), z)

pub returns : goal.returns
returns c =
    says c.args.room.now c.args.i c.args.h c.args.name.now c.same_name.result
    (sym ((let it : c.get_le32-g.result ≡ hash_at c.args.room.now c.args.i = (simp part_to_end at c.get_le32-g.ensures.0) ∙ hash_here _ _ in it)) ∙ c.if-g-h.false)
    (c.same_name.ensures ∙ ap (λ (l : List ℕ). same l c.args.name.now) (name_here c.args.room.now c.args.i _ _ (let it : c.get_le40-start.result ≡ start_at c.args.room.now c.args.i = (simp part_to_end at c.get_le40-start.ensures) ∙ start_here _ _ in it) (let it : c.get_le16-size.result ≡ size_at c.args.room.now c.args.i = (simp part_to_end at c.get_le16-size.ensures.0) ∙ size_here _ _ in it)))
