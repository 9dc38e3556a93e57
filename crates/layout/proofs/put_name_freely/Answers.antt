-- `layout::put_name_freely` meets its contract. Assumes nothing.
use mathlib.Core.Path.{sym}
use Rattle.layout.proofs.Freely.{added_length, named_joint, named_laid, named_over}
use Rattle.layout.proofs.put_name_freely.Goals as goal

pub slice_bounds-put_joined-end : goal.slice_bounds-put_joined-end
slice_bounds-put_joined-end c = sym (added_length _ _ _ _ _ _ c.requires)

pub put_joined-requires : goal.put_joined-requires
put_joined-requires c = named_joint _ _ _ _ _ _ c.requires

pub returns-then-keep-gt48 : goal.returns-then-keep-gt48
returns-then-keep-gt48 c =
    named_laid _ _ _ _ _ _ c.requires _ c.put_joined.ensures

pub slice_bounds-put_joined-end-then-out-k : goal.slice_bounds-put_joined-end-then-out-k
slice_bounds-put_joined-end-then-out-k c = sym (added_length _ _ _ _ _ _ c.requires)

pub put_joined-requires-then-out-k : goal.put_joined-requires-then-out-k
put_joined-requires-then-out-k c = named_joint _ _ _ _ _ _ c.requires

pub returns-then-out-k : goal.returns-then-out-k
returns-then-out-k c =
    named_laid _ _ _ _ _ _ c.requires _ c.put_joined-then-out-k.ensures

pub returns : goal.returns
returns c =
    named_over _ _ _ _ _ _ c.requires _
    c.if-out-k.false c.if-keep-gt48.false
    c.put_over.ensures
