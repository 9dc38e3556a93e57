-- `item::take_item` meets its contract. Assumes nothing.
use native.Mathlib.Omega.{arith}
use Prim.Native.Nat.{ℕ, ◌+◌, ◌-◌}
use mathlib.Core.Path.{◌≡◌, refl}
use lib.ListN.{take}
use Rattle.std.specs.Prelude.{Ok}
use Rattle.format.specs.Items.{item_of}
use Rattle.format.specs.Outline.{drop_leaves}
use Rattle.item.proofs.Steps.{comes_faulty, comes_end, comes_emptied, comes_does, comes_moved, comes_undated, comes_error, comes_relabelled}
use Rattle.item.proofs.Steps.{style_kept, date_kept, error_kept, relabelled_kept, label_refused, label_fits_lem}
use Rattle.std.proofs.lemmas.Result.{err_from_is_err_and}
use Rattle.item.proofs.take_item.Goals as goal

-- the bytes that an item's label gains are the item's own: how many there are
added : (from count : ℕ) → from + count - from ≡ count
added from count = omega arith

pub returns-in_err-it : goal.returns-in_err-it
returns-in_err-it c =
    let p = err_from_is_err_and c.from_residual.result c.from_residual.ensures.1 in
    rw (p.1, p.2) (comes_faulty _ _ _ c.args.len _ c.requires.1 c.requires.0 _ c.in_err-it.ensures, tt)

pub returns-then-len-eq0 : goal.returns-then-len-eq0
returns-then-len-eq0 c =
    (comes_end _ _ _ c.args.len _ c.requires.1 c.requires.0 (rw c.in-Stop.is at c.in_ok-it.ensures) c.if-len-eq0.true, tt)

pub returns-in-Stop : goal.returns-in-Stop
returns-in-Stop c =
    (comes_emptied _ _ _ c.args.len _ c.requires.1 c.requires.0 (rw c.in-Stop.is at c.in_ok-it.ensures) c.if-len-eq0.false, tt)

pub returns-in-Style : goal.returns-in-Style
returns-in-Style c =
    let l = take c.args.len c.args.bytes.now in
    let D = c.style_step.ensures in (
      comes_does _ _ _ c.args.len _ c.requires.1 c.requires.0 _ _ _ _ refl (rw c.in-Style.is at c.in_ok-it.ensures) D,
      style_kept (Ok c.style_step.result) c.args.bytes.now l c.args.setting c.in-Style.style
          (drop_leaves l (item_of c.args.version c.args.s.now)) (D.same c.args.bytes.now),
    )

pub returns-in-Move : goal.returns-in-Move
returns-in-Move c =
    (comes_moved _ _ _ c.args.len _ c.requires.1 c.requires.0 _ _ (rw c.in-Move.is at c.in_ok-it.ensures) c.with_position.ensures, tt)

pub returns-in-NoDate : goal.returns-in-NoDate
returns-in-NoDate c =
    (comes_undated _ _ _ c.args.len _ c.requires.1 c.requires.0 _ (rw c.in-NoDate.is at c.in_ok-it.ensures) refl, tt)

pub returns-in-Date : goal.returns-in-Date
returns-in-Date c =
    let l = take c.args.len c.args.bytes.now in
    let D = c.date_step.ensures in (
      comes_does _ _ _ c.args.len _ c.requires.1 c.requires.0 _ _ _ _ refl (rw c.in-Date.is at c.in_ok-it.ensures) D,
      date_kept c.date_step.result c.args.bytes.now l c.args.setting c.in-Date.size c.in-Date.first c.in-Date.last
          (drop_leaves l (item_of c.args.version c.args.s.now)) (D.same c.args.bytes.now),
    )

pub returns-in-Error : goal.returns-in-Error
returns-in-Error c =
    let R = rw c.in-Error.is at c.in_ok-it.ensures in
    (comes_error _ _ _ c.args.len _ c.requires.1 c.requires.0 _ R, error_kept _ _ _ _ R)

pub returns-in_err-after-in-Relabel : goal.returns-in_err-after-in-Relabel
returns-in_err-after-in-Relabel c =
    let p = err_from_is_err_and c.from_residual-in_err-after-in-Relabel.result c.from_residual-in_err-after-in-Relabel.ensures.1 in
    let R = rw c.in-Relabel.is at c.in_ok-it.ensures in
    let L = rw (added c.in-Relabel.from c.in-Relabel.count) at c.in_err-after-in-Relabel.ensures in
    rw (p.1, p.2) (comes_relabelled c.args.version c.args.s.now c.args.setting _ _ _ _ _ _ _ _ R (label_refused _ _ _ _ L.0), tt)

pub returns : goal.returns
returns c =
    let R = rw c.in-Relabel.is at c.in_ok-it.ensures in
    let L = rw (added c.in-Relabel.from c.in-Relabel.count) at c.in_ok-after-in-Relabel.ensures in
    let M = c.made_step.ensures in
    let T = label_fits_lem _ _ _ _ c.made_step.result L.0 M.0 in (
      comes_relabelled c.args.version c.args.s.now c.args.setting _ _ _ _ _ _ _ _ R T,
      relabelled_kept c.args.version c.args.s.now c.args.setting _ _ _ _ _ _ _ c.made_step.result _ R T L.1 M.1,
    )

pub overflow_add-to : goal.overflow_add-to
overflow_add-to c =
    let R = rw c.in-Relabel.is at c.in_ok-it.ensures in omega (arith, R.sound.0)

pub slice_bounds-label_step-end : goal.slice_bounds-label_step-end
slice_bounds-label_step-end c =
    let R = rw c.in-Relabel.is at c.in_ok-it.ensures in omega (arith, R.sound.0)
