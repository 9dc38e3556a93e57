-- `judge::take_made` meets its contract. Assumes nothing.
use native.Mathlib.Omega.{arith}
use mathlib.Core.Path.{sym, ◌∙◌}
use lib.Seq.{length-take-le}
use Rattle.judge.proofs.One.{front_of_lem, met_formed, foreign_codes, takes_made}
use Rattle.judge.proofs.take_made.Goals as goal

pub put_codes-size-requires : goal.put_codes-size-requires
put_codes-size-requires c =
    (c.requires.0.inside.label_short, c.requires.0.inside.label_whole, met_formed _ _ _ c.requires.0 _ c.requires.1)

pub slice_bounds-stands-end : goal.slice_bounds-stands-end
slice_bounds-stands-end c =
    let P = c.put_codes-size.ensures in
    omega (arith, P.most, P.kept, c.requires.3)

pub slice_bounds-stands-end-2 : goal.slice_bounds-stands-end-2
slice_bounds-stands-end-2 c =
    let P = c.put_codes-size.ensures in
    sym (length-take-le _ _ (omega (arith, P.most, P.kept, c.requires.3)))

pub stands-requires : goal.stands-requires
stands-requires c =
    let P = c.put_codes-size.ensures in
    let l = length-take-le c.put_codes-size.result c.put_codes-size.new.room
    (omega (arith, P.most, P.kept, c.requires.3)) in
    (c.requires.0.inside.place_inside, c.requires.0.small, omega (arith, l, P.most))

pub returns-then-not-stands : goal.returns-then-not-stands
returns-then-not-stands c =
    let P = c.put_codes-size.ensures in
    let f = front_of_lem P (omega (arith, P.most, c.requires.3)) in
    let e = sym c.stands.ensures ∙ c.if-not-stands.true in
    (foreign_codes c.args.file.now c.args.from c.args.label.now c.requires.0 _ c.requires.1 (rw f at e), P.kept ∙ c.requires.3)

pub keep_label-requires : goal.keep_label-requires
keep_label-requires c =
    (c.requires.0.inside.label_short, c.requires.0.inside.label_whole, c.requires.2)

pub overflow_add-place : goal.overflow_add-place
overflow_add-place c =
    let P = c.put_codes-size.ensures in
    omega (
      arith,
      P.most,
      c.requires.0.inside.place_inside,
      c.requires.0.small,
    )

pub returns : goal.returns
returns c =
    let P = c.put_codes-size.ensures in
    let f = front_of_lem P (omega (arith, P.most, c.requires.3)) in
    let e = sym c.stands.ensures ∙ c.if-not-stands.false in (
      rw c.setting_after.ensures (takes_made c.args.file.now c.args.from c.args.label.now c.requires.0 c.args.name.now c.args.fields c.requires.1 (rw f at e) _ _ _ P.size
          c.keep_label.ensures),
      P.kept ∙ c.requires.3,
    )
