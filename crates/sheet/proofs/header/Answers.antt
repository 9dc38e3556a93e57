-- `sheet::header` meets its contract. Assumes nothing.
use native.Mathlib.Omega.{arith}
use mathlib.Core.Path.{◌≡◌, sym, ◌∙◌}
use borrow.Author.Rules.{part_to_end}
use Prim.Native.Nat.{◌+◌, ◌-◌}
use Rattle.sheet.proofs.Fronts.{header_kind, header_extended, header_short, header_title, header_time, header_whole}
use Rattle.sheet.proofs.header.Goals as goal

pub returns-then-t-ne0 : goal.returns-then-t-ne0
returns-then-t-ne0 c =
    header_kind c.args.n c.args.t.now c.if-t-ne0.true

pub returns-then-extended-gt1 : goal.returns-then-extended-gt1
returns-then-extended-gt1 c =
    header_extended c.args.n c.args.t.now
    c.if-t-ne0.false c.if-extended-gt1.true

pub returns-then-n-behind : goal.returns-then-n-behind
returns-then-n-behind c =
    let e = c.size_of-title.ensures ∙ simp part_to_end at c.get_be16.ensures.0 in
    header_short c.args.n
    c.args.t.now
    c.if-t-ne0.false c.if-extended-gt1.false (rw e at c.if-n-behind.true)

pub returns-then-not-text_ok : goal.returns-then-not-text_ok
returns-then-not-text_ok c =
    let e = c.size_of-title.ensures ∙ simp part_to_end at c.get_be16.ensures.0 in
    let z : 4 + c.size_of-title.result - 4 ≡ c.size_of-title.result = omega arith in
    header_title c.args.n
    c.args.t.now
    c.if-t-ne0.false
    c.if-extended-gt1.false (rw e at c.if-n-behind.false)
    (rw (z, e) at (sym c.text_ok.ensures ∙ c.if-not-text_ok.true))

pub returns-then-not-text_ok-2 : goal.returns-then-not-text_ok-2
returns-then-not-text_ok-2 c =
    let e = c.size_of-title.ensures
    ∙ simp part_to_end at c.get_be16.ensures.0 in
    let z : 4 + c.size_of-title.result - 4 ≡
    c.size_of-title.result = omega arith in
    header_time c.args.n
    c.args.t.now
    c.if-t-ne0.false
    c.if-extended-gt1.false
    (rw e at c.if-n-behind.false)
    (rw (z, e) at (sym c.text_ok.ensures ∙ c.if-not-text_ok.false))
    (rw e at (sym c.text_ok-2.ensures ∙ c.if-not-text_ok-2.true))

pub returns : goal.returns
returns c =
    let e = c.size_of-title.ensures
    ∙ simp part_to_end at c.get_be16.ensures.0 in
    let z : 4 + c.size_of-title.result - 4 ≡
    c.size_of-title.result = omega arith in
    rw e
    (header_whole c.args.n
    c.args.t.now
    c.if-t-ne0.false
    c.if-extended-gt1.false
    (rw e at c.if-n-behind.false)
    (rw (z, e) at (sym c.text_ok.ensures ∙ c.if-not-text_ok.false))
    c.requires.1
    (rw e at (sym c.text_ok-2.ensures ∙ c.if-not-text_ok-2.false)))
