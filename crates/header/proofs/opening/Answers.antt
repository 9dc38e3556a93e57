-- `opening` meets its contract: 16, 1 and 2 in their order, then the lines. Assumes nothing.
use native.Mathlib.Omega.{arith}
use mathlib.Core.Path.{◌≡◌, sym, ◌∙◌}
use mathlib.Core.Bool.{true}
use lib.ListN.{take}
use borrow.Author.Tests.{lt-ltb, le-ltb}
use Rattle.format.specs.Bytes.{pick, same}
use Rattle.format.specs.Header.{magic, good_version, header_of, opening_of}
use Rattle.header.proofs.Lines.{versioned}
use Rattle.header.proofs.opening.Goals as goal

pub returns-then-file-gt-FILE_LIMIT : goal.returns-then-file-gt-FILE_LIMIT
unfolding opening_of pick
returns-then-file-gt-FILE_LIMIT c =
    rw c.at.ensures (record { same = simp (lt-ltb _ _ c.if-file-gt-FILE_LIMIT.true); room = tt })

pub returns-then-not-magic_ok : goal.returns-then-not-magic_ok
unfolding opening_of header_of pick
returns-then-not-magic_ok c =
    let wrong = c.if-not-magic_ok.true in
    rw c.at-then-not-magic_ok.ensures (record { same = simp (le-ltb _ _ c.if-file-gt-FILE_LIMIT.false, ← c.magic_ok.ensures, wrong); room = tt })

pub returns-then-not-version_ok : goal.returns-then-not-version_ok
unfolding opening_of header_of pick
returns-then-not-version_ok c =
    let wrong = c.if-not-version_ok.true in
    let known : same (take 21 c.args.file.now) magic ≡ true = sym c.magic_ok.ensures ∙ c.if-not-magic_ok.false in
    rw c.at-then-not-version_ok.ensures (record { same = simp (le-ltb _ _ c.if-file-gt-FILE_LIMIT.false, known, ← c.version_ok.ensures, wrong); room = tt })

pub bounds-file-22 : goal.bounds-file-22
bounds-file-22 c =
    let v = versioned _ (sym c.version_ok.ensures ∙ c.if-not-version_ok.false) in
    omega arith

pub overflow_sub-file : goal.overflow_sub-file
overflow_sub-file c =
    let v = versioned _ (sym c.version_ok.ensures ∙ c.if-not-version_ok.false) in
    omega arith

pub title_line-requires : goal.title_line-requires
title_line-requires c =
    let v = versioned _ (sym c.version_ok.ensures ∙ c.if-not-version_ok.false) in
    (omega arith, omega arith, omega arith, omega arith)

pub returns : goal.returns
unfolding opening_of header_of pick
returns c =
    let t = c.title_line.ensures in
    let known : same (take 21 c.args.file.now) magic ≡ true = sym c.magic_ok.ensures ∙ c.if-not-magic_ok.false in
    let good : good_version c.args.file.now ≡ true = sym c.version_ok.ensures ∙ c.if-not-version_ok.false in
    record { same = simp (le-ltb _ _ c.if-file-gt-FILE_LIMIT.false, known, good) t.same; room = t.room }
