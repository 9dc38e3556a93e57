-- `convert::convert` meets its contract. Assumes nothing.
use native.Mathlib.Omega.{arith}
use mathlib.Core.Path.{sym, ◌∙◌}
use lib.Seq.{length-take-le}
use Rattle.read.proofs.Room.{read_room}
use Rattle.format.proofs.ConversionLaws.{convert_refused, convert_written}
use Rattle.convert.proofs.convert.Goals as goal

pub slice_bounds-write-end : goal.slice_bounds-write-end
slice_bounds-write-end c =
    let h = read_room _ _ _ _ _ (rw c.in-Ok.is at c.read.ensures.answer) in
    let k = c.read.auto.sheet in
    omega arith

pub slice_bounds-write-end-in-Ok : goal.slice_bounds-write-end-in-Ok
slice_bounds-write-end-in-Ok c =
    let h = read_room _ _ _ _ _ (rw c.in-Ok.is at c.read.ensures.answer) in
    let k = c.read.auto.sheet in
    sym (length-take-le _ _ (omega arith))

-- clause by clause, so that a refusal that is not the reader's is refused at the answer
pub returns-in-Err-clause-answer : goal.returns-in-Err-clause-answer
returns-in-Err-clause-answer c =
    let e = rw c.in-Err.is at c.read.ensures.answer in
    sym (convert_refused c.args.file.now c.args.sheet.now _ _ (sym e) c.args.out.now).0

pub returns-in-Err-clause-file : goal.returns-in-Err-clause-file
returns-in-Err-clause-file c =
    let e = rw c.in-Err.is at c.read.ensures.answer in
    sym (convert_refused c.args.file.now c.args.sheet.now _ _ (sym e) c.args.out.now).1

pub returns-in-Ok : goal.returns-in-Ok
returns-in-Ok c =
    let R = c.read.ensures in
    let e = rw c.in-Ok.is at R.answer in
    let r = convert_written c.args.file.now c.args.sheet.now (λ i. (c.type_inv.file i).fits) _ _ _ (sym e) c.args.out.now in
    let W = c.write.ensures in record { answer = rw R.sheet at W.answer ∙ sym r.0; sheet = R.sheet; file = rw R.sheet at W.file ∙ sym r.1 }
