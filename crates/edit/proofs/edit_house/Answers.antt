-- `edit::edit_house` meets its contract. Assumes nothing.
use Rattle.std.proofs.lemmas.Result.{err_from_is_err_and}
use Rattle.edit.proofs.Whole.{house_flawed, house_spliced, house_written_lem}
use Rattle.edit.proofs.edit_house.Goals as goal

pub write_edited-requires : goal.write_edited-requires
write_edited-requires c =
    house_spliced c.requires c.args.new.now c.args.out.now c.in_ok-first_flaw.ensures

pub returns-in_err-first_flaw : goal.returns-in_err-first_flaw
returns-in_err-first_flaw c =
    let p = err_from_is_err_and c.from_residual.result c.from_residual.ensures.1 in
    rw (p.1, p.2) (house_flawed c.requires c.args.new.now c.args.out.now _ c.in_err-first_flaw.ensures)

pub returns : goal.returns
returns c =
    house_written_lem c.requires c.args.new.now c.args.out.now c.in_ok-first_flaw.ensures _ _ c.write_edited.ensures
