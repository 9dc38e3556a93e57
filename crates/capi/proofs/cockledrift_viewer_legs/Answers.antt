-- `capi::cockledrift_viewer_legs` meets its contract. Assumes nothing.
use mathlib.Core.Path.{ap, ◌∙◌}
use mir.Syntax.{w32}
use mir.ValLaws.{to_z-of_z}
use Rattle.abi.specs.Views.{view_numbers}
use Rattle.capi.proofs.cockledrift_viewer_legs.Goals as goal

pub returns : goal.returns
returns c =
    let x = to_z-of_z w32 c.args.x c.ranges.x in
    let y = to_z-of_z w32 c.args.y c.ranges.y in
    let z = to_z-of_z w32 c.args.z c.ranges.z in
    let e = rw (x, y, z) at c.viewer_legs-r.ensures in
    record { answer = c.tell_viewed.ensures ∙ ap view_numbers e.answer; numbers = e.numbers; exact = e.exact }
