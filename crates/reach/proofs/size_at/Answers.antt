-- `reach::size_at` meets its contract. Assumes nothing.
use native.Mathlib.Omega.{arith}
use mathlib.Core.Path.{◌≡◌, sym, ap, ◌∙◌}
use mathlib.Core.Bool.{true}
use Rattle.format.specs.Bytes.{be16}
use Rattle.format.specs.Sheet.{framed}
use Rattle.format.proofs.SheetLaws.{frame}
use Rattle.sheet.proofs.Entries.{unframed, kind_leg}
use Rattle.reach.specs.Reaching.{size_of}
use Rattle.reach.proofs.size_at.Goals as goal

pub returns-then-not-is_framed : goal.returns-then-not-is_framed
returns-then-not-is_framed c =
    ap size_of (unframed c.args.version c.args.s.now (sym c.is_framed.ensures ∙ c.if-not-is_framed.true))

pub bounds-s-2 : goal.bounds-s-2
bounds-s-2 c = omega (arith, frame _ ((let it : framed c.args.s.now ≡ true = sym c.is_framed.ensures ∙ c.if-not-is_framed.false in it)))

pub get_be16-requires : goal.get_be16-requires
get_be16-requires c = omega (arith, frame _ ((let it : framed c.args.s.now ≡ true = sym c.is_framed.ensures ∙ c.if-not-is_framed.false in it)))

pub leg_size-requires : goal.leg_size-requires
leg_size-requires c =
    omega (arith, (let it : c.size_of-n.result ≡ be16 c.args.s.now = c.size_of-n.ensures ∙ c.get_be16.ensures.0 in it), frame _ ((let it : framed c.args.s.now ≡ true = sym c.is_framed.ensures ∙ c.if-not-is_framed.false in it)))

pub returns : goal.returns
returns c =
    c.leg_size.ensures ∙ rw ((let it : c.size_of-n.result ≡ be16 c.args.s.now = c.size_of-n.ensures ∙ c.get_be16.ensures.0 in it)) (ap size_of (kind_leg c.args.version c.args.s.now ((let it : framed c.args.s.now ≡ true = sym c.is_framed.ensures ∙ c.if-not-is_framed.false in it)) c.if-s-ne1.false))
