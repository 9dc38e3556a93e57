-- `laying::lay_leg` meets its contract. Assumes nothing.
use mathlib.Core.Path.{refl}
use Rattle.laying.proofs.Freely.{extends, two_off}
use borrow.Author.Rules.{rules}
use Rattle.laying.proofs.lay_leg.Goals as goal

pub returns : goal.returns
returns c =
    record { label = search (rules, extends); sheet = rw two_off at c.lay_short.ensures; answer = refl }
