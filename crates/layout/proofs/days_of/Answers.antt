-- `layout::days_of` meets its contract. Assumes nothing.
use mathlib.Core.Path.{refl}
use borrow.Author.Rules.{rules}
use Rattle.layout.proofs.days_of.Goals as goal

pub returns-in-Undated : goal.returns-in-Undated
returns-in-Undated c = rw c.in-Undated.is (refl, refl, refl, search rules, search rules)

pub returns-in-Day : goal.returns-in-Day
returns-in-Day c = rw c.in-Day.is (refl, refl, refl, search rules, search rules)

pub returns-in-Range : goal.returns-in-Range
returns-in-Range c = rw c.in-Range.is (refl, refl, refl, search rules, search rules)
