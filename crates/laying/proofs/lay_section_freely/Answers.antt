-- `laying::lay_section_freely` meets its contract. Assumes nothing.
use Rattle.laying.proofs.Freely.{extends}
use borrow.Author.Rules.{rules}
use Rattle.laying.proofs.lay_section_freely.Goals as goal

pub returns : goal.returns
returns c =
    search (rules, extends)
