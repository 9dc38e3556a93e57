-- `laying::put_station_freely` meets its contract. Assumes nothing.
use Rattle.laying.proofs.Freely.{freely_laid}
use borrow.Author.Rules.{rules}
use Rattle.laying.proofs.put_station_freely.Goals as goal

pub returns-then-sheet-name : goal.returns-then-sheet-name
returns-then-sheet-name c =
    search (rules, freely_laid)

pub returns : goal.returns
returns c =
    search (rules, freely_laid)
