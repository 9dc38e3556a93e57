use Rattle.plain.proofs.mark_of.Goals as goal

pub returns-in-Undated : goal.returns-in-Undated
returns-in-Undated c =
    rw c.in-Undated.is c.mark_from.ensures

pub returns-in-Day : goal.returns-in-Day
returns-in-Day c =
    rw c.in-Day.is c.mark_from-in-Day.ensures

pub returns-in-Range : goal.returns-in-Range
returns-in-Range c =
    rw c.in-Range.is c.mark_from-in-Range.ensures
