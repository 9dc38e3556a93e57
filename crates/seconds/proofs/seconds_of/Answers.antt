-- `seconds_of` meets its contract: the one form, else the other. Assumes nothing.
use Rattle.seconds.proofs.Forms.{by_at, by_text}
use Rattle.seconds.proofs.seconds_of.Goals as goal

pub returns-in-Some : goal.returns-in-Some
returns-in-Some c = by_at _ _ c.in-Some.ensures

pub returns-in-None : goal.returns-in-None
returns-in-None c = by_text _ _ c.in-None.ensures c.text_form.ensures
