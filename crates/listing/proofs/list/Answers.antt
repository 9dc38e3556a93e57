-- `listing::list` meets its contract: by what is to be printed. Assumes nothing.
use Rattle.listing.proofs.list.Goals as goal

pub returns-in-TooLong : goal.returns-in-TooLong
returns-in-TooLong c =
    rw c.in-TooLong.is c.list_too_long.ensures

pub returns-in-Refused : goal.returns-in-Refused
returns-in-Refused c =
    rw c.in-Refused.is c.list_refusal.ensures

pub returns-in-Sheet : goal.returns-in-Sheet
returns-in-Sheet c =
    rw c.in-Sheet.is c.list_sheet.ensures
