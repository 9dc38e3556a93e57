-- `decode::body_at` meets its contract. Assumes nothing.
use Rattle.decode.proofs.body_at.Goals as goal

pub short_dimensions-requires : goal.short_dimensions-requires
short_dimensions-requires c =
    rw c.in-Short.is at c.requires

pub long_dimensions-requires : goal.long_dimensions-requires
long_dimensions-requires c =
    rw c.in-Long.is at c.requires

pub get_point-requires : goal.get_point-requires
get_point-requires c =
    rw c.in-Station.is at c.requires

pub get_point-requires-in-Line : goal.get_point-requires-in-Line
get_point-requires-in-Line c =
    rw c.in-Line.is at c.requires

pub returns-in-Short : goal.returns-in-Short
returns-in-Short c =
    record { same = λ d added. rw c.in-Short.is (simp c.short_dimensions.ensures); bodied = tt }

pub returns-in-Long : goal.returns-in-Long
returns-in-Long c =
    record { same = λ d added. rw c.in-Long.is (simp c.long_dimensions.ensures); bodied = tt }

pub returns-in-Station : goal.returns-in-Station
returns-in-Station c =
    record { same = λ d added. rw c.in-Station.is (simp c.get_point.ensures); bodied = tt }

pub returns-in-Line : goal.returns-in-Line
returns-in-Line c =
    record { same = λ d added. rw c.in-Line.is (simp c.get_point-in-Line.ensures); bodied = tt }
