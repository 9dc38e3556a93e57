-- `read::judged` meets its contract. Assumes nothing.
use Rattle.read.proofs.Whole.{judges, begins_head}
use Rattle.read.proofs.judged.Goals as goal

pub course_of-course-requires : goal.course_of-course-requires
course_of-course-requires c = (c.requires.room.title_fits, c.requires.room.time_fits)

pub measured-requires : goal.measured-requires
measured-requires c =
    rw c.course_of-course.ensures (begins_head _ _ c.requires, c.requires.room.newest)

pub returns : goal.returns
returns c =
    let m = rw c.course_of-course.ensures at c.measured.ensures in
    (judges c.args.file.now c.args.head c.requires _ m.answer, m.sheet)
