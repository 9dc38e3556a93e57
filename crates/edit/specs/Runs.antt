-- An edit of an old file, from its parts to the answer. Assumes nothing.
use Rattle.std.specs.Prelude.{ℕ, ◌≤◌, ◌≡◌, List, length, take, Result as Answered, Ok}
use Rattle.format.specs.Sheet.{sheet_version, records_of}
use Rattle.format.specs.Refusals.{Result, Good}
use Rattle.format.specs.Editing.{edited, edit_outcome, edit_buffer}
use Rattle.format.specs.Answers.{answer_of}
use Rattle.format.specs.declared.Done.{Done}
use Rattle.format.specs.declared.Refusal.{Refusal}
use Rattle.judge.specs.Judging.{OldOpens, old_result, Cuts}
use Rattle.judge.specs.declared.Run.{Run}
use Rattle.edit.specs.Pens.{PutsNew, WentOn}
use Rattle.edit.specs.declared.Pen.{Pen}
use Rattle.edit.specs.declared.Went.{Went}
use Rattle.edit.specs.declared.Splice.{Splice}

-- the records of the edited sheet, of a replacement with nothing wrong in it
abbrev pub edited_at : List ℕ → Splice → List ℕ → Result
edited_at file cut new =
    record { records = edited (old_result file cut.old).records cut.run.first cut.run.count (records_of sheet_version new).records; verdict = Good }

-- a house-written file with a run of its records; the labels before the run and behind it are in b and b'
pub record CutAt (file : List ℕ) (cut : Splice) (b b' : List ℕ) : Type 0 where
  pub opens : OldOpens file cut.old
  pub cuts : Cuts file cut.old cut.run cut.front b cut.back b' cut.rest

-- and a replacement that is well-formed
pub record Spliced (file : List ℕ) (cut : Splice) (new b b' : List ℕ) : Type 0 where
  pub at : CutAt file cut b b'
  pub well_formed : (records_of sheet_version new).verdict ≡ Good

-- where there is room for them, the old bytes before the run stand at the front of d
abbrev pub FrontStands : List ℕ → ℕ → List ℕ → Type 0
FrontStands file at d = at ≤ length d → take at d ≡ take at file

-- the pen before the run, behind the old bytes
abbrev pub pen_at : Splice → Pen
pen_at cut =
    record {
      count = record { bytes = cut.front.at; records = cut.run.first; fault = Ok tt };
      setting = cut.front.setting;
      len = cut.front.len;
    }

-- the replacement is written, which leaves `between`, and then records behind the run, which leaves d': all, or as many as bring reading and
-- writing to the same state; l and b hold the labels before the run and behind it
pub record Changed (file : List ℕ) (cut : Splice) (new l b d : List ℕ) (w : Went) (l' b' d' : List ℕ) : Type 0 where
  pub pen : Pen
  pub label : List ℕ
  pub between : List ℕ
  pub puts : PutsNew new (pen_at cut) l d pen label between
  pub went : WentOn file (record { place = cut.back; pen = pen; left = cut.rest }) b label between w b' l' d'

-- the answer and the buffer are those of the edit
pub record Edits (file : List ℕ) (run : Run) (new d d' : List ℕ) (r : Answered Done Refusal) : Type 0 where
  pub answer : answer_of r ≡ edit_outcome file run.first run.count new (length d)
  pub buffer : d' ≡ edit_buffer file run.first run.count new d
