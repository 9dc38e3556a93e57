-- `listing::date` meets its contract: by the three kinds of date. Assumes nothing.
use native.Mathlib.Omega.{arith}
use mathlib.Core.List.{append_assoc}
use Rattle.listing.specs.Lines.{none_word}
use Rattle.listing.proofs.Stores.{put_then, put_as}
use Rattle.listing.proofs.date.Goals as goal

pub returns-in-Undated : goal.returns-in-Undated
unfolding none_word
returns-in-Undated c =
    put_as c.word.ensures (omega arith) (rw c.in-Undated.is)

pub returns-in-Day : goal.returns-in-Day
returns-in-Day c =
    put_as c.number.ensures (omega arith) (rw c.in-Day.is)

pub returns-in-Range : goal.returns-in-Range
returns-in-Range c =
    put_as (put_then (put_then c.number-k.ensures
    c.put-k.ensures) c.decimal.ensures) (omega arith)
    (rw c.in-Range.is (simp append_assoc))
