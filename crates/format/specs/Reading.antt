-- Reading a file, document 01, "Numbers for no": the records made and why reading stopped; the answer and what the lent sheet then
-- holds. Assumes nothing.
use Rattle.std.specs.Prelude.{ℕ, ◌+◌, ◌≡◌, List, [], length, drop, ltb}
use Rattle.format.specs.Bytes.{pick}
use Rattle.format.specs.Header.{Opening, shut, opened, opening_of}
use Rattle.format.specs.Items.{item_of}
use Rattle.format.specs.State.{State, start, Record, Next, bad, end, on, made, next_of}
use Rattle.format.specs.Sheet.{sheet_version, sheet_of}
use Rattle.format.specs.Refusals.{Result, stop, also, Outcome, refused, outcome_of, buffer_of, Good, Refusal, Verdict}
use Rattle.format.specs.Iterate.{iter}

-- ---- the items of a file, in order

-- what the item at the front of s comes to in a state
unfoldable pub next : ℕ → List ℕ → State → Next
next version s st = next_of st (item_of version s)

-- the end item, with `at` bytes before it: 10 where bytes follow, at the first of them
unfoldable pub ended : ℕ → List ℕ → Verdict
ended at s = pick (ltb 1 (length s)) (Refusal 10 (at + 1)) Good

-- a refusal has the item's place; a record joins those that follow
abbrev pub after_item : Next → ℕ → List ℕ → (ℕ → State → Result) → Result
after_item (bad k) at s go = stop (Refusal k at)
after_item end at s go = stop (ended at s)
after_item (on n st) at s go = go n st
after_item (made n r st) at s go = also r (go n st)

unfoldable pub read_step : ℕ → ℕ → List ℕ → State → (ℕ → State → Result) → Result
read_step version at s st go = after_item (next version s st) at s go

-- the records that the items of s make from a state on, with `at` bytes before s, and why reading stops: the law `run_eq` is its equation
unfoldable pub run : ℕ → ℕ → List ℕ → State → Result
run version at s st = iter (read_step version) (λ p. stop (Refusal 5 p)) at s st

-- "the state that reading has reached": before the byte `at` of the file, from a state at its first item
pub data Reached (version : ℕ) (file : List ℕ) (first : ℕ) : ℕ → State → Type 0 where
  begins : Reached version file first first start
  goes : {p : ℕ} {st : State} (n : ℕ) (st' : State) → Reached version file first p st → next version (drop p file) st ≡ on n st' → Reached version file first (p + n) st'
  makes : {p : ℕ} {st : State} (n : ℕ) (r : Record) (st' : State) → Reached version file first p st → next version (drop p file) st ≡ made n r st' → Reached version file first (p + n) st'

-- ---- the answer

-- reading goes on from the header to the items
unfoldable pub items_of : ℕ → ℕ → List ℕ → Result
items_of version place file = run version place (drop place file) start

abbrev pub read_from : Opening → List ℕ → ℕ → Outcome
read_from (shut n p) file room = refused n p
read_from (opened version place h) file room =
    let x = items_of version place file in
    outcome_of x.verdict (length (sheet_of sheet_version h x.records)) (length x.records) version room

abbrev pub sheet_from : Opening → List ℕ → List ℕ
sheet_from (shut n p) file = []
sheet_from (opened version place h) file = sheet_of sheet_version h (items_of version place file).records

-- the answer of reading a file into a sheet with room for so many bytes
unfoldable pub read_outcome : List ℕ → ℕ → Outcome
read_outcome file room = read_from (opening_of file) file room

-- what a lent sheet then holds
unfoldable pub read_buffer : List ℕ → List ℕ → List ℕ
read_buffer file old = buffer_of (read_outcome file (length old)) (sheet_from (opening_of file) file) old
