-- What a writer counts from record to record, and its answer where there is room enough. Assumes nothing.
use Rattle.std.specs.Prelude.{ℕ, ◌+◌, ◌≤◌, ◌≡◌, List, length, take, ltb, Result as Answered}
use Rattle.format.specs.Bytes.{pick, over}
use Rattle.format.specs.Header.{Header, file_limit}
use Rattle.format.specs.State.{State, start, Record}
use Rattle.format.specs.Refusals.{or_else, Result, Outcome, accepted, outcome_of, buffer_of, Verdict, Good, Refusal}
use Rattle.format.specs.Writing.{Writer, encode_all, file_of, size_verdict, filed_outcome, written_outcome}
use Rattle.format.specs.Answers.{answer_of, verdict_of}
use Rattle.format.specs.declared.Refusal.{Refusal as Refused}
use Rattle.format.specs.declared.Done.{Done}
use Rattle.wire.specs.Laid.{laid}
use Rattle.counts.specs.declared.Tally.{Tally}

-- ---- from record to record

-- a sum that stays once it is over what refusal 16 allows
unfoldable pub bounded : ℕ → ℕ → ℕ
bounded total n = pick (ltb file_limit total) total (total + n)

-- counts that leave room for one record more: bytes are at most a record over what refusal 16 allows
pub record Fits (w : Writer) (t : Tally) : Type 0 where
  pub few_bytes : t.bytes ≤ file_limit + w.longest
  pub few_records : t.records ≤ 18446744073709551614

-- in a state the codes of r are written into d behind the bytes so far, where they fit, which leaves d'; where they do not, the bytes so
-- far stay, and the rest is as the codes leave it
pub record Adds (w : Writer) (st : State) (r : Record) (d d' : List ℕ) (t t' : Tally) : Type 0 where
  pub most : length (w.codes st r) ≤ w.longest
  pub bytes : t'.bytes ≡ bounded t.bytes (length (w.codes st r))
  pub records : t'.records ≡ t.records + 1
  pub fault : verdict_of t'.fault ≡ or_else (verdict_of t.fault) (pick (w.unable st r) (Refusal w.number t.records) Good)
  pub kept : length d' ≡ length d
  pub stays : t.bytes ≤ length d → take t.bytes d' ≡ take t.bytes d
  pub written : t.bytes + length (w.codes st r) ≤ length d → d' ≡ laid d t.bytes (w.codes st r)

-- ---- answers, each for just the room that is needed

-- at the end of so many bytes and records of a version
abbrev pub settled : ℕ → Verdict → ℕ → ℕ → Outcome
settled version fault bytes records = outcome_of (or_else fault (size_verdict bytes)) bytes records version bytes

unfoldable pub final_outcome : Writer → Verdict → ℕ → ℕ → Outcome
final_outcome w fault bytes records = settled w.version fault bytes records

-- the closing codes are written into d behind the bytes so far, where they fit, which leaves d'; where they do not, the bytes so far stay
pub record Finished (w : Writer) (d d' closing : List ℕ) (t : Tally) (r : Answered Done Refused) : Type 0 where
  pub answer : answer_of r ≡ final_outcome w (verdict_of t.fault) (t.bytes + length closing) t.records
  pub kept : length d' ≡ length d
  pub stays : t.bytes ≤ length d → take t.bytes d' ≡ take t.bytes d
  pub written : t.bytes + length closing ≤ length d → d' ≡ laid d t.bytes closing

-- ---- records whole, behind a header of so many bytes

-- their codes from the start on, with the closing codes
abbrev pub encoded : Writer → Result → List ℕ
encoded w x = encode_all w start x.records

abbrev pub rest_outcome : Writer → ℕ → Result → Outcome
rest_outcome w head x = let bytes = head + length (encoded w x) in filed_outcome w x bytes bytes

-- the answer, and d', which holds the codes from head on where the file is good and d has room for it
pub record Rest (w : Writer) (x : Result) (head : ℕ) (d d' : List ℕ) (r : Answered Done Refused) : Type 0 where
  pub answer : answer_of r ≡ rest_outcome w head x
  pub kept : length d' ≡ length d
  pub written : (b n v : ℕ) → rest_outcome w head x ≡ accepted b n v → b ≤ length d → d' ≡ laid d head (encoded w x)

-- ---- a header and records whole

abbrev pub file_outcome : Writer → Header → Result → Outcome
file_outcome w h x = written_outcome w h x (length (file_of w h x.records))

-- the answer, and d', which holds the file from its front on where it is good and d has room for it
pub record Passed (w : Writer) (h : Header) (x : Result) (d d' : List ℕ) (r : Answered Done Refused) : Type 0 where
  pub answer : answer_of r ≡ file_outcome w h x
  pub kept : length d' ≡ length d
  pub written : (b n v : ℕ) → file_outcome w h x ≡ accepted b n v → b ≤ length d → d' ≡ over (file_of w h x.records) d

-- ---- both passes

-- each call of a pass, lent d, may answer r and leave d'
abbrev pub Passes : (List ℕ → Answered Done Refused → List ℕ → Type 0) → Writer → Header → Result → Type 0
Passes calls w h x = (d d' : List ℕ) (r : Answered Done Refused) → calls d r d' → Passed w h x d d' r

-- a header and records are written into d, which leaves d'
pub record Writes (w : Writer) (h : Header) (x : Result) (d d' : List ℕ) (r : Answered Done Refused) : Type 0 where
  pub answer : answer_of r ≡ written_outcome w h x (length d)
  pub buffer : d' ≡ buffer_of (written_outcome w h x (length d)) (file_of w h x.records) d
