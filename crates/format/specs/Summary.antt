-- Entrances at a glance, document 02, #109: the summary of a sheet's entrances, a question to it, and bringing it up to date after an edit.
-- Assumes nothing.
use Rattle.std.specs.Prelude.{ℕ, zero, suc, ◌+◌, ◌*◌, ◌-◌, ◌/◌, ◌%◌, ◌^◌, max, Bool, true, false, ◌||◌, List, [], ◌∷◌, ◌++◌, map, length, take, drop, get_or, ltb, eqb, Option, Some, None}
use Rattle.format.specs.Bytes.{pick, over}
use Rattle.format.specs.State.{Record, leg, station, section, error}
use Rattle.format.specs.Refusals.{Result, or_else, Verdict, Good, Refusal}
use Rattle.format.specs.Sheet.{sheet_version, records_of, sheet_result}

-- ---- looking at each record

-- "entrances (stations with flag 0x04)"
unfoldable pub entrance : Record → Bool
entrance (leg g label) = false
entrance (station s label) = eqb (s.flags / 0x04 % 2) 1
entrance (section s label) = false
entrance (error t) = false

-- "a mark for each record"
unfoldable pub marks_in : List Record → List Bool
marks_in rs = map entrance rs

abbrev pub one : Bool → ℕ
one true = 1
one false = 0

-- how many are marked
unfoldable pub marked : List Bool → ℕ
marked [] = 0
marked (b ∷ ms) = one b + marked ms

-- "how many entrances .. a stretch of records holds", "records a up to but not including b"
unfoldable pub count_of : List Bool → ℕ → ℕ → ℕ
count_of ms a b = marked (take (b - a) (drop a ms))

unfoldable pub first_from : ℕ → List Bool → Option ℕ
first_from i [] = None
first_from i (true ∷ ms) = Some i
first_from i (false ∷ ms) = first_from (suc i) ms

-- "The next entrance is the least marked record at or after a, even past b"
unfoldable pub next_of : List Bool → ℕ → Option ℕ
next_of ms a = first_from a (drop a ms)

-- ---- the summary

-- f 0, f 1 and so on, n of them
unfoldable pub each {ℓ} : {X : Type ℓ} → ℕ → (ℕ → X) → List X
each zero f = []
each (suc n) f = f 0 ∷ each n (λ i. f (suc i))

-- "lowest bit first and spare bits 0"
unfoldable pub word_of : List Bool → ℕ
word_of [] = 0
word_of (b ∷ ms) = one b + 2 * word_of ms

-- "64 to a word"
abbrev pub words_for : ℕ → ℕ
words_for n = (n + 63) / 64

-- marks and totals: the words that the summary of n records takes
abbrev pub needed : ℕ → ℕ
needed n = 2 * words_for n

-- "All marks come first, .. then the totals": "a running total at each word's start"
unfoldable pub summary : List Bool → List ℕ
summary ms =
    each (words_for (length ms)) (λ j. word_of (take 64 (drop (64 * j) ms)))
    ++ each (words_for (length ms)) (λ j. marked (take (64 * j) ms))

-- ---- the marks that any words hold, whoever made them

-- the bit at a place of a word, the lowest at 0
unfoldable pub bit : ℕ → ℕ → ℕ
bit w i = w / 2 ^ i % 2

-- the bit at a place of many words
unfoldable pub bit_at : List ℕ → ℕ → ℕ
bit_at ws i = bit (get_or ws (i / 64) 0) (i % 64)

-- the marks of n records; totals are not looked at
unfoldable pub marks_of : ℕ → List ℕ → List Bool
marks_of n ws = each n (λ i. eqb (bit_at ws i) 1)

-- ---- making it: "12, then 11 with the words needed"

-- "Making it and bringing it up to date both answer the words it then takes"; or a refusal's number and place
pub data SummaryOutcome : Type 0 where
  takes : ℕ → SummaryOutcome
  untaken : ℕ → ℕ → SummaryOutcome

-- 11 comes last, with the words needed; so many are then taken
abbrev pub summed_from : Verdict → ℕ → ℕ → ℕ → SummaryOutcome
summed_from (Refusal n p) most words room = untaken n p
summed_from Good most words room = pick (ltb room most) (untaken 11 most) (takes words)

-- "A refusal leaves lent memory untouched. Success writes from the front, leaves the rest"
abbrev pub words_by : SummaryOutcome → List ℕ → List ℕ → List ℕ
words_by (takes n) new old = over new old
words_by (untaken n p) new old = old

abbrev pub made_outcome : Result → ℕ → SummaryOutcome
made_outcome x room = summed_from x.verdict (needed (length x.records)) (needed (length x.records)) room

abbrev pub made_words : Result → List ℕ → List ℕ
made_words x old = words_by (made_outcome x (length old)) (summary (marks_in x.records)) old

-- 12 as for writing, both versions of a sheet
unfoldable pub summary_outcome : List ℕ → ℕ → SummaryOutcome
summary_outcome sheet room = made_outcome (sheet_result sheet) room

unfoldable pub summary_words : List ℕ → List ℕ → List ℕ
summary_words sheet old = made_words (sheet_result sheet) old

-- ---- a question, "given the summary and the record count"

-- the count and the next entrance; or a refusal's number and place
pub data EntrancesOutcome : Type 0 where
  holds : ℕ → Option ℕ → EntrancesOutcome
  unheld : ℕ → ℕ → EntrancesOutcome

-- 15: "a is above b or either is above the record count"
abbrev pub outside : ℕ → ℕ → ℕ → Bool
outside n a b = ltb b a || (ltb n a || ltb n b)

-- "the answer of looking at each record"
unfoldable pub looked : List Bool → ℕ → ℕ → EntrancesOutcome
looked ms a b = pick (outside (length ms) a b) (unheld 15 (length ms)) (holds (count_of ms a b) (next_of ms a))

-- the marks before record k: the total at the start of the word that holds the record before it, and the ones of that word below k. Totals are
-- what the words say, numbers of 64 bits
unfoldable pub rank_in : List ℕ → ℕ → ℕ → ℕ
rank_in ws n k =
    pick (eqb k 0) 0
    ((get_or ws (words_for n + (k - 1) / 64) 0 + count_of (marks_of n ws) ((k - 1) / 64 * 64) k) % 2 ^ 64)

-- by the totals: below 2 ^ 64, and nothing else holds of it, where the words are no summary of the sheet
unfoldable pub count_in : List ℕ → ℕ → ℕ → ℕ → ℕ
count_in ws n a b = (rank_in ws n b + (2 ^ 64 - rank_in ws n a)) % 2 ^ 64

-- "in a question 11 for a summary too short, then 15"; the next entrance is that of the marks that the words hold
unfoldable pub entrances_outcome : List ℕ → ℕ → ℕ → ℕ → EntrancesOutcome
entrances_outcome ws n a b =
    pick (ltb (length ws) (needed n)) (unheld 11 (needed n))
    (pick (outside n a b) (unheld 15 n)
    (holds (count_in ws n a b) (next_of (marks_of n ws) a)))

-- ---- bringing it up to date: "from the old record count, the run and the replacement"

-- the marks after a run was replaced
unfoldable pub edited_marks : List Bool → ℕ → ℕ → List Bool → List Bool
edited_marks ms first count new = take first ms ++ (new ++ drop (first + count) ms)

-- 15 "as for an edit": "first record plus count above the record count", at the record count
unfoldable pub count_verdict : ℕ → ℕ → ℕ → Verdict
count_verdict n first count = pick (ltb n (first + count)) (Refusal 15 n) Good

-- "15 and 12 as for an edit, then 11 with the words that the longer of old and new needs"
abbrev pub updated_outcome : ℕ → ℕ → ℕ → Result → ℕ → SummaryOutcome
updated_outcome n first count x room =
    summed_from (or_else (count_verdict n first count) x.verdict) (max (needed n) (needed (n - count + length x.records))) (needed (n - count + length x.records)) room

unfoldable pub update_outcome : ℕ → ℕ → ℕ → List ℕ → ℕ → SummaryOutcome
update_outcome n first count new room = updated_outcome n first count (records_of sheet_version new) room

-- "in its place": the summary of the edited marks, whatever words were there
unfoldable pub update_words : ℕ → ℕ → ℕ → List ℕ → List ℕ → List ℕ
update_words n first count new old =
    words_by (update_outcome n first count new (length old)) (summary (edited_marks (marks_of n old) first count (marks_in (records_of sheet_version new).records))) old
