-- "The records are those of the sheet after its header": a reader stepped to its stop gathers the bytes of the sheet that reading makes, and
-- stops as reading does. Stops, and 11. Assumes nothing.
use Prim.Native.Nat.{ℕ, zero, suc, ◌+◌, ◌≤◌, ◌<◌}
use native.Mathlib.Omega.{arith}
use mathlib.Core.Path.{◌≡◌, refl, sym, ap, ◌∙◌}
use mathlib.Core.List.{List, [], ◌∷◌, ◌++◌}
use lib.ListN.{length, take, drop, length-drop}
use lib.Seq.{drop-drop, take_at}
use borrow.Author.Tests.{lt-ltb, le-ltb}
use Rattle.format.specs.Bytes.{pick, over, Bytes}
use Rattle.format.specs.Header.{Header, shut, opened, opening_of}
use Rattle.format.specs.State.{State, start, Record, Next, bad, end, on, made}
use Rattle.format.specs.Sheet.{sheet_version, layout, layout_all, header_layout, sheet_of}
use Rattle.format.specs.Refusals.{Result, stop, accepted, Good, Refusal, Verdict}
use Rattle.format.specs.Reading.{next, ended, after_item, run, items_of, sheet_from, read_outcome, read_buffer}
use Rattle.format.specs.Stepping.{Stand, before, stopped, open_stand, ends, refuses, Step, stop_answer, halted, recorded, step_next, step_of, stops}
use Rattle.format.specs.Stepping.{Gathered, after_step, gathered}
use Rattle.format.proofs.Basics.{pick_case}
use Rattle.format.proofs.RoundTrip.{accepted_means}
use Rattle.format.proofs.ReadingLaws.{SizedNext, next_sized, run_eq}
use Rattle.format.proofs.SheetLaws.{layout_length, bytes_drop}
use Rattle.format.proofs.GoodRecords.{GoodState, GoodNext, next_good, start_good}

-- what reading gives, as what stepping gathers
abbrev pub gathered_of : Result → Gathered
gathered_of x = record { bytes = layout_all sheet_version x.records; halt = stops x.verdict }

-- a stop answers itself
stop_gathers : (v : Verdict) (rest : Gathered) → after_step (stop_answer v) [] rest ≡ gathered_of (stop v)
unfolding layout_all
stop_gathers Good rest = refl
stop_gathers (Refusal n p) rest = refl

module _ (version : ℕ) (file : List ℕ) (bytes : Bytes file) (room : ℕ) (ample : 4130 ≤ room) where
  abbrev Gathers : ℕ → ℕ → State → Type 0
  Gathers n p st = gathered n (before version p st) file room ≡ gathered_of (run version p (drop p file) st)

  -- one step and the rest, by what the item comes to
  step_gathers : (n p : ℕ) (st : State) (x : Next) → SizedNext (length (drop p file)) x → GoodNext x
      → ((m : ℕ) (st' : State) → 1 ≤ m → m ≤ length (drop p file) → GoodState st' → Gathers n (p + m) st')
      → after_step (step_next x version p st (drop p file) room).answer (step_next x version p st (drop p file) room).bytes
      (gathered n (step_next x version p st (drop p file) room).stand file room)
      ≡ gathered_of (after_item x p (drop p file) (λ m st'. run version (p + m) (drop m (drop p file)) st'))
  unfolding recorded pick layout_all
  step_gathers n p st (bad k) z g h = refl
  step_gathers n p st end z g h = stop_gathers (ended p (drop p file)) _
  step_gathers n p st (on m st') z g h = h m st' z.0 z.1 g ∙ rw (drop-drop m p file)
  step_gathers n p st (made m r st') z g h =
      let l : length (layout sheet_version r) ≤ room = omega (arith, layout_length sheet_version r g.0, ample) in
      rw (le-ltb room (length (layout sheet_version r)) l, h m st' z.0 z.1 g.1, drop-drop m p file)

  gathers : (n p : ℕ) (st : State) → GoodState st → length (drop p file) < n → Gathers n p st
  unfolding gathered
  gathers zero p st g l = absurd (omega arith)
  gathers (suc n) p st g l =
      step_gathers n p st (next version (drop p file) st) (next_sized version (drop p file) st) (next_good version (drop p file) st (bytes_drop file bytes p) g)
      (λ m st' k j g'. gathers n (p + m) st' g' (less m k j))
      ∙ ap gathered_of (sym (run_eq version p (drop p file) st))
    where
      less : (m : ℕ) → 1 ≤ m → m ≤ length (drop p file) → length (drop (p + m) file) < n
      less m k j = let a = length-drop p file in let b = length-drop (p + m) file in omega arith

-- ---- an opened file, stepped to its stop: one step more than it has bytes is enough

module _ (file : List ℕ) (bytes : Bytes file) (room : ℕ) (ample : 4130 ≤ room) (v p : ℕ) (h : Header) (opens : opening_of file ≡ opened v p h) where
  abbrev pub steps : Gathered
  steps = gathered (suc (length file)) (open_stand file) file room

  steps_gather : steps ≡ gathered_of (items_of v p file)
  unfolding open_stand items_of
  steps_gather = rw opens (gathers v file bytes room ample (suc (length file)) p start start_good (simp length-drop (omega arith)))

  -- the reader has stopped, with the verdict of reading; and the bytes of its records, in order, are the sheet's after its header
  pub steps_are_records : (steps.halt ≡ stops (items_of v p file).verdict)
      × (sheet_from (opening_of file) file ≡ sheet_version ∷ (header_layout h ++ steps.bytes))
  unfolding sheet_of
  steps_are_records = (ap (λ (g : Gathered). g.halt) steps_gather, rw (opens, steps_gather))

  -- so they are what an accepted reading leaves in a lent sheet
  pub steps_are_read : (old : List ℕ) (b n w : ℕ) → read_outcome file (length old) ≡ accepted b n w
      → (steps.halt ≡ stops Good) × (take b (read_buffer file old) ≡ sheet_version ∷ (header_layout h ++ steps.bytes))
  unfolding read_outcome read_buffer over
  steps_are_read old b n w e =
      let x = items_of v p file in
      let sheet = sheet_of sheet_version h x.records in
      let A = accepted_means x.verdict (length sheet) (length x.records) v (length old) b n w (rw opens at e) in
      (steps_are_records.0 ∙ ap stops A.fine, rw (e, opens) (take_at sheet _ b (sym A.bytes_are) ∙ rw opens at steps_are_records.1))

-- "A refused opening gives a reader whose every step answers that refusal"
pub refused_opening : (file : List ℕ) (n p : ℕ) → opening_of file ≡ shut n p → (room : ℕ) → step_of (open_stand file) file room ≡ halted (Refusal n p)
unfolding open_stand
refused_opening file n p e room = rw e

-- ---- stops, and 11

-- what a step answers at its stop: "After the end or another refusal every step says so again, changing nothing"
abbrev pub Again : Step → List ℕ → Type 0
Again s file = (room : ℕ) → step_of s.stand file room ≡ record { answer = s.answer; stand = s.stand; bytes = [] }

halted_again : (v : Verdict) (file : List ℕ) → Again (halted v) file
halted_again v file room = refl

abbrev pub StopsAgain : List ℕ → Step → Type 0
StopsAgain file s = (s.answer ≡ ends → Again s file) × ((n p : ℕ) → s.answer ≡ refuses n p → (n ≡ 11 → ⊥) → Again s file)

recorded_stops : (here there : Stand) (r : Record) (kept room : ℕ) (file : List ℕ) → StopsAgain file (recorded here there r kept room)
unfolding recorded
recorded_stops here there r kept room file =
    pick_case (StopsAgain file) _ _ _ (λ e. (λ q. absurd (let z : ◌≡◌ {A = ℕ} 0 1 = cc in omega arith), λ n p q h. absurd (h cc)))
    λ e. (λ q. absurd (let z : ◌≡◌ {A = ℕ} 0 1 = cc in omega arith), λ n p q h. absurd (let z : ◌≡◌ {A = ℕ} 0 1 = cc in omega arith))

next_stops : (x : Next) (version place : ℕ) (st : State) (s : List ℕ) (room : ℕ) (file : List ℕ) → StopsAgain file (step_next x version place st s room)
next_stops (bad k) version place st s room file = (λ q. halted_again _ file, λ n p q h. halted_again _ file)
next_stops end version place st s room file = (λ q. halted_again _ file, λ n p q h. halted_again _ file)
next_stops (on n st') version place st s room file =
    (λ q. absurd (let z : ◌≡◌ {A = ℕ} 0 1 = cc in omega arith), λ n p q h. absurd (let z : ◌≡◌ {A = ℕ} 0 1 = cc in omega arith))
next_stops (made n r st') version place st s room file = recorded_stops _ _ r _ room file

pub stops_again : (stand : Stand) (file : List ℕ) (room : ℕ) → StopsAgain file (step_of stand file room)
stops_again (stopped v) file room = (λ q. halted_again v file, λ n p q h. halted_again v file)
stops_again (before version place st) file room = next_stops (next version (drop place file) st) version place st (drop place file) room file

-- "On 11 it doesn't advance": the reader stands where it stood, with the length needed as the refusal's place
pub too_small : (version place : ℕ) (st : State) (file : List ℕ) (room n : ℕ) (r : Record) (st' : State)
    → next version (drop place file) st ≡ made n r st' → room < length (layout sheet_version r)
    → step_of (before version place st) file room ≡ record { answer = refuses 11 (length (layout sheet_version r)); stand = before version place st; bytes = [] }
unfolding recorded pick
too_small version place st file room n r st' e h = rw (e, lt-ltb room (length (layout sheet_version r)) h)
