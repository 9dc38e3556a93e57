-- What an answer on the way to the next record says of the records that are still to come, where there is room for any. Assumes nothing.
use Prim.Native.Nat.{ℕ, zero, suc, ◌+◌, ◌≤◌, ◌<◌}
use native.Mathlib.Omega.{arith}
use mathlib.Core.Path.{◌≡◌, refl, sym, ◌∙◌, subst}
use mathlib.Core.Bool.{Bool, true, false}
use mathlib.Core.List.{List}
use lib.ListN.{length, drop, length-drop}
use lib.Seq.{drop-drop}
use lib.Dec.{ltb}
use borrow.Author.Tests.{le-ltb, ltb-true, ltb-false}
use Rattle.format.specs.Bytes.{pick}
use Rattle.format.specs.State.{State, Record, Next, bad, end, on, made}
use Rattle.format.specs.Sheet.{sheet_version, layout, record_limit}
use Rattle.format.specs.Refusals.{stop, also, Verdict, Good, Refusal}
use Rattle.format.specs.Reading.{next, ended}
use Rattle.format.specs.Stepping.{Stand, before, stopped, StepOutcome, wrote, nothing, ends, refuses, Step, stop_answer, recorded, step_next, step_of}
use Rattle.format.proofs.ReadingLaws.{SizedNext, next_sized, run_eq, run_bad, run_on, run_made}
use Rattle.step.specs.Going.{or_on, go_on, next_record}
use Rattle.step.proofs.Laws.{ample_room, room_lacks}
use Rattle.steplister.specs.Steps.{left_of}

-- the bytes that are left from a stand on
abbrev pub bytes_left : Stand → List ℕ → ℕ
bytes_left (before version place st) file = length (drop place file)
bytes_left (stopped v) file = 0

-- a record of n bytes
pub record Makes (s : Step) (n : ℕ) (stand : Stand) (file : List ℕ) : Type 0 where
  pub the : Record
  pub left : left_of stand file ≡ also the (left_of s.stand file)
  pub bytes_are : s.bytes ≡ layout sheet_version the
  pub size : n ≡ length (layout sheet_version the)
  pub few : n ≤ record_limit
  pub less : bytes_left s.stand file < bytes_left stand file

-- what an answer says of the records from the stand on
abbrev pub Says : StepOutcome → Step → Stand → List ℕ → Type 0
Says (wrote n kept) s stand file = Makes s n stand file
Says nothing s stand file = (left_of stand file ≡ left_of s.stand file) × (bytes_left s.stand file ≤ bytes_left stand file)
Says ends s stand file = left_of stand file ≡ stop Good
Says (refuses n p) s stand file = left_of stand file ≡ stop (Refusal n p)

-- ---- one step

-- a record that an item makes: room for any is room for it
made_few : (version : ℕ) (s : List ℕ) (st : State) (n : ℕ) (r : Record) (st' : State) → next version s st ≡ made n r st'
    → length (layout sheet_version r) ≤ record_limit
made_few version s st n r st' e = go (ltb record_limit (length (layout sheet_version r))) refl
  where
    go : (b : Bool) → ltb record_limit (length (layout sheet_version r)) ≡ b → length (layout sheet_version r) ≤ record_limit
    go true q =
        let a = rw e at (ample_room record_limit (omega arith) version s st) in
        let c = a ∙ sym (room_lacks (length (layout sheet_version r)) record_limit (ltb-true _ _ q)) in
        absurd (let z : ◌≡◌ {A = ℕ} 0 1 = cc in omega arith)
    go false q = ltb-false _ _ q

stop_says : (v : Verdict) (s : Step) (stand : Stand) (file : List ℕ) → left_of stand file ≡ stop v → Says (stop_answer v) s stand file
stop_says Good s stand file e = e
stop_says (Refusal n p) s stand file e = e

module _ (file : List ℕ) (room : ℕ) (ample : record_limit ≤ room) where
  -- by what the item comes to
  next_says : (version p : ℕ) (st : State) (x : Next) → next version (drop p file) st ≡ x → SizedNext (length (drop p file)) x
      → Says (step_next x version p st (drop p file) room).answer (step_next x version p st (drop p file) room) (before version p st) file
  unfolding recorded pick
  next_says version p st (bad k) e z = run_bad version p (drop p file) st e
  next_says version p st end e z = stop_says (ended p (drop p file)) _ (before version p st) file (run_eq version p (drop p file) st ∙ rw e)
  next_says version p st (on n st') e z =
      let a = length-drop p file in
      let b = length-drop (p + n) file in
      (run_on version p (drop p file) st e ∙ rw (drop-drop n p file), omega (arith, a, b))
  next_says version p st (made n r st') e z =
      let a = length-drop p file in
      let b = length-drop (p + n) file in
      let few : length (layout sheet_version r) ≤ record_limit = made_few version (drop p file) st n r st' e in
      rw (le-ltb room (length (layout sheet_version r)) (omega (arith, few, ample)))
      (record {
        the = r;
        left = run_made version p (drop p file) st e ∙ rw (drop-drop n p file);
        bytes_are = refl;
        size = refl;
        few = few;
        less = omega (arith, a, b, z.0, z.1);
      })

  step_says : (stand : Stand) → Says (step_of stand file room).answer (step_of stand file room) stand file
  step_says (stopped v) = stop_says v _ (stopped v) file refl
  step_says (before version p st) = next_says version p st (next version (drop p file) st) refl (next_sized version (drop p file) st)

  -- ---- on to the next record

  -- after a step that made no record
  carried : (a : StepOutcome) (s : Step) (here stand : Stand) → left_of stand file ≡ left_of here file → bytes_left here file ≤ bytes_left stand file
      → Says a s here file → Says a s stand file
  carried (wrote n kept) s here stand e l S =
      record { the = S.the; left = e ∙ S.left; bytes_are = S.bytes_are; size = S.size; few = S.few; less = omega (arith, l, S.less) }
  carried nothing s here stand e l S = (e ∙ S.0, omega (arith, l, S.1))
  carried ends s here stand e l S = e ∙ S
  carried (refuses n p) s here stand e l S = e ∙ S

  or_says : (a : StepOutcome) (s rest : Step) (stand : Stand) → s.answer ≡ a → Says a s stand file → Says rest.answer rest s.stand file
      → Says (or_on a s rest).answer (or_on a s rest) stand file
  or_says (wrote n kept) s rest stand e S T = subst (λ (b : StepOutcome). Says b s stand file) (sym e) S
  or_says nothing s rest stand e S T = carried rest.answer rest s.stand stand S.0 S.1 T
  or_says ends s rest stand e S T = subst (λ (b : StepOutcome). Says b s stand file) (sym e) S
  or_says (refuses n p) s rest stand e S T = subst (λ (b : StepOutcome). Says b s stand file) (sym e) S

  go_says : (n : ℕ) (stand : Stand) → Says (go_on n stand file room).answer (go_on n stand file room) stand file
  unfolding go_on
  go_says zero stand = step_says stand
  go_says (suc n) stand =
      let s = step_of stand file room in
      or_says s.answer s (go_on n s.stand file room) stand refl (step_says stand) (go_says n s.stand)

  pub on_says : (stand : Stand) → Says (next_record stand file room).answer (next_record stand file room) stand file
  unfolding next_record
  on_says stand = go_says (length file) stand
