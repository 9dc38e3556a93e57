-- Going on to the next record, a step at a time; and that it always comes to one, the end or a refusal. Assumes nothing.
use Rattle.std.specs.Prelude.{Ok, Err}
use Rattle.format.specs.declared.Refusal.{Refusal as Refusing}
use Rattle.format.specs.Refusals.{Verdict, Good, Refusal}
use Prim.Native.Nat.{ℕ, zero, suc, ◌+◌, ◌-◌, ◌≤◌}
use native.Mathlib.Omega.{arith}
use mathlib.Core.Path.{◌≡◌, refl, sym, ap, ◌∙◌}
use mathlib.Core.List.{List, [], ◌∷◌}
use lib.ListN.{length, drop, length-drop}
use types.Run.{OneOf, miss}
use borrow.Enum.Refused.{Among, opened as opened_tag}
use denote.Enum.Declared.{tag_of}
use Rattle.format.specs.Bytes.{over}
use Rattle.format.specs.State.{State, Record, Next, bad, end, on, made}
use Rattle.format.specs.Reading.{next, ended}
use Rattle.format.specs.Stepping.{Stand, before, stopped, StepOutcome, wrote, nothing, ends, refuses, Step, stop_answer, recorded, step_next, step_of, step_buffer}
use Rattle.format.specs.Answers.{stepped_of}
use Rattle.format.specs.declared.Stepped.{Stepped}
use Rattle.format.specs.declared.Stepped.TheVariants.{Record as RecordStep, Nothing, End as EndStep}
use Rattle.format.specs.contracts.Stepped.{the_type}
use Rattle.format.proofs.Basics.{pick_case}
use Rattle.format.proofs.ReadingLaws.{SizedNext, next_sized}
use Rattle.step.specs.Standing.{stand_seen, Steps}
use Rattle.step.specs.Going.{or_on, go_on, next_record, next_buffer, Goes}
use Rattle.step.specs.declared.Stand.{Stand as Held}
use Rattle.step.specs.declared.Taken.{Taken}

-- ---- one step and the rest

or_this : (a : StepOutcome) (s rest : Step) → (a ≡ nothing → ⊥) → or_on a s rest ≡ s
or_this (wrote n kept) s rest h = refl
or_this nothing s rest h = absurd (h refl)
or_this ends s rest h = refl
or_this (refuses n p) s rest h = refl

module _ (file : List ℕ) (room : ℕ) where
  pub go_stops : (n : ℕ) (stand : Stand) → ((step_of stand file room).answer ≡ nothing → ⊥) → go_on n stand file room ≡ step_of stand file room
  unfolding go_on
  go_stops zero stand h = refl
  go_stops (suc n) stand h = or_this (step_of stand file room).answer _ _ h

  pub go_last : (n : ℕ) (stand : Stand) → n ≡ 0 → go_on n stand file room ≡ step_of stand file room
  unfolding go_on
  go_last n stand e = rw e

  pub go_on_lem : (n : ℕ) (stand : Stand) → (n ≡ 0 → ⊥) → nothing ≡ (step_of stand file room).answer → go_on n stand file room ≡ go_on (n - 1) (step_of stand file room).stand file room
  unfolding go_on
  go_on_lem zero stand h e = absurd (h refl)
  go_on_lem (suc n) stand h e = let z : suc n - 1 ≡ n = omega arith in rw (← e, z)

-- ---- a step that answers no record writes nothing

clear_stop : (v : Verdict) → nothing ≡ stop_answer v → ⊥
clear_stop Good e = let z : ◌≡◌ {A = ℕ} 0 1 = cc in omega arith
clear_stop (Refusal n p) e = let z : ◌≡◌ {A = ℕ} 0 1 = cc in omega arith

clear_recorded : (here there : Stand) (r : Record) (kept room : ℕ) → nothing ≡ (recorded here there r kept room).answer → ⊥
unfolding recorded
clear_recorded here there r kept room =
    pick_case (λ (s : Step). nothing ≡ s.answer → ⊥) _ _ _ (λ e q. let z : ◌≡◌ {A = ℕ} 0 1 = cc in omega arith) (λ e q. let z : ◌≡◌ {A = ℕ} 0 1 = cc in omega arith)

clear_next : (x : Next) (version place : ℕ) (st : State) (s : List ℕ) (room : ℕ) → nothing ≡ (step_next x version place st s room).answer → (step_next x version place st s room).bytes ≡ []
clear_next (bad k) version place st s room e = absurd (clear_stop (Refusal k place) e)
clear_next end version place st s room e = absurd (clear_stop (ended place s) e)
clear_next (on n st') version place st s room e = refl
clear_next (made n r st') version place st s room e = absurd (clear_recorded _ _ r _ room e)

clear : (stand : Stand) (file : List ℕ) (room : ℕ) → nothing ≡ (step_of stand file room).answer → (step_of stand file room).bytes ≡ []
clear (stopped v) file room e = absurd (clear_stop v e)
clear (before version place st) file room e = clear_next (next version (drop place file) st) version place st (drop place file) room e

-- ---- the loop: what is left, from here, comes to the same as the whole

pub record Left (h : Held) (label file old : List ℕ) (n : ℕ) (here : Held) (label' new : List ℕ) : Type 0 where
  pub same : go_on n (stand_seen here label') file (length new) ≡ next_record (stand_seen h label) file (length old)
  pub unwritten : new ≡ old

pub left_first : (h : Held) (label file old : List ℕ) → Left h label file old (length file) h label old
unfolding next_record
left_first h label file old = record { same = refl; unwritten = refl }

pub left_from : (h : Held) (label file old : List ℕ) (n : ℕ) → n ≡ length file → Left h label file old n h label old
left_from h label file old n e = rw e (left_first h label file old)

module _ {h here : Held} {label file old label' now : List ℕ} {n : ℕ} (L : Left h label file old n here label' now) {t : Taken} {label'' new : List ℕ} (S : Steps here label' file now t label'' new) where
  left_is : go_on n (stand_seen here label') file (length now) ≡ step_of (stand_seen here label') file (length now) → Goes h label file old t label'' new
  unfolding step_buffer next_buffer
  left_is e =
      let q : step_of (stand_seen here label') file (length now) ≡ next_record (stand_seen h label) file (length old) = sym e ∙ L.same in
      record {
        answer = S.answer ∙ ap (λ (s : Step). s.answer) q;
        stand = S.stand ∙ ap (λ (s : Step). s.stand) q;
        buffer = S.buffer ∙ rw (q, L.unwritten);
      }

  pub left_last : n ≡ 0 → Goes h label file old t label'' new
  left_last e = left_is (go_last file (length now) n (stand_seen here label') e)

  other : (x : Stepped) → OneOf (0 ∷ 2 ∷ []) (tag_of the_type x) → stepped_of (Ok x) ≡ nothing → ⊥
  other (RecordStep n kept) o e = let z : ◌≡◌ {A = ℕ} 0 1 = cc in omega arith
  other Nothing o e = miss (0 ∷ 2 ∷ []) 1 tt o
  other EndStep o e = let z : ◌≡◌ {A = ℕ} 0 1 = cc in omega arith

  left_stops : (stepped_of t.answer ≡ nothing → ⊥) → Goes h label file old t label'' new
  left_stops o = left_is (go_stops file (length now) n (stand_seen here label') (λ q. o (S.answer ∙ q)))

  -- an answer that is not `Nothing`, as an arm knows it
  pub left_among : (x : Stepped) → t.answer ≡ Ok x → Among (0 ∷ 2 ∷ []) (tag_of the_type x) → Goes h label file old t label'' new
  left_among x e o = left_stops (λ q. other x (opened_tag o) (ap stepped_of (sym e) ∙ q))

  pub left_refused : (x : Refusing) → t.answer ≡ Err x → Goes h label file old t label'' new
  left_refused x e = left_stops (λ q. let p = ap stepped_of (sym e) ∙ q in let z : ◌≡◌ {A = ℕ} 0 1 = cc in omega arith)

  pub left_again : (n ≡ 0 → ⊥) → t.answer ≡ Ok Nothing → Left h label file old (n - 1) t.stand label'' new
  unfolding step_buffer over
  left_again i e =
      let a : nothing ≡ (step_of (stand_seen here label') file (length now)).answer = rw e at S.answer in
      let b : new ≡ now = S.buffer ∙ rw (clear (stand_seen here label') file (length now) a) in
      record {
        same = rw (b, S.stand) (sym (go_on_lem file (length now) n (stand_seen here label') i a) ∙ L.same);
        unwritten = b ∙ L.unwritten;
      }

  -- the same with the count one less
  pub left_next : (m : ℕ) → n ≡ m + 1 → t.answer ≡ Ok Nothing → Left h label file old m t.stand label'' new
  left_next m i e =
      let z : n - 1 ≡ m = omega arith in
      rw z at (left_again (λ q. absurd (omega (arith, i, q))) e)

-- ---- each item has a byte at least, so a file's bytes are steps enough

module _ (version : ℕ) (file : List ℕ) (room : ℕ) where
  abbrev Ends : Step → Type 0
  Ends s = nothing ≡ s.answer → ⊥

  abbrev pub Enough : ℕ → ℕ → Type 0
  Enough n p = length (drop p file) ≤ n → (st : State) → Ends (go_on n (before version p st) file room)

  -- a step that answers no record is followed by the rest; any other is the last
  ends_by : (n p : ℕ) (st : State) (x : Next) → next version (drop p file) st ≡ x → SizedNext (length (drop p file)) x
      → ((m : ℕ) (st' : State) → 1 ≤ m → m ≤ length (drop p file) → x ≡ on m st' → Ends (go_on n (before version p st) file room)) → Ends (go_on n (before version p st) file room)
  ends_by n p st (bad k) e z f = stays (λ q. clear_stop (Refusal k p) (q ∙ ap (λ (y : Next). (step_next y version p st (drop p file) room).answer) e))
    where
      stays : Ends (step_of (before version p st) file room) → Ends (go_on n (before version p st) file room)
      stays h = rw (go_stops file room n (before version p st) (λ q. h (sym q))) h
  ends_by n p st end e z f = stays (λ q. clear_stop (ended p (drop p file)) (q ∙ ap (λ (y : Next). (step_next y version p st (drop p file) room).answer) e))
    where
      stays : Ends (step_of (before version p st) file room) → Ends (go_on n (before version p st) file room)
      stays h = rw (go_stops file room n (before version p st) (λ q. h (sym q))) h
  ends_by n p st (on m st') e z f = f m st' z.0 z.1 refl
  ends_by n p st (made m r st') e z f = stays (λ q. clear_recorded _ _ r _ room (q ∙ ap (λ (y : Next). (step_next y version p st (drop p file) room).answer) e))
    where
      stays : Ends (step_of (before version p st) file room) → Ends (go_on n (before version p st) file room)
      stays h = rw (go_stops file room n (before version p st) (λ q. h (sym q))) h

  pub ends_in : (n p : ℕ) → Enough n p
  ends_in zero p l st = ends_by zero p st (next version (drop p file) st) refl (next_sized version (drop p file) st) (λ m st' i j e. absurd (omega (arith, i, j, l)))
  ends_in (suc n) p l st =
      ends_by (suc n) p st (next version (drop p file) st) refl (next_sized version (drop p file) st)
      (λ m st' i j e.
      let s : step_of (before version p st) file room ≡ step_next (on m st') version p st (drop p file) room = ap (λ (y : Next). step_next y version p st (drop p file) room) e in
      let a : nothing ≡ (step_of (before version p st) file room).answer = ap (λ (y : Step). y.answer) (sym s) in
      let z : suc n - 1 ≡ n = omega arith in
      let g : go_on (suc n) (before version p st) file room ≡ go_on n (before version (p + m) st') file room =
      go_on_lem file room (suc n) (before version p st) (λ q. omega (arith, q)) a ∙ rw (z, s) in
      let b = length-drop p file in
      let c = length-drop (p + m) file in
      rw g (ends_in n (p + m) (omega (arith, b, c, i, j, l)) st'))

-- what going on answers is a record, the end or a refusal
pub next_answers : (stand : Stand) (file : List ℕ) (room : ℕ) → nothing ≡ (next_record stand file room).answer → ⊥
unfolding next_record
next_answers (stopped v) file room e = clear_stop v (e ∙ ap (λ (s : Step). s.answer) (go_stops file room (length file) (stopped v) (λ q. clear_stop v (sym q))))
next_answers (before version p st) file room e = ends_in version file room (length file) p (let b = length-drop p file in omega (arith, b)) st e
