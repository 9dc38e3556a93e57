-- What strict reading promises beside ordinary reading. Where it accepts, ordinary reading gives the same answer and sheet; where ordinary reading
-- refuses, it refuses too, and in an item no later; with room for all different names it never answers 22. Each law goes item by item: both readings
-- make the same records until a record is refused, and the room that names take only grows. Assumes nothing.
use Prim.Native.Nat.{ℕ, zero, suc, ◌+◌, ◌≤◌, ◌<◌}
use mathlib.Core.Path.{◌≡◌, refl, sym, ap, ◌∙◌}
use mathlib.Core.Bool.{Bool, true, false}
use mathlib.Core.List.{List, [], ◌∷◌}
use native.Mathlib.Omega.{arith}
use lib.ListN.{length, drop, length-drop}
use lib.Dec.{ltb}
use borrow.Author.Tests.{le-ltb}
use Rattle.format.specs.Bytes.{pick}
use Rattle.format.specs.Header.{Header, Opening, shut, opened, opening_of}
use Rattle.format.specs.State.{State, Record, leg, station, section, error, Next, bad, end, on, made}
use Rattle.format.specs.Sheet.{sheet_version, sheet_of}
use Rattle.format.specs.Refusals.{reader_number, Result, also, Outcome, accepted, refused, outcome_of, Verdict, Good, Refusal}
use Rattle.format.specs.Reading.{next, ended, after_item, run, items_of, read_outcome, read_buffer}
use Rattle.format.specs.declared.Point.{Point}
use Rattle.format.proofs.Basics.{pick_case}
use Rattle.format.proofs.ConversionLaws.{read_numbers}
use Rattle.format.proofs.ReadingLaws.{SizedNext, next_sized, run_eq}
use Rattle.strict.specs.Strict.{Searched, found, unknown, searched, name_room, new_room, taken, Judgement, fine, faulty, judge_section, judge_station, judged, same_place}
use Rattle.strict.specs.Strict.{Stand, unless, after_strictly, strict_run, strict_items, taken_with, room_from, room_for, strict_from, strict_outcome, strict_buffer}
use Rattle.strict.proofs.StrictLaws.{strict_eq, strict_same}

-- ---- where strict reading accepts, ordinary reading gives the same answer and sheet

module _ (file old : List ℕ) (index : ℕ) where
  same_good : (version place : ℕ) (h : Header) → opening_of file ≡ opened version place h → (strict_items version index place file).verdict ≡ Good
      → (strict_outcome file index (length old) ≡ read_outcome file (length old)) × (strict_buffer file index old ≡ read_buffer file old)
  unfolding read_outcome read_buffer strict_outcome strict_buffer
  same_good version place h d q = let s = strict_same version index place file q in (rw (d, s), rw (d, s))

  module _ (b n v : ℕ) (E : strict_outcome file index (length old) ≡ accepted b n v) where
    accepts_by : (o : Opening) → opening_of file ≡ o → strict_from o file index (length old) ≡ accepted b n v
        → (read_outcome file (length old) ≡ accepted b n v) × (strict_buffer file index old ≡ read_buffer file old)
    accepts_by (shut k p) d e = let z : ◌≡◌ {A = ℕ} 0 1 = cc in absurd (omega arith)
    accepts_by (opened version place h) d e = go (strict_items version index place file).verdict refl
      where
        go : (w : Verdict) → (strict_items version index place file).verdict ≡ w → (read_outcome file (length old) ≡ accepted b n v) × (strict_buffer file index old ≡ read_buffer file old)
        go (Refusal k p) q = let f : refused k p ≡ accepted b n v = rw q at e in let z : ◌≡◌ {A = ℕ} 0 1 = cc in absurd (omega arith)
        go Good q = let z = same_good version place h d q in (sym z.0 ∙ E, z.1)

    pub strict_accepts : (read_outcome file (length old) ≡ accepted b n v) × (strict_buffer file index old ≡ read_buffer file old)
    unfolding strict_outcome
    strict_accepts = accepts_by (opening_of file) refl E

  -- where ordinary reading refuses, strict reading refuses
  pub strict_refuses : (n p : ℕ) → read_outcome file (length old) ≡ refused n p → (k : ℕ) × (q : ℕ) × (strict_outcome file index (length old) ≡ refused k q)
  strict_refuses n p r = go (strict_outcome file index (length old)) refl
    where
      go : (x : Outcome) → strict_outcome file index (length old) ≡ x → (k : ℕ) × (q : ℕ) × (strict_outcome file index (length old) ≡ refused k q)
      go (refused k q) e = (k, q, e)
      go (accepted b m v) e = let f : accepted b m v ≡ refused n p = sym (strict_accepts b m v e).0 ∙ r in let z : ◌≡◌ {A = ℕ} 0 1 = cc in absurd (omega arith)

-- ---- and in an item no later

-- a refusal from a place on
abbrev From : ℕ → Verdict → Type 0
From at Good = Unit
From at (Refusal n q) = at ≤ q

-- a verdict that comes no later than another
abbrev pub Sooner : Verdict → Verdict → Type 0
Sooner Good v = v ≡ Good
Sooner (Refusal k p) Good = Unit
Sooner (Refusal k p) (Refusal n q) = p ≤ q

from_less : (a b : ℕ) (v : Verdict) → a ≤ b → From b v → From a v
from_less a b Good l f = tt
from_less a b (Refusal n q) l f = omega arith

from_after : (m at : ℕ) (s : List ℕ) (x : Next) (go : ℕ → State → Result) → SizedNext m x
    → ((n : ℕ) (st : State) → 1 ≤ n → n ≤ m → From (at + n) (go n st).verdict) → From at (after_item x at s go).verdict
unfolding ended
from_after m at s (bad k) go z f = omega arith
from_after m at s end go z f = pick_case (From at) _ _ _ (λ e. omega arith) λ e. tt
from_after m at s (on n st) go z f = from_less at (at + n) (go n st).verdict (omega arith) (f n st z.0 z.1)
from_after m at s (made n r st) go z f = from_less at (at + n) (go n st).verdict (omega arith) (f n st z.0 z.1)

run_from : (version fuel at : ℕ) (s : List ℕ) (st : State) → length s < fuel → From at (run version at s st).verdict
run_from version zero at s st h = absurd (omega arith)
run_from version (suc fuel) at s st h =
    rw (run_eq version at s st)
    (from_after (length s) at s (next version s st) _ (next_sized version s st) (λ n st' l k. run_from version fuel (at + n) (drop n s) st' (simp length-drop (omega arith))))

sooner_same : (v : Verdict) → Sooner v v
sooner_same Good = refl
sooner_same (Refusal k p) = omega arith

sooner_from : (k at : ℕ) (v : Verdict) → From at v → Sooner (Refusal k at) v
sooner_from k at Good f = tt
sooner_from k at (Refusal n q) f = f

sooner_unless : (j : Judgement) (at : ℕ) (r : Record) (x y : Result) → From at y.verdict → Sooner x.verdict y.verdict → Sooner (unless j at (also r x)).verdict (also r y).verdict
sooner_unless fine at r x y f h = h
sooner_unless (faulty k) at r x y f h = sooner_from k at y.verdict f

module _ (version room : ℕ) where
  sooner_after : (x : Next) (m at : ℕ) (s : List ℕ) (earlier : List Record) (f : ℕ → Stand → Result) (g : ℕ → State → Result) → SizedNext m x
      → ((n : ℕ) (st : State) → 1 ≤ n → n ≤ m → From (at + n) (g n st).verdict)
      → ((n : ℕ) (st : State) (before : List Record) → 1 ≤ n → n ≤ m → Sooner (f n (record { state = st; earlier = before })).verdict (g n st).verdict)
      → Sooner (after_strictly x room at s earlier f).verdict (after_item x at s g).verdict
  sooner_after (bad k) m at s earlier f g z b h = omega arith
  sooner_after end m at s earlier f g z b h = sooner_same (ended at s)
  sooner_after (on n st) m at s earlier f g z b h = h n st earlier z.0 z.1
  sooner_after (made n r st) m at s earlier f g z b h =
      sooner_unless (judged room earlier r) at r (f n (record { state = st; earlier = r ∷ earlier })) (g n st)
      (from_less at (at + n) (g n st).verdict (omega arith) (b n st z.0 z.1)) (h n st (r ∷ earlier) z.0 z.1)

  sooner_run : (fuel at : ℕ) (s : List ℕ) (x : Stand) → length s < fuel → Sooner (strict_run version room at s x).verdict (run version at s x.state).verdict
  sooner_run zero at s x h = absurd (omega arith)
  sooner_run (suc fuel) at s x h =
      rw (strict_eq version room at s x, run_eq version at s x.state)
      (sooner_after (next version s x.state) (length s) at s x.earlier _ _ (next_sized version s x.state)
      (λ n st l k. run_from version fuel (at + n) (drop n s) st (simp length-drop (omega arith)))
      (λ n st before l k. sooner_run fuel (at + n) (drop n s) (record { state = st; earlier = before }) (simp length-drop (omega arith))))

  pub strict_sooner : (place : ℕ) (file : List ℕ) → Sooner (strict_items version room place file).verdict (items_of version place file).verdict
  unfolding strict_items items_of
  strict_sooner place file = sooner_run (suc (length (drop place file))) place (drop place file) _ (omega arith)

-- ---- with room for all different names 22 is never given

abbrev NotFull : Verdict → Type 0
NotFull Good = Unit
NotFull (Refusal k p) = k ≡ 22 → ⊥

readers_number : (k : ℕ) → reader_number k ≡ true → k ≡ 22 → ⊥
readers_number k z e = let q : reader_number 22 ≡ true = rw e at z in let n : ◌≡◌ {A = ℕ} 0 1 = cc in omega arith

taken_grows : (r : Record) (earlier : List Record) → taken earlier ≤ taken (r ∷ earlier)
unfolding taken
taken_grows (station g l) earlier = omega arith
taken_grows (leg g l) earlier = omega arith
taken_grows (section g l) earlier = omega arith
taken_grows (error t) earlier = omega arith

taken_within : (earlier coming : List Record) → taken earlier ≤ taken_with earlier coming
unfolding taken_with
taken_within earlier [] = omega arith
taken_within earlier (r ∷ coming) = let a = taken_grows r earlier in let b = taken_within (r ∷ earlier) coming in omega arith

station_fits : (a : Searched) (place : Point) (l : List ℕ) (t room : ℕ) → t + new_room a l ≤ room → judge_station a place (t + name_room l) room ≡ faulty 22 → ⊥
unfolding pick
station_fits (found p) place l t room h e = go (same_place p place) e
  where
    go : (b : Bool) → pick b fine (faulty 19) ≡ faulty 22 → ⊥
    go true e = let n : ◌≡◌ {A = ℕ} 0 1 = cc in omega arith
    go false e = let n : ◌≡◌ {A = ℕ} 19 22 = cc in omega arith
station_fits unknown place l t room h e =
    let q : fine ≡ faulty 22 = rw (le-ltb _ _ h) at e in
    let n : ◌≡◌ {A = ℕ} 0 1 = cc in
    omega arith

section_fits : (a : Searched) → judge_section a ≡ faulty 22 → ⊥
section_fits (found p) e = let n : ◌≡◌ {A = ℕ} 0 1 = cc in omega arith
section_fits unknown e = let n : ◌≡◌ {A = ℕ} 18 22 = cc in omega arith

record_fits : (room : ℕ) (earlier : List Record) (r : Record) → taken (r ∷ earlier) ≤ room → judged room earlier r ≡ faulty 22 → ⊥
unfolding taken
record_fits room earlier (station g l) h e = station_fits (searched earlier l) g.place l (taken earlier) room h e
record_fits room earlier (section g l) h e = section_fits (searched earlier l) e
record_fits room earlier (leg g l) h e = let n : ◌≡◌ {A = ℕ} 0 1 = cc in omega arith
record_fits room earlier (error t) h e = let n : ◌≡◌ {A = ℕ} 0 1 = cc in omega arith

full_unless : (j : Judgement) (at : ℕ) (r : Record) (x : Result) → (j ≡ faulty 22 → ⊥) → NotFull x.verdict → NotFull (unless j at (also r x)).verdict
full_unless fine at r x f h = h
full_unless (faulty k) at r x f h = λ e. f (ap faulty e)

module _ (version room : ℕ) where
  full_after : (x : Next) (m at : ℕ) (s : List ℕ) (earlier : List Record) (f : ℕ → Stand → Result) (g : ℕ → State → Result) → SizedNext m x
      → taken_with earlier (after_item x at s g).records ≤ room
      → ((n : ℕ) (st : State) (before : List Record) → 1 ≤ n → n ≤ m → taken_with before (g n st).records ≤ room → NotFull (f n (record { state = st; earlier = before })).verdict)
      → NotFull (after_strictly x room at s earlier f).verdict
  unfolding ended taken_with
  full_after (bad k) m at s earlier f g z b h = readers_number k z
  full_after end m at s earlier f g z b h = pick_case NotFull _ _ _ (λ e n. omega arith) λ e. tt
  full_after (on n st) m at s earlier f g z b h = h n st earlier z.0 z.1 b
  full_after (made n r st) m at s earlier f g z b h =
      let t = taken_within (r ∷ earlier) (g n st).records in
      full_unless (judged room earlier r) at r (f n (record { state = st; earlier = r ∷ earlier })) (record_fits room earlier r (omega arith)) (h n st (r ∷ earlier) z.0 z.1 b)

  full_run : (fuel at : ℕ) (s : List ℕ) (x : Stand) → length s < fuel → taken_with x.earlier (run version at s x.state).records ≤ room → NotFull (strict_run version room at s x).verdict
  full_run zero at s x h b = absurd (omega arith)
  full_run (suc fuel) at s x h b =
      rw (strict_eq version room at s x)
      (full_after (next version s x.state) (length s) at s x.earlier _ _ (next_sized version s x.state) (rw (run_eq version at s x.state) at b)
      (λ n st before l k c. full_run fuel (at + n) (drop n s) (record { state = st; earlier = before }) (simp length-drop (omega arith)) c))

  items_fit : (place : ℕ) (file : List ℕ) → taken_with [] (items_of version place file).records ≤ room → NotFull (strict_items version room place file).verdict
  unfolding strict_items items_of
  items_fit place file b = full_run (suc (length (drop place file))) place (drop place file) _ (omega arith) b

outcome_fits : (v : Verdict) (bytes records version room p : ℕ) → NotFull v → outcome_of v bytes records version room ≡ refused 22 p → ⊥
unfolding pick
outcome_fits (Refusal k q) bytes records version room p f e = f (let z : k ≡ 22 = cc in z)
outcome_fits Good bytes records version room p f e = go (ltb room bytes) e
  where
    go : (t : Bool) → pick t (refused 11 bytes) (accepted bytes records version) ≡ refused 22 p → ⊥
    go true e = let z : ◌≡◌ {A = ℕ} 11 22 = cc in omega arith
    go false e = let z : ◌≡◌ {A = ℕ} 0 1 = cc in omega arith

shut_number : (file : List ℕ) (room k q : ℕ) → opening_of file ≡ shut k q → reader_number k ≡ true
unfolding read_outcome
shut_number file room k q d = read_numbers file room k q (rw d)

pub strict_never_full : (file : List ℕ) (index room p : ℕ) → room_for file ≤ index → strict_outcome file index room ≡ refused 22 p → ⊥
unfolding strict_outcome room_for
strict_never_full file index room p h e = go (opening_of file) refl h e
  where
    go : (o : Opening) → opening_of file ≡ o → room_from o file ≤ index → strict_from o file index room ≡ refused 22 p → ⊥
    go (shut k q) d h e = readers_number k (shut_number file room k q d) (let z : k ≡ 22 = cc in z)
    go (opened version place t) d h e =
        let x = strict_items version index place file in
        outcome_fits x.verdict (length (sheet_of sheet_version t x.records)) (length x.records) version room p (items_fit version index place file h) e
