-- What judging a record comes to where the index knows the records made so far, on plain values: the index answers as the search through them, and
-- a station that is kept, or was there, makes it know one record more. Assumes nothing.
use Prim.Native.Nat.{ℕ, ◌+◌, ◌≤◌, ◌<◌}
use mathlib.Core.Path.{◌≡◌, refl, sym, ap, ◌∙◌}
use mathlib.Core.List.{List, [], ◌∷◌, ◌++◌}
use mathlib.Core.Bool.{Bool, true, false, ◌&&◌}
use mathlib.Core.Logic.{inl, inr}
use Rattle.std.specs.Prelude.{Result, Ok, Err}
use native.Mathlib.Omega.{arith}
use lib.ListN.{length}
use lib.Dec.{eqb}
use borrow.Author.Tests.{lt-ltb, le-ltb, eq-eqb, eqb-true}
use Rattle.format.specs.Bytes.{pick, same}
use Rattle.format.specs.State.{Record, leg, station, section, error}
use Rattle.format.specs.declared.Fault.{Fault}
use Rattle.format.specs.declared.Fault.TheVariants.{UnknownStation, StationMoved, NoRoomForNames}
use Rattle.format.specs.declared.Point.{Point}
use Rattle.format.specs.declared.Leg.{Leg}
use Rattle.format.specs.declared.Station.{Station}
use Rattle.format.specs.declared.Section.{Section}
use Rattle.format.specs.declared.Traverse.{Traverse}
use Rattle.format.proofs.Basics.{both, and_true, same_true}
use Rattle.table.specs.Entries.{Entry, Answer, somewhere, nowhere, lookup, room_of, entries_of}
use Rattle.table.specs.Told.{Holds, FindTold, KeptTold, StationTold}
use Rattle.table.specs.declared.Index.{Index}
use Rattle.table.proofs.Lookups.{lookup_front, lookup_last, room_last}
use Rattle.strict.specs.Strict.{found, unknown, searched, taken, Judgement, same_place, judged}
use Rattle.strict.specs.Indexed.{as_searched, Knows, JudgedTo}

-- ---- the same place

same_place_lem : (p : Point) → same_place p p ≡ true
unfolding same_place
same_place_lem p = and_true (eq-eqb p.x p.x refl) (and_true (eq-eqb p.y p.y refl) (eq-eqb p.z p.z refl))

other_place : (p q : Point) → (p ≡ q → ⊥) → same_place p q ≡ false
unfolding same_place
other_place p q h = go (eqb p.x q.x && (eqb p.y q.y && eqb p.z q.z)) refl
  where
    go : (b : Bool) → (eqb p.x q.x && (eqb p.y q.y && eqb p.z q.z)) ≡ b → b ≡ false
    go false e = refl
    go true e =
        let u = both (eqb p.x q.x) (eqb p.y q.y && eqb p.z q.z) e in
        let v = both (eqb p.y q.y) (eqb p.z q.z) u.1 in
        let x = eqb-true p.x q.x u.0 in
        let y = eqb-true p.y q.y v.0 in
        let z = eqb-true p.z q.z v.1 in
        absurd (h (rw (x, y, z)))

-- ---- one record more

module _ (room : List ℕ) (i : Index) (earlier : List Record) (K : Knows room i earlier) where
  abbrev es : List Entry
  es = entries_of room i.count

  pub search_found : (name : List ℕ) {p : Point} → lookup es name ≡ somewhere p → searched earlier name ≡ found p
  search_found name e = sym (K.answers name) ∙ ap as_searched e

  pub search_unknown : (name : List ℕ) → lookup es name ≡ nowhere → searched earlier name ≡ unknown
  search_unknown name e = sym (K.answers name) ∙ ap as_searched e

  -- a record that is no station
  pub knows_leg : (g : Leg) (l : List ℕ) → Knows room i (leg g l ∷ earlier)
  unfolding searched taken
  knows_leg g l = record { holds = K.holds; answers = K.answers; takes = K.takes; few = omega (arith, K.few) }

  pub knows_section : (g : Section) (l : List ℕ) → Knows room i (section g l ∷ earlier)
  unfolding searched taken
  knows_section g l = record { holds = K.holds; answers = K.answers; takes = K.takes; few = omega (arith, K.few) }

  pub knows_error : (t : Traverse) → Knows room i (error t ∷ earlier)
  unfolding searched taken
  knows_error t = record { holds = K.holds; answers = K.answers; takes = K.takes; few = omega (arith, K.few) }

  module _ (g : Station) (l : List ℕ) where
    -- a station that was there at the same place
    known_answers : lookup es l ≡ somewhere g.place → (name : List ℕ) (b : Bool) → same l name ≡ b → as_searched (lookup es name) ≡ pick b (found g.place) (searched earlier name)
    unfolding pick
    known_answers e name true q = ap as_searched (rw (same_true l name q) at e)
    known_answers e name false q = K.answers name

    known_takes : lookup es l ≡ somewhere g.place → room_of es ≡ taken (station g l ∷ earlier)
    unfolding taken
    known_takes e = rw (search_found l e) (let z = K.takes in omega arith)

    pub knows_known : lookup es l ≡ somewhere g.place → Knows room i (station g l ∷ earlier)
    unfolding searched
    knows_known e = record { holds = K.holds; answers = λ name. known_answers e name (same l name) refl; takes = known_takes e; few = omega (arith, K.few) }

    -- a station whose name is new
    kept_answers : lookup es l ≡ nowhere → (name : List ℕ) (a : Answer) → lookup es name ≡ a → (b : Bool) → same l name ≡ b
        → as_searched (lookup (es ++ (record { name = l; place = g.place } ∷ [])) name) ≡ pick b (found g.place) (searched earlier name)
    unfolding pick
    kept_answers e name (somewhere p) f true q =
        let d : lookup es name ≡ nowhere = rw (same_true l name q) at e in
        let c : somewhere p ≡ nowhere = sym f ∙ d in
        let z : ◌≡◌ {A = ℕ} 0 1 = cc in
        absurd (omega arith)
    kept_answers e name (somewhere p) f false q = ap as_searched (lookup_front es (record { name = l; place = g.place }) name p f) ∙ sym (search_found name f)
    kept_answers e name nowhere f true q = ap as_searched (rw q at (lookup_last es (record { name = l; place = g.place }) name f))
    kept_answers e name nowhere f false q = ap as_searched (rw q at (lookup_last es (record { name = l; place = g.place }) name f)) ∙ sym (search_unknown name f)

    kept_takes : lookup es l ≡ nowhere → room_of (es ++ (record { name = l; place = g.place } ∷ [])) ≡ taken (station g l ∷ earlier)
    unfolding taken
    kept_takes e = room_last es (record { name = l; place = g.place }) ∙ rw (search_unknown l e) (let z = K.takes in omega arith)

    pub knows_kept : (room' : List ℕ) (j : Index) → KeptTold room room' i.count l g.place j → Knows room' j (station g l ∷ earlier)
    unfolding searched
    knows_kept room' j t =
        record {
          holds = t.grew.good;
          answers = λ name. rw t.grew.entries (kept_answers t.new name (lookup es name) refl (same l name) refl);
          takes = rw t.grew.entries (kept_takes t.new);
          few = let z = t.grew.count in omega (arith, K.few);
        }

    -- ---- the judgement of a station

    abbrev due : Judgement
    due = judged (length room) earlier (station g l)

    pub station_judged : (a : Result Index Fault) (room' : List ℕ) → StationTold a room room' i l g.place → JudgedTo a room' earlier (station g l) due
    unfolding pick
    station_judged (Ok j) room' (inl t) = rw t.1 (simp (search_found l t.0.there, same_place_lem g.place), rw t.0.kept (knows_known t.0.there))
    station_judged (Ok j) room' (inr t) =
        let z : taken earlier + (length l + 32) ≤ length room = rw (← K.takes) t.grew.room in
        (simp (search_unknown l t.new, le-ltb _ _ z), knows_kept room' j t)
    station_judged (Err StationMoved) room' t = simp (search_found l t.there, other_place t.other g.place t.differs)
    station_judged (Err NoRoomForNames) room' t =
        let z : length room < taken earlier + (length l + 32) = rw (← K.takes) t.stuck.no_room in
        simp (search_unknown l t.new, lt-ltb _ _ z)
    station_judged (Err _) room' t = absurd t

  -- ---- the judgement of a cross-section

  module _ (g : Section) (l : List ℕ) (seed : ℕ) where
    pub section_known : (p : Point) → FindTold (Ok p) seed room i.count l → JudgedTo (Ok i) room earlier (section g l) (judged (length room) earlier (section g l))
    section_known p t = (rw (search_found l (sym t.same)), knows_section g l)

    pub section_unknown : (h : ℕ) → FindTold (Err h) seed room i.count l → JudgedTo (Err UnknownStation) room earlier (section g l) (judged (length room) earlier (section g l))
    section_unknown h t = rw (search_unknown l (sym t.same))

-- ---- the index of no names

pub knows_none : (room : List ℕ) (i : Index) → Holds room i → entries_of room i.count ≡ [] → i.count ≡ 0 → Knows room i []
unfolding searched taken lookup room_of
knows_none room i h e z = record { holds = h; answers = λ name. rw e; takes = rw e; few = omega arith }
