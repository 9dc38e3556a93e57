-- A turn of the loop over a sheet's records: what is left, with the legs taken in so far, comes to the same as the whole. Assumes nothing.
use Rattle.std.specs.Prelude.{Some, None}
use Rattle.std.proofs.lemmas.Option.{none-some, same_Some}
use Prim.Native.Nat.{ℕ, suc, ◌+◌, ◌-◌, ◌≤◌, ◌<◌}
use mathlib.Core.Path.{◌≡◌, refl, sym, ap, ap₂, ◌∙◌}
use mathlib.Core.List.{List, [], ◌∷◌}
use mathlib.Core.Bool.{Bool, true, false, ◌&&◌}
use native.Mathlib.Nat.{add-zero, zero-add}
use native.Mathlib.Omega.{arith}
use lib.ListN.{length, get_or, take, drop, length-drop, drop_of_length-le}
use lib.Seq.{drop-drop, get_or-take}
use lib.Dec.{eqb}
use lib.IntN.{ℤ}
use borrow.Author.Tests.{eqb-true, eqb-false, eq-eqb, ne_eqb}
use Rattle.format.specs.Bytes.{pick, be16, to_be16, Bytes}
use Rattle.format.specs.State.{Record, leg, station, section, error}
use Rattle.format.specs.Refusals.{Result, stop, also, Verdict, Good, Refusal}
use Rattle.format.specs.Sheet.{leg_size, label_from, leg_fields, good_front, version_of, version_result, sheet_result, layout, leg_entry, Entry, flawed, entry, entry_of, framed, records_from, records_of}
use Rattle.format.specs.Reach.{highest, lowest, takes_part, legs_of, ends, along, bounds_of, spans, unspanned, reach_from, result_reach, reach_of}
use Rattle.format.specs.declared.Leg.{Leg}
use Rattle.format.proofs.Basics.{pick_case, pick_true, pick_false, both}
use Rattle.format.proofs.SheetLaws.{fits, entry_sized, entry_read, records_none, records_more}
use Rattle.sheet.specs.Seen.{Fronted}
use Rattle.sheet.proofs.Entries.{unframed, kind_leg}
use Rattle.reach.specs.Reaching.{row_from, bounds_from, size_of, ends_at, takes_at, legs_reach_from, reach_left, result_left}

-- ---- the record at the front of s, by its size

pub none_there : (version : ℕ) (s : List ℕ) → None ≡ size_of (entry_of version s) → entry_of version s ≡ flawed
none_there version s e = go (entry_of version s) e
  where
    go : (x : Entry) → None ≡ size_of x → x ≡ flawed
    go flawed h = refl
    go (entry k r) h = absurd (none-some k h)

pub record There (version : ℕ) (s : List ℕ) (n : ℕ) : Type 0 where
  pub kept : Record
  pub same : entry_of version s ≡ entry n kept

pub there : (version : ℕ) (s : List ℕ) (n : ℕ) → Some n ≡ size_of (entry_of version s) → There version s n
there version s n e = go (entry_of version s) refl e
  where
    go : (x : Entry) → entry_of version s ≡ x → Some n ≡ size_of x → There version s n
    go flawed q h = absurd (none-some n (sym h))
    go (entry k r) q h = record { kept = r; same = q ∙ ap (λ (j : ℕ). entry j r) (sym (same_Some n k h)) }

-- a leg
pub record LegThere (s : List ℕ) (n : ℕ) (r : Record) : Type 0 where
  pub long : 34 ≤ n
  pub is : r ≡ leg (leg_fields (drop 2 s)) (take (n - 34) (drop 34 s))

leg_of_lem : (m n : ℕ) (t : List ℕ) (r : Record) → leg_entry m t ≡ entry n r → (n ≡ 2 + m) × (leg_size ≤ m) × (r ≡ leg (leg_fields t) (label_from m leg_size t))
unfolding leg_entry
leg_of_lem m n t r =
    pick_case (λ (x : Entry). x ≡ entry n r → (n ≡ 2 + m) × (leg_size ≤ m) × (r ≡ leg (leg_fields t) (label_from m leg_size t))) _ _ _
    (λ c e. (cc, (fits m leg_size (both _ _ c).0).least, cc))
    λ c e. absurd (let z : ◌≡◌ {A = ℕ} 0 1 = cc in omega arith)

pub leg_there : (version : ℕ) (s : List ℕ) (n : ℕ) (r : Record) → entry_of version s ≡ entry n r → get_or s 2 0 ≡ 1 → LegThere s n r
leg_there version s n r e k = go (framed s) refl
  where
    go : (b : Bool) → framed s ≡ b → LegThere s n r
    go true f =
        let z = leg_of_lem (be16 s) n (drop 2 s) r (kind_leg version s f k ∙ e) in
        let d : drop leg_size (drop 2 s) ≡ drop 34 s = drop-drop leg_size 2 s in
        let l : n - 34 ≡ be16 s - leg_size = omega (arith, z.0) in
        record { long = omega (arith, z.0, z.1); is = rw (l, sym d) z.2 }
    go false f = absurd (let q : flawed ≡ entry n r = unframed version s f ∙ e in let z : ◌≡◌ {A = ℕ} 0 1 = cc in omega arith)

-- no leg
pub other_there : (version : ℕ) (s : List ℕ) → Bytes s → (n : ℕ) (r : Record) → entry_of version s ≡ entry n r → (get_or s 2 0 ≡ 1 → ⊥)
    → (name : List ℕ) (rs : List Record) → legs_of name (r ∷ rs) ≡ legs_of name rs
unfolding legs_of layout to_be16
other_there version s b n (leg g l) e k name rs =
    let x = entry_read version s b e in
    let y = entry_sized version s e in
    absurd (k (sym (get_or-take n s 2 0 (omega (arith, y.least))) ∙ ap (λ (t : List ℕ). get_or t 2 0) x.0))
other_there version s b n (station g l) e k name rs = refl
other_there version s b n (section g l) e k name rs = refl
other_there version s b n (error t) e k name rs = refl

-- the records from a place of the sheet on: the one there, and those behind it
pub turned : (v place : ℕ) (sheet : List ℕ) (at number : ℕ) {n : ℕ} {r : Record} → entry_of v (drop at sheet) ≡ entry n r
    → records_from v place (drop at sheet) number ≡ also r (records_from v (place + n) (drop (at + n) sheet) (number + 1))
turned v place sheet at number {n} e =
    let z = entry_sized v (drop at sheet) e in
    rw (← drop-drop n at sheet) (records_more v place (drop at sheet) number (omega (arith, z.least, z.inside)) ∙ rw e refl)

-- ---- what is left

left_starts : (name : List ℕ) (b : List (List ℤ)) → b ≡ (highest ∷ highest ∷ highest ∷ []) ∷ (lowest ∷ lowest ∷ lowest ∷ []) ∷ []
    → (x : Result) → result_left name 0 b x ≡ result_reach name x
unfolding bounds_of bounds_from row_from
left_starts name b e x = go x.verdict (legs_of name x.records)
  where
    go : (v : Verdict) (gs : List Leg) → reach_left 0 b v gs ≡ reach_from v gs
    go Good gs = rw (e, zero-add (length gs)) refl
    go (Refusal n p) gs = refl

left_in : (n : ℕ) (b : List (List ℤ)) (v : Verdict) (g : Leg) (gs : List Leg)
    → reach_left n b v (g ∷ gs) ≡ reach_left (n + 1) (bounds_from b (g.from ∷ g.to ∷ [])) v gs
unfolding ends bounds_from row_from along
left_in n b Good g gs = let e : n + suc (length gs) ≡ n + 1 + length gs = omega arith in rw e refl
left_in n b (Refusal k p) g gs = refl

-- so many records were judged and so many legs taken in, from a place of the sheet to another
pub record Reaching (v : ℕ) (sheet name : List ℕ) (begin at number legs : ℕ) (b : List (List ℤ)) : Type 0 where
  pub place : ℕ
  pub inside : at ≤ length sheet
  pub few : number ≤ at
  pub fewer : legs ≤ number
  pub same : result_left name legs b (records_from v place (drop at sheet) number) ≡ result_reach name (records_of v (drop begin sheet))

pub reaching_none : (v : ℕ) (sheet name : List ℕ) (begin : ℕ) (b : List (List ℤ)) → begin ≤ length sheet
    → b ≡ (highest ∷ highest ∷ highest ∷ []) ∷ (lowest ∷ lowest ∷ lowest ∷ []) ∷ [] → Reaching v sheet name begin begin 0 0 b
unfolding records_of
reaching_none v sheet name begin b h e = record { place = 0; inside = h; few = omega arith; fewer = omega arith; same = left_starts name b e (records_of v (drop begin sheet)) }

module _ {v : ℕ} {sheet name : List ℕ} {begin at number legs : ℕ} {b : List (List ℤ)} (R : Reaching v sheet name begin at number legs b) where
  pub reaching_end : length sheet ≤ at → legs_reach_from legs b [] ≡ result_reach name (records_of v (drop begin sheet))
  unfolding legs_of
  reaching_end h =
      let d : drop at sheet ≡ [] = drop_of_length-le sheet {i = at} h in
      let m : records_from v R.place (drop at sheet) number ≡ stop Good = rw d (records_none v R.place number) in
      rw m at R.same

  pub reaching_flawed : at < length sheet → None ≡ size_of (entry_of v (drop at sheet)) → unspanned 12 number ≡ result_reach name (records_of v (drop begin sheet))
  reaching_flawed h e =
      let l = length-drop at sheet in
      let m = records_more v R.place (drop at sheet) number (omega arith) in
      let f : records_from v R.place (drop at sheet) number ≡ stop (Refusal 12 number) = rw (none_there v (drop at sheet) e) at m in
      rw f at R.same

  module _ (n : ℕ) (r : Record) (e : entry_of v (drop at sheet) ≡ entry n r) where
    pub turn_size : (3 ≤ n) × (at + n ≤ length sheet)
    turn_size = let z = entry_sized v (drop at sheet) e in let l = length-drop at sheet in (z.least, omega (arith, z.inside, R.inside))

    -- a record that takes no part
    turn_out : ((rs : List Record) → legs_of name (r ∷ rs) ≡ legs_of name rs) → Reaching v sheet name begin (at + n) (number + 1) legs b
    turn_out q =
        let X = records_from v (R.place + n) (drop (at + n) sheet) (number + 1) in
        record {
          place = R.place + n;
          inside = turn_size.1;
          few = omega (arith, R.few, turn_size.0);
          fewer = omega (arith, R.fewer);
          same =
              ap (reach_left legs b X.verdict) (sym (q X.records))
              ∙ ap (result_left name legs b) (sym (turned v R.place sheet at number e))
              ∙ R.same;
        }

    -- a leg that does
    turn_in : (g : Leg) (l : List ℕ) → r ≡ leg g l → takes_part name l ≡ true → (b' : List (List ℤ)) → b' ≡ bounds_from b (g.from ∷ g.to ∷ [])
        → Reaching v sheet name begin (at + n) (number + 1) (legs + 1) b'
    unfolding legs_of
    turn_in g l i t b' f =
        let X = records_from v (R.place + n) (drop (at + n) sheet) (number + 1) in
        let q : legs_of name (r ∷ X.records) ≡ g ∷ legs_of name X.records = rw i (pick_true _ _ t) in
        record {
          place = R.place + n;
          inside = turn_size.1;
          few = omega (arith, R.few, turn_size.0);
          fewer = omega (arith, R.fewer);
          same =
              ap (λ (c : List (List ℤ)). reach_left (legs + 1) c X.verdict (legs_of name X.records)) f
              ∙ sym (left_in legs b X.verdict g (legs_of name X.records))
              ∙ ap (reach_left legs b X.verdict) (sym q)
              ∙ ap (result_left name legs b) (sym (turned v R.place sheet at number e))
              ∙ R.same;
        }

  -- the same by what the code asks of the record's bytes
  module _ (n : ℕ) (T : There v (drop at sheet) n) where
    pub turn_needs : (3 ≤ n) × (n ≤ length (drop at sheet)) × (get_or (drop at sheet) 2 0 ≡ 1 → 34 ≤ n)
    turn_needs =
        let z = entry_sized v (drop at sheet) T.same in
        (z.least, z.inside, λ k. (leg_there v (drop at sheet) n T.kept T.same k).long)

    pub turn_taken : takes_at name n (drop at sheet) ≡ true → (b' : List (List ℤ)) → b' ≡ bounds_from b (ends_at (drop at sheet))
        → (34 ≤ length (drop at sheet)) × Reaching v sheet name begin (at + n) (number + 1) (legs + 1) b'
    turn_taken t b' f =
        let s = drop at sheet in
        let a = both _ _ t in
        let L = leg_there v s n T.kept T.same (eqb-true _ _ a.0) in
        let d1 : drop 8 (drop 2 s) ≡ drop 10 s = drop-drop 8 2 s in
        let d2 : drop 20 (drop 2 s) ≡ drop 22 s = drop-drop 20 2 s in (
          omega (arith, L.long, turn_needs.1),
          turn_in n T.kept T.same (leg_fields (drop 2 s)) (take (n - 34) (drop 34 s)) L.is a.1 b' (rw (d1, d2) f),
        )

    pub turn_left : Bytes (drop at sheet) → takes_at name n (drop at sheet) ≡ false → Reaching v sheet name begin (at + n) (number + 1) legs b
    unfolding legs_of
    turn_left bs t = turn_out n T.kept T.same (go (eqb (get_or (drop at sheet) 2 0) 1) refl t)
      where
        go : (k : Bool) → eqb (get_or (drop at sheet) 2 0) 1 ≡ k → (k && takes_part name (take (n - 34) (drop 34 (drop at sheet)))) ≡ false
            → (rs : List Record) → legs_of name (T.kept ∷ rs) ≡ legs_of name rs
        go true k t rs = rw (leg_there v (drop at sheet) n T.kept T.same (eqb-true _ _ k)).is (pick_false _ _ t)
        go false k t rs = other_there v (drop at sheet) bs n T.kept T.same (eqb-false _ _ k) name rs

-- ---- the whole sheet; v is the version that it is judged by

module _ (v : ℕ) (sheet name : List ℕ) (q : v ≡ version_of sheet) where
  pub whole_flawed : good_front v sheet ≡ false → unspanned 12 0 ≡ reach_of sheet name
  unfolding reach_of sheet_result version_result pick
  whole_flawed e = rw (← q) (simp e)

  pub whole_records : {extended k m : ℕ} → Fronted v sheet extended k m → result_reach name (records_of v (drop (7 + k + m) sheet)) ≡ reach_of sheet name
  unfolding reach_of sheet_result version_result pick
  whole_records F = rw (← q) (simp (F.good, F.behind))

-- ---- the answer, where all legs are in the box

pub none_taken : (n : ℕ) (b : List (List ℤ)) → n ≡ 0 → unspanned 21 0 ≡ legs_reach_from n b []
none_taken n b e = sym (pick_true _ _ (eq-eqb (n + 0) 0 (omega arith)))

pub some_taken : (n : ℕ) (b : List (List ℤ)) → (n ≡ 0 → ⊥) → (c : List (List ℤ)) → c ≡ bounds_from b [] → spans c n ≡ legs_reach_from n b []
unfolding ends
some_taken n b h c e = ap₂ spans e (sym (add-zero n)) ∙ sym (pick_false _ _ (ne_eqb (n + 0) 0 λ q. h (sym (add-zero n) ∙ q)))
