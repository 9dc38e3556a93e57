-- Records held to the writing rules one after another, on plain values. Assumes nothing.
use Prim.Native.Nat.{ℕ, ◌+◌, ◌-◌, ◌≤◌, ◌<◌}
use mathlib.Core.Path.{◌≡◌, refl, sym, ap, ap₂, ◌∙◌, subst}
use mathlib.Core.List.{List, [], ◌∷◌, ◌++◌, append_assoc, append-nil}
use native.Mathlib.Omega.{arith}
use native.Mathlib.Nat.{add-zero}
use lib.ListN.{length, take, drop, length-append, length-drop, take-append-drop}
use lib.Seq.{drop-drop, take-add, drop-append_seam}
use Rattle.format.specs.State.{State, Record}
use Rattle.format.specs.Refusals.{Result, stop, Good}
use Rattle.format.specs.Writing.{v8, codes_all, after_all, encode_all}
use Rattle.format.specs.Codes.{closing, header_limit}
use Rattle.format.proofs.WritingLaws.{codes_append, after_append, encode_append}
use Rattle.scan.specs.Places.{state_at, Inside}
use Rattle.scan.specs.declared.Place.{Place}
use Rattle.judge.specs.Walking.{GoodSetting, rest_of, rules_from, Sound, Ready, Steps, PassedOn, Walks, Ends}
use Rattle.format.proofs.EditingLaws.{formed_drop}
use Rattle.judge.proofs.Splice.{sayable_drop, good_all}
use Rattle.counts.proofs.Left.{encode_none}

pub walk_none : (file : List ℕ) (p : Place) (b : List ℕ) → Inside file p b → Walks file p.at (state_at p b) 0 p b
unfolding codes_all after_all
walk_none file p b i =
    record {
      inside = i;
      there = refl;
      place_is = sym (add-zero p.at);
      state = refl;
      few = omega arith;
      number = omega arith;
      records = refl;
      verdict = refl;
    }

module _ {file : List ℕ} {at : ℕ} {st : State} {j : ℕ} {q : Place} {c : List ℕ} (W : Walks file at st j q c) where
  abbrev R : List Record
  R = (rest_of file at st).records

  -- what is left is sound too
  pub walk_sound : Sound file at st → Sound file q.at (state_at q c)
  walk_sound S =
      record {
        good = subst (λ (x : State). GoodSetting x.setting) (sym W.state) (good_all j st R S.good S.formed);
        formed = rw W.records (formed_drop j R S.formed);
        sayable = rw (W.records, W.state) (sayable_drop j 0 0 st R S.sayable);
      }

  -- the rules give what is there just where they give what is left
  rules_are : rules_from file at st ≡ codes_all v8 st (take j R) ++ rules_from file q.at (state_at q c)
  rules_are =
      ap (encode_all v8 st) (sym (take-append-drop j R))
      ∙ encode_append v8 (take j R) (drop j R) st
      ∙ ap₂ (λ (x : State) (rs : List Record). codes_all v8 st (take j R) ++ encode_all v8 x rs) (sym W.state) (sym W.records)

  pub walk_ours : drop q.at file ≡ rules_from file q.at (state_at q c) → drop at file ≡ rules_from file at st
  walk_ours e = W.there ∙ ap (λ (x : List ℕ). codes_all v8 st (take j R) ++ x) e ∙ sym rules_are

  pub walk_foreign : drop at file ≡ rules_from file at st → drop q.at file ≡ rules_from file q.at (state_at q c)
  walk_foreign e =
      let C = codes_all v8 st (take j R) in
      sym (drop-append_seam C (drop q.at file)) ∙ ap (drop (length C)) (sym W.there ∙ e ∙ rules_are) ∙ drop-append_seam C _

  pub walk_ends : {n : ℕ} → Ends file q.at (state_at q c) n → Ends file at st (j + n)
  walk_ends {n} E =
      record {
        readable = sym W.verdict ∙ E.readable;
        counted = (let z = E.counted ∙ ap length W.records in let y = simp length-drop at z in omega (arith, y, W.number));
        few = omega (arith, W.few, E.few);
        ours = walk_ours E.ours;
      }

  -- and then more of them
  pub walk_then : {k : ℕ} {to : Place} {b : List ℕ} → Walks file q.at (state_at q c) k to b → Walks file at st (j + k) to b
  walk_then {k} {to} {b} Z =
      let T = (rest_of file q.at (state_at q c)).records in
      let e : take (j + k) R ≡ take j R ++ take k T = take-add j k R ∙ ap (λ (rs : List Record). take j R ++ take k rs) (sym W.records) in
      let all : codes_all v8 st (take (j + k) R) ≡ codes_all v8 st (take j R) ++ codes_all v8 (state_at q c) (take k T) =
      ap (codes_all v8 st) e
      ∙ codes_append v8 (take j R) (take k T) st
      ∙ ap (λ (x : State). codes_all v8 st (take j R) ++ codes_all v8 x (take k T)) (sym W.state) in
      record {
        inside = Z.inside;
        there =
            W.there
            ∙ ap (λ (x : List ℕ). codes_all v8 st (take j R) ++ x) Z.there
            ∙ sym (append_assoc (codes_all v8 st (take j R)) (codes_all v8 (state_at q c) (take k T)) _)
            ∙ ap (λ (x : List ℕ). x ++ drop to.at file) (sym all);
        place_is = rw (all, length-append) (omega (arith, Z.place_is, W.place_is));
        state =
            Z.state ∙ ap (λ (x : State). after_all v8 x (take k T)) W.state ∙ sym (after_append v8 (take j R) (take k T) st) ∙ ap (after_all v8 st) (sym e);
        few = omega (arith, W.few, Z.few);
        number = (let z = Z.number in let y : length T ≡ length R - j = ap length W.records ∙ length-drop j R in omega (arith, y, W.number));
        records = Z.records ∙ ap (drop k) W.records ∙ drop-drop k j R;
        verdict = Z.verdict ∙ W.verdict;
      }

-- one record
pub walk_one : (file : List ℕ) (p : Place) (b : List ℕ) (to : Place) (b' : List ℕ) (r : Record) → Steps file p b to b' r
    → Walks file p.at (state_at p b) 1 to b'
unfolding codes_all after_all
walk_one file p b to b' r S =
    let rs = (rest_of file to.at (state_at to b')).records in
    let e : (rest_of file p.at (state_at p b)).records ≡ r ∷ rs = ap (λ (x : Result). x.records) S.left in
    record {
      inside = S.inside;
      there = rw (e, append-nil) S.there;
      place_is = rw (e, append-nil) S.place_is;
      state = rw e S.state;
      few = omega (arith, S.further);
      number = rw e (omega arith);
      records = rw e;
      verdict = sym (ap (λ (x : Result). x.verdict) S.left);
    }

-- ---- the loop of `judge_records`

pub record Judging (file : List ℕ) (p : Place) (b : List ℕ) (limit : ℕ) (q : Place) (c : List ℕ) (passed : ℕ) (spare room : List ℕ) : Type 0 where
  pub start : Ready file p b
  pub walks : Walks file p.at (state_at p b) passed q c
  pub few : passed ≤ limit
  pub spare_whole : length spare ≡ 4096
  pub room_whole : length room ≡ header_limit

pub judging_first : (file : List ℕ) (p : Place) (b : List ℕ) (limit : ℕ) {spare room : List ℕ} → Ready file p b → length spare ≡ 4096
    → length room ≡ header_limit → Judging file p b limit p b 0 spare room
judging_first file p b limit R s r = record { start = R; walks = walk_none file p b R.inside; few = omega arith; spare_whole = s; room_whole = r }

module _ {file : List ℕ} {p : Place} {b : List ℕ} {limit : ℕ} {q : Place} {c : List ℕ} {passed : ℕ} {spare room : List ℕ}
    (G : Judging file p b limit q c passed spare room) where
  abbrev W : Walks file p.at (state_at p b) passed q c
  W = G.walks

  pub judging_ready : Ready file q c
  judging_ready = record { small = G.start.small; inside = W.inside; sound = walk_sound W G.start.sound }

  pub judging_foreign : (drop q.at file ≡ rules_from file q.at (state_at q c) → ⊥) → drop p.at file ≡ rules_from file p.at (state_at p b) → ⊥
  judging_foreign f e = f (walk_foreign W e)

  pub judging_end : (rest_of file q.at (state_at q c) ≡ stop Good) × (drop q.at file ≡ closing q.setting.style) → Ends file p.at (state_at p b) passed
  judging_end e =
      let none : (rest_of file q.at (state_at q c)).records ≡ [] = ap (λ (x : Result). x.records) e.0 in
      let E : Ends file q.at (state_at q c) 0 =
      record {
        readable = ap (λ (x : Result). x.verdict) e.0;
        counted = rw none;
        few = omega (arith, W.inside.place_inside);
        ours = e.1 ∙ sym (encode_none v8 (state_at q c)) ∙ ap (encode_all v8 (state_at q c)) (sym none);
      } in
      subst (Ends file p.at (state_at p b)) (add-zero passed) (walk_ends W E)

  pub judging_more : (to : Place) (c' : List ℕ) (r : Record) → passed < limit → Steps file q c to c' r → (spare' room' : List ℕ) → length spare' ≡ 4096
      → length room' ≡ header_limit
      → Judging file p b limit to c' (passed + 1) spare' room'
  judging_more to c' r l S spare' room' s m =
      record { start = G.start; walks = walk_then W (walk_one file q c to c' r S); few = omega arith; spare_whole = s; room_whole = m }

  pub judging_same : (c' : List ℕ) → c' ≡ c → Judging file p b limit q c' passed spare room
  judging_same c' e = subst (λ (x : List ℕ). Judging file p b limit q x passed spare room) (sym e) G

  -- the hot arm
  pub judging_brief : (to : Place) (c' : List ℕ) → passed < limit → PassedOn file q c to c' → Judging file p b limit to c' (passed + 1) spare room
  judging_brief to c' l S = judging_more to c' S.made l S.steps spare room G.spare_whole G.room_whole

  pub judging_passed : limit ≤ passed → Walks file p.at (state_at p b) limit q c
  judging_passed l = let e : passed ≡ limit = omega (arith, G.few) in rw e at W
