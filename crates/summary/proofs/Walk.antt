-- The walk over the records of a sheet, for both passes of making a summary: the records that are left, from where the walk stands, are all
-- records but so many. The first pass judges 12 and counts; in the second, where all records are known to be well-formed, the size of the next one is
-- what its length bytes say and its mark is read from its kind and its flags. Assumes nothing.
use Rattle.std.specs.Prelude.{None}
use Rattle.std.proofs.Common.{◌≡◌, ℕ, zero, suc, ◌+◌, ◌<◌, ◌≤◌, Bool, true, false, ◌&&◌, eqb, List, [], ◌∷◌, map, length, get_or, drop, sym, refl, ap, ◌∙◌, arith, length-drop, drop_of_length-le, get_or-take, drop-drop}
use Rattle.format.specs.Bytes.{pick, be16, to_be16, Bytes}
use Rattle.format.specs.State.{Record, leg, station, section, error}
use Rattle.format.specs.Refusals.{Result, stop, also, Good, Refusal}
use Rattle.format.specs.Sheet.{layout, undated_section_body, section_body, undated_version, prefixed, Entry, flawed, entry, entry_of, records_from, records_of}
use Rattle.format.specs.Summary.{entrance, marks_in, one, bit}
use Rattle.format.proofs.Basics.{pick_case}
use Rattle.format.proofs.SheetLaws.{entry_sized, entry_read, records_none, records_more, layout_station}
use Rattle.reach.specs.Reaching.{size_of}
use Rattle.reach.proofs.Turn.{There, none_there}
use Rattle.summary.specs.Bits.{Wrote, Put}
use Rattle.summary.specs.Records.{mark_at, RecordsIn}
use Rattle.summary.proofs.Words.{put_up}

-- ---- where the walk stands

pub record Walked (v : ℕ) (s : List ℕ) (begin at number : ℕ) : Type 0 where
  pub place : ℕ
  pub inside : at ≤ length s
  pub early : number ≤ at
  pub few : number ≤ length (records_of v (drop begin s)).records
  pub ends : (records_from v place (drop at s) number).verdict ≡ (records_of v (drop begin s)).verdict
  pub left : (records_from v place (drop at s) number).records ≡ drop number (records_of v (drop begin s)).records

pub walked_none : (v : ℕ) (s : List ℕ) (begin : ℕ) → begin ≤ length s → Walked v s begin begin 0
unfolding records_of
walked_none v s begin h = record { place = 0; inside = h; early = omega arith; few = omega arith; ends = refl; left = refl }

abbrev none : List Record
none = []

-- the next of the records that are left
next_left : (rs : List Record) (k : ℕ) (r : Record) (more : List Record) → r ∷ more ≡ drop k rs
    → (k < length rs) × (more ≡ drop (k + 1) rs) × (get_or (map entrance rs) k false ≡ entrance r)
next_left [] k r more e = absurd (let l : suc (length more) ≡ length (drop k none) = ap length e in omega (arith, length-drop k none))
next_left (x ∷ rs) zero r more e = (omega arith, cc, ap entrance (sym (let q : r ≡ x = cc in q)))
next_left (x ∷ rs) (suc k) r more e =
    let n = next_left rs k r more e in
    let d : suc k + 1 ≡ suc (k + 1) = omega arith in
    (omega (arith, n.0), n.1 ∙ ap (λ (j : ℕ). drop j (x ∷ rs)) (sym d), n.2)

module _ {v : ℕ} {s : List ℕ} {begin at number : ℕ} (W : Walked v s begin at number) where
  abbrev all : List Record
  all = (records_of v (drop begin s)).records

  pub walked_end : length s ≤ at → RecordsIn number (length s) (records_of v (drop begin s))
  walked_end h =
      let d : drop at s ≡ [] = drop_of_length-le s {i = at} h in
      let m : records_from v W.place (drop at s) number ≡ stop Good = rw d (records_none v W.place number) in
      let l : length (drop number all) ≡ 0 = ap length (sym W.left) ∙ ap (λ (x : Result). length x.records) m in
      record {
        good = sym W.ends ∙ ap (λ (x : Result). x.verdict) m;
        many = omega (arith, l, length-drop number all, W.few);
        few = omega (arith, W.early, W.inside);
      }

  pub walked_flawed : at < length s → None ≡ size_of (entry_of v (drop at s)) → (records_of v (drop begin s)).verdict ≡ Refusal 12 number
  walked_flawed h e =
      let l = length-drop at s in
      let m = records_more v W.place (drop at s) number (omega arith) in
      let f : records_from v W.place (drop at s) number ≡ stop (Refusal 12 number) = rw (none_there v (drop at s) e) at m in
      sym W.ends ∙ ap (λ (x : Result). x.verdict) f

  module _ (n : ℕ) (T : There v (drop at s) n) where
    turned : records_from v W.place (drop at s) number ≡ also T.kept (records_from v (W.place + n) (drop (at + n) s) (number + 1))
    turned =
        let z = entry_sized v (drop at s) T.same in
        rw (← drop-drop n at s) (records_more v W.place (drop at s) number (omega (arith, z.least, z.inside)) ∙ rw T.same refl)

    next : (number < length all)
        × ((records_from v (W.place + n) (drop (at + n) s) (number + 1)).records ≡ drop (number + 1) all)
        × (get_or (map entrance all) number false ≡ entrance T.kept)
    next =
        next_left all number T.kept (records_from v (W.place + n) (drop (at + n) s) (number + 1)).records
        (sym (ap (λ (x : Result). x.records) turned) ∙ W.left)

    pub walked_size : (3 ≤ n) × (at + n ≤ length s)
    walked_size = let z = entry_sized v (drop at s) T.same in let l = length-drop at s in (z.least, omega (arith, z.inside, W.inside))

    pub walked_next : Walked v s begin (at + n) (number + 1)
    walked_next =
        record {
          place = W.place + n;
          inside = walked_size.1;
          early = omega (arith, W.early, walked_size.0);
          few = omega (arith, next.0);
          ends = sym (ap (λ (x : Result). x.verdict) turned) ∙ W.ends;
          left = next.1;
        }

    pub walked_fewer : number < length (records_of v (drop begin s)).records
    walked_fewer = next.0

    pub walked_mark : get_or (marks_in (records_of v (drop begin s)).records) number false ≡ entrance T.kept
    unfolding marks_in
    walked_mark = next.2

  -- where all records are well-formed, the next one has the size that its length bytes say
  pub walked_there : (records_of v (drop begin s)).verdict ≡ Good → at < length s → There v (drop at s) (2 + be16 (drop at s))
  walked_there g h = go (entry_of v (drop at s)) refl
    where
      go : (x : Entry) → entry_of v (drop at s) ≡ x → There v (drop at s) (2 + be16 (drop at s))
      go flawed e =
          absurd
          (let l = length-drop at s in
          let m = records_more v W.place (drop at s) number (omega arith) in
          let f : records_from v W.place (drop at s) number ≡ stop (Refusal 12 number) = rw e at m in
          let q : Refusal 12 number ≡ Good = sym (ap (λ (x : Result). x.verdict) f) ∙ W.ends ∙ g in
          let z : ◌≡◌ {A = ℕ} 0 1 = cc in
          omega arith)
      go (entry n r) e = record { kept = r; same = e ∙ ap (λ (k : ℕ). entry k r) (entry_sized v (drop at s) e).whole }

-- ---- the mark of the record at the front of s

module _ (v : ℕ) (s : List ℕ) (bytes : Bytes s) (n : ℕ) where
  byte_there : (r : Record) → entry_of v s ≡ entry n r → (i : ℕ) → i < n → get_or s i 0 ≡ get_or (layout v r) i 0
  byte_there r e i h = sym (get_or-take n s i 0 h) ∙ ap (λ (t : List ℕ). get_or t i 0) (entry_read v s bytes e).0

  section_kind : (x : Bool) (a b : List ℕ) → get_or (prefixed a) 2 0 ≡ 3 → get_or (prefixed b) 2 0 ≡ 3 → get_or (prefixed (pick x a b)) 2 0 ≡ 3
  section_kind x a b p q = pick_case (λ (t : List ℕ). get_or (prefixed t) 2 0 ≡ 3) x a b (λ e. p) (λ e. q)

  other_kind : (k : ℕ) (x : Bool) → get_or s 2 0 ≡ k → eqb k 2 ≡ false → false ≡ (eqb (get_or s 2 0) 2 && x)
  other_kind k x e q = rw (e, q) refl

  pub mark_there : (r : Record) → entry_of v s ≡ entry n r → (entrance r ≡ mark_at s) × (3 ≤ length s) × (get_or s 2 0 ≡ 2 → 4 ≤ length s)
  unfolding entrance layout to_be16
  mark_there (leg g l) e =
      let z = entry_sized v s e in
      let k : get_or s 2 0 ≡ 1 = byte_there (leg g l) e 2 (omega (arith, z.least)) in
      (other_kind 1 _ k refl, omega (arith, z.least, z.inside), λ q. absurd (omega arith))
  mark_there (section g l) e =
      let z = entry_sized v s e in
      let k : get_or s 2 0 ≡ 3 = byte_there (section g l) e 2 (omega (arith, z.least)) ∙ section_kind (eqb v undated_version) (undated_section_body g l) (section_body g l) refl refl in
      (other_kind 3 _ k refl, omega (arith, z.least, z.inside), λ q. absurd (omega arith))
  mark_there (error t) e =
      let z = entry_sized v s e in
      let k : get_or s 2 0 ≡ 4 = byte_there (error t) e 2 (omega (arith, z.least)) in
      (other_kind 4 _ k refl, omega (arith, z.least, z.inside), λ q. absurd (omega arith))
  mark_there (station g l) e =
      let z = entry_sized v s e in
      let x = entry_read v s bytes e in
      let long : 16 ≤ n = omega (arith, x.1, layout_station v g l) in
      let k : get_or s 2 0 ≡ 2 = byte_there (station g l) e 2 (omega arith) in
      let f : get_or s 3 0 ≡ g.flags = byte_there (station g l) e 3 (omega arith) in
      (rw (k, f) refl, omega (arith, z.least, z.inside), λ q. omega (arith, long, z.inside))

-- ---- one mark more

one_bit : (b : Bool) (i : ℕ) → i < 1 → bit (one b) i ≡ one b
unfolding bit
one_bit true zero h = refl
one_bit false zero h = refl
one_bit b (suc i) h = absurd (omega arith)

pub marked_next : {ws ws₁ ws₂ : List ℕ} {first : ℕ} (ms : List Bool) (number mark : ℕ) → Put ws ws₁ first 0 number (λ k. one (get_or ms k false))
    → mark ≡ one (get_or ms number false) → Wrote ws₁ ws₂ (first + number) 1 mark → Put ws ws₂ first 0 (number + 1) (λ k. one (get_or ms k false))
marked_next ms number mark P e W =
    put_up 1 mark (omega arith) P W
    (λ k h.
    let d : number ≡ number + k = omega arith in
    ap (λ (x : ℕ). bit x k) e ∙ one_bit (get_or ms number false) k h ∙ ap (λ (x : ℕ). one (get_or ms x false)) d)
