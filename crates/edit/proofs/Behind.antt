-- A turn of the loop over the records behind the run, on plain values. Assumes nothing.
use Rattle.std.specs.Prelude.{Result as Answered, Ok, Err, IsOk}
use Prim.Native.Nat.{ℕ, ◌+◌, ◌-◌, ◌≤◌, ◌<◌}
use mathlib.Core.Path.{◌≡◌, refl, sym, ap, ◌∙◌}
use mathlib.Core.List.{List, [], ◌∷◌}
use native.Mathlib.Omega.{arith}
use lib.ListN.{length, take, drop}
use Rattle.format.specs.State.{Record}
use Rattle.format.specs.Refusals.{Result}
use Rattle.format.specs.WellFormed.{WellFormed}
use Rattle.format.specs.Fields.{record_of}
use Rattle.format.specs.declared.Fields.{Fields}
use Rattle.format.specs.declared.Refusal.{Refusal as Refused}
use Rattle.format.specs.Codes.{header_limit}
use Rattle.format.specs.Writing.{v8}
use Rattle.scan.specs.Places.{label_in, state_at}
use Rattle.scan.specs.declared.Place.{Place}
use Rattle.judge.specs.Walking.{rest_of, Steps, Takes, Walks}
use Rattle.judge.specs.declared.Taken.{Taken}
use Rattle.judge.proofs.One.{met_formed}
use Rattle.judge.proofs.Walk.{walk_one, walk_sound, walk_foreign}
use Rattle.counts.specs.Tallies.{Fits}
use Rattle.counts.proofs.Left.{adds_few}
use Rattle.edit.specs.Pens.{pen_state, Emits, Written, none, more, Standing, Behind, WentOn}
use Rattle.edit.specs.declared.Pen.{Pen}
use Rattle.edit.specs.declared.Went.{Went}
use Rattle.edit.proofs.Chain.{written_then, drop_next, take_next}

abbrev records_at : List ℕ → Place → List ℕ → List Record
records_at file p b = (rest_of file p.at (state_at p b)).records

-- `left` of them are still to come
pub record Putting (file : List ℕ) (w : Went) (b l d : List ℕ) (q : Place) (pen : Pen) (left : ℕ) (c l' d' spare room : List ℕ) : Type 0 where
  pub done : ℕ
  pub sum : done + left ≡ w.left
  pub behind : Behind file (record { place = q; pen = pen; left = left }) c l'
  pub records : records_at file q c ≡ drop done (records_at file w.place b)
  pub written : Written (pen_state w.pen l) d w.pen.count (take done (records_at file w.place b)) (pen_state pen l') d' pen.count
  pub kept : length d' ≡ length d
  pub spare_whole : length spare ≡ 4096
  pub room_whole : length room ≡ header_limit

pub putting_first : (file : List ℕ) (w : Went) (b l d spare room : List ℕ) → Behind file w b l → length spare ≡ 4096 → length room ≡ header_limit
    → Putting file w b l d w.place w.pen (w.left - 0) b l d spare room
putting_first file w b l d spare room B s r =
    let e : w.left - 0 ≡ w.left = omega arith in
    rw e (record { done = 0; sum = omega arith; behind = B; records = refl; written = none; kept = refl; spare_whole = s; room_whole = r })

module _ {file : List ℕ} {w : Went} {b l d : List ℕ} {q : Place} {pen : Pen} {left : ℕ} {c l' d' spare room : List ℕ}
    (G : Putting file w b l d q pen left c l' d' spare room) where
  abbrev B : Behind file (record { place = q; pen = pen; left = left }) c l'
  B = G.behind

  -- there is one more while some are left
  pub never_refused : 0 < left → (r : Answered Taken Refused) (c' : List ℕ) → Takes file q c r c' → IsOk r
  never_refused h (Ok t) c' T = refl
  never_refused h (Err r) c' T = let z = B.counted ∙ ap (λ (x : Result). length x.records) T in absurd (omega (arith, z))

  pub putting_fits : 0 < left → Fits v8 pen.count
  putting_fits h = record { few_bytes = B.few_bytes; few_records = omega (arith, B.few_records) }

  went : ((0 < left) → state_at q c ≡ pen_state pen l') → WentOn file w b l d (record { place = q; pen = pen; left = left }) c l' d'
  went e = record { done = G.done; sum = G.sum; behind = B; records = G.records; written = G.written; kept = G.kept; level = e }

  pub went_level : state_at q c ≡ pen_state pen l' → WentOn file w b l d (record { place = q; pen = pen; left = left }) c l' d'
  went_level e = went (λ h. e)

  pub went_all : left ≤ 0 → WentOn file w b l d (record { place = q; pen = pen; left = left }) c l' d'
  went_all h = went (λ k. absurd (omega arith))

  module _ (to : Place) (f : Fields) (c' : List ℕ) (T : Steps file q c to c' (record_of f (label_in to c'))) where
    abbrev r : Record
    r = record_of f (label_in to c')

    next_is : records_at file q c ≡ r ∷ records_at file to c'
    next_is = ap (λ (x : Result). x.records) T.left

    pub found_formed : WellFormed r
    found_formed = met_formed file q c B.standing.ready r (record { others = records_at file to c'; records = next_is })

    standing : Standing file to c'
    standing =
        let W : Walks file q.at (state_at q c) 1 to c' = walk_one file q c to c' r T in
        let S = B.standing in
        record {
          ready = record { small = S.ready.small; inside = T.inside; sound = walk_sound W S.ready.sound };
          readable = ap (λ (x : Result). x.verdict) (sym T.left) ∙ S.readable;
          ours = walk_foreign W S.ours;
        }

    pub putting_more : 0 < left → (pen' : Pen) (l'' d'' spare' room' : List ℕ) → Emits pen l' r d' d'' pen' l'' → length spare' ≡ 4096 → length room' ≡ header_limit
        → Putting file w b l d to pen' (left - 1) c' l'' d'' spare' room'
    putting_more h pen' l'' d'' spare' room' E s m =
        let A = E.adds in
        let R = records_at file w.place b in
        let here : drop G.done R ≡ r ∷ records_at file to c' = sym G.records ∙ next_is in
        let one : Written (pen_state pen l') d' pen.count (r ∷ []) (pen_state pen' l'') d'' pen'.count = rw E.state (more A none) in
        let count = B.counted ∙ ap length next_is in
        record {
          done = G.done + 1;
          sum = omega (arith, G.sum);
          behind = record {
            standing = standing;
            counted = omega (arith, count);
            fits = E.fits;
            few_bytes = adds_few v8 (pen_state pen l') r d' d'' pen.count pen'.count A B.few_bytes;
            few_records = omega (arith, B.few_records, A.records);
          };
          records = sym (drop_next G.done R r (records_at file to c') here);
          written = rw (take_next G.done R r (records_at file to c') here) (written_then G.written one);
          kept = A.kept ∙ G.kept;
          spare_whole = s;
          room_whole = m;
        }
