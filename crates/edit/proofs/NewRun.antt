-- A turn of the loops over a replacement's records, on plain values. Assumes nothing.
use Rattle.std.specs.Prelude.{Option, Some, None, IsSome}
use Prim.Native.Nat.{ℕ, ◌+◌, ◌-◌, ◌≤◌, ◌<◌}
use mathlib.Core.Path.{◌≡◌, refl, sym, ap, ◌∙◌}
use mathlib.Core.List.{List, [], ◌∷◌, ◌++◌, append_assoc, append-nil}
use native.Mathlib.Omega.{arith}
use lib.ListN.{length, take, drop}
use Rattle.format.specs.State.{Record}
use Rattle.format.specs.Sheet.{sheet_version, records_from, records_of}
use Rattle.format.specs.Refusals.{Result, Good, Refusal}
use Rattle.format.specs.Fields.{record_of}
use Rattle.format.specs.declared.Fields.{Fields}
use Rattle.sheet.specs.Seen.{EntryTold}
use Rattle.sheet.specs.declared.Entry.{Entry}
use Rattle.sheet.proofs.EntryAt.{part, none_at, flawed_at, found_size, found_at}
use Rattle.counts.specs.Tallies.{Fits}
use Rattle.format.specs.Header.{file_limit}
use Rattle.format.specs.Codes.{codes_limit}
use Rattle.format.specs.Writing.{v8}
use Rattle.counts.proofs.Left.{adds_few}
use Rattle.edit.specs.Pens.{pen_state, PenFits, Emits, Written, none, more, PutsNew}
use Rattle.edit.specs.declared.Pen.{Pen}
use Rattle.edit.proofs.Chain.{written_then}

-- ---- the first bad record

pub record Judging (new : List ℕ) (at number : ℕ) : Type 0 where
  pub place : ℕ
  pub inside : at ≤ length new
  pub counted : number ≤ at
  pub verdict : (records_from sheet_version place (drop at new) number).verdict ≡ (records_of sheet_version new).verdict

pub judging_first : (new : List ℕ) → Judging new 0 0
unfolding records_of
judging_first new = record { place = 0; inside = omega arith; counted = omega arith; verdict = refl }

module _ (new : List ℕ) (at number : ℕ) (G : Judging new at number) where
  pub flaw_none : length new ≤ at → Good ≡ (records_of sheet_version new).verdict
  flaw_none h = sym (ap (λ (x : Result). x.verdict) (none_at sheet_version new at G.place number h)) ∙ G.verdict

  pub flaw_here : (h : at < length new) → EntryTold None sheet_version (take (length new - at) (drop at new))
      → Refusal 12 number ≡ (records_of sheet_version new).verdict
  flaw_here h T = sym (ap (λ (x : Result). x.verdict) (flawed_at sheet_version new at h T G.place number)) ∙ G.verdict

  pub judging_more : (h : at < length new) (n : ℕ) (f : Fields) (k : ℕ) → EntryTold (Some (record { size = n; fields = f; from = k })) sheet_version (take (length new - at) (drop at new))
      → Judging new (at + n) (number + 1)
  judging_more h n f k T =
      let z = found_size sheet_version new at h n f k T in
      record {
        place = G.place + n;
        inside = z.1;
        counted = omega (arith, G.counted);
        verdict = sym (ap (λ (x : Result). x.verdict) (found_at sheet_version new at h n f k T G.place number)) ∙ G.verdict;
      }

-- ---- writing them

pub record Putting (new : List ℕ) (pen : Pen) (l d : List ℕ) (at : ℕ) (next : Pen) (l' d' : List ℕ) : Type 0 where
  pub place : ℕ
  pub number : ℕ
  pub so_far : List Record
  pub inside : at ≤ length new
  pub records : (records_of sheet_version new).records ≡ so_far ++ (records_from sheet_version place (drop at new) number).records
  pub verdict : (records_from sheet_version place (drop at new) number).verdict ≡ (records_of sheet_version new).verdict
  pub fits : PenFits next l'
  pub few_bytes : next.count.bytes ≤ file_limit + codes_limit
  pub few_records : next.count.records ≤ pen.count.records + at
  pub kept : length d' ≡ length d
  pub written : Written (pen_state pen l) d pen.count so_far (pen_state next l') d' next.count

pub putting_first : (new : List ℕ) (pen : Pen) (l d : List ℕ) → PenFits pen l → pen.count.bytes ≤ file_limit + codes_limit → Putting new pen l d 0 pen l d
unfolding records_of
putting_first new pen l d f h =
    record {
      place = 0;
      number = 0;
      so_far = [];
      inside = omega arith;
      records = refl;
      verdict = refl;
      fits = f;
      few_bytes = h;
      few_records = omega arith;
      kept = refl;
      written = none;
    }

module _ (new : List ℕ) (pen : Pen) (l d : List ℕ) (at : ℕ) (next : Pen) (l' d' : List ℕ) (G : Putting new pen l d at next l' d') where
  pub putting_fits : length new ≤ 9223372036854775807 → pen.count.records ≤ 16777216 → Fits v8 next.count
  putting_fits h k = record { few_bytes = G.few_bytes; few_records = omega (arith, G.few_records, G.inside) }

  -- a well-formed replacement has no bad record
  pub always_there : (records_of sheet_version new).verdict ≡ Good → (h : at < length new) → (r : Option Entry)
      → EntryTold r sheet_version (take (length new - at) (drop at new)) → IsSome r
  always_there e h (Some x) T = refl
  always_there e h None T =
      let q : Refusal 12 G.number ≡ Good =
      sym (ap (λ (x : Result). x.verdict) (flawed_at sheet_version new at h T G.place G.number)) ∙ G.verdict ∙ e in
      absurd (differ q)
    where
      differ : Refusal 12 G.number ≡ Good → ⊥
      differ q = cc

  pub puts_new : length new ≤ at → PutsNew new pen l d next l' d'
  puts_new h =
      let e : (records_of sheet_version new).records ≡ G.so_far =
      G.records ∙ ap (λ (x : Result). G.so_far ++ x.records) (none_at sheet_version new at G.place G.number h) ∙ append-nil G.so_far in
      record { written = rw e G.written; fits = G.fits; few_bytes = G.few_bytes; few_records = omega (arith, G.few_records, G.inside) }

  pub putting_more : (h : at < length new) (n : ℕ) (f : Fields) (k : ℕ) → EntryTold (Some (record { size = n; fields = f; from = k })) sheet_version (take (length new - at) (drop at new))
      → (next' : Pen) (l'' d'' : List ℕ)
      → Emits next l' (record_of f (part new (at + k) (at + n))) d' d'' next' l'' → Putting new pen l d (at + n) next' l'' d''
  putting_more h n f k T next' l'' d'' E =
      let r = record_of f (part new (at + k) (at + n)) in
      let A = E.adds in
      let z = found_size sheet_version new at h n f k T in
      let here = found_at sheet_version new at h n f k T G.place G.number in
      let one : Written (pen_state next l') d' next.count (r ∷ []) (pen_state next' l'') d'' next'.count = rw E.state (more A none) in
      record {
        place = G.place + n;
        number = G.number + 1;
        so_far = G.so_far ++ (r ∷ []);
        inside = z.1;
        records = G.records ∙ ap (λ (x : Result). G.so_far ++ x.records) here ∙ sym (append_assoc G.so_far (r ∷ []) _);
        verdict = sym (ap (λ (x : Result). x.verdict) here) ∙ G.verdict;
        fits = E.fits;
        few_bytes = adds_few v8 (pen_state next l') r d' d'' next.count next'.count A G.few_bytes;
        few_records = omega (arith, G.few_records, A.records);
        kept = A.kept ∙ G.kept;
        written = written_then G.written one;
      }
