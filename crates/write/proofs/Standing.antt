-- A turn of the loop over a sheet's records for any writer and its state, on plain values. What is left of the sheet is kept with what its
-- header already refuses, so that a writer that cannot write the header goes on in the same way and says so behind 12. Assumes nothing.
use Prim.Native.Nat.{ℕ, ◌+◌, ◌-◌, ◌≤◌, ◌<◌}
use mathlib.Core.Path.{◌≡◌, refl, ◌∙◌}
use mathlib.Core.Bool.{Bool, true, false}
use mathlib.Core.List.{List}
use Rattle.std.specs.Prelude.{Some, None, Result as Answered, Ok}
use Rattle.format.specs.declared.Refusal.{Refusal as Refused}
use native.Mathlib.Omega.{arith}
use lib.ListN.{length, take, drop}
use Rattle.format.specs.State.{State, start, Record}
use Rattle.format.specs.Sheet.{records_from, records_of}
use Rattle.format.specs.Refusals.{Result, stop, also, refused, Good, Refusal}
use Rattle.format.specs.Writing.{Writer, headed_by}
use Rattle.format.specs.Header.{file_limit}
use Rattle.format.specs.Fields.{record_of}
use Rattle.format.specs.declared.Fields.{Fields}
use Rattle.sheet.specs.Seen.{EntryTold}
use Rattle.sheet.proofs.EntryAt.{part, none_at, flawed_at, found_at, found_size}
use Rattle.counts.specs.Tallies.{bounded, Adds, rest_outcome}
use Rattle.counts.specs.declared.Tally.{Tally}
use Rattle.counts.proofs.Left.{Left, left_none, left_more, left_flawed, adds_few}

-- ---- a header that cannot be written

pub headed_also : (barred : Bool) (k : ℕ) (r : Record) (x : Result) → headed_by barred k (also r x) ≡ also r (headed_by barred k x)
headed_also true k r x = refl
headed_also false k r x = refl

pub headed_stop : (barred : Bool) (k m p : ℕ) → headed_by barred k (stop (Refusal m p)) ≡ stop (Refusal m p)
headed_stop true k m p = refl
headed_stop false k m p = refl

pub headed_records : (barred : Bool) (k : ℕ) (x : Result) → (headed_by barred k x).records ≡ x.records
headed_records true k x = refl
headed_records false k x = refl

-- ---- where in the sheet the loop stands

-- the loop counts by loose values: a struct that goes in and out of a call for each record costs time
abbrev pub counted : ℕ → ℕ → Answered Unit Refused → Tally
counted total number fault = record { bytes = total; records = number; fault = fault }

pub record Standing (w : Writer) (barred : Bool) (version : ℕ) (sheet : List ℕ) (begin head : ℕ) (d₀ d : List ℕ) (at total number : ℕ) (fault : Answered Unit Refused)
    (st : State) : Type 0 where
  pub place : ℕ
  pub inside : at ≤ length sheet
  pub few_records : number ≤ at
  pub few : total ≤ file_limit + w.longest
  pub kept : length d ≡ length d₀
  pub left : Left w (headed_by barred w.number (records_of version (drop begin sheet))) head d₀ d (counted total number fault) st
      (headed_by barred w.number (records_from version place (drop at sheet) number))

pub standing_none : (w : Writer) (barred : Bool) (version : ℕ) (sheet : List ℕ) (begin head : ℕ) (d : List ℕ) → begin ≤ length sheet → head ≤ 8192
    → Standing w barred version sheet begin head d d begin head 0 (Ok tt) start
unfolding records_of
standing_none w barred version sheet begin head d hb hh =
    record {
      place = 0;
      inside = hb;
      few_records = omega arith;
      few = omega arith;
      kept = refl;
      left = left_none w (headed_by barred w.number (records_of version (drop begin sheet))) head d (omega arith);
    }

module _ (w : Writer) (barred : Bool) (version : ℕ) (sheet : List ℕ) (begin head : ℕ) (d₀ d : List ℕ) (at total number : ℕ) (fault : Answered Unit Refused) (st : State)
    (S : Standing w barred version sheet begin head d₀ d at total number fault st) where
  abbrev x₀ : Result
  x₀ = headed_by barred w.number (records_of version (drop begin sheet))

  abbrev t : Tally
  t = counted total number fault

  -- no record is left
  pub standing_end : length sheet ≤ at → Left w x₀ head d₀ d t st (headed_by barred w.number (stop Good))
  standing_end h = rw (none_at version sheet at S.place number h) at S.left

  module _ (h : at < length sheet) where
    -- no well-formed record is there
    pub standing_flawed : EntryTold None version (take (length sheet - at) (drop at sheet)) → refused 12 number ≡ rest_outcome w head x₀
    standing_flawed T =
        let e : headed_by barred w.number (records_from version S.place (drop at sheet) number) ≡ stop (Refusal 12 number)
        = rw (flawed_at version sheet at h T S.place number) (headed_stop barred w.number 12 number) in
        left_flawed w x₀ head d₀ d t st number (rw e at S.left)

    -- one is, and its codes are added
    module _ (n : ℕ) (f : Fields) (k : ℕ) (T : EntryTold (Some (record { size = n; fields = f; from = k })) version (take (length sheet - at) (drop at sheet))) (d' : List ℕ) (size : ℕ) (fault' : Answered Unit Refused)
        (A : Adds w st (record_of f (part sheet (at + k) (at + n))) d d' t (counted (bounded total size) (number + 1) fault')) where
      abbrev r : Record
      r = record_of f (part sheet (at + k) (at + n))

      abbrev t' : Tally
      t' = counted (bounded total size) (number + 1) fault'

      pub standing_more : Standing w barred version sheet begin head d₀ d' (at + n) (bounded total size) (number + 1) fault' (w.after st r)
      standing_more =
          let z = found_size version sheet at h n f k T in
          let more = headed_by barred w.number (records_from version (S.place + n) (drop (at + n) sheet) (number + 1)) in
          let e : headed_by barred w.number (records_from version S.place (drop at sheet) number) ≡ also r more
          = rw (found_at version sheet at h n f k T S.place number) (headed_also barred w.number r _) in
          record {
            place = S.place + n;
            inside = z.1;
            few_records = omega (arith, S.few_records, z.0);
            few = adds_few w st r d d' t t' A S.few;
            kept = A.kept ∙ S.kept;
            left = left_more w x₀ head d₀ d d' t t' st r more (rw e at S.left) S.kept A;
          }
