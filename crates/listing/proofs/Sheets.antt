-- A turn of the loop over a sheet's records, on plain values, and the whole listing. Assumes nothing.
use Rattle.std.specs.Prelude.{Option, Some, None}
use mathlib.Core.Path.{◌≡◌, refl, sym, ap, ◌∙◌}
use mathlib.Core.List.{List, [], ◌∷◌, ◌++◌, append_assoc}
use mathlib.Core.Bool.{false}
use Prim.Native.Nat.{ℕ, suc, ◌+◌, ◌-◌, ◌*◌, ◌≤◌}
use native.Mathlib.Nat.{add-zero}
use native.Mathlib.Omega.{arith}
use lib.ListN.{length, take, drop, length-take, length-drop, drop_of_length-le}
use lib.Seq.{drop-drop}
use borrow.Author.Rules.{part_to_end}
use Rattle.format.specs.Bytes.{pick, Bytes}
use Rattle.format.specs.State.{Record}
use Rattle.format.specs.Sheet.{flawed, entry, entry_of, records_from, records_of, good_front, front_header, version_result, version_of, sheet_result}
use Rattle.format.specs.Refusals.{Result, Good, Refusal}
use Rattle.format.specs.Label.{label_limit}
use Rattle.format.specs.Fields.{record_of}
use Rattle.sheet.specs.Seen.{EntryTold, label_of, Fronted}
use Rattle.sheet.specs.declared.Entry.{Entry as Found}
use Rattle.format.proofs.SheetLaws.{entry_sized, entry_read, bytes_drop, records_none, records_more}
use Rattle.listing.specs.Lines.{record_line, record_lines, end_line, rest_of, header_line, listing_of}
use Rattle.listing.specs.Puts.{Put, line_limit}
use Rattle.listing.proofs.Stores.{put_none, put_then, put_as, put_within}
use Rattle.listing.proofs.Lengths.{record_short}

-- ---- the record at a place, as `read_entry` tells it of the part from there on

abbrev pub EntryAt : ℕ → List ℕ → ℕ → Option Found → Type 0
EntryAt v sheet at r = EntryTold r v (take (length sheet - at) (drop at sheet))

-- where it stands, and how long its label is
pub record EntryPlace (sheet : List ℕ) (at n k : ℕ) : Type 0 where
  pub least : 3 ≤ n
  pub label_from_lem : k ≤ n
  pub behind : at + n ≤ length sheet
  pub label_short : length (take (n - k) (drop k (take (length sheet - at) (drop at sheet)))) ≤ label_limit

module _ (v : ℕ) (sheet : List ℕ) (at : ℕ) where
  pub entry_none : EntryAt v sheet at None → entry_of v (drop at sheet) ≡ flawed
  entry_none T = sym (simp part_to_end at T.same)

  module _ (e : Found) (T : EntryAt v sheet at (Some e)) where
    pub entry_at : entry_of v (drop at sheet) ≡ entry e.size (record_of e.fields (label_of e.size e.from (take (length sheet - at) (drop at sheet))))
    entry_at = rw part_to_end (sym (simp part_to_end at T.same))

    pub entry_place : at ≤ length sheet → EntryPlace sheet at e.size e.from
    entry_place h =
        let i = T.inside in
        let l : length (take (length sheet - at) (drop at sheet)) ≡ length sheet - at = ap length (part_to_end sheet at) ∙ length-drop at sheet in
        record {
          least = (entry_sized v (drop at sheet) entry_at).least;
          label_from_lem = i.from_within;
          behind = omega (arith, i.within);
          label_short = simp length-take (omega (arith, i.short));
        }

-- ---- the records from a place on

left_none : (v at : ℕ) (s : List ℕ) (n : ℕ) → entry_of v s ≡ flawed → (records_from v at s n).records ≡ []
left_none v at [] n e = ap (λ (x : Result). x.records) (records_none v at n)
left_none v at (b ∷ s) n e = ap (λ (x : Result). x.records) (records_more v at (b ∷ s) n (omega arith)) ∙ rw e

left_more : (v at : ℕ) (s : List ℕ) (n : ℕ) {k : ℕ} {r : Record} → entry_of v s ≡ entry k r
    → (records_from v at s n).records ≡ r ∷ (records_from v (at + k) (drop k s) (n + 1)).records
left_more v at s n e =
    let z = entry_sized v s e in
    ap (λ (x : Result). x.records) (records_more v at s n (omega (arith, z.least, z.inside))) ∙ rw e

rest_none : (n : ℕ) → rest_of n [] ≡ end_line n
unfolding rest_of record_lines
rest_none n = rw add-zero

rest_more : (n : ℕ) (r : Record) (rs : List Record) → rest_of n (r ∷ rs) ≡ record_line r ++ rest_of (n + 1) rs
unfolding rest_of record_lines
rest_more n r rs =
    let e : n + suc (length rs) ≡ n + 1 + length rs = omega arith in
    rw e (append_assoc (record_line r) (record_lines rs) _)

-- ---- so far, records lines have been put, from a place of the sheet to another; with those that are left they are all

pub record Listed (v : ℕ) (sheet : List ℕ) (from : ℕ) (old : List ℕ) (begin : ℕ) (new : List ℕ) (at k records : ℕ) : Type 0 where
  pub so_far : List ℕ
  pub place : ℕ
  pub inside : at ≤ length sheet
  pub few : records ≤ at
  pub put : Put (4 * at) so_far old begin k new
  pub same : so_far ++ rest_of records (records_from v place (drop at sheet) records).records ≡ rest_of 0 (records_of v (drop from sheet)).records

pub listed_none : (v : ℕ) (sheet : List ℕ) (from : ℕ) (old : List ℕ) (begin : ℕ) → from ≤ length sheet → Listed v sheet from old begin old from begin 0
unfolding records_of
listed_none v sheet from old begin h =
    record { so_far = []; place = 0; inside = h; few = omega arith; put = put_as (put_none old begin) (omega arith) refl; same = refl }

module _ {v : ℕ} {sheet old new : List ℕ} {from begin at k records : ℕ} (L : Listed v sheet from old begin new at k records) where
  pub listed_more : Bytes sheet → {size k' : ℕ} {r : Record} {new' : List ℕ} → entry_of v (drop at sheet) ≡ entry size r
      → Put line_limit (record_line r) new k k' new'
      → Listed v sheet from old begin new' (at + size) k' (records + 1)
  listed_more b {size} {k'} {r} {new'} e q =
      let z = entry_sized v (drop at sheet) e in
      let w = entry_read v (drop at sheet) (bytes_drop sheet b at) e in
      let f : length (record_line r) ≤ 4 * size = (let g = record_short v r w.2 in omega (arith, w.1)) in
      let l = length-drop at sheet in
      let rs = (records_from v (L.place + size) (drop (at + size) sheet) (records + 1)).records in
      let d : drop size (drop at sheet) ≡ drop (at + size) sheet = drop-drop size at sheet in
      let m : (records_from v L.place (drop at sheet) records).records ≡ r ∷ rs = rw d at (left_more v L.place (drop at sheet) records e) in
      record {
        so_far = L.so_far ++ record_line r;
        place = L.place + size;
        inside = omega (arith, z.inside, L.inside);
        few = omega (arith, L.few, z.least);
        put = put_as (put_then L.put (put_within q f)) (omega arith) refl;
        same = append_assoc L.so_far (record_line r) (rest_of (records + 1) rs) ∙ rw (← rest_more records r rs, ← m) L.same;
      }

  pub listed_all : {r : ℕ} {new' : List ℕ} → entry_of v (drop at sheet) ≡ flawed → Put line_limit (end_line records) new k r new'
      → Put (4 * length sheet + line_limit) (rest_of 0 (records_of v (drop from sheet)).records) old begin r new'
  listed_all e q =
      put_as (put_then L.put q) (omega (arith, L.inside))
      (rw (← rest_none records, ← left_none v L.place (drop at sheet) records e) L.same)

-- ---- the verdict on a sheet

-- so far the records from a place of the sheet to another are good; the verdict on those that are left is that on all
pub record JudgedTo (v : ℕ) (sheet : List ℕ) (from at records : ℕ) : Type 0 where
  pub place : ℕ
  pub inside : at ≤ length sheet
  pub few : records ≤ at
  pub same : (records_from v place (drop at sheet) records).verdict ≡ (records_of v (drop from sheet)).verdict

pub judged_none : (v : ℕ) (sheet : List ℕ) (from : ℕ) → from ≤ length sheet → JudgedTo v sheet from from 0
unfolding records_of
judged_none v sheet from h = record { place = 0; inside = h; few = omega arith; same = refl }

module _ {v : ℕ} {sheet : List ℕ} {from at records : ℕ} (J : JudgedTo v sheet from at records) where
  pub judged_more : {size : ℕ} {r : Record} → entry_of v (drop at sheet) ≡ entry size r → JudgedTo v sheet from (at + size) (records + 1)
  judged_more {size} e =
      let z = entry_sized v (drop at sheet) e in
      let l = length-drop at sheet in
      let m = ap (λ (x : Result). x.verdict) (records_more v J.place (drop at sheet) records (omega (arith, z.least, z.inside))) in
      record {
        place = J.place + size;
        inside = omega (arith, z.inside, J.inside);
        few = omega (arith, J.few, z.least);
        same = rw (← drop-drop size at sheet) (sym (rw e at m)) ∙ J.same;
      }

  pub judged_good : at ≡ length sheet → Good ≡ (records_of v (drop from sheet)).verdict
  judged_good h =
      let d : drop at sheet ≡ [] = drop_of_length-le sheet {i = at} (omega arith) in
      sym (ap (λ (x : List ℕ). (records_from v J.place x records).verdict) d ∙ ap (λ (x : Result). x.verdict) (records_none v J.place records)) ∙ J.same

  pub judged_bad : (at ≡ length sheet → ⊥) → entry_of v (drop at sheet) ≡ flawed → Refusal 12 records ≡ (records_of v (drop from sheet)).verdict
  judged_bad h e =
      let l = length-drop at sheet in
      let m = ap (λ (x : Result). x.verdict) (records_more v J.place (drop at sheet) records (omega (arith, J.inside, h))) in
      sym (rw e at m) ∙ J.same

-- v is the version that the sheet is judged by
module _ (v : ℕ) (sheet : List ℕ) (q : v ≡ version_of sheet) where
  pub verdict_none : good_front v sheet ≡ false → Refusal 12 0 ≡ (sheet_result sheet).verdict
  unfolding sheet_result version_result pick
  verdict_none e = rw (← q) (simp e)

  pub verdict_some : {extended k m : ℕ} → Fronted v sheet extended k m → (records_of v (drop (7 + k + m) sheet)).verdict ≡ (sheet_result sheet).verdict
  unfolding sheet_result version_result pick
  verdict_some F = rw (← q) (simp (F.good, F.behind))

-- ---- the whole listing

module _ (v : ℕ) (sheet : List ℕ) (q : v ≡ version_of sheet) (version : ℕ) where
  pub whole_never : good_front v sheet ≡ false → (sheet_result sheet).verdict ≡ Good → ⊥
  whole_never e g = let p : Refusal 12 0 ≡ Good = verdict_none v sheet q e ∙ g in let z : ◌≡◌ {A = ℕ} 0 1 = cc in omega arith

  -- the parts of the sheet as the code cuts them
  module _ {extended k m : ℕ} (F : Fronted v sheet extended k m) where
    abbrev title_part : List ℕ
    title_part = take (7 + k - 7) (drop 7 sheet)

    abbrev time_part : List ℕ
    time_part = take (7 + k + m - (7 + k)) (drop (7 + k) sheet)

    title_size : 7 + k - 7 ≡ k
    title_size = omega arith

    time_size : 7 + k + m - (7 + k) ≡ m
    time_size = omega arith

    pub title_short : length title_part ≤ 4096
    title_short = rw title_size (simp length-take (omega (arith, F.title_short)))

    pub time_short : length time_part ≤ 64
    time_short = rw time_size (simp length-take (omega (arith, F.time_short)))

    pub whole_some : header_line version (record { extended = extended; title = title_part; time = time_part }) ++ rest_of 0
        (records_of v (drop (7 + k + m) sheet)).records ≡ listing_of version (front_header sheet) (sheet_result sheet).records
    unfolding sheet_result version_result listing_of pick
    whole_some = rw (title_size, time_size, ← q) (simp (F.good, F.header, F.behind))
