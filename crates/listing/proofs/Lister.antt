-- What the lister prints, case by case, and that the listing of the sheet that a file is read into is the listing of its header and
-- records: for a program that reads the file, and for one that steps through it. Assumes nothing.
use mathlib.Core.Path.{◌≡◌, refl, sym, ap, ◌∙◌}
use mathlib.Core.List.{List, [], ◌∷◌}
use Prim.Native.Nat.{ℕ, zero, suc, ◌≤◌, ◌<◌}
use native.Mathlib.Omega.{arith}
use borrow.Author.Tests.{lt-ltb, le-ltb}
use lib.ListN.{length, take, drop}
use lib.Seq.{take_at}
use Rattle.format.specs.Bytes.{Bytes, pick, over}
use Rattle.format.specs.Header.{Header, Opening, shut, opened, opening_of}
use Rattle.format.specs.State.{Record}
use Rattle.format.specs.Sheet.{sheet_version, front_header, sheet_result, sheet_of}
use Rattle.format.specs.Refusals.{Result, Outcome, accepted, refused, buffer_of, Good, Refusal}
use Rattle.format.specs.WellFormed.{AllWellFormed, GoodHeader}
use Rattle.format.specs.Reading.{items_of, read_from, sheet_from, read_outcome, read_buffer}
use Rattle.format.proofs.SheetLaws.{sheet_records}
use Rattle.format.proofs.HeaderLaws.{opening_fits}
use Rattle.format.proofs.GoodRecords.{items_formed}
use Rattle.format.proofs.RoundTrip.{accepted_means}
use Rattle.listing.specs.Lines.{refusal_line, too_long_line, input_limit, lister_sheet_limit, listing_limit, listing_from, lister_text, listing_of, sheet_listing}

-- ---- for an input

pub prints_too_long : (input : List ℕ) → input_limit < length input → lister_text input ≡ too_long_line
unfolding lister_text pick
prints_too_long input h = simp (lt-ltb _ _ h)

module _ (input : List ℕ) (h : length input ≤ input_limit) where
  pub prints_refusal : {n p : ℕ} → read_outcome input lister_sheet_limit ≡ refused n p → lister_text input ≡ refusal_line n p
  unfolding lister_text read_outcome pick
  prints_refusal e = simp (le-ltb _ _ h, e)

  pub prints_listing : {b n v : ℕ} → read_outcome input lister_sheet_limit ≡ accepted b n v → lister_text input ≡ listing_from (opening_of input) input
  unfolding lister_text read_outcome pick
  prints_listing e = simp (le-ltb _ _ h, e)

-- ---- for a sheet

module _ (version : ℕ) (sheet : List ℕ) where
  pub listing_too_long : listing_limit ≤ length sheet → too_long_line ≡ sheet_listing version sheet
  unfolding sheet_listing pick
  listing_too_long h = simp (le-ltb _ _ h)

  module _ (h : length sheet < listing_limit) where
    pub listing_good : (sheet_result sheet).verdict ≡ Good → listing_of version (front_header sheet) (sheet_result sheet).records ≡ sheet_listing version sheet
    unfolding sheet_listing pick
    listing_good e = simp (lt-ltb _ _ h, e)

    pub listing_refused : {n p : ℕ} → (sheet_result sheet).verdict ≡ Refusal n p → refusal_line n p ≡ sheet_listing version sheet
    unfolding sheet_listing pick
    listing_refused e = simp (lt-ltb _ _ h, e)

pub sheet_listing_lem : (version : ℕ) (h : Header) → GoodHeader h → (rs : List Record) → AllWellFormed rs → length (sheet_of sheet_version h rs) < listing_limit
    → sheet_listing version (sheet_of sheet_version h rs) ≡ listing_of version h rs
sheet_listing_lem version h g rs w l =
    let e = sheet_records h g rs w in
    sym (listing_good version (sheet_of sheet_version h rs) l (ap (λ (x : Result). x.verdict) e.0)) ∙ simp (e.0, e.1)

-- ---- for a file that was read: its sheet stands at the front of the buffer

pub sheet_read : (file sheet : List ℕ) (b n w : ℕ) → accepted b n w ≡ read_outcome file (length sheet)
    → take b (read_buffer file sheet) ≡ sheet_from (opening_of file) file
unfolding read_outcome read_buffer over
sheet_read file sheet b n w e = go (opening_of file) refl
  where
    go : (o : Opening) → opening_of file ≡ o → take b (read_buffer file sheet) ≡ sheet_from (opening_of file) file
    go (shut k p) q = absurd (let c : accepted b n w ≡ refused k p = e ∙ ap (λ (y : Opening). read_from y file (length sheet)) q in
        let z : ◌≡◌ {A = ℕ} 0 1 = cc in omega arith)
    go (opened v p h) q =
        let x = items_of v p file in
        let S = sheet_of sheet_version h x.records in
        let c : accepted b n w ≡ read_from (opened v p h) file (length sheet) = e ∙ ap (λ (y : Opening). read_from y file (length sheet)) q in
        let A = accepted_means x.verdict (length S) (length x.records) v (length sheet) b n w (sym c) in
        let s : read_buffer file sheet ≡ over S sheet = ap (λ (y : Outcome). buffer_of y (sheet_from (opening_of file) file) sheet) (sym e)
        ∙ ap (λ (y : Opening). over (sheet_from y file) sheet) q in
        ap (take b) s ∙ take_at S (drop (length S) sheet) b (sym A.bytes_are) ∙ ap (λ (y : Opening). sheet_from y file) (sym q)

-- ---- for a file, by its opening and its items

-- the front of bytes is bytes
pub bytes_take : (n : ℕ) (s : List ℕ) → Bytes s → Bytes (take n s)
bytes_take zero s b i = omega arith
bytes_take (suc n) [] b i = omega arith
bytes_take (suc n) (x ∷ s) b zero = b 0
bytes_take (suc n) (x ∷ s) b (suc i) = bytes_take n s (λ j. b (suc j)) i

module _ (file : List ℕ) (fits : length file ≤ input_limit) where
  pub prints_shut : {n p : ℕ} → opening_of file ≡ shut n p → lister_text file ≡ refusal_line n p
  unfolding read_outcome
  prints_shut o = prints_refusal file fits (rw o)

  module _ {v p : ℕ} {h : Header} (o : opening_of file ≡ opened v p h) where
    abbrev x : Result
    x = items_of v p file

    abbrev sheet : List ℕ
    sheet = sheet_of sheet_version h x.records

    pub prints_refused : {n q : ℕ} → x.verdict ≡ Refusal n q → lister_text file ≡ refusal_line n q
    unfolding read_outcome
    prints_refused e = prints_refusal file fits (rw (o, e))

    -- "a sheet over 49,152 bytes gives 11"
    pub prints_small : x.verdict ≡ Good → lister_sheet_limit < length sheet → lister_text file ≡ refusal_line 11 (length sheet)
    unfolding read_outcome pick
    prints_small e l = prints_refusal file fits (simp (o, e, lt-ltb _ _ l))

    pub prints_whole : Bytes file → x.verdict ≡ Good → length sheet ≤ lister_sheet_limit → lister_text file ≡ sheet_listing v sheet
    unfolding read_outcome pick
    prints_whole bytes e l =
        prints_listing file fits {b = length sheet} {n = length x.records} {v = v} (simp (o, e, le-ltb _ _ l))
        ∙ ap (λ (y : Opening). listing_from y file) o
        ∙ sym (sheet_listing_lem v h (opening_fits file o).header x.records (items_formed v p file bytes) (omega (arith, l)))
