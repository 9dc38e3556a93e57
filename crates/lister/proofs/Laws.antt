-- What the lister prints, by the way that reading the input into a sheet goes. Assumes nothing.
use Prim.Native.Nat.{ℕ, ◌≤◌}
use native.Mathlib.Omega.{arith}
use mathlib.Core.Path.{◌≡◌, refl, sym, ap, ap₂, ◌∙◌}
use mathlib.Core.List.{List}
use lib.ListN.{length, take}
use Rattle.format.specs.Bytes.{Bytes}
use Rattle.format.specs.Header.{Opening, shut, opened, opening_of}
use Rattle.format.specs.Sheet.{sheet_version, sheet_of}
use Rattle.format.specs.Reading.{read_from, sheet_from, items_of, read_outcome, read_buffer}
use Rattle.format.specs.Refusals.{Outcome, accepted, refused}
use Rattle.format.proofs.RoundTrip.{accepted_means}
use Rattle.listing.specs.Lines.{sheet_listing, refusal_line, input_limit, lister_sheet_limit, lister_text}
use Rattle.listing.proofs.Lister.{prints_refusal, prints_whole, sheet_read}

module _ (file sheet : List ℕ) (room : length sheet ≡ lister_sheet_limit) (fits : length file ≤ input_limit) where
  outcome : {o : Outcome} → o ≡ read_outcome file (length sheet) → read_outcome file lister_sheet_limit ≡ o
  outcome e = ap (read_outcome file) (sym room) ∙ sym e

  pub text_refused : {k p : ℕ} → refused k p ≡ read_outcome file (length sheet) → refusal_line k p ≡ lister_text file
  text_refused e = sym (prints_refusal file fits (outcome e))

  shut_outcome : (k p : ℕ) → opening_of file ≡ shut k p → read_outcome file (length sheet) ≡ refused k p
  unfolding read_outcome
  shut_outcome k p q = rw q

  never : (b n w k p : ℕ) → accepted b n w ≡ refused k p → ⊥
  never b n w k p e = let z : ◌≡◌ {A = ℕ} 0 1 = cc in omega arith

  pub text_listing : Bytes file → (b n w : ℕ) (read : List ℕ) → accepted b n w ≡ read_outcome file (length sheet) → read ≡ read_buffer file sheet
      → sheet_listing w (take b read) ≡ lister_text file
  unfolding read_outcome
  text_listing bytes b n w read e q = ap (λ (r : List ℕ). sheet_listing w (take b r)) q ∙ go (opening_of file) refl
    where
      go : (o : Opening) → opening_of file ≡ o → sheet_listing w (take b (read_buffer file sheet)) ≡ lister_text file
      go (shut k p) o = absurd (never b n w k p (e ∙ shut_outcome k p o))
      go (opened v p h) o =
          let x = items_of v p file in
          let S = sheet_of sheet_version h x.records in
          let r : accepted b n w ≡ read_from (opened v p h) file (length sheet) = e ∙ ap (λ (y : Opening). read_from y file (length sheet)) o in
          let A = accepted_means x.verdict (length S) (length x.records) v (length sheet) b n w (sym r) in
          let t : take b (read_buffer file sheet) ≡ S = sheet_read file sheet b n w e ∙ ap (λ (y : Opening). sheet_from y file) o in
          ap₂ sheet_listing A.version_is t ∙ sym (prints_whole file fits o bytes A.fine (omega (arith, A.fits, room)))
