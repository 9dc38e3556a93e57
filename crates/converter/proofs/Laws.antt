-- What the converter writes, by the way that the conversion goes. Assumes nothing.
use Prim.Native.Nat.{ℕ, ◌≤◌, ◌<◌}
use mathlib.Core.Path.{◌≡◌, sym, ap, ◌∙◌}
use mathlib.Core.List.{List}
use lib.ListN.{length, take}
use borrow.Author.Tests.{lt-ltb, le-ltb}
use Rattle.format.specs.Bytes.{pick}
use Rattle.format.specs.Refusals.{Outcome, accepted, refused}
use Rattle.format.specs.Conversion.{converted_file, convert_outcome, convert_buffer}
use Rattle.format.proofs.ConversionLaws.{converted_file_lem}
use Rattle.listing.specs.Lines.{input_limit, refusal_line, too_long_line, outcome_text}
use Rattle.converter.specs.Converter.{converter_sheet_limit, converter_file_limit, converter_text}

pub output_long : (file : List ℕ) → input_limit < length file → too_long_line ≡ converter_text file
unfolding converter_text pick
output_long file h = simp (lt-ltb _ _ h)

module _ (file sheet out : List ℕ) (s : length sheet ≡ converter_sheet_limit) (o : length out ≡ converter_file_limit) (fits : length file ≤ input_limit) where
  answered : (x : Outcome) → x ≡ convert_outcome file (length sheet) (length out) → outcome_text x (converted_file file) ≡ converter_text file
  unfolding converter_text pick
  answered x e = ap (λ (y : Outcome). outcome_text y (converted_file file)) e ∙ rw (s, o, le-ltb input_limit (length file) fits)

  pub output_refused : (k p : ℕ) → refused k p ≡ convert_outcome file (length sheet) (length out) → refusal_line k p ≡ converter_text file
  output_refused k p e = answered (refused k p) e

  -- the v8 file stands at the front, and fits
  pub record Output (b : ℕ) (written : List ℕ) : Type 0 where
    pub text : take b written ≡ converter_text file
    pub room : b ≤ length out

  pub output_file : (b n v : ℕ) (written : List ℕ) → accepted b n v ≡ convert_outcome file (length sheet) (length out) → written ≡ convert_buffer file (length sheet) out
      → Output b written
  output_file b n v written e q =
      let z = converted_file_lem file (length sheet) out b n v (sym e) in
      record { text = ap (take b) q ∙ z.0 ∙ answered (accepted b n v) e; room = z.1 }
