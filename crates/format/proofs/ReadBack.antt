-- Any writer whose codes are read back: the records that it writes in a row, with the closing codes, are read back as their images. v8 gives
-- back every record as it is, v7 with its style not said. Assumes nothing.
use Prim.Native.Nat.{ℕ, ◌+◌, ◌≤◌}
use mathlib.Core.Path.{◌≡◌, refl, ap, ◌∙◌}
use mathlib.Core.List.{List, [], ◌∷◌, map, ◌++◌, append_assoc}
use mathlib.Core.Bool.{false}
use native.Mathlib.Omega.{arith}
use lib.ListN.{length}
use lib.Seq.{drop-append_seam}
use lib.Dec.{eqb}
use borrow.Author.Tests.{eqb-false}
use Rattle.format.specs.Header.{Header, opened, opening_of, file_limit}
use Rattle.format.specs.Label.{label_limit}
use Rattle.format.specs.State.{State, start, Record}
use Rattle.format.specs.Refusals.{stop, also, Good}
use Rattle.format.specs.WellFormed.{GoodHeader, WellFormed, AllWellFormed}
use Rattle.format.specs.Reading.{run}
use Rattle.format.specs.Writing.{Writer, v8, v7, codes_all, after_all, encode_all, records_verdict}
use Rattle.format.specs.V7Codes.{unstyled}
use Rattle.format.proofs.GoingLaws.{Goes, goes_run}
use Rattle.format.proofs.HeaderLaws.{opening_read, v7_opening_read}
use Rattle.format.proofs.WritingLaws.{able, codes_go, after_short, closing_read}
use Rattle.format.proofs.V7Laws.{V7State, v7_codes_go, v7_after_fits, v7_closing_read}

-- in every state that fits, the codes of a record are read as its image and leave the state that writing leaves; the closing codes end the file;
-- and the header is read as it was
pub record ReadsBack (w : Writer) (image : Record → Record) (Fits : State → Type 0) : Type 0 where
  pub starts : Fits start
  pub goes : (st : State) (r : Record) → Fits st → WellFormed r → w.unable st r ≡ false → (rest : List ℕ)
      → Goes w.version (w.codes st r ++ rest) st (image r ∷ []) (length (w.codes st r)) (w.after st r)
  pub fits_after : (st : State) (r : Record) → Fits st → WellFormed r → Fits (w.after st r)
  pub closes : (st : State) (at : ℕ) → run w.version at (w.closing st) st ≡ stop Good
  pub opens : (h : Header) → GoodHeader h → w.bars h ≡ false → (rest : List ℕ) → length (w.head h ++ rest) ≤ file_limit
      → opening_of (w.head h ++ rest) ≡ opened w.version (length (w.head h)) h

module _ {w : Writer} {image : Record → Record} {Fits : State → Type 0} (B : ReadsBack w image Fits) where
  -- reading the codes of a record from any state that fits makes exactly its image, and goes on at what follows
  pub codes_read : (st : State) (r : Record) → Fits st → WellFormed r → w.unable st r ≡ false → (at : ℕ) (rest : List ℕ)
      → run w.version at (w.codes st r ++ rest) st ≡ also (image r) (run w.version (at + length (w.codes st r)) rest (w.after st r))
  codes_read st r f g u at rest = goes_run (B.goes st r f g u rest) at ∙ rw (drop-append_seam (w.codes st r) rest)

  -- from any state that fits: the records written, with the closing codes, are read back
  pub encode_read : (rs : List Record) (n : ℕ) (st : State) → Fits st → AllWellFormed rs → records_verdict w n st rs ≡ Good → (at : ℕ)
      → run w.version at (encode_all w st rs) st ≡ record { records = map image rs; verdict = Good }
  unfolding encode_all codes_all after_all
  encode_read [] n st f g e at = B.closes st at
  encode_read (r ∷ rs) n st f g e at =
      let s = able w n st r rs e in
      ap (λ (x : List ℕ). run w.version at x st) (append_assoc (w.codes st r) (codes_all w (w.after st r) rs) (w.closing (after_all w (w.after st r) rs)))
      ∙ codes_read st r f g.0 s.0 at _
      ∙ ap (also (image r)) (encode_read rs (n + 1) (w.after st r) (B.fits_after st r f g.0) g.1 s.1 _)

pub v8_reads_back : ReadsBack v8 (λ r. r) (λ st. length st.label ≤ label_limit)
v8_reads_back =
    record {
      starts = omega arith;
      goes = codes_go;
      fits_after = after_short;
      closes = closing_read;
      opens = λ h g b rest l. opening_read h g rest l;
    }

-- "extended elevation" is what v7 cannot carry
not_extended : (h : Header) → GoodHeader h → eqb h.extended 1 ≡ false → h.extended ≡ 0
not_extended h g e = let z = eqb-false h.extended 1 e in omega (arith, z, g.extended_fits)

pub v7_reads_back : ReadsBack v7 unstyled V7State
v7_reads_back =
    record {
      starts = record { style_is = refl; label_fits = omega arith };
      goes = v7_codes_go;
      fits_after = v7_after_fits;
      closes = v7_closing_read;
      opens = λ h g b rest l. v7_opening_read h g (not_extended h g b) rest l;
    }
