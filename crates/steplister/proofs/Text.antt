-- The text for what stepping came to is the lister's. Assumes nothing.
use Rattle.std.specs.Prelude.{Result as Answer, Ok, Err}
use Prim.Native.Nat.{ℕ, ◌+◌, ◌≤◌, ◌<◌}
use native.Mathlib.Omega.{arith}
use mathlib.Core.Path.{◌≡◌, sym, ap, ap₂, ◌∙◌}
use mathlib.Core.List.{List, ◌∷◌, ◌++◌}
use lib.ListN.{length, take, drop, length-drop, length-append}
use lib.Seq.{length-take-le, take_at}
use borrow.Author.Tests.{lt-ltb, le-ltb, ltb-true, ltb-false}
use Rattle.format.specs.Bytes.{Bytes, pick, over}
use Rattle.format.specs.Header.{Header, opening_of}
use Rattle.format.specs.Sheet.{sheet_version, layout_all, header_layout, sheet_of}
use Rattle.format.specs.Refusals.{Result, Good}
use Rattle.format.specs.declared.Refusal.{Refusal as Refused}
use Rattle.format.specs.Reading.{items_of}
use Rattle.format.specs.Stepping.{open_stand}
use Rattle.format.proofs.Basics.{pick_case}
use Rattle.format.proofs.SheetLaws.{header_length}
use Rattle.wire.specs.Laid.{laid}
use Rattle.wire.proofs.Laws.{take_laid}
use Rattle.header.specs.Head.{saying, HeadIs, Opens}
use Rattle.header.specs.declared.Head.{Head}
use Rattle.listing.specs.Lines.{refusal_line, input_limit, lister_sheet_limit, lister_text, sheet_listing}
use Rattle.listing.proofs.Lister.{prints_refused, prints_small, prints_whole}
use Rattle.steplister.specs.Steps.{left_of, Gathered, Gathers, listed_text, stop_text}

-- ---- a sheet of so many bytes

module _ (bytes version : ℕ) (sheet : List ℕ) where
  pub listed_small : length sheet < bytes → refusal_line 11 bytes ≡ listed_text bytes version sheet
  unfolding listed_text pick
  listed_small l = simp (lt-ltb _ _ l)

  pub listed_whole : bytes ≤ length sheet → sheet_listing version (take bytes sheet) ≡ listed_text bytes version sheet
  unfolding listed_text pick
  listed_whole l = simp (le-ltb _ _ l)

-- ---- a file that was opened

pub opens : {h : Head} {file : List ℕ} → HeadIs (Ok h) file (opening_of file) → Opens file h.version h.place h.extended h.title h.time
opens T = record { due = sym T.same; room = T.room }

module _ {file : List ℕ} {v p x t m : ℕ} (O : Opens file v p x t m) (fits : length file ≤ input_limit) where
  abbrev h : Header
  h = saying x t m file

  abbrev X : Result
  X = items_of v p file

  abbrev S : List ℕ
  S = sheet_of sheet_version h X.records

  left_is : left_of (open_stand file) file ≡ X
  unfolding open_stand items_of
  left_is = rw O.due

  -- ---- the sheet

  front_length : length (sheet_version ∷ header_layout h) ≡ 7 + t + m
  front_length =
      let r = O.room in
      let a = length-take-le t (drop 24 file) (simp length-drop (omega (arith, r.place_least, r.inside))) in
      let b = length-take-le m (drop (25 + t) file) (simp length-drop (omega (arith, r.place_least, r.inside))) in
      let q = header_length h in omega arith

  module _ {front : ℕ} (old : List ℕ) {before : List ℕ} (F : (front ≡ 7 + t + m) × (before ≡ over (sheet_version ∷ header_layout h) old))
      (room : length before ≡ lister_sheet_limit) (sheet : List ℕ) where
    module _ {b : ℕ} (A : Gathered file before front b Good sheet) where
      bytes_are : b ≡ length S
      unfolding sheet_of
      bytes_are =
          let a = A.bytes_are in
          let e = ap (λ (y : Result). front + length (layout_all sheet_version y.records)) left_is in
          let l = length-append (header_layout h) (layout_all sheet_version X.records) in
          let f = front_length in
          omega (arith, a, e, l, f, F.0)

      sheet_is : b ≤ lister_sheet_limit → take b sheet ≡ S
      unfolding sheet_of over
      sheet_is l =
          let rs = layout_all sheet_version X.records in
          let k : b ≡ front + length rs = A.bytes_are ∙ ap (λ (y : Result). front + length (layout_all sheet_version y.records)) left_is in
          let d : sheet ≡ laid before front rs =
          A.laid_in (omega (arith, l, room)) ∙ ap (λ (y : Result). laid before front (layout_all sheet_version y.records)) left_is in
          ap₂ take k d ∙ take_laid before rs front (omega (arith, k, l, room))
          ∙ ap (λ (y : List ℕ). y ++ rs) (ap (take front) F.1 ∙ take_at (sheet_version ∷ header_layout h) _ front (front_length ∙ sym F.0))

    pub stepped_text : Bytes file → length sheet ≡ lister_sheet_limit → (r : Answer ℕ Refused) → Gathers file before front r sheet → stop_text r v sheet ≡ lister_text file
    unfolding listed_text
    stepped_text bytes kept (Err r) A = sym (prints_refused file fits O.due (sym (ap (λ (y : Result). y.verdict) left_is) ∙ A.verdict_is))
    stepped_text bytes kept (Ok b) A =
        let e : X.verdict ≡ Good = sym (ap (λ (y : Result). y.verdict) left_is) ∙ A.verdict_is in
        let n = bytes_are A in
        pick_case (λ (y : List ℕ). y ≡ lister_text file) _ _ _
        (λ q. let l = ltb-true (length sheet) b q in rw n (sym (prints_small file fits O.due e (omega (arith, l, kept, n)))))
        (λ q. let l = ltb-false (length sheet) b q in
        ap (sheet_listing v) (sheet_is A (omega (arith, l, kept))) ∙ sym (prints_whole file fits O.due bytes e (omega (arith, l, kept, n))))
