-- The two versions of a sheet (#106): an old writer refuses version 2, no third version is taken, a version 1 section has no date, and a
-- version 1 sheet and its version 2 twin are written alike. Assumes nothing.
use Prim.Native.Nat.{ℕ, ◌<◌}
use native.Mathlib.Omega.{arith}
use mathlib.Core.Path.{◌≡◌, refl, sym, ap, ◌∙◌}
use mathlib.Core.List.{List, [], ◌∷◌, ◌++◌}
use mathlib.Core.Bool.{false}
use lib.ListN.{length, get_or}
use lib.Dec.{leb}
use borrow.Author.Tests.{ne_eqb, lt-leb}
use Rattle.format.specs.Bytes.{pick, be16, be32, to_be16, to_be32, Bytes}
use Rattle.format.specs.State.{State, section}
use Rattle.format.specs.Refusals.{stop, Good, Refusal}
use Rattle.format.specs.Sheet.{sheet_version, undated_version, section_size, undated_section_body, layout, Entry, flawed, entry, good_date, date_from}
use Rattle.format.specs.Sheet.{section_entry, body_entry, framed, entry_of, good_front, front_header, version_result, version_of, sheet_result}
use Rattle.format.specs.Codes.{same_date, v8_dates, date_if, section_codes, codes}
use Rattle.format.specs.Writing.{Writer, write_outcome, write_buffer, twin}
use Rattle.format.specs.declared.Section.{Section}
use Rattle.format.specs.declared.Dated.{Dated}
use Rattle.format.specs.declared.Dated.TheVariants.{Undated, Day, Range}
use Rattle.format.proofs.Basics.{pick_case, pick_false, be16_to}
use Rattle.format.proofs.SheetLaws.{records_sheet, sheet_records}

-- ---- "An old writer meets 02 with refusal 12, never with a wrong section"

-- a sheet judged by the layout of another version than its own
pub other_version : (version : ℕ) (sheet : List ℕ) → (get_or sheet 0 0 ≡ version → ⊥) → version_result version sheet ≡ stop (Refusal 12 0)
unfolding version_result good_front pick
other_version version sheet h = rw (ne_eqb (get_or sheet 0 0) version h)

pub old_writer_refuses : (sheet : List ℕ) → get_or sheet 0 0 ≡ sheet_version → version_result undated_version sheet ≡ stop (Refusal 12 0)
old_writer_refuses sheet e = other_version undated_version sheet (λ q. omega arith)

-- every byte but 01 and 02 is 12 at 0
pub no_third_version : (sheet : List ℕ) → (get_or sheet 0 0 ≡ undated_version → ⊥) → (get_or sheet 0 0 ≡ sheet_version → ⊥) → sheet_result sheet ≡ stop (Refusal 12 0)
unfolding sheet_result version_of
no_third_version sheet h k = ap (λ (v : ℕ). version_result v sheet) (pick_false undated_version sheet_version (ne_eqb (get_or sheet 0 0) undated_version h))
    ∙ other_version sheet_version sheet k

-- ---- a version 1 section in a version 2 sheet

-- one whose label has less than 5 bytes is a bad record
pub short_undated : (s : Section) (label : List ℕ) → length label < 5 → entry_of sheet_version (layout undated_version (section s label)) ≡ flawed
unfolding entry_of layout body_entry section_entry pick to_be16 to_be32
short_undated s label h =
    let b = undated_section_body s label in
    let t = layout undated_version (section s label) in
    let n : be16 t ≡ length b = be16_to (length b) b (omega arith) in
    let k : leb section_size (be16 t) ≡ false = lt-leb section_size (be16 t) (omega arith) in
    pick_case (λ (x : Entry). x ≡ flawed) (framed t) _ _ (λ e. simp k) (λ e. refl)

-- one with a longer label is bad or another section, by its bytes: here left, right, up and down are 0 and the label is `abcdef`
pub long_undated : entry_of sheet_version (layout undated_version
    (section (record { last = 0; date = Undated; size = record { left = 0; right = 0; up = 0; down = 0 } }) (97 ∷ 98 ∷ 99 ∷ 100 ∷ 101 ∷ 102 ∷ [])))
    ≡ entry 26 (section (record { last = 0; date = Undated; size = record { left = 0; right = 0; up = 97; down = 0x62636465 } }) (102 ∷ []))
unfolding entry_of framed layout body_entry section_entry good_date date_from pick be16 be32 to_be16 to_be32
long_undated = refl

-- ---- "a version 1 section having no date": after a dated leg it is written with the no-date code before it

pub undated_section : (st : State) (s : Section) (label : List ℕ) → s.date ≡ Undated → (st.setting.date ≡ Undated → ⊥)
    → codes st (section s label) ≡ 0x10 ∷ section_codes st.label s label
unfolding date_if same_date section_codes pick
undated_section st s label u h = rw u (go st.setting.date h)
  where
    go : (d : Dated) → (d ≡ Undated → ⊥) → date_if v8_dates d Undated ++ section_codes st.label s label ≡ 0x10 ∷ section_codes st.label s label
    go Undated h = absurd (h refl)
    go (Day d) h = refl
    go (Range d e) h = refl

-- ---- the twin has the same header and records, so every writer answers alike and leaves the same bytes

module _ (sheet : List ℕ) (bytes : Bytes sheet) (good : (sheet_result sheet).verdict ≡ Good) where
  pub twin_same : (sheet_result (twin sheet) ≡ sheet_result sheet) × (front_header (twin sheet) ≡ front_header sheet)
  unfolding twin
  twin_same =
      let e : sheet_result sheet ≡ record { records = (sheet_result sheet).records; verdict = Good } =
      λ i. record { records = (sheet_result sheet).records; verdict = good i } in
      let r = records_sheet sheet bytes (sheet_result sheet).records e in
      let s = sheet_records (front_header sheet) r.header (sheet_result sheet).records r.formed in
      (s.0 ∙ sym e, s.1)

  pub twin_written : (w : Writer) (room : ℕ) → write_outcome w (twin sheet) room ≡ write_outcome w sheet room
  unfolding write_outcome
  twin_written w room = rw (twin_same.0, twin_same.1)

  pub twin_buffer : (w : Writer) (old : List ℕ) → write_buffer w (twin sheet) old ≡ write_buffer w sheet old
  unfolding write_buffer
  twin_buffer w old = rw (twin_written w (length old), twin_same.0, twin_same.1)
