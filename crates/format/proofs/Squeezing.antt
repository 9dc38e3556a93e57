-- #105, squeezing, document 02's word for reading a v8 file and writing it again: the file does not get longer, a file buffer as long as the
-- old file suffices, and nothing but too little room refuses it. Idea: an accepted reading of version 8 says which header and records the file
-- holds (`Holds`); the file that writing their sheet gives is `converted_file` (#113); `shortest` bounds its length by that of the old file,
-- which 16 allows, so that of 12, 13, 16 and 11 only 11 can be due. It reads back as the same sheet (#110), so the least length is reached, and
-- squeezing it again changes nothing. Assumes nothing.
use Prim.Native.Nat.{ℕ, ◌≤◌, ◌<◌}
use mathlib.Core.Path.{◌≡◌, refl, sym, ap, ap₂, ◌∙◌, subst}
use mathlib.Core.List.{List}
use mathlib.Core.Bool.{Bool, true, false}
use native.Mathlib.Omega.{arith}
use lib.ListN.{length, get_or, take}
use lib.Seq.{take_at}
use lib.Dec.{ltb}
use borrow.Author.Tests.{ltb-true, le-ltb}
use Rattle.format.specs.Bytes.{pick, over, Bytes}
use Rattle.format.specs.Header.{Header, Opening, shut, opened, opening_of, file_limit}
use Rattle.format.specs.State.{start, Record}
use Rattle.format.specs.Sheet.{sheet_version, sheet_of, sheet_result, front_header}
use Rattle.format.specs.Refusals.{Result, accepted, refused, outcome_of, Good}
use Rattle.format.specs.WellFormed.{GoodHeader, AllWellFormed}
use Rattle.format.specs.Reading.{items_of, read_from, read_outcome, read_buffer}
use Rattle.format.specs.Codes.{header_codes}
use Rattle.format.specs.Writing.{v8, file_of, records_verdict, size_verdict, write_outcome, write_buffer, twin}
use Rattle.format.specs.Conversion.{converted_from, converted_file, convert_outcome, convert_buffer}
use Rattle.format.proofs.Basics.{pick_false}
use Rattle.format.proofs.HeaderLaws.{opening_fits}
use Rattle.format.proofs.RefusalLaws.{never}
use Rattle.format.proofs.SheetLaws.{sheet_records}
use Rattle.format.proofs.GoodRecords.{items_formed, items_sayable}
use Rattle.format.proofs.RoundTrip.{accepted_means, writes, written_opens, written_items, sheet_is, twin_is}
use Rattle.format.proofs.ConversionLaws.{read_written, read_written_buffer, convert_written}
use Rattle.format.proofs.ShortestRun.{shortest}

-- ---- what a v8 file whose reading is accepted holds

pub record Holds (file : List ℕ) (size count : ℕ) : Type 0 where
  pub place : ℕ
  pub header : Header
  pub records : List Record
  pub opens : opening_of file ≡ opened 8 place header
  pub reads : items_of 8 place file ≡ record { records = records; verdict = Good }
  pub size_is : size ≡ length (sheet_of sheet_version header records)
  pub count_is : count ≡ length records

holds_from : (file : List ℕ) (room size count : ℕ) (o : Opening) → opening_of file ≡ o → read_from o file room ≡ accepted size count 8 → Holds file size count
holds_from file room size count (shut n p) q e = absurd (never n p size count 8 e)
holds_from file room size count (opened version place h) q e =
    let x = items_of version place file in
    let A = accepted_means x.verdict (length (sheet_of sheet_version h x.records)) (length x.records) version room size count 8 e in
    of_eight version A.version_is q A.fine A.bytes_are A.records_are
  where
    of_eight : (v : ℕ) → 8 ≡ v → opening_of file ≡ opened v place h → (items_of v place file).verdict ≡ Good
        → size ≡ length (sheet_of sheet_version h (items_of v place file).records) → count ≡ length (items_of v place file).records → Holds file size count
    of_eight v w o f s c =
        record {
          place = place;
          header = h;
          records = (items_of v place file).records;
          opens = rw w o;
          reads = rw w (λ i. record { records = (items_of v place file).records; verdict = f i });
          size_is = s;
          count_is = c;
        }

module _ (file lent : List ℕ) (bytes : Bytes file) (size count : ℕ) (e : read_outcome file (length lent) ≡ accepted size count 8) where
  pub holds : Holds file size count
  unfolding read_outcome
  holds = holds_from file (length lent) size count (opening_of file) refl e

  -- the sheet that reading the file gives, and the file that writing that sheet gives
  abbrev pub gave : List ℕ
  gave = take size (read_buffer file lent)

  abbrev pub new : List ℕ
  new = converted_file file

  abbrev its : List Record
  its = holds.records

  gave_is : gave ≡ sheet_of sheet_version holds.header its
  unfolding read_buffer over
  gave_is = rw (e, holds.opens, holds.reads) (take_at (sheet_of sheet_version holds.header its) _ size (sym holds.size_is))

  new_is : new ≡ file_of v8 holds.header its
  unfolding converted_file
  new_is = rw (holds.opens, holds.reads)

  header_good : GoodHeader holds.header
  header_good = (opening_fits file holds.opens).header

  formed : AllWellFormed its
  formed = subst (λ (x : Result). AllWellFormed x.records) holds.reads (items_formed 8 holds.place file bytes)

  sayable : records_verdict v8 0 start its ≡ Good
  sayable = subst (λ (x : Result). records_verdict v8 0 start x.records ≡ Good) holds.reads (items_sayable 8 holds.place file bytes)

  -- ---- "squeezing never lengthens a v8 file"

  pub new_no_longer : length new ≤ length file
  new_no_longer = rw new_is (shortest file bytes holds.place holds.header its holds.opens holds.reads)

  new_small : length new ≤ file_limit
  new_small = omega (arith, new_no_longer, (opening_fits file holds.opens).few)

  size_good : size_verdict (length new) ≡ Good
  unfolding size_verdict
  size_good = pick_false _ _ (le-ltb file_limit (length new) new_small)

  -- what writing the sheet answers
  pub squeeze_answer : (room : ℕ) → write_outcome v8 gave room ≡ outcome_of Good (length new) count 8 room
  squeeze_answer room = read_written file lent bytes size count 8 e room ∙ rw size_good

  -- so what it accepts is no longer than the file
  pub never_lengthens : (room b n w : ℕ) → write_outcome v8 gave room ≡ accepted b n w → b ≤ length file
  never_lengthens room b n w q =
      let A = accepted_means Good (length new) count 8 room b n w (sym (squeeze_answer room) ∙ q) in
      omega (arith, A.bytes_are, new_no_longer)

  -- a refusal is 11 with the new file's length: 12, 13 and 16 are never due
  pub only_11 : (room n p : ℕ) → write_outcome v8 gave room ≡ refused n p → (n ≡ 11) × (p ≡ length new) × (room < length new)
  unfolding pick
  only_11 room n p q = go (ltb room (length new)) refl (sym (squeeze_answer room) ∙ q)
    where
      go : (t : Bool) → ltb room (length new) ≡ t → pick t (refused 11 (length new)) (accepted (length new) count 8) ≡ refused n p
          → (n ≡ 11) × (p ≡ length new) × (room < length new)
      go true r f = (cc, cc, ltb-true _ _ r)
      go false r f = absurd (never n p (length new) count 8 (sym f))

  -- a file buffer as long as the old file suffices
  module _ (room : ℕ) (h : length file ≤ room) where
    fits : outcome_of Good (length new) count 8 room ≡ accepted (length new) count 8
    fits = pick_false _ _ (le-ltb room (length new) (omega (arith, new_no_longer)))

    pub squeeze_accepted : write_outcome v8 gave room ≡ accepted (length new) count 8
    squeeze_accepted = squeeze_answer room ∙ fits

    pub never_refused : (n p : ℕ) → write_outcome v8 gave room ≡ refused n p → ⊥
    never_refused n p q = never n p (length new) count 8 (sym q ∙ squeeze_accepted)

  -- and then begins with the new file
  pub squeeze_buffer : (old : List ℕ) → length file ≤ length old → write_buffer v8 gave old ≡ over new old
  squeeze_buffer old h = read_written_buffer file lent bytes size count 8 e old ∙ rw (size_good, fits (length old) h)

  -- the same in one call, a conversion
  pub convert_accepted : (old : List ℕ) → length file ≤ length old
      → (convert_outcome file (length lent) (length old) ≡ accepted (length new) count 8) × (convert_buffer file (length lent) old ≡ over new old)
  convert_accepted old h =
      let c = convert_written file lent bytes size count 8 e old in
      (c.0 ∙ squeeze_accepted (length old) h, c.1 ∙ squeeze_buffer old h)

  pub convert_never_lengthens : (old : List ℕ) (b n w : ℕ) → convert_outcome file (length lent) (length old) ≡ accepted b n w → b ≤ length file
  convert_never_lengthens old b n w q = never_lengthens (length old) b n w (sym (convert_written file lent bytes size count 8 e old).0 ∙ q)

  -- ---- the least length is reached: the new file is one of those that give the sheet

  new_opens : opening_of new ≡ opened 8 (length (header_codes holds.header)) holds.header
  new_opens = rw new_is (written_opens holds.header header_good its formed sayable (rw new_is at new_small))

  new_items : items_of 8 (length (header_codes holds.header)) new ≡ record { records = its; verdict = Good }
  new_items = rw new_is (written_items holds.header header_good its formed sayable (rw new_is at new_small))

  pub again_answer : (room : ℕ) → read_outcome new room ≡ outcome_of Good size count 8 room
  unfolding read_outcome
  again_answer room =
      let a : read_outcome new room ≡ outcome_of Good (length (sheet_of sheet_version holds.header its)) (length its) 8 room = rw (new_opens, new_items) in
      a ∙ ap₂ (λ (s k : ℕ). outcome_of Good s k 8 room) (sym holds.size_is) (sym holds.count_is)

  pub again_sheet : (room : List ℕ) → size ≤ length room → read_buffer new room ≡ over gave room
  unfolding read_buffer pick
  again_sheet room h = rw (again_answer (length room), le-ltb (length room) size h, new_opens, new_items, gave_is)

  -- squeezing it again changes nothing
  pub squeeze_twice : converted_file new ≡ new
  unfolding converted_file
  squeeze_twice =
      let a : converted_from (opening_of new) new ≡ file_of v8 holds.header its = rw (new_opens, new_items) in
      a ∙ sym new_is

-- ---- "no v8 file giving the same sheet is shorter than ours"

-- of a sheet that writing accepts, every v8 file of bytes that reads as that sheet has at least as many bytes as writing answers; of a version 1
-- sheet, every one that reads as its version 2 twin
module _ (sheet : List ℕ) (sheet_bytes : Bytes sheet) (old : List ℕ) (b n v : ℕ) (w : write_outcome v8 sheet (length old) ≡ accepted b n v)
    (file lent : List ℕ) (bytes : Bytes file) (size count : ℕ) (e : read_outcome file (length lent) ≡ accepted size count 8) where
  abbrev front : Header
  front = front_header sheet

  abbrev all : List Record
  all = (sheet_result sheet).records

  -- writing the one sheet and squeezing the other's file give the same file
  pub same_file : take size (read_buffer file lent) ≡ twin sheet → converted_file file ≡ file_of v8 front all
  unfolding twin
  same_file q =
      let H = holds file lent bytes size count e in
      let S = sheet_is sheet sheet_bytes old b n v w in
      let x = sheet_records H.header (header_good file lent bytes size count e) H.records (formed file lent bytes size count e) in
      let y = sheet_records front S.header all S.formed in
      let s : sheet_of sheet_version H.header H.records ≡ sheet_of sheet_version front all = sym (gave_is file lent bytes size count e) ∙ q in
      let h : H.header ≡ front = sym x.1 ∙ ap front_header s ∙ y.1 in
      let r = ap (λ (z : Result). z.records) (sym x.0 ∙ ap sheet_result s ∙ y.0) in
      new_is file lent bytes size count e ∙ ap₂ (file_of v8) h r

  pub none_shorter_twin : take size (read_buffer file lent) ≡ twin sheet → b ≤ length file
  unfolding write_outcome
  none_shorter_twin q =
      let W = writes v8 front (sheet_result sheet) (length old) b n v w in
      omega (arith, W.bytes_are, ap length (same_file q), new_no_longer file lent bytes size count e)

  pub none_shorter : get_or sheet 0 0 ≡ sheet_version → take size (read_buffer file lent) ≡ sheet → b ≤ length file
  none_shorter two q = none_shorter_twin (q ∙ sym (twin_is sheet sheet_bytes old b n v w two))
