-- The record at the front of s, of the bytes that the code reads, on plain values. Assumes nothing.
use Prim.Native.Nat.{ℕ, ◌+◌, ◌-◌, ◌≤◌, ◌<◌}
use mathlib.Core.Path.{◌≡◌, sym, ◌∙◌}
use mathlib.Core.List.{List}
use Rattle.std.specs.Prelude.{Option, Some, None}
use mathlib.Core.Bool.{Bool, true, false, not, ◌&&◌}
use native.Mathlib.Omega.{arith}
use lib.ListN.{length, get_or, drop}
use lib.Seq.{get_or-drop, drop-drop}
use lib.Dec.{leb}
use borrow.Author.Tests.{not-false, le-leb, lt-leb, eq-eqb, ne_eqb}
use Rattle.format.specs.Bytes.{pick, be16, be32, Bytes}
use Rattle.format.specs.Fields.{record_of}
use Rattle.format.specs.Items.{point_of, dimensions_of, traverse_of}
use Rattle.format.specs.State.{error}
use Rattle.format.specs.Sheet.{Entry, flawed, entry, leg_size, station_size, section_size, undated_section_size, error_size, label_fits, label_from, good_date, date_from}
use Rattle.format.specs.Sheet.{leg_entry, station_entry, section_entry, undated_section_entry, section_in, error_entry, body_entry, framed, entry_of}
use Rattle.format.specs.declared.Dated.TheVariants.{Undated}
use Rattle.format.proofs.SheetLaws.{fits, entry_read}
use Rattle.format.specs.declared.Fields.{Fields}
use Rattle.format.specs.declared.Fields.TheVariants.{Station, Section}
use Rattle.sheet.specs.declared.Entry.{Entry as Found}
use Rattle.sheet.specs.Seen.{leg_of, Inside, Told, FormedOf, EntryTold}

-- ---- a body with a label from its byte k on

-- the body is there, with a label that is not too long
pub record Fitting (s : List ℕ) (n k : ℕ) : Type 0 where
  pub fit : label_fits n k ≡ true
  pub least : k ≤ n
  pub most : n ≤ k + 4096
  pub there : 2 + n ≤ length s

-- as the code's test says it
pub fitting : {s : List ℕ} {n k : ℕ} {b : Bool} → b ≡ label_fits n k → not b ≡ false → 2 + n ≤ length s → Fitting s n k
fitting {n = n} {k = k} e h there =
    let good = sym e ∙ not-false _ h in
    let f = fits n k good in
    record { fit = good; least = f.least; most = f.most; there = there }

-- and where the test holds
pub fitted : {s : List ℕ} {n k : ℕ} {b : Bool} → b ≡ label_fits n k → b ≡ true → 2 + n ≤ length s → Fitting s n k
fitted {n = n} {k = k} e h there =
    let good = sym e ∙ h in
    let f = fits n k good in
    record { fit = good; least = f.least; most = f.most; there = there }

inside : {s : List ℕ} {n k : ℕ} → Fitting s n k → {f : _} → Inside s (2 + n) f (2 + k)
inside z = record { from_within = omega arith; within = z.there; short = omega arith }

flaw : {s : List ℕ} {x : Entry} → flawed ≡ x → Told None s x
flaw e = record { same = e; inside = tt }

-- the record x of a body of n bytes, by its kind's definition: whole with these fields where its label fits from byte k on and the rest is good
pub record Shaped (x : Entry) (s : List ℕ) (n k : ℕ) (good : Bool) (f : Fields) : Type 0 where
  pub is : x ≡ pick (label_fits n k && good) (entry (2 + n) (record_of f (label_from n k (drop 2 s)))) flawed

module _ {x : Entry} {s : List ℕ} {n k : ℕ} {good : Bool} {f : Fields} (x-is : Shaped x s n k good f) where
  pub too_long_lem : label_fits n k ≡ false → Told None s x
  unfolding pick
  too_long_lem h = flaw (rw x-is.is (simp h))

  pub spoilt : Fitting s n k → good ≡ false → Told None s x
  unfolding pick
  spoilt z h = flaw (rw x-is.is (simp (z.fit, h)))

  pub whole : Fitting s n k → good ≡ true → Told (Some (record { size = 2 + n; fields = f; from = 2 + k })) s x
  unfolding pick
  whole z h =
      let e : 2 + n - (2 + k) ≡ n - k = omega arith in
      record { same = rw x-is.is (simp (z.fit, h, drop-drop, e)); inside = inside z }

module _ (s : List ℕ) (n : ℕ) where
  -- ---- legs

  leg_is : Shaped (leg_entry n (drop 2 s)) s n leg_size
      (leb (get_or s 3 0) 0x07 && (leb (get_or s 4 0) 5 && good_date (get_or s 5 0) (be16 (drop 6 s)) (be16 (drop 8 s))))
      (leg_of s (date_from (get_or s 5 0) (be16 (drop 6 s)) (be16 (drop 8 s))))
  unfolding leg_entry
  leg_is = record { is = simp (get_or-drop, drop-drop) }

  pub leg_long : label_fits n leg_size ≡ false → Told None s (leg_entry n (drop 2 s))
  leg_long e = too_long_lem leg_is e

  module _ (z : Fitting s n leg_size) where
    pub leg_flags : 0x07 < get_or s 3 0 → Told None s (leg_entry n (drop 2 s))
    leg_flags h = spoilt leg_is z (simp (lt-leb _ _ h))

    pub leg_style : get_or s 3 0 ≤ 0x07 → 5 < get_or s 4 0 → Told None s (leg_entry n (drop 2 s))
    leg_style hf h = spoilt leg_is z (simp (le-leb _ _ hf, lt-leb _ _ h))

    module _ (hf : get_or s 3 0 ≤ 0x07) (hs : get_or s 4 0 ≤ 5) where
      pub leg_date : good_date (get_or s 5 0) (be16 (drop 6 s)) (be16 (drop 8 s)) ≡ false → Told None s (leg_entry n (drop 2 s))
      leg_date h = spoilt leg_is z (simp (le-leb _ _ hf, le-leb _ _ hs, h))

      pub leg_whole : good_date (get_or s 5 0) (be16 (drop 6 s)) (be16 (drop 8 s)) ≡ true
          → Told (Some (record { size = 2 + n; fields = leg_of s (date_from (get_or s 5 0) (be16 (drop 6 s)) (be16 (drop 8 s))); from = 34 })) s (leg_entry n (drop 2 s))
      leg_whole h = whole leg_is z (simp (le-leb _ _ hf, le-leb _ _ hs, h))

  -- ---- stations

  pub station_is : Shaped (station_entry n (drop 2 s)) s n station_size (leb (get_or s 3 0) 0x7f)
      (Station (record { flags = get_or s 3 0; place = point_of be32 (drop 4 s) }))
  unfolding station_entry
  station_is = record { is = simp (get_or-drop, drop-drop) }

  -- ---- cross-sections, and those without a date

  pub section_is : Shaped (section_entry n (drop 2 s)) s n section_size
      (leb (get_or s 3 0) 1 && good_date (get_or s 4 0) (be16 (drop 5 s)) (be16 (drop 7 s)))
      (Section (get_or s 3 0) 0 (date_from (get_or s 4 0) (be16 (drop 5 s)) (be16 (drop 7 s))) (dimensions_of 4 be32 (drop 9 s)))
  unfolding section_entry
  section_is = record { is = simp (get_or-drop, drop-drop) }

  pub undated_is : Shaped (undated_section_entry n (drop 2 s)) s n undated_section_size (leb (get_or s 3 0) 1)
      (Section (get_or s 3 0) 0 Undated (dimensions_of 4 be32 (drop 4 s)))
  unfolding undated_section_entry
  undated_is = record { is = simp (get_or-drop, drop-drop) }

  -- ---- traverse errors

  pub error_size_lem : (n ≡ error_size → ⊥) → flawed ≡ error_entry n (drop 2 s)
  unfolding error_entry pick
  error_size_lem h = simp (ne_eqb _ _ h)

  pub error_whole : n ≡ error_size → entry (2 + n) (error (traverse_of be32 (drop 3 s))) ≡ error_entry n (drop 2 s)
  unfolding error_entry pick
  error_whole h = simp (eq-eqb _ _ h, drop-drop)

-- ---- the record by its kind

pub unframed : (version : ℕ) (s : List ℕ) → framed s ≡ false → flawed ≡ entry_of version s
unfolding entry_of pick
unframed version s e = simp e

module _ (version : ℕ) (s : List ℕ) (e : framed s ≡ true) where
  pub kind_leg : get_or s 2 0 ≡ 1 → leg_entry (be16 s) (drop 2 s) ≡ entry_of version s
  unfolding entry_of body_entry pick
  kind_leg k = simp (e, get_or-drop, eq-eqb _ _ k)

  pub kind_station : get_or s 2 0 ≡ 2 → station_entry (be16 s) (drop 2 s) ≡ entry_of version s
  unfolding entry_of body_entry pick
  kind_station k = simp (e, get_or-drop, k)

  pub kind_section : get_or s 2 0 ≡ 3 → section_in version (be16 s) (drop 2 s) ≡ entry_of version s
  unfolding entry_of body_entry pick
  kind_section k = simp (e, get_or-drop, k)

  pub kind_error : get_or s 2 0 ≡ 4 → error_entry (be16 s) (drop 2 s) ≡ entry_of version s
  unfolding entry_of body_entry pick
  kind_error k = simp (e, get_or-drop, k)

  pub kind_other : (get_or s 2 0 ≡ 1 → ⊥) → (get_or s 2 0 ≡ 2 → ⊥) → (get_or s 2 0 ≡ 3 → ⊥) → (get_or s 2 0 ≡ 4 → ⊥) → flawed ≡ entry_of version s
  unfolding entry_of body_entry pick
  kind_other a b c d = simp (e, get_or-drop, ne_eqb _ _ a, ne_eqb _ _ b, ne_eqb _ _ c, ne_eqb _ _ d)

-- ---- what is told of bytes is well-formed

formed : (version : ℕ) (s : List ℕ) → Bytes s → (r : Option Found) → Told r s (entry_of version s) → FormedOf r s
formed version s b None t = tt
formed version s b (Some e) t = (entry_read version s b (sym t.same)).2

pub entry_told : (version : ℕ) (s : List ℕ) → Bytes s → (r : Option Found) → Told r s (entry_of version s) → EntryTold r version s
entry_told version s b r t = record { same = t.same; inside = t.inside; formed = formed version s b r t }
