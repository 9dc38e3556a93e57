-- Style and date as one number: where the eight bytes from a record's kind on are a number with the mark above its lowest two bytes, the
-- record has that style and date. Each byte is read off the number by dividing once more. Assumes nothing.
use Prim.Native.Nat.{ℕ, ◌+◌, ◌*◌, ◌/◌, ◌%◌, ◌≤◌, ◌<◌}
use mathlib.Core.Path.{◌≡◌, refl, sym, ap, ◌∙◌}
use mathlib.Core.List.{List}
use mathlib.Core.Bool.{true}
use native.Mathlib.Nat.{add-zero}
use native.Mathlib.Omega.{arith}
use lib.ListN.{get_or, take, drop}
use lib.Seq.{get_or-take, get_or-drop}
use borrow.Author.Tests.{eq-eqb}
use Rattle.format.specs.Bytes.{be16}
use Rattle.format.specs.Sheet.{date_kind, date_day, date_last, good_date, date_from}
use Rattle.format.specs.Codes.{same_date}
use Rattle.format.specs.WellFormed.{GoodDated}
use Rattle.format.specs.declared.Dated.{Dated}
use Rattle.format.specs.declared.Dated.TheVariants.{Undated, Day, Range}
use Rattle.format.proofs.SheetLaws.{date_back}
use Rattle.number.specs.Four.{to_le64}
use Rattle.plain.specs.Plainly.{mark_of}

-- ---- the bytes of a number

-- the six bytes above the lowest two
record Six (s : List ℕ) (a b c d f g : ℕ) : Type 0 where
  byte_4 : get_or s 4 0 ≡ a
  byte_5 : get_or s 5 0 ≡ b
  byte_6 : get_or s 6 0 ≡ c
  byte_7 : get_or s 7 0 ≡ d
  byte_8 : get_or s 8 0 ≡ f
  byte_9 : get_or s 9 0 ≡ g % 256

module _ (s : List ℕ) (w : ℕ) (e : to_le64 w ≡ take 8 (drop 2 s)) where
  byte : (i : ℕ) → i < 8 → get_or s (2 + i) 0 ≡ get_or (to_le64 w) i 0
  byte i h = sym (ap (λ (l : List ℕ). get_or l i 0) e ∙ get_or-take 8 (drop 2 s) i 0 h ∙ get_or-drop 2 s i 0)

  module _ (a b c d f g : ℕ) (ha : a < 256) (hb : b < 256) (hc : c < 256) (hd : d < 256) (hf : f < 256)
      (m : w / 65536 ≡ a + 256 * (b + 256 * (c + 256 * (d + 256 * (f + 256 * g))))) where
    q3 : w / 16777216 ≡ b + 256 * (c + 256 * (d + 256 * (f + 256 * g)))
    q3 = omega arith

    q4 : w / 4294967296 ≡ c + 256 * (d + 256 * (f + 256 * g))
    q4 = let z = q3 in omega (arith, z)

    q5 : w / 1099511627776 ≡ d + 256 * (f + 256 * g)
    q5 = let z = q4 in omega (arith, z)

    q6 : w / 281474976710656 ≡ f + 256 * g
    q6 = let z = q5 in omega (arith, z)

    q7 : w / 72057594037927936 ≡ g
    q7 = let z = q6 in omega (arith, z)

    six : Six s a b c d f g
    unfolding to_le64
    six =
        record {
          byte_4 = byte 2 (omega arith) ∙ rw m (omega arith);
          byte_5 = byte 3 (omega arith) ∙ rw q3 (omega arith);
          byte_6 = byte 4 (omega arith) ∙ rw q4 (omega arith);
          byte_7 = byte 5 (omega arith) ∙ rw q5 (omega arith);
          byte_8 = byte 6 (omega arith) ∙ rw q6 (omega arith);
          byte_9 = byte 7 (omega arith) ∙ rw q7;
        }

-- ---- dates

pub same_date_refl : (d : Dated) → same_date d d ≡ true
unfolding same_date
same_date_refl Undated = refl
same_date_refl (Day d) = eq-eqb d d refl
same_date_refl (Range d e) = rw (eq-eqb d d refl, eq-eqb e e refl)

kind_fits : (d : Dated) → date_kind d < 256
kind_fits Undated = omega arith
kind_fits (Day d) = omega arith
kind_fits (Range d e) = omega arith

-- what stands in a record is this date, which is a good one
pub record Stated (date : Dated) (kind d e : ℕ) : Type 0 where
  pub good : good_date kind d e ≡ true
  pub is : date_from kind d e ≡ date

stated : (date : Dated) → GoodDated date → (kind d e : ℕ) → kind ≡ date_kind date → d ≡ date_day date → e ≡ date_last date → Stated date kind d e
stated date w kind d e x y z = let b = date_back date w in record { good = rw (x, y, z) b.good; is = rw (x, y, z) b.same }

joined : (s : List ℕ) (k n : ℕ) → get_or s k 0 ≡ n / 256 → get_or s (k + 1) 0 ≡ n % 256 → be16 (drop k s) ≡ n
unfolding be16
joined s k n x y =
    rw (get_or-drop k s 0 0, get_or-drop k s 1 0, add-zero k, x, y) (omega arith)

module _ (s : List ℕ) (w : ℕ) (e : to_le64 w ≡ take 8 (drop 2 s)) (style : ℕ) (date : Dated) (hs : style ≤ 5) (hd : GoodDated date) where
  abbrev D : ℕ
  D = date_day date

  abbrev E : ℕ
  E = date_last date

  day_high : D / 256 < 256
  day_high = let h = (date_back date hd).day_fits in omega (arith, h)

  last_high : E / 256 < 256
  last_high = let h = (date_back date hd).last_fits in omega (arith, h)

  -- of a leg
  module _ (m : w / 65536 ≡ mark_of style date) where
    leg_six : Six s style (date_kind date) (D / 256) (D % 256) (E / 256) (E % 256)
    leg_six = six s w e style (date_kind date) (D / 256) (D % 256) (E / 256) (E % 256) (omega arith) (kind_fits date) day_high (omega arith) last_high m

    pub leg_style : get_or s 4 0 ≡ style
    leg_style = leg_six.byte_4

    pub leg_stated : Stated date (get_or s 5 0) (be16 (drop 6 s)) (be16 (drop 8 s))
    leg_stated =
        let x = leg_six in
        stated date hd _ _ _ x.byte_5 (joined s 6 D x.byte_6 x.byte_7) (joined s 8 E x.byte_8 (x.byte_9 ∙ omega arith))

  -- of a cross-section, which has no style
  module _ (m : w / 65536 % 1099511627776 ≡ mark_of style date / 256) where
    abbrev T : ℕ
    T = w / 65536 / 1099511627776

    split : mark_of style date / 256 ≡ date_kind date + 256 * (D / 256 + 256 * (D % 256 + 256 * (E / 256 + 256 * (E % 256))))
    split = omega arith

    whole : w / 65536 ≡ date_kind date + 256 * (D / 256 + 256 * (D % 256 + 256 * (E / 256 + 256 * (E % 256 + 256 * T))))
    whole = let z = m ∙ split in omega (arith, z)

    pub section_stated : Stated date (get_or s 4 0) (be16 (drop 5 s)) (be16 (drop 7 s))
    section_stated =
        let x = six s w e (date_kind date) (D / 256) (D % 256) (E / 256) (E % 256) T (kind_fits date) day_high (omega arith) last_high (omega arith) whole in
        stated date hd _ _ _ x.byte_4 (joined s 5 D x.byte_5 x.byte_6) (joined s 7 E x.byte_7 x.byte_8)
