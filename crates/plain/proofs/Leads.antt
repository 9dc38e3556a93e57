-- The record at the front of s by its kind, where it goes on from a setting: on plain values. Each law takes the tests that the code has made.
-- Assumes nothing.
use Rattle.std.specs.Prelude.{Option, Some}
use Rattle.format.specs.declared.Point.{Point}
use Prim.Native.Nat.{ℕ, ◌+◌, ◌-◌, ◌/◌, ◌%◌, ◌≤◌}
use mathlib.Core.Path.{◌≡◌, refl, ap, ◌∙◌}
use mathlib.Core.List.{List, ◌∷◌, ◌++◌}
use mathlib.Core.Bool.{Bool, true, false, ◌&&◌, not}
use native.Mathlib.Omega.{arith}
use lib.ListN.{length, get_or, take, drop}
use lib.Dec.{eqb}
use borrow.Author.Tests.{eq-eqb, le-leb, le-ltb}
use Rattle.format.specs.Bytes.{pick, be16, be32, same, Bytes}
use Rattle.format.specs.Items.{point_of, dimensions_of}
use Rattle.format.specs.Sheet.{framed, label_fits, date_from, section_entry, entry_of}
use Rattle.format.specs.Codes.{codes, common, label_codes, kept_bytes, style_if, date_if, stands_at, move_if, line_codes, station_codes, all_short, section_codes}
use Rattle.format.specs.V7Codes.{labelled_codes, v7_section_codes, v7_codes}
use Rattle.format.specs.Fields.{record_of, state_of}
use Rattle.format.specs.WellFormed.{GoodDated}
use Rattle.format.specs.declared.Dated.{Dated}
use Rattle.format.specs.declared.Setting.{Setting}
use Rattle.format.specs.declared.Dimensions.{Dimensions}
use Rattle.format.specs.declared.Fields.{Fields}
use Rattle.format.specs.declared.Fields.TheVariants.{Station as StationFields, Section as SectionFields}
use Rattle.format.proofs.SheetLaws.{frame}
use Rattle.number.specs.Four.{to_le64}
use Rattle.sheet.specs.Seen.{leg_of, EntryTold}
use Rattle.sheet.proofs.Entries.{Fitting, fitting, fitted, whole, leg_whole, station_is, section_is, kind_leg, kind_station, kind_section, entry_told}
use Rattle.plain.specs.Plainly.{mark_of, label_at, tail_of, position_after, v7_code, Headed, Goes}
use Rattle.plain.specs.declared.Form.{Form}
use Rattle.plain.specs.declared.Form.TheVariants.{Leg, Station, Narrow, Wide}
use Rattle.plain.proofs.Marks.{same_date_refl, leg_style, leg_stated, section_stated}

said : (b : Bool) → (b && not b) ≡ false
said true = refl
said false = refl

-- a record of this kind, whose label fits behind k bytes of its body: and so these are there
pub record Front (s : List ℕ) (kind k : ℕ) : Type 0 where
  pub bytes : Bytes s
  pub frame_is : framed s ≡ true
  pub kind_is : get_or s 2 0 ≡ kind
  pub fits : Fitting s (be16 s) k
  pub there : 2 + k ≤ length s

-- as the code's test says it
pub front : {s : List ℕ} {kind n k : ℕ} {t : Bool} → Bytes s → (n ≡ be16 s) × (framed s ≡ true) × (get_or s 2 0 ≡ kind) → t ≡ label_fits n k → not t ≡ false
    → Front s kind k
front {s = s} {k = k} b p e h =
    let f = fitting {s = s} {n = be16 s} {k = k} (rw p.0 at e) h (omega (arith, frame s p.1)) in
    record { bytes = b; frame_is = p.1; kind_is = p.2; fits = f; there = omega (arith, f.least, f.there) }

-- and where the test holds
pub front_of : {s : List ℕ} {kind n k : ℕ} {t : Bool} → Bytes s → (n ≡ be16 s) × (framed s ≡ true) × (get_or s 2 0 ≡ kind) → t ≡ label_fits n k → t ≡ true
    → Front s kind k
front_of {s = s} {k = k} b p e h =
    let f = fitted {s = s} {n = be16 s} {k = k} (rw p.0 at e) h (omega (arith, frame s p.1)) in
    record { bytes = b; frame_is = p.1; kind_is = p.2; fits = f; there = omega (arith, f.least, f.there) }

module _ (s : List ℕ) where
  abbrev n : ℕ
  n = be16 s

  -- ---- legs

  module _ (z : Front s 1 32) (hf : get_or s 3 0 ≤ 0x07) (w mark : ℕ) (e : to_le64 w ≡ take 8 (drop 2 s)) (m : w / 65536 ≡ mark)
      (position : Option Point) (stands : stands_at position (point_of be32 (drop 10 s)) ≡ true) (version : ℕ) where
    module _ (style : ℕ) (date : Dated) (hs : style ≤ 5) (hd : GoodDated date) (em : mark ≡ mark_of style date) where
      es : get_or s 4 0 ≡ style
      es = leg_style s w e style date hs hd (m ∙ em)

      ed : date_from (get_or s 5 0) (be16 (drop 6 s)) (be16 (drop 8 s)) ≡ date
      ed = (leg_stated s w e style date hs hd (m ∙ em)).is

      leg_goes : Goes version s (record { style = style; date = date; position = position }) (2 + n) (0x40 + get_or s 3 0) Leg
      unfolding style_if date_if move_if line_codes pick
      leg_goes =
          record {
            fields = leg_of s (date_from (get_or s 5 0) (be16 (drop 6 s)) (be16 (drop 8 s)));
            told =
                entry_told version s z.bytes _
                (rw (kind_leg version s z.frame_is z.kind_is) at
                (leg_whole s n z.fits hf (omega (arith, es, hs)) (leg_stated s w e style date hs hd (m ∙ em)).good));
            codes_are = λ last label q. rw (es, ed, eq-eqb style style refl, same_date_refl date, stands, q);
            leaves = λ last label. rw (es, ed);
            sayable = λ label. rw es (said (eqb style 5));
            v7_codes_are = λ last label.
                let q : 0x80 + get_or s 3 0 ≡ 0x40 + get_or s 3 0 + 0x40 = omega arith in
                rw (ed, same_date_refl date, stands) (ap (λ (c : ℕ). labelled_codes last label c (tail_of Leg s)) q);
            v7_leaves = λ last label. rw ed;
            v7_able = λ label e h. rw es e;
          }

    pub leg_leads : Headed version s mark position (2 + n) (0x40 + get_or s 3 0) Leg
    leg_leads = record { inside = omega (arith, z.fits.least); goes = leg_goes }

  -- ---- stations

  module _ (z : Front s 2 14) (hf : get_or s 3 0 ≤ 0x7f) where
    pub station_leads : (version mark : ℕ) (position : Option Point) → Headed version s mark position (2 + n) (0x80 + get_or s 3 0) Station
    unfolding station_codes kept_bytes pick
    station_leads version mark position =
        record {
          inside = omega (arith, z.fits.least);
          goes = λ style date hs hd em.
              record {
                fields = StationFields (record { flags = get_or s 3 0; place = point_of be32 (drop 4 s) });
                told =
                    entry_told version s z.bytes _
                    (rw (kind_station version s z.frame_is z.kind_is) at (whole (station_is s n) z.fits (le-leb _ _ hf)));
                codes_are = λ last label q. rw q;
                leaves = λ last label. refl;
                sayable = λ label. refl;
                v7_codes_are = λ last label.
                    let q : 0x40 + get_or s 3 0 ≡ 0x80 + get_or s 3 0 - 0x40 = omega arith in
                    ap (λ (c : ℕ). labelled_codes last label c (tail_of Station s)) q;
                v7_leaves = λ last label. refl;
                v7_able = λ label e h. le-ltb 0x1f (get_or s 3 0) (omega arith);
              };
        }

  -- ---- cross-sections of a version 2 sheet

  -- its label fits, and its last and its date are those of this mark
  pub record DatedSection (mark : ℕ) : Type 0 where
    pub fronted : Front s 3 23
    pub last_is : get_or s 3 0 ≤ 1
    pub word : ℕ
    pub word_is : to_le64 word ≡ take 8 (drop 2 s)
    pub mark_is : word / 65536 % 1099511627776 ≡ mark / 256

  abbrev size : Dimensions
  size = dimensions_of 4 be32 (drop 9 s)

  module _ {mark : ℕ} (z : DatedSection mark) (position : Option Point) where
    module _ (style : ℕ) (date : Dated) (hs : style ≤ 5) (hd : GoodDated date) (em : mark ≡ mark_of style date) where
      abbrev d : Dated
      d = date_from (get_or s 4 0) (be16 (drop 5 s)) (be16 (drop 7 s))

      ez : z.word / 65536 % 1099511627776 ≡ mark_of style date / 256
      ez = rw (← em) z.mark_is

      sd : d ≡ date
      sd = (section_stated s z.word z.word_is style date hs hd ez).is

      told_dated : section_entry n (drop 2 s) ≡ entry_of 2 s
      unfolding pick
      told_dated = kind_section 2 s z.fronted.frame_is z.fronted.kind_is

      abbrev f : Fields
      f = SectionFields (get_or s 3 0) 0 d size

      section_told : EntryTold (Some (record { size = 2 + n; fields = f; from = 25 })) 2 s
      section_told =
          entry_told 2 s z.fronted.bytes _
          (rw told_dated at (whole (section_is s n) z.fronted.fits
          (simp (le-leb _ _ z.last_is, (section_stated s z.word z.word_is style date hs hd ez).good))))

      abbrev setting : Setting
      setting = record { style = style; date = date; position = position }

      -- what a cross-section comes to, but for its codes
      section_goes : {code : ℕ} {form : Form} → label_at form ≡ 25 → ((old : Option Point) → position_after form s old ≡ old)
          → ((last label : List ℕ) → same last label ≡ false
          → codes (state_of setting last) (record_of f label) ≡ code ∷ (label_codes last label (common last label) ++ tail_of form s))
          → ((last label : List ℕ) → v7_codes (state_of setting last) (record_of f label) ≡ labelled_codes last label (v7_code form code) (tail_of form s))
          → Goes 2 s setting (2 + n) code form
      section_goes l p codes_are v7_codes_are =
          record {
            fields = f;
            told = rw l section_told;
            codes_are = codes_are;
            leaves = λ last label. rw (sd, p position);
            sayable = λ label. refl;
            v7_codes_are = v7_codes_are;
            v7_leaves = λ last label. rw (sd, p position);
            v7_able = λ label e h. refl;
          }

      narrow_goes : all_short size ≡ true → Goes 2 s setting (2 + n) (0x30 + get_or s 3 0) Narrow
      unfolding date_if section_codes v7_section_codes kept_bytes pick
      narrow_goes short =
          section_goes refl (λ old. refl) (λ last label q. rw (sd, same_date_refl date, short, q)) (λ last label. rw (sd, same_date_refl date, short))

      wide_goes : all_short size ≡ false → Goes 2 s setting (2 + n) (0x32 + get_or s 3 0) Wide
      unfolding date_if section_codes v7_section_codes kept_bytes pick
      wide_goes long =
          section_goes refl (λ old. refl) (λ last label q. rw (sd, same_date_refl date, long, q)) (λ last label. rw (sd, same_date_refl date, long))

    pub narrow_leads : all_short size ≡ true → Headed 2 s mark position (2 + n) (0x30 + get_or s 3 0) Narrow
    narrow_leads short = record { inside = omega (arith, z.fronted.fits.least); goes = λ style date hs hd em. narrow_goes style date hs hd em short }

    pub wide_leads : all_short size ≡ false → Headed 2 s mark position (2 + n) (0x32 + get_or s 3 0) Wide
    wide_leads long = record { inside = omega (arith, z.fronted.fits.least); goes = λ style date hs hd em. wide_goes style date hs hd em long }
