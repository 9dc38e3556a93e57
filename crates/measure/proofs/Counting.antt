-- The commonest items, as measuring sees them: their records by the label's length alone. Assumes nothing.
use Rattle.std.specs.Prelude.{Option, None, Some}
use Rattle.format.specs.declared.Point.{Point}
use Prim.Native.Nat.{ℕ, ◌+◌, ◌≤◌}
use mathlib.Core.Path.{◌≡◌, refl, sym, ap, ◌∙◌}
use mathlib.Core.List.{List}
use mathlib.Core.Bool.{Bool, true, false}
use native.Mathlib.Omega.{arith}
use lib.ListN.{length}
use Rattle.format.specs.Items.{Item}
use Rattle.format.specs.Sheet.{sheet_version, layout}
use Rattle.format.specs.State.{State, Record, leg, station, section, named, moved, made}
use Rattle.format.specs.Reading.{next}
use Rattle.format.proofs.SheetLaws.{layout_leg, layout_station, layout_section}
use Rattle.short.specs.Brief.{Brief, Moves, make_line, make_station, make_section, leg_at, station_at, section_at, place_at, name_at}
use Rattle.short.proofs.Laws.{name_length, brief_leg_lem, brief_station, brief_section, brief_move}
use Rattle.measure.specs.Measures.{is_set, Keeps, Goes, Makes}
use Rattle.measure.specs.Counting.{Counts, CountsRecord, leg_counted}

module _ (s : List ℕ) (len keep add k size : ℕ) (placed : Bool) where
  placed_leg : (flags : ℕ) → Brief 8 s len keep add k size (make_line flags) → placed ≡ true → CountsRecord s size (keep + add) (34 + (keep + add)) len placed
  placed_leg flags B e = record { short = omega (arith, B.few, B.add_few); small = omega (arith, B.few, B.add_few); makes = λ style st K. go style st K st.setting.position refl }
    where
      go : (style : ℕ) (st : State) → Keeps st len style placed → (q : Option Point) → st.setting.position ≡ q → Makes (next 8 s st) size (34 + (keep + add)) (keep + add) style placed
      go style st K None p = absurd (let z : true ≡ false = sym e ∙ sym K.position_is ∙ ap is_set p in let y : ◌≡◌ {A = ℕ} 0 1 = cc in omega arith)
      go style st K (Some from) p =
          let l = name_length B st.label K.label_is in
          record {
            after = moved (place_at s k) (named (name_at s keep add st.label) st);
            gives = leg (leg_at s k flags st.setting from) (name_at s keep add st.label);
            same = brief_leg_lem B st K.label_is from p;
            size = layout_leg sheet_version (leg_at s k flags st.setting from) (name_at s keep add st.label) ∙ omega arith;
            keeps = record { label_is = l; style_is = K.style_is; position_is = sym e };
          }

  -- an item that names something and moves nothing: its record has so many bytes and the label
  name_counted : {make : ℕ → List ℕ → List ℕ → Item} (head : ℕ) → head ≤ 34 → (gives : State → Record) → Brief 8 s len keep add k size make
      → ((st : State) → length st.label ≡ len → next 8 s st ≡ made size (gives st) (named (name_at s keep add st.label) st))
      → ((st : State) → length (layout sheet_version (gives st)) ≡ head + length (name_at s keep add st.label))
      → CountsRecord s size (keep + add) (head + (keep + add)) len placed
  name_counted head low gives B same size_is =
      record {
        short = omega (arith, B.few, B.add_few);
        small = omega (arith, B.few, B.add_few);
        makes = λ style st K.
            let l = name_length B st.label K.label_is in
            record {
              after = named (name_at s keep add st.label) st;
              gives = gives st;
              same = same st K.label_is;
              size = size_is st ∙ omega arith;
              keeps = record { label_is = l; style_is = K.style_is; position_is = K.position_is };
            };
      }

  pub count_station : (flags : ℕ) → Brief 8 s len keep add k size (make_station flags) → CountsRecord s size (keep + add) (16 + (keep + add)) len placed
  count_station flags B =
      name_counted 16 (omega arith) (λ st. station (station_at s k flags) (name_at s keep add st.label)) B (brief_station B)
      (λ st. layout_station sheet_version _ _ ∙ omega arith)

  pub count_section : (code : ℕ) → Brief 8 s len keep add k size (make_section code) → CountsRecord s size (keep + add) (25 + (keep + add)) len placed
  count_section code B =
      name_counted 25 (omega arith) (λ st. section (section_at s k code st.setting) (name_at s keep add st.label)) B (brief_section code B)
      (λ st. layout_section _ _ ∙ omega arith)

-- a leg is counted where the position is set
pub count_leg : (s : List ℕ) (len keep add k size : ℕ) (placed : Bool) (flags : ℕ) → Brief 8 s len keep add k size (make_line flags)
    → Counts (leg_counted size (keep + add) placed) s len placed
count_leg s len keep add k size true flags B = placed_leg s len keep add k size true flags B refl
count_leg s len keep add k size false flags B = tt

pub count_move : (s : List ℕ) (old : ℕ) (placed : Bool) (style : ℕ) (st : State) → Moves 8 s → Keeps st old style placed → Goes (next 8 s st) 13 old style true
count_move s old placed style st M K =
    record {
      after = moved (place_at s 1) st;
      same = brief_move M st;
      keeps = record { label_is = K.label_is; style_is = K.style_is; position_is = refl };
    }
