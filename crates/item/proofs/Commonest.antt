-- The steps of the commonest items: the label is extended in its buffer by sixteen bytes of the file, whatever it gains, and its first bytes
-- are then the label that `short` tells. So each is the step that `take_item` would answer. Assumes nothing.
use Rattle.std.specs.Prelude.{Some, Ok}
use Prim.Native.Nat.{ℕ, ◌+◌, ◌≤◌, ◌<◌}
use mathlib.Core.Path.{◌≡◌, sym, ap, ◌∙◌}
use mathlib.Core.List.{List, ◌++◌}
use native.Mathlib.Omega.{arith}
use lib.ListN.{length, take, drop, length-drop}
use lib.Seq.{take-take, take-append-le, take-append-add, length-take-le}
use Rattle.format.specs.Items.{Item}
use Rattle.format.specs.Label.{label_limit}
use Rattle.format.specs.Fields.{state_of}
use Rattle.format.specs.Reading.{next}
use Rattle.format.specs.declared.Point.{Point}
use Rattle.format.specs.declared.Setting.{Setting}
use Rattle.wire.specs.Laid.{laid}
use Rattle.wire.proofs.Laws.{length_laid}
use Rattle.short.specs.Brief.{Brief, Moves, Trimmed, make_line, make_station, make_section, leg_at, station_at, section_at, place_at, name_at}
use Rattle.short.proofs.Laws.{brief_leg_lem, brief_station, brief_section, brief_move, brief_trim}
use Rattle.item.specs.Seen.{Tells}
use Rattle.item.specs.Commonest.{extended, leg_step, station_step, section_step, move_step, trim_step}

-- the label in its buffer: `keep` bytes of it stay, then `add` of the sixteen that are laid in
pub label_extended : (b s : List ℕ) (len keep add : ℕ) → keep ≤ len → keep + 16 ≤ length b → add < 16 → 18 ≤ length s → take (keep + add) (extended b keep s) ≡ name_at s keep add (take len b)
unfolding laid
label_extended b s len keep add h1 h2 h3 h4 =
    let T = take 16 (drop 2 s) in
    let n : length (take keep b) ≡ keep = length-take-le keep b (omega arith) in
    let m : length T ≡ 16 = length-take-le 16 (drop 2 s) (omega (arith, length-drop 2 s)) in
    let R = drop (keep + length T) b in
    let e1 : take add (T ++ R) ≡ take add (drop 2 s) = take-append-le add T R (omega arith) ∙ take-take add 16 (drop 2 s) (omega arith) in
    let e2 : keep + add ≡ length (take keep b) + add = omega arith in
    ap (λ (k : ℕ). take k (take keep b ++ (T ++ R))) e2
    ∙ take-append-add (take keep b) (T ++ R) add
    ∙ ap (λ (y : List ℕ). take keep b ++ y) e1
    ∙ ap (λ (y : List ℕ). y ++ take add (drop 2 s)) (sym (take-take keep len b h1))

module _ {version : ℕ} {s : List ℕ} {len keep add k size : ℕ} {make : ℕ → List ℕ → List ℕ → Item} (B : Brief version s len keep add k size make) (b : List ℕ) (w : length b ≡ label_limit) (h : len ≤ label_limit) where
  abbrev text : List ℕ
  text = take len b

  text_length : length text ≡ len
  text_length = length-take-le len b (omega arith)

  extended_is : take (keep + add) (extended b keep s) ≡ name_at s keep add text
  extended_is = label_extended b s len keep add B.kept (omega (arith, B.few)) B.add_few (omega (arith, B.there))

  extended_length : length (extended b keep s) ≡ 4096
  extended_length =
      let m : length (take 16 (drop 2 s)) ≡ 16 = length-take-le 16 (drop 2 s) (omega (arith, length-drop 2 s, B.there)) in
      length_laid b (take 16 (drop 2 s)) keep (omega (arith, B.few)) ∙ omega arith

  label_short : keep + add ≤ label_limit
  label_short = omega (arith, B.few, B.add_few)

module _ (version : ℕ) (s : List ℕ) (len keep add k size : ℕ) (b : List ℕ) (setting : Setting) (w : length b ≡ label_limit) (h : len ≤ label_limit) where
  pub leg_told : (flags : ℕ) (from : Point) → Brief version s len keep add k size (make_line flags) → setting.position ≡ Some from
      → Tells (Ok (leg_step keep add size setting (leg_at s k flags setting from))) (extended b keep s) (next version s (state_of setting (take len b)))
  leg_told flags from B p =
      record {
        same = rw (extended_is B b w h) (sym (brief_leg_lem B (state_of setting (take len b)) (text_length B b w h) from p));
        whole = extended_length B b w h;
        short = label_short B b w h;
      }

  pub station_told : (flags : ℕ) → Brief version s len keep add k size (make_station flags)
      → Tells (Ok (station_step keep add size setting (station_at s k flags))) (extended b keep s) (next version s (state_of setting (take len b)))
  station_told flags B =
      record {
        same = rw (extended_is B b w h) (sym (brief_station B (state_of setting (take len b)) (text_length B b w h)));
        whole = extended_length B b w h;
        short = label_short B b w h;
      }

  pub section_told : (code : ℕ) → Brief version s len keep add k size (make_section code)
      → Tells (Ok (section_step keep add size setting (section_at s k code setting))) (extended b keep s) (next version s (state_of setting (take len b)))
  section_told code B =
      record {
        same = rw (extended_is B b w h) (sym (brief_section code B (state_of setting (take len b)) (text_length B b w h)));
        whole = extended_length B b w h;
        short = label_short B b w h;
      }

pub move_told : (version : ℕ) (s : List ℕ) (len : ℕ) (b : List ℕ) (setting : Setting) → length b ≡ label_limit → len ≤ label_limit → Moves version s
    → Tells (Ok (move_step len setting (place_at s 1))) b (next version s (state_of setting (take len b)))
move_told version s len b setting w h M =
    record { same = sym (brief_move M (state_of setting (take len b))); whole = w; short = h }

pub trim_told : (version : ℕ) (s : List ℕ) (len keep : ℕ) (b : List ℕ) (setting : Setting) → length b ≡ label_limit → Trimmed version s len keep
    → Tells (Ok (trim_step keep setting)) b (next version s (state_of setting (take len b)))
trim_told version s len keep b setting w T =
    let n : length (take len b) ≡ len = length-take-le len b (omega (arith, T.short)) in
    let e : take keep b ≡ take keep (take len b) = sym (take-take keep len b (omega (arith, T.kept))) in
    record {
      same = rw e (sym (brief_trim T (state_of setting (take len b)) n));
      whole = w;
      short = omega (arith, T.short, T.kept);
    }
