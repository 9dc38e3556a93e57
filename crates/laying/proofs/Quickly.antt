-- The commonest items: each is the step that `take_item` would answer, and what is laid is its record. Assumes nothing.
use Rattle.std.specs.Prelude.{Option, None, Some, Ok}
use Prim.Native.Nat.{ℕ, ◌+◌, ◌-◌, ◌^◌, ◌≤◌, ◌<◌}
use mathlib.Core.Path.{◌≡◌, refl, sym, ap, ◌∙◌}
use mathlib.Core.List.{List, ◌++◌}
use native.Mathlib.Omega.{arith}
use lib.ListN.{length, take, drop}
use lib.Seq.{take-take, length-take-le}
use Rattle.format.specs.Label.{label_limit}
use Rattle.format.specs.Items.{Item, item_of}
use Rattle.format.specs.Outline.{drop_leaves}
use Rattle.format.specs.State.{Next, leg, station, section}
use Rattle.format.specs.Sheet.{record_limit}
use Rattle.format.specs.Reading.{next}
use Rattle.format.specs.Fields.{state_of, record_of, record_size}
use Rattle.format.specs.declared.Point.{Point}
use Rattle.format.specs.declared.Setting.{Setting}
use Rattle.format.specs.declared.Fields.{Fields}
use Rattle.format.specs.declared.Section.{Section as SectionFields}
use Rattle.short.specs.Brief.{Brief, make_line, make_station, make_section, leg_at, station_at, section_at, name_at}
use Rattle.short.proofs.Laws.{leg_kept, station_kept, section_kept}
use Rattle.item.specs.Seen.{Tells}
use Rattle.item.specs.declared.Step.TheVariants.{Made}
use Rattle.item.specs.Commonest.{moved_to, extended}
use Rattle.item.proofs.Commonest.{label_extended, leg_told, station_told, section_told}
use Rattle.laying.specs.Quickly.{laid_by, laid_from, name_of, made_by, Joined, LaysLine, LaidAs, Quickly}
use Rattle.laying.specs.declared.Joint.{Joint}
use Rattle.laying.specs.declared.Quick.{Quick}

-- ---- one of the commonest items that makes a record can be laid

pub joined : {version len k size : ℕ} {make : ℕ → List ℕ → List ℕ → Item} (j : Joint) (s b : List ℕ) → Brief version s len j.keep j.add k size make
    → length b ≡ label_limit → j.out < 2 ^ 62 → Joined j s b
joined j s b B w o = record { there = B.there; few = B.few; add_few = B.add_few; whole = w; out_few = o }

-- ---- what is laid is the record that the step tells

told_laid : (n m : ℕ) (st : Setting) (f : Fields) (kept : ℕ) (b d d' : List ℕ) (k : ℕ) (x : Next) → Tells (Ok (Made n m st f kept)) b x
    → d' ≡ laid_from k (record_of f (take m b)) d → d' ≡ laid_by x d k
told_laid n m st f kept b d d' k x T e = e ∙ ap (λ (y : Next). laid_by y d k) T.same

module _ (version : ℕ) (s : List ℕ) (len keep add k size : ℕ) (b b' : List ℕ) (setting : Setting) (d d' : List ℕ) (out : ℕ)
    (w : length b ≡ label_limit) (h : len ≤ label_limit) (eb : b' ≡ extended b keep s) where
  abbrev x : Next
  x = next version s (state_of setting (take len b))

  abbrev stays : ℕ
  stays = drop_leaves (take len b) (item_of version s)

  abbrev label : List ℕ
  label = name_at s keep add b

  -- the label that is laid is the one that the buffer then has
  label_is : keep + 16 ≤ label_limit → add < 16 → 33 ≤ length s → label ≡ take (keep + add) b'
  label_is f a t =
      let e = label_extended b s label_limit keep add (omega arith) (omega arith) a (omega arith) in
      sym (ap (take (keep + add)) eb ∙ e ∙ ap (λ (y : List ℕ). y ++ take add (drop 2 s)) (take-take keep label_limit b (omega arith)))

  -- an item that makes a record of the fields f, whose step is told and whose record is laid
  laid_as : {after : Setting} {f : Fields} {make : ℕ → List ℕ → List ℕ → Item} → Brief version s len keep add k size make
      → Tells (Ok (Made size (keep + add) after f keep)) (extended b keep s) x → (length (take len b) ≡ len → stays ≡ keep)
      → record_size f (keep + add) ≤ record_limit → d' ≡ laid_from out (record_of f label) d
      → LaidAs size (keep + add) after (record_size f (keep + add)) keep x stays b' d d' out
  laid_as B t kept small ed =
      let T = rw (← eb) at t in
      record {
        fields = _;
        told = T;
        kept_is = sym (kept (length-take-le len b (omega arith)));
        bytes_are = refl;
        small = small;
        laid = told_laid _ _ _ _ _ _ _ _ _ _ T (ed ∙ rw (label_is B.few B.add_few B.there));
      }

  pub leg_laid_as : (flags : ℕ) (from : Point) → Brief version s len keep add k size (make_line flags) → setting.position ≡ Some from
      → d' ≡ laid_from out (leg (leg_at s k flags setting from) label) d
      → LaidAs size (keep + add) (moved_to setting (leg_at s k flags setting from).to) (34 + (keep + add)) keep x stays b' d d' out
  leg_laid_as flags from B p ed =
      laid_as B (leg_told version s len keep add k size b setting w h flags from B p) (leg_kept B (take len b)) (omega (arith, B.few, B.add_few)) ed

  pub station_laid_as : (flags : ℕ) → Brief version s len keep add k size (make_station flags) → d' ≡ laid_from out (station (station_at s k flags) label) d
      → LaidAs size (keep + add) setting (16 + (keep + add)) keep x stays b' d d' out
  station_laid_as flags B ed =
      laid_as B (station_told version s len keep add k size b setting w h flags B) (station_kept B (take len b)) (omega (arith, B.few, B.add_few)) ed

  pub section_laid_as : (code : ℕ) → Brief version s len keep add k size (make_section code) → d' ≡ laid_from out (section (section_at s k code setting) label) d
      → LaidAs size (keep + add) setting (25 + (keep + add)) keep x stays b' d d' out
  section_laid_as code B ed =
      laid_as B (section_told version s len keep add k size b setting w h code B) (section_kept code B (take len b)) (omega (arith, B.few, B.add_few)) ed

-- ---- what the functions here answer is what the item comes to; its numbers stand from byte k on

module _ (version : ℕ) (j : Joint) (setting : Setting) (s : List ℕ) (len k : ℕ) (b b' d d' : List ℕ) (w : length b ≡ label_limit) (h : len ≤ label_limit) where
  abbrev pub Comes : Option Quick → Type 0
  Comes r = Quickly r (next version s (state_of setting (take len b))) (drop_leaves (take len b) (item_of version s)) setting b b' d d' j.out

  line_cases : (q : Option Point) (r : Option Quick) (flags : ℕ) → setting.position ≡ q → Brief version s len j.keep j.add (j.size - 12) j.size (make_line flags)
      → LaysLine r j flags setting s b b' d d' → Comes r
  line_cases None r flags p B L = let z = L.unset p in rw z.0 (z.1, z.2)
  line_cases (Some from) r flags p B L =
      let z = L.led from p in
      rw z.0
      (leg_laid_as version s len j.keep j.add (j.size - 12) j.size b b' setting d d' j.out w h z.1 flags from B p z.2)

  pub line_comes : (r : Option Quick) (flags : ℕ) → Brief version s len j.keep j.add k j.size (make_line flags) → k ≡ j.size - 12
      → LaysLine r j flags setting s b b' d d' → Comes r
  line_comes r flags B e L = line_cases setting.position r flags refl (rw (← e) B) L

  pub place_comes : (r : Quick) (flags : ℕ) → Brief version s len j.keep j.add k j.size (make_station flags) → k ≡ j.size - 12
      → b' ≡ extended b j.keep s → d' ≡ laid_from j.out (station (station_at s (j.size - 12) flags) (name_of j s b)) d → r ≡ made_by j 16 → Comes (Some r)
  place_comes r flags B e eb ed er =
      rw er (station_laid_as version s len j.keep j.add k j.size b b' setting d d' j.out w h eb flags B (rw (← e) at ed))

  pub section_comes : (r : Quick) (code : ℕ) (g : SectionFields) → Brief version s len j.keep j.add k j.size (make_section code)
      → g ≡ section_at s k code setting → b' ≡ extended b j.keep s → d' ≡ laid_from j.out (section g (name_of j s b)) d → r ≡ made_by j 25 → Comes (Some r)
  section_comes r code g B eg eb ed er =
      rw er (section_laid_as version s len j.keep j.add k j.size b b' setting d d' j.out w h eb code B (rw eg at ed))
