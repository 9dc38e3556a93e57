-- A turn of the loop over a sheet's records, on plain values. What the loop keeps (`Going`) is what a loop of any writer keeps (`Standing`), with
-- the state in a hand and a position: it holds at first, at the end it gives the answer, a record that is not well-formed gives refusal 12, and it
-- goes on over a record that is read the general way (`going_told`) and over one that goes on from the last (`going_plain`). Assumes nothing.
use Rattle.std.specs.Prelude.{Option, Some, None, Result as Answered, Ok}
use Rattle.format.specs.declared.Refusal.{Refusal as Refused}
use Rattle.format.specs.Answers.{verdict_of}
use Rattle.format.specs.declared.Point.{Point}
use Prim.Native.Nat.{ℕ, ◌+◌, ◌-◌, ◌≤◌, ◌<◌}
use mathlib.Core.Path.{◌≡◌, refl, sym, ap, ◌∙◌}
use mathlib.Core.Bool.{false}
use mathlib.Core.List.{List, [], ◌++◌}
use native.Mathlib.Omega.{arith}
use lib.ListN.{length, take, drop, length-append, length-take, length-drop}
use Rattle.format.specs.State.{State, start_setting, Record}
use Rattle.format.specs.Sheet.{records_from, records_of}
use Rattle.format.specs.Refusals.{or_else, Result, stop, refused, Good, Refusal, Verdict}
use Rattle.format.specs.Codes.{codes_limit, codes, after, setting_after, unsayable}
use Rattle.format.specs.Writing.{v8}
use Rattle.format.specs.Header.{file_limit}
use Rattle.format.specs.Bytes.{pick, over}
use Rattle.format.specs.Fields.{record_of}
use Rattle.format.specs.declared.Setting.{Setting}
use Rattle.format.specs.declared.Fields.{Fields}
use Rattle.format.specs.declared.Fields.TheVariants.{Leg, Station, Section, Error}
use Rattle.format.proofs.Basics.{pick_false}
use Rattle.plain.specs.Plainly.{label_at, position_after, Goes, Plainly, plain_codes}
use Rattle.plain.specs.declared.Item.{Item}
use Rattle.plain.proofs.Finds.{plain_item}
use Rattle.plain.proofs.InSheet.{last_long, name_is}
use Rattle.sheet.specs.Seen.{EntryTold}
use Rattle.sheet.proofs.EntryAt.{part, found_formed}
use Rattle.part.specs.Lays.{Puts}
use Rattle.counts.specs.Tallies.{bounded, Adds, rest_outcome}
use Rattle.counts.specs.declared.Tally.{Tally}
use Rattle.counts.proofs.Left.{Left, left_none, adds-next}
use Rattle.format.specs.WellFormed.{WellFormed}
use Rattle.write.specs.Passing.{hand_of, setting_in, hand_after, state_in, Named}
use Rattle.write.specs.declared.Hand.{Hand}
use Rattle.write.proofs.Standing.{counted, Standing, standing_end, standing_flawed, standing_more}

-- ---- where in the sheet the loop stands

pub record Going (version : ℕ) (sheet : List ℕ) (begin head : ℕ) (d₀ d : List ℕ) (at total number : ℕ) (fault : Answered Unit Refused) (hand : Hand)
    (position : Option Point) : Type 0 where
  pub place : ℕ
  pub inside : at ≤ length sheet
  pub few_records : number ≤ at
  pub few : total ≤ file_limit + codes_limit
  pub kept : length d ≡ length d₀
  pub named : Named sheet hand
  pub left : Left v8 (records_of version (drop begin sheet)) head d₀ d (counted total number fault) (state_in sheet hand (setting_in hand position))
      (records_from version place (drop at sheet) number)

-- the label in the sheet is short enough to go on with
pub named_short : (sheet : List ℕ) (hand : Hand) → Named sheet hand → length (part sheet hand.from hand.to) ≤ 4096
named_short sheet hand n = simp (length-take, length-drop) (omega (arith, n.short))

pub going_none : (version : ℕ) (sheet : List ℕ) (begin head : ℕ) (d : List ℕ) → begin ≤ length sheet → head ≤ 8192
    → Going version sheet begin head d d begin head 0 (Ok tt) (hand_of start_setting 0 0) None
unfolding records_of
going_none version sheet begin head d hb hh =
    record {
      place = 0;
      inside = hb;
      few_records = omega arith;
      few = omega arith;
      kept = refl;
      named = record { ordered = omega arith; inside = omega arith; short = omega arith; style_fits = omega arith; date_fits = tt; marked = refl };
      left = left_none v8 (records_of version (drop begin sheet)) head d (omega arith);
    }

-- what a record leaves
state_after : (sheet : List ℕ) (hand : Hand) (position : Option Point) (f : Fields) (a b : ℕ) → let x = setting_after (setting_in hand position) (record_of f []) in
    after (state_in sheet hand (setting_in hand position)) (record_of f (part sheet a b)) ≡ state_in sheet (hand_after hand x f a b)
    (setting_in (hand_after hand x f a b) x.position)
state_after sheet hand position (Leg flags style date from to) a b = refl
state_after sheet hand position (Station s) a b = refl
state_after sheet hand position (Section last unused date size) a b = refl
state_after sheet hand position (Error traverse) a b = refl

named_after : (sheet : List ℕ) (hand : Hand) (position : Option Point) (f : Fields) (a b : ℕ) → Named sheet hand → a ≤ b → b ≤ length sheet → b ≤ a + 4096
    → WellFormed (record_of f (part sheet a b)) → Named sheet (hand_after hand (setting_after (setting_in hand position) (record_of f [])) f a b)
named_after sheet hand position (Leg flags style date from to) a b n h i j w =
    record { ordered = h; inside = i; short = j; style_fits = w.style_fits; date_fits = w.date_fits; marked = refl }
named_after sheet hand position (Station s) a b n h i j w =
    record { ordered = h; inside = i; short = j; style_fits = n.style_fits; date_fits = n.date_fits; marked = refl }
named_after sheet hand position (Section last unused date size) a b n h i j w =
    record { ordered = h; inside = i; short = j; style_fits = n.style_fits; date_fits = w.date_fits; marked = refl }
named_after sheet hand position (Error traverse) a b n h i j w = n

-- a part that was lent comes back as long as it was
pub rejoined : (d y : List ℕ) (from : ℕ) → from ≤ length d → length y ≡ length (take (length d - from) (drop from d))
    → length (take from d ++ (y ++ drop (length d - from) (drop from d))) ≡ length d
rejoined d y from h k = let l = simp (length-take, length-drop) at k in simp (length-append, length-take, length-drop) (omega (arith, l))

or_good : (v : Verdict) → v ≡ or_else v Good
or_good Good = refl
or_good (Refusal n p) = refl

module _ (version : ℕ) (sheet : List ℕ) (begin head : ℕ) (d₀ d : List ℕ) (at total number : ℕ) (fault : Answered Unit Refused) (hand : Hand) (position : Option Point)
    (G : Going version sheet begin head d₀ d at total number fault hand position) where
  abbrev x₀ : Result
  x₀ = records_of version (drop begin sheet)

  abbrev st : State
  st = state_in sheet hand (setting_in hand position)

  abbrev t : Tally
  t = counted total number fault

  standing : Standing v8 false version sheet begin head d₀ d at total number fault st
  standing = record { place = G.place; inside = G.inside; few_records = G.few_records; few = G.few; kept = G.kept; left = G.left }

  -- no record is left
  pub going_end : length sheet ≤ at → Left v8 x₀ head d₀ d t st (stop Good)
  going_end h = standing_end v8 false version sheet begin head d₀ d at total number fault st standing h

  module _ (h : at < length sheet) where
    -- no well-formed record is there
    pub going_flawed : EntryTold None version (take (length sheet - at) (drop at sheet)) → refused 12 number ≡ rest_outcome v8 head x₀
    going_flawed T = standing_flawed v8 false version sheet begin head d₀ d at total number fault st standing h T

    -- the codes of the one that is are written into the part of d from `from` on
    module _ (n : ℕ) (f : Fields) (k : ℕ) (T : EntryTold (Some (record { size = n; fields = f; from = k })) version (take (length sheet - at) (drop at sheet))) (from : ℕ) (y : List ℕ)
        (size : ℕ) (fault' : Answered Unit Refused)
        (inside : from ≤ length d) (q : total ≤ length d → from ≡ total)
        (P : Puts (take (length d - from) (drop from d)) y (codes st (record_of f (part sheet (at + k) (at + n)))) codes_limit size)
        (e : verdict_of fault' ≡ or_else (verdict_of fault) (pick (unsayable hand.style (record_of f [])) (Refusal 13 number) Good)) where
      abbrev d' : List ℕ
      d' = take from d ++ (y ++ drop (length d - from) (drop from d))

      abbrev r : Record
      r = record_of f (part sheet (at + k) (at + n))

      abbrev t' : Tally
      t' = counted (bounded total size) (number + 1) fault'

      adds : Adds v8 st r d d' t t'
      adds = adds-next d t (setting_in hand position) (part sheet hand.from hand.to) (part sheet (at + k) (at + n)) f from y size
          (bounded total size) fault' inside q P refl e

      abbrev x : Setting
      x = setting_after (setting_in hand position) (record_of f [])

      going_more : Going version sheet begin head d₀ d' (at + n) (bounded total size) (number + 1) fault' (hand_after hand x f (at + k) (at + n))
          x.position
      going_more =
          let i = T.inside in
          let S = standing_more v8 false version sheet begin head d₀ d at total number fault st standing h n f k T d' size fault' adds in
          record {
            place = S.place;
            inside = S.inside;
            few_records = S.few_records;
            few = S.few;
            kept = S.kept;
            named = named_after sheet hand position f (at + k) (at + n) G.named (omega (arith, i.from_within)) S.inside (omega (arith, i.short))
                (found_formed version sheet at h n f k T);
            left = rw (← (state_after sheet hand position f (at + k) (at + n))) S.left;
          }

      -- the same where what it leaves is told
      pub going_told : (hand' : Hand) (position' : Option Point) → hand' ≡ hand_after hand x f (at + k) (at + n) → position' ≡ x.position
          → Going version sheet begin head d₀ d' (at + n) (bounded total size) (number + 1) fault' hand' position'
      going_told hand' position' l p = rw (l, p) going_more

    -- the plain arm: the same for a record that goes on, whose codes are known
    module _ (item : Item) (P : Plainly version (take (length sheet - at) (drop at sheet)) hand.mark position (part sheet hand.from hand.to)
        item.size item.kept item.code item.form)
        (from : ℕ) (y : List ℕ) (bytes : ℕ) (inside : from ≤ length d) (q : total ≤ length d → from ≡ total)
        (W : Puts (take (length d - from) (drop from d)) y (plain_codes item (hand.to - hand.from) (take (length sheet - at) (drop at sheet))) 33 bytes) where
      abbrev s : List ℕ
      s = take (length sheet - at) (drop at sheet)

      abbrev a : ℕ
      a = at + label_at item.form

      abbrev b : ℕ
      b = at + item.size

      G' : Goes version s (setting_in hand position) item.size item.code item.form
      G' = P.headed.goes hand.style hand.date G.named.style_fits G.named.date_fits G.named.marked

      abbrev f : Fields
      f = G'.fields

      codes_are : codes st (record_of f (part sheet a b)) ≡ plain_codes item (hand.to - hand.from) s
      codes_are =
          let last = part sheet hand.from hand.to in
          let i = G.named.inside in
          let n = last_long version sheet at hand.mark position hand.from hand.to _ _ _ _ h i P in
          let m = name_is version sheet at hand.mark position hand.from hand.to _ _ _ _ h i P in
          rw (m, n) at (plain_item version s hand.mark position last _ _ _ _ P (setting_in hand position) G')

      abbrev d'' : List ℕ
      d'' = take from d ++ (y ++ drop (length d - from) (drop from d))

      no_fault : verdict_of fault ≡ or_else (verdict_of fault) (pick (unsayable hand.style (record_of f [])) (Refusal 13 number) Good)
      no_fault = rw (pick_false (Refusal 13 number) Good (G'.sayable [])) (or_good (verdict_of fault))

      plain_adds : Adds v8 st (record_of f (part sheet a b)) d d'' t (counted (bounded total bytes) (number + 1) fault)
      plain_adds =
          adds-next d t (setting_in hand position) (part sheet hand.from hand.to) (part sheet a b) f from y bytes (bounded total bytes) fault inside q
          (record {
            size = W.size ∙ ap length (sym codes_are);
            most = omega (arith, W.most);
            kept = W.kept;
            written = λ z. W.written z ∙ ap (λ (x : List ℕ). over x (take (length d - from) (drop from d))) (sym codes_are);
          })
          refl no_fault

      pub going_plain : Going version sheet begin head d₀ d'' b (bounded total bytes) (number + 1) fault
          (record { style = hand.style; date = hand.date; mark = hand.mark; from = a; to = b }) (position_after item.form s position)
      going_plain =
          let i = G'.told.inside in
          let S = standing_more v8 false version sheet begin head d₀ d at total number fault st standing h item.size f (label_at item.form) G'.told d''
          bytes fault plain_adds in
          record {
            place = S.place;
            inside = S.inside;
            few_records = S.few_records;
            few = S.few;
            kept = S.kept;
            named =
                record {
                  ordered = omega (arith, i.from_within);
                  inside = S.inside;
                  short = omega (arith, i.short);
                  style_fits = G.named.style_fits;
                  date_fits = G.named.date_fits;
                  marked = G.named.marked;
                };
            left = rw (← (G'.leaves (part sheet hand.from hand.to) (part sheet a b))) S.left;
          }
