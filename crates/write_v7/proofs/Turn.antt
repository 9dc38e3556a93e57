-- A turn of the loop over a sheet's records for v7: what any writer's turn says, where the state's label stands in the sheet. Assumes nothing.
use Rattle.std.specs.Prelude.{Some, None, Result as Answered, Ok}
use Rattle.format.specs.declared.Refusal.{Refusal as Refused}
use Rattle.format.specs.Answers.{verdict_of}
use Prim.Native.Nat.{ℕ, ◌+◌, ◌-◌, ◌≤◌, ◌<◌}
use mathlib.Core.Path.{◌≡◌, refl, sym, ap, ◌∙◌}
use mathlib.Core.Bool.{Bool, true, false, ◌&&◌}
use mathlib.Core.List.{List, [], ◌∷◌, ◌++◌}
use native.Mathlib.Omega.{arith}
use lib.Dec.{ltb}
use lib.ListN.{length, take, drop, length-take, length-drop}
use Rattle.format.specs.State.{not_said, State, start_setting, Record}
use Rattle.format.specs.Sheet.{records_of}
use Rattle.format.specs.Refusals.{or_else, Result, stop, refused, Good, Refusal}
use Rattle.format.specs.V7Codes.{shorten_codes, v7_codes, v7_after, v7_codes_limit, v7_unable}
use Rattle.format.specs.WellFormed.{WellFormed}
use Rattle.format.specs.Writing.{v7, headed_by}
use Rattle.format.specs.Bytes.{pick}
use Rattle.format.specs.Fields.{record_of, state_of}
use Rattle.format.specs.declared.Setting.{Setting}
use Rattle.format.specs.declared.Fields.{Fields}
use Rattle.format.specs.declared.Fields.TheVariants.{Leg, Station, Section, Error}
use Rattle.format.proofs.Basics.{pick_case}
use Rattle.sheet.specs.Seen.{EntryTold}
use Rattle.sheet.proofs.EntryAt.{part, found_formed, found_size}
use Rattle.part.specs.Lays.{Lays, Puts}
use Rattle.part.proofs.Laying.{lays_as, lays_within, lays_then, puts_front}
use Rattle.plain.specs.Plainly.{label_at, tail_of, v7_code, unsaid, Goes, Plainly}
use Rattle.plain.specs.Placed.{FoundPlaced}
use Rattle.plain.specs.declared.Form.{Form}
use Rattle.plain.specs.declared.Item.{Item}
use Rattle.plain.proofs.Placing.{plain_v7_codes}
use Rattle.plain.proofs.InSheet.{Sizes, plain_sizes, last_long, name_is, added_is, added_long}
use Rattle.counts.specs.Tallies.{bounded, Adds, rest_outcome}
use Rattle.counts.proofs.Left.{Left, written_length, written_there, adds_one, left_stopped}
use Rattle.write.proofs.Standing.{counted, Standing, standing_none, standing_end, standing_flawed, standing_more}
use Rattle.write_v7.specs.Passing.{hand_of, carried_style, hand_after, hand_found, state_in, Named, Turns}
use Rattle.write_v7.specs.declared.Hand.{Hand}

-- ---- one record

-- the label in the sheet is short enough to go on with
pub named_short : (sheet : List ℕ) (hand : Hand) → Named sheet hand → length (part sheet hand.from hand.to) ≤ 4096
named_short sheet hand n = simp (length-take, length-drop) (omega (arith, n.short))

-- what a record leaves
state_after : (sheet : List ℕ) (hand : Hand) (f : Fields) (a b : ℕ)
    → v7_after (state_in sheet hand) (record_of f (part sheet a b)) ≡ state_in sheet (hand_after hand f a b)
state_after sheet hand (Leg flags style date from to) a b = refl
state_after sheet hand (Station s) a b = refl
state_after sheet hand (Section last unused date size) a b = refl
state_after sheet hand (Error traverse) a b = refl

carried_fits : (style : ℕ) → (carried_style style ≤ 5) × ((ltb 0 (carried_style style) && ltb (carried_style style) not_said) ≡ false)
unfolding carried_style
carried_fits style = pick_case (λ (x : ℕ). (x ≤ 5) × ((ltb 0 x && ltb x not_said) ≡ false)) _ _ _ (λ e. (omega arith, refl)) λ e. (omega arith, refl)

named_after : (sheet : List ℕ) (hand : Hand) (f : Fields) (a b : ℕ)
    → Named sheet hand → a ≤ b → b ≤ length sheet → b ≤ a + 4096 → WellFormed (record_of f (part sheet a b)) → Named sheet (hand_after hand f a b)
named_after sheet hand (Leg flags style date from to) a b n h i j w =
    let z = carried_fits style in
    record { ordered = h; inside = i; short = j; style_fits = z.0; style_carried = z.1; date_fits = w.date_fits; marked = refl }
named_after sheet hand (Station s) a b n h i j w =
    record {
      ordered = h;
      inside = i;
      short = j;
      style_fits = n.style_fits;
      style_carried = n.style_carried;
      date_fits = n.date_fits;
      marked = refl;
    }
named_after sheet hand (Section last unused date size) a b n h i j w =
    record {
      ordered = h;
      inside = i;
      short = j;
      style_fits = n.style_fits;
      style_carried = n.style_carried;
      date_fits = w.date_fits;
      marked = refl;
    }
named_after sheet hand (Error traverse) a b n h i j w = n

-- the codes of a record do not depend on the state's style
codes_unsaid : (setting : Setting) (l m : List ℕ) (f : Fields)
    → v7_codes (state_of setting l) (record_of f m) ≡ v7_codes (state_of (unsaid setting) l) (record_of f m)
codes_unsaid setting l m (Leg flags style date from to) = refl
codes_unsaid setting l m (Station s) = refl
codes_unsaid setting l m (Section last unused date size) = refl
codes_unsaid setting l m (Error traverse) = refl

-- whether v7 can carry a record is not asked of its label
unable_at : (f : Fields) (l : List ℕ) → v7_unable (record_of f []) ≡ v7_unable (record_of f l)
unable_at (Leg flags style date from to) l = refl
unable_at (Station s) l = refl
unable_at (Section last unused date size) l = refl
unable_at (Error traverse) l = refl

module _ (version : ℕ) (sheet : List ℕ) (at : ℕ) (hand : Hand) (h : at < length sheet) (N : Named sheet hand) where
  -- a record that is taken apart
  pub entry_turns : (n : ℕ) (f : Fields) (k : ℕ) → EntryTold (Some (record { size = n; fields = f; from = k })) version (take (length sheet - at) (drop at sheet))
      → (d d' : List ℕ) (bytes : ℕ)
      → Puts d d' (v7_codes (state_of hand.setting (part sheet hand.from hand.to)) (record_of f (part sheet (at + k) (at + n)))) v7_codes_limit bytes
      → (bad : Bool) → bad ≡ v7_unable (record_of f []) → (next : Hand) → next ≡ hand_after hand f (at + k) (at + n)
      → Turns version sheet at hand d d' n bytes bad next
  entry_turns n f k T d d' bytes P bad e next q =
      let i = T.inside in
      let z = found_size version sheet at h n f k T in
      rw q
      (record {
        fields = f;
        from = k;
        told = T;
        puts = rw (codes_unsaid hand.setting (part sheet hand.from hand.to) (part sheet (at + k) (at + n)) f) at P;
        bad_is = e;
        leaves = state_after sheet hand f (at + k) (at + n);
        named =
            named_after sheet hand f (at + k) (at + n) N (omega (arith, i.from_within)) z.1 (omega (arith, i.short))
            (found_formed version sheet at h n f k T);
      })

  -- a leg or station that goes on: what shortens the label, and the item
  module _ (size kept code : ℕ) (form : Form)
      (P : Plainly version (take (length sheet - at) (drop at sheet)) hand.mark hand.setting.position (part sheet hand.from hand.to) size kept
      code form) (least : code ≤ 0x9f) where
    abbrev s : List ℕ
    s = take (length sheet - at) (drop at sheet)

    abbrev added : List ℕ
    added = part sheet (at + label_at form + kept) (at + size)

    abbrev name : List ℕ
    name = part sheet (at + label_at form) (at + size)

    G : Goes version s hand.setting size code form
    G = P.headed.goes hand.setting.style hand.setting.date N.style_fits N.date_fits N.marked

    found_codes : shorten_codes (hand.to - hand.from) kept ++ (v7_code form code ∷ length added ∷ (added ++ tail_of form s))
        ≡ v7_codes (state_in sheet hand) (record_of G.fields name)
    found_codes =
        let e = plain_v7_codes version s hand.mark hand.setting.position (part sheet hand.from hand.to) size kept code form P hand.setting G in
        let l = last_long version sheet at hand.mark hand.setting.position hand.from hand.to size kept code form h N.inside P in
        let a = added_is version sheet at hand.mark hand.setting.position hand.from hand.to size kept code form h N.inside P in
        let b = added_long version sheet at hand.mark hand.setting.position hand.from hand.to size kept code form h N.inside P in
        let m = name_is version sheet at hand.mark hand.setting.position hand.from hand.to size kept code form h N.inside P in
        sym (rw b (rw (a, m, l) at e)) ∙ codes_unsaid hand.setting (part sheet hand.from hand.to) name G.fields

    pub found_turns : (d d₁ d₂ : List ℕ) (a bytes : ℕ) → Lays d d₁ 0 (shorten_codes (hand.to - hand.from) kept) 257 a
        → Lays d₁ d₂ a (v7_code form code ∷ length added ∷ (added ++ tail_of form s)) 33 bytes
        → Turns version sheet at hand d d₂ size bytes false (hand_found hand form s (at + label_at form) (at + size))
    found_turns d d₁ d₂ a bytes L M =
        let i = G.told.inside in
        let z = found_size version sheet at h size G.fields (label_at form) G.told in
        record {
          fields = G.fields;
          from = label_at form;
          told = G.told;
          puts = puts_front (lays_within (lays_as (lays_then L M) found_codes) v7_codes_limit (omega arith));
          bad_is = sym (G.v7_able [] N.style_carried least);
          leaves = G.v7_leaves (part sheet hand.from hand.to) name;
          named =
              record {
                ordered = omega (arith, i.from_within);
                inside = z.1;
                short = omega (arith, i.short);
                style_fits = N.style_fits;
                style_carried = N.style_carried;
                date_fits = N.date_fits;
                marked = N.marked;
              };
        }

-- where the one that is found ends in the sheet, and what of its label is kept, dropped and added
pub placed_sizes : (sheet : List ℕ) (at : ℕ) (hand : Hand) (item : Item) (label : ℕ) → at < length sheet → Named sheet hand
    → FoundPlaced (Some item) (take (length sheet - at) (drop at sheet)) hand.mark hand.setting.position (part sheet hand.from hand.to)
    → label ≡ label_at item.form → Sizes sheet at hand.from hand.to item.size item.kept label
placed_sizes sheet at hand item label h N F e =
    rw e (plain_sizes 0 sheet at hand.mark hand.setting.position hand.from hand.to item.size item.kept item.code item.form h N.inside (F.3 0))

-- a piece that is written into the part of d from `from` on
pub lays_part : (d X y : List ℕ) (at from m n : ℕ) → from ≤ length d → (at ≤ length d → from ≡ at) → Puts (take (length d - from) (drop from d)) y X m n
    → Lays d (take from d ++ (y ++ drop (length d - from) (drop from d))) at X m (at + n)
lays_part d X y at from m n i q P =
    record {
      end = omega (arith, P.size);
      most = omega (arith, P.most);
      kept = written_length d at from X y m n i P;
      laid_in = λ h. written_there d at from X y m n i P q h;
    }

-- ---- where in the sheet the loop stands

pub record Going (barred : Bool) (version : ℕ) (sheet : List ℕ) (begin head : ℕ) (d₀ d : List ℕ) (at total number : ℕ) (fault : Answered Unit Refused)
    (hand : Hand) : Type 0 where
  pub stands : Standing v7 barred version sheet begin head d₀ d at total number fault (state_in sheet hand)
  pub named : Named sheet hand

pub going_none : (barred : Bool) (version : ℕ) (sheet : List ℕ) (begin head : ℕ) (d : List ℕ) → begin ≤ length sheet → head ≤ 8192
    → Going barred version sheet begin head d d begin head 0 (Ok tt) (hand_of start_setting 0 0)
going_none barred version sheet begin head d hb hh =
    record {
      stands = standing_none v7 barred version sheet begin head d hb hh;
      named =
          record {
            ordered = omega arith;
            inside = omega arith;
            short = omega arith;
            style_fits = omega arith;
            style_carried = refl;
            date_fits = tt;
            marked = refl;
          };
    }

module _ (barred : Bool) (version : ℕ) (sheet : List ℕ) (begin head : ℕ) (d₀ d : List ℕ) (at total number : ℕ) (fault : Answered Unit Refused) (hand : Hand)
    (G : Going barred version sheet begin head d₀ d at total number fault hand) where
  abbrev x₀ : Result
  x₀ = headed_by barred 23 (records_of version (drop begin sheet))

  abbrev st : State
  st = state_in sheet hand

  left_over : length sheet ≤ at → Left v7 x₀ head d₀ d (counted total number fault) st (headed_by barred 23 (stop Good))
  left_over h = standing_end v7 barred version sheet begin head d₀ d at total number fault st G.stands h

  -- no record is left, and the header can be written or not
  pub going_end : length sheet ≤ at → barred ≡ false → Left v7 x₀ head d₀ d (counted total number fault) st (stop Good)
  going_end h e = let z : headed_by barred 23 (stop Good) ≡ stop Good = rw e in rw z at (left_over h)

  pub going_barred : length sheet ≤ at → barred ≡ true → refused 23 0 ≡ rest_outcome v7 head x₀
  going_barred h e =
      let z : headed_by barred 23 (stop Good) ≡ stop (Refusal 23 0) = rw e in
      left_stopped v7 x₀ head d₀ d (counted total number fault) st 23 0 (rw z at (left_over h))

  module _ (h : at < length sheet) where
    -- no well-formed record is there
    pub going_flawed : EntryTold None version (take (length sheet - at) (drop at sheet)) → refused 12 number ≡ rest_outcome v7 head x₀
    going_flawed T = standing_flawed v7 barred version sheet begin head d₀ d at total number fault st G.stands h T

    -- the codes of the one that is are written into the part of d from `from` on
    module _ (n bytes : ℕ) (bad : Bool) (next : Hand) (from : ℕ) (y : List ℕ)
        (inside : from ≤ length d) (q : total ≤ length d → from ≡ total)
        (T : Turns version sheet at hand (take (length d - from) (drop from d)) y n bytes bad next) (fault' : Answered Unit Refused)
        (F : verdict_of fault' ≡ or_else (verdict_of fault) (pick bad (Refusal 23 number) Good)) where
      abbrev d' : List ℕ
      d' = take from d ++ (y ++ drop (length d - from) (drop from d))

      abbrev r : Record
      r = record_of T.fields (part sheet (at + T.from) (at + n))

      adds : Adds v7 st r d d' (counted total number fault) (counted (bounded total bytes) (number + 1) fault')
      adds =
          adds_one v7 d (counted total number fault) st r from y bytes (bounded total bytes) fault' inside q T.puts refl
          (F ∙ ap (λ (b : Bool). or_else (verdict_of fault) (pick b (Refusal 23 number) Good)) (T.bad_is ∙ unable_at T.fields (part sheet (at + T.from) (at + n))))

      pub going_more : Going barred version sheet begin head d₀ d' (at + n) (bounded total bytes) (number + 1) fault' next
      going_more =
          let S = standing_more v7 barred version sheet begin head d₀ d at total number fault st G.stands h n T.fields T.from
          T.told d' bytes fault' adds in
          record { stands = rw T.leaves at S; named = T.named }
