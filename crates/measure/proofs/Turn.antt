-- A turn of the measuring loop, on plain values. Assumes nothing.
use Prim.Native.Nat.{ℕ, ◌+◌, ◌-◌, ◌*◌, ◌≤◌}
use Rattle.std.specs.Prelude.{Result, Ok, Err}
use mathlib.Core.Path.{◌≡◌, refl, sym, ◌∙◌}
use mathlib.Core.List.{List}
use mathlib.Core.Bool.{Bool, true, false}
use native.Mathlib.Omega.{arith}
use borrow.Author.Tests.{ltb-true, ltb-false}
use borrow.Author.Rules.{part_to_end}
use lib.ListN.{length, take, drop}
use Rattle.format.specs.State.{State, start, end}
use Rattle.format.specs.Refusals.{stop, Verdict, Refusal}
use Rattle.format.specs.Reading.{next, ended, run, items_of}
use Rattle.format.specs.Faults.{fault_number}
use Rattle.format.specs.declared.Fault.{Fault}
use Rattle.format.proofs.Basics.{pick_case}
use Rattle.format.proofs.ReadingLaws.{there_within, left_bad, left_after, left_done, left_on, left_made}
use Rattle.measure.specs.Measures.{Keeps, Goes, Makes, Measures, ComesIn}
use Rattle.measure.specs.Totals.{Total, total_by, pass_of}
use Rattle.measure.specs.declared.Measured.{Measured}
use Rattle.measure.specs.declared.Measured.TheVariants.{End, Styled, Moved, Passes, Made}
use Rattle.measure.proofs.Sums.{pass_also, pass_stop}

-- the end item: why reading stops there, over the bytes as the code cuts them out
pub left_end : (version : ℕ) (file : List ℕ) (at : ℕ) (st : State) → end ≡ next version (take (length file - at) (drop at file)) st
    → run version at (drop at file) st ≡ stop (ended at (take (length file - at) (drop at file)))
unfolding ended
left_end version file at st e =
    rw (part_to_end file at)
    (pick_case (λ (v : Verdict). run version at (drop at file) st ≡ stop v) _ _ _
    (λ t. left_after version file at st e (ltb-true _ _ t))
    (λ t. left_done version file at st e (ltb-false _ _ t)))

-- what is left of the file, in a state of which this is kept, comes with the counts so far to the same as the whole
pub record Going (file : List ℕ) (place front at out records len style : ℕ) (placed : Bool) : Type 0 where
  pub state : State
  pub keeps : Keeps state len style placed
  pub inside : at ≤ length file
  pub short : len ≤ 4096
  pub out_few : out ≤ front + 4130 * at
  pub records_few : records ≤ at
  pub answer : pass_of out records (run 8 at (drop at file) state) ≡ pass_of front 0 (items_of 8 place file)

pub going_first : (file : List ℕ) (place front : ℕ) → place ≤ length file → Going file place front place front 0 0 5 false
unfolding items_of
going_first file place front h =
    record {
      state = start;
      keeps = record { label_is = refl; style_is = refl; position_is = refl };
      inside = h;
      short = omega arith;
      out_few = omega arith;
      records_few = omega arith;
      answer = refl;
    }

-- the item's bytes are there
abbrev pub Within : ℕ → ℕ → Result Measured Fault → Type 0
Within m at (Err f) = Unit
Within m at (Ok End) = Unit
Within m at (Ok (Styled to)) = at + 1 ≤ m
Within m at (Ok Moved) = at + 13 ≤ m
Within m at (Ok (Passes n)) = (1 ≤ n) × (at + n ≤ m)
Within m at (Ok (Made n k bytes)) = (1 ≤ n) × (at + n ≤ m)

module _ (file : List ℕ) (place front at out records len style : ℕ) (placed : Bool) (G : Going file place front at out records len style placed) where
  -- what an answer tells of the item there, as the code cuts it out
  abbrev pub Found : Result Measured Fault → Type 0
  Found r = ComesIn r len style placed (λ st. next 8 (take (length file - at) (drop at file)) st)

  abbrev whole : Total
  whole = pass_of front 0 (items_of 8 place file)

  pub found : (r : Result Measured Fault) → Found r → Measures r len style placed (next 8 (take (length file - at) (drop at file)) G.state)
  found r f = f G.state G.keeps

  pub ends : {v : Verdict} → run 8 at (drop at file) G.state ≡ stop v → total_by v out records ≡ whole
  ends {v} e = sym (pass_stop out records v) ∙ rw e at G.answer

  pub ends_bad : (k : Fault) → Found (Err k) → total_by (Refusal (fault_number k) at) out records ≡ whole
  ends_bad k f = ends (left_bad 8 file at G.state (sym (found (Err k) f)))

  pub ends_end : Found (Ok End) → total_by (ended at (take (length file - at) (drop at file))) out records ≡ whole
  ends_end f = ends (left_end 8 file at G.state (sym (found (Ok End) f)))

  -- the next turn, behind an item of n bytes
  turn : (st : State) (n out' records' m y : ℕ) (p : Bool) → Keeps st m y p → (1 ≤ n) × (at + n ≤ length file) → m ≤ 4096 → out' ≤ out + 4130
      → records' ≤ records + 1 → pass_of out' records' (run 8 (at + n) (drop (at + n) file) st) ≡ whole → Going file place front (at + n) out' records' m y p
  turn st n out' records' m y p K z h few one same =
      record {
        state = st;
        keeps = K;
        inside = z.1;
        short = h;
        out_few = omega (arith, G.out_few);
        records_few = omega (arith, G.records_few);
        answer = same;
      }

  -- an item that makes no record
  module _ (n m y : ℕ) (p : Bool) (g : Goes (next 8 (take (length file - at) (drop at file)) G.state) n m y p) where
    goes_size : (1 ≤ n) × (at + n ≤ length file)
    goes_size = there_within 8 file at G.state G.inside (sym g.same)

    pub going_on : m ≤ 4096 → Going file place front (at + n) out records m y p
    going_on h =
        turn g.after n out records m y p g.keeps goes_size h (omega arith) (omega arith)
        (rw (left_on 8 file at G.state (sym g.same)) at G.answer)

  -- an item that makes one
  module _ (n bytes m : ℕ) (g : Makes (next 8 (take (length file - at) (drop at file)) G.state) n bytes m style placed) where
    makes_size : (1 ≤ n) × (at + n ≤ length file)
    makes_size = there_within 8 file at G.state G.inside (sym g.same)

    pub going_made : m ≤ 4096 → bytes ≤ 4130 → Going file place front (at + n) (out + bytes) (records + 1) m style placed
    going_made h k =
        turn g.after n (out + bytes) (records + 1) m style placed g.keeps makes_size h (omega arith) (omega arith)
        (rw (← g.size) (sym (pass_also out records g.gives _) ∙ rw (left_made 8 file at G.state (sym g.same)) at G.answer))

  pub item_within : (r : Result Measured Fault) → Found r → Within (length file) at r
  item_within (Err k) f = tt
  item_within (Ok End) f = tt
  item_within (Ok (Styled to)) f = (goes_size 1 len to placed (found (Ok (Styled to)) f)).1
  item_within (Ok Moved) f = (goes_size 13 len style true (found (Ok Moved) f)).1
  item_within (Ok (Passes n)) f = goes_size n len style placed (found (Ok (Passes n)) f)
  item_within (Ok (Made n m bytes)) f = makes_size n bytes m (found (Ok (Made n m bytes)) f)
