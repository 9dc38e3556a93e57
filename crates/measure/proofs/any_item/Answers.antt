-- `measure::any_item` meets its contract. Assumes nothing.
use Rattle.std.specs.Prelude.{Result, Ok, Err}
use Rattle.format.specs.declared.Fault.{Fault}
use Rattle.format.specs.declared.Fault.TheVariants.{Reserved}
use mathlib.Core.Path.{◌≡◌, refl}
use mathlib.Core.Logic.{inl, inr}
use mathlib.Core.List.{List}
use mathlib.Core.Bool.{Bool}
use Prim.Native.Nat.{ℕ, ◌≤◌}
use lib.ListN.{length, get_or}
use Rattle.format.specs.Items.{new_part}
use Rattle.format.specs.State.{next_of}
use Rattle.format.specs.Reading.{next}
use Rattle.kind.specs.Kinds.{kind_item, SaysBy, new_item}
use Rattle.kind.specs.declared.Kind.{Kind}
use Rattle.measure.specs.Measures.{ComesIn}
use Rattle.measure.specs.declared.Measured.{Measured}
use Rattle.measure.specs.declared.Measured.TheVariants.{Passes}
use Rattle.measure.proofs.Items.{kind_comes, nothing_comes, comes_undated}
use Rattle.measure.proofs.any_item.Goals as goal

-- what comes of the code's kind comes of the item
kind_at : (s : List ℕ) (len style : ℕ) (placed : Bool) (x k : Kind) → x ≡ k → SaysBy new_part x (new_item (get_or s 0 0)) → 1 ≤ length s → (r : Result Measured Fault)
    → ComesIn r len style placed (λ st. next_of st (kind_item k new_part s)) → ComesIn r len style placed (λ st. next 8 s st)
kind_at s len style placed x k e K h r f = kind_comes s _ h refl r len style placed _ (rw e at (K s)) f

pub returns-then-s-lt1 : goal.returns-then-s-lt1
returns-then-s-lt1 c = (tt, nothing_comes _ c.if-s-lt1.true _ _ _)

pub returns-in-Reserved : goal.returns-in-Reserved
returns-in-Reserved c =
    elim c.in-Reserved.is [
      | inl e ↦ (tt, kind_at c.args.s.now c.args.len c.args.style c.args.placed _ _ e c.new_kind-kind.ensures.0 c.if-s-lt1.false (Err Reserved) (λ st K. refl))
      | inr x ↦ absurd (elim x [ inl e ↦ rw e at c.new_kind-kind.ensures.1 | inr y ↦ elim y [ inl e ↦ rw e.1 at c.new_kind-kind.ensures.1 | inr z ↦ elim z [ inl e ↦ rw e at c.new_kind-kind.ensures.1 | inr e ↦ rw e at c.new_kind-kind.ensures.1 ] ] ])
    ]

pub returns-in-Style : goal.returns-in-Style
returns-in-Style c =
    (c.styled.ensures.0, kind_at c.args.s.now c.args.len c.args.style c.args.placed _ _ c.in-Style.is c.new_kind-kind.ensures.0 c.if-s-lt1.false (Ok c.styled.result) (c.styled.ensures.1 _ _))

pub returns-in-NoDate : goal.returns-in-NoDate
returns-in-NoDate c =
    (tt, kind_at c.args.s.now c.args.len c.args.style c.args.placed _ _ c.in-NoDate.is c.new_kind-kind.ensures.0 c.if-s-lt1.false (Ok (Passes 1)) (comes_undated _ _ _))

pub returns-in-Move : goal.returns-in-Move
returns-in-Move c =
    (c.moved.ensures.0, kind_at c.args.s.now c.args.len c.args.style c.args.placed _ _ c.in-Move.is c.new_kind-kind.ensures.0 c.if-s-lt1.false c.moved.result (c.moved.ensures.1 _ _ _))

pub returns-in-Day : goal.returns-in-Day
returns-in-Day c =
    (c.day.ensures.0, kind_at c.args.s.now c.args.len c.args.style c.args.placed _ _ c.in-Day.is c.new_kind-kind.ensures.0 c.if-s-lt1.false c.day.result (c.day.ensures.1 _ _ _))

pub returns-in-Span : goal.returns-in-Span
returns-in-Span c =
    (c.span.ensures.0, kind_at c.args.s.now c.args.len c.args.style c.args.placed _ _ c.in-Span.is c.new_kind-kind.ensures.0 c.if-s-lt1.false c.span.result (c.span.ensures.1 _ _ _))

pub returns-in-Days : goal.returns-in-Days
returns-in-Days c =
    (c.days.ensures.0, kind_at c.args.s.now c.args.len c.args.style c.args.placed _ _ c.in-Days.is c.new_kind-kind.ensures.0 c.if-s-lt1.false c.days.result (c.days.ensures.1 _ _ _))

pub returns-in-Error : goal.returns-in-Error
returns-in-Error c =
    (c.error.ensures.0, kind_at c.args.s.now c.args.len c.args.style c.args.placed _ _ c.in-Error.is c.new_kind-kind.ensures.0 c.if-s-lt1.false c.error.result (c.error.ensures.1 _ _))

pub returns-in-Labelled : goal.returns-in-Labelled
returns-in-Labelled c =
    (c.labelled.ensures.0, kind_at c.args.s.now c.args.len c.args.style c.args.placed _ _ c.in-Labelled.is c.new_kind-kind.ensures.0 c.if-s-lt1.false c.labelled.result (c.labelled.ensures.1 _))
