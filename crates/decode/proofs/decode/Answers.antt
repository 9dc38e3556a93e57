-- `decode::decode` meets its contract. Assumes nothing.
use Prim.Native.Nat.{ℕ, ◌≤◌}
use mathlib.Core.List.{List}
use lib.ListN.{length, get_or}
use native.Mathlib.Omega.{arith}
use borrow.Author.Tests.{lt-ltb}
use Rattle.format.specs.Bytes.{pick}
use mathlib.Core.Path.{◌≡◌, refl}
use Rattle.format.specs.Items.{item_of}
use Rattle.length.specs.Parts.{part_at}
use Rattle.kind.specs.Kinds.{kind_item}
use Rattle.kind.specs.declared.Kind.{Kind}
use Rattle.decode.proofs.Sized.{reads_as}
use Rattle.decode.proofs.decode.Goals as goal

-- what the code's kind says of the item
kind_at : (version : ℕ) (s : List ℕ) (r k : Kind) → ((u : List ℕ) → 1 ≤ length u → get_or u 0 0 ≡ get_or s 0 0 → kind_item r (part_at version) u ≡ item_of version u)
    → 1 ≤ length s → r ≡ k → kind_item k (part_at version) s ≡ item_of version s
kind_at version s r k f h e = rw e at (f s h refl)

pub returns-then-s-lt1 : goal.returns-then-s-lt1
unfolding item_of pick
returns-then-s-lt1 c =
    record { same = simp (lt-ltb _ _ c.if-s-lt1.true); sound = tt }

pub returns-in-Reserved : goal.returns-in-Reserved
returns-in-Reserved c = record { same = kind_at c.args.version c.args.s.now _ _ c.kind_of-kind.ensures c.if-s-lt1.false c.in-Reserved.is; sound = tt }

pub returns-in-Stop : goal.returns-in-Stop
returns-in-Stop c = record { same = kind_at c.args.version c.args.s.now _ _ c.kind_of-kind.ensures c.if-s-lt1.false c.in-Stop.is; sound = tt }

pub returns-in-Shorten : goal.returns-in-Shorten
returns-in-Shorten c =
    record { same = kind_at c.args.version c.args.s.now _ _ c.kind_of-kind.ensures c.if-s-lt1.false c.in-Shorten.is; sound = (omega arith, refl) }

pub returns-in-Style : goal.returns-in-Style
returns-in-Style c = record { same = kind_at c.args.version c.args.s.now _ _ c.kind_of-kind.ensures c.if-s-lt1.false c.in-Style.is; sound = tt }

pub returns-in-Move : goal.returns-in-Move
returns-in-Move c = reads_as c.move_item.ensures (kind_at c.args.version c.args.s.now _ _ c.kind_of-kind.ensures c.if-s-lt1.false c.in-Move.is)

pub returns-in-NoDate : goal.returns-in-NoDate
returns-in-NoDate c = record { same = kind_at c.args.version c.args.s.now _ _ c.kind_of-kind.ensures c.if-s-lt1.false c.in-NoDate.is; sound = tt }

pub returns-in-Day : goal.returns-in-Day
returns-in-Day c = reads_as c.day_item.ensures (kind_at c.args.version c.args.s.now _ _ c.kind_of-kind.ensures c.if-s-lt1.false c.in-Day.is)

pub returns-in-Span : goal.returns-in-Span
returns-in-Span c = reads_as c.span_item.ensures (kind_at c.args.version c.args.s.now _ _ c.kind_of-kind.ensures c.if-s-lt1.false c.in-Span.is)

pub returns-in-Days : goal.returns-in-Days
returns-in-Days c = reads_as c.days_item.ensures (kind_at c.args.version c.args.s.now _ _ c.kind_of-kind.ensures c.if-s-lt1.false c.in-Days.is)

pub returns-in-Seconds : goal.returns-in-Seconds
returns-in-Seconds c = reads_as c.seconds_item.ensures (kind_at c.args.version c.args.s.now _ _ c.kind_of-kind.ensures c.if-s-lt1.false c.in-Seconds.is)

pub returns-in-TwoSeconds : goal.returns-in-TwoSeconds
returns-in-TwoSeconds c = reads_as c.two_seconds_item.ensures (kind_at c.args.version c.args.s.now _ _ c.kind_of-kind.ensures c.if-s-lt1.false c.in-TwoSeconds.is)

pub returns-in-Error : goal.returns-in-Error
returns-in-Error c = reads_as c.error_item.ensures (kind_at c.args.version c.args.s.now _ _ c.kind_of-kind.ensures c.if-s-lt1.false c.in-Error.is)

pub returns-in-Labelled : goal.returns-in-Labelled
returns-in-Labelled c = reads_as c.labelled_item.ensures (kind_at c.args.version c.args.s.now _ _ c.kind_of-kind.ensures c.if-s-lt1.false c.in-Labelled.is)
