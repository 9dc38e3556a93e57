-- A step told in numbers: the stand behind the item is the one that the new numbers say. Assumes nothing.
use Rattle.std.specs.Prelude.{Option, Ok}
use Rattle.format.specs.declared.Point.{Point}
use Prim.Native.Nat.{ℕ, ◌+◌}
use mathlib.Core.Path.{◌≡◌, sym, ap, ◌∙◌}
use mathlib.Core.List.{List}
use Rattle.format.specs.Answers.{stepped_of}
use Rattle.format.specs.declared.Stepped.{Stepped as Answer}
use Rattle.step.specs.Standing.{stand_seen, behind_item, Steps}
use Rattle.step.specs.Shortly.{Took}
use Rattle.step.specs.declared.Stand.{Stand as Held}
use Rattle.step.specs.declared.Taken.{Taken}
use Rattle.held.specs.Numbers.{held_of, stands_at}
use Rattle.held.specs.Shortly.{StepsOn}

pub steps_on : (s label file old : List ℕ) (t : Taken) (s' label' new : List ℕ)
    → Steps (held_of s) label file old t label' new → held_of s' ≡ t.stand → StepsOn (stepped_of t.answer) s label file old s' label' new
steps_on s label file old t s' label' new S e =
    record { answer = S.answer; stand = ap (λ (h : Held). stand_seen h label') e ∙ S.stand; buffer = S.buffer }

-- over one of the commonest items, from the stand h that the numbers say
pub took : {s label file old : List ℕ} {size m : ℕ} {p : (Option Point)} {a : Answer} {s' label' new : List ℕ} {h : Held} → h ≡ held_of s
    → Took h label file old size m (record { style = h.setting.style; date = h.setting.date; position = p }) a label' new
    → held_of s' ≡ stands_at (held_of s) (h.place + size) m p → StepsOn (stepped_of (Ok a)) s label file old s' label' new
took {s} {label} {file} {old} {size} {m} {p} {a} {s'} {label'} {new} {h} d T e =
    let F : Took (held_of s) label file old size m (record { style = (held_of s).setting.style; date = (held_of s).setting.date; position = p }) a label' new
    = rw d at T in
    let z : stands_at (held_of s) ((held_of s).place + size) m p
    ≡ behind_item (held_of s) size m (record { style = (held_of s).setting.style; date = (held_of s).setting.date; position = p }) = rw F.going in
    steps_on s label file old _ s' label' new F.steps (rw d at e ∙ z)

-- where the item leaves the position as it was
pub passed : {s label file old : List ℕ} {size m : ℕ} {a : Answer} {s' label' new : List ℕ} {h : Held} → h ≡ held_of s
    → Took h label file old size m h.setting a label' new
    → held_of s' ≡ stands_at (held_of s) (h.place + size) m (held_of s).setting.position → StepsOn (stepped_of (Ok a)) s label file old s' label' new
passed {s = s} {size = size} {m = m} {h = h} d T e =
    took {s = s} d T (e ∙ ap (λ (x : Held). stands_at (held_of s) (h.place + size) m x.setting.position) (sym d))
