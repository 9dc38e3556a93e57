-- The commonest items as steps: each is the item that the general step would take, and there is room for its record. Assumes nothing.
use Rattle.std.specs.Prelude.{Option, Some, None, Ok}
use Prim.Native.Nat.{ℕ, ◌+◌, ◌-◌, ◌≤◌}
use mathlib.Core.Path.{◌≡◌, refl, sym, ap, ◌∙◌}
use mathlib.Core.List.{List}
use lib.ListN.{length, take, drop}
use Rattle.format.specs.Items.{item_of}
use Rattle.format.specs.Outline.{drop_leaves}
use Rattle.format.specs.State.{Next}
use Rattle.format.specs.Reading.{next}
use Rattle.format.specs.Fields.{state_of}
use Rattle.format.specs.declared.Setting.{Setting}
use Rattle.format.specs.declared.Stepped.TheVariants.{Record as RecordStep, Nothing}
use Rattle.item.specs.Seen.{Tells}
use Rattle.item.specs.Commonest.{moved_to}
use Rattle.item.specs.declared.Step.TheVariants.{On, Made}
use Rattle.laying.specs.Quickly.{laid_by, LaidAs, Quickly}
use Rattle.laying.specs.declared.Quick.{Quick}
use Rattle.laying.specs.declared.Quick.TheVariants.{Leg as QuickLeg, Made as QuickMade, Trim, Move}
use Rattle.step.specs.Standing.{lesser}
use Rattle.step.specs.Shortly.{Took, Shortly}
use Rattle.step.specs.declared.Phase.TheVariants.{Going}
use Rattle.step.specs.declared.Stand.{Stand as Held}
use Rattle.step.proofs.Laws.{step_within, step_after_lem, ample_room}

module _ (h : Held) (label file old : List ℕ) (g : h.phase ≡ Going) (full : length label ≡ 4096) (ample : 4130 ≤ length old) (few : length file ≤ 9223372036854775807) where
  abbrev at : ℕ
  at = lesser h.place (length file)

  abbrev item : Next
  item = next h.version (take (length file - at) (drop at file)) (state_of h.setting (take (lesser h.len 4096) label))

  abbrev stays : ℕ
  stays = drop_leaves (take (lesser h.len 4096) label) (item_of h.version (take (length file - at) (drop at file)))

  took_made : (size m : ℕ) (after : Setting) (bytes kept : ℕ) (b new : List ℕ) → LaidAs size m after bytes kept item stays b old new 0
      → Took h label file old size m after (RecordStep bytes kept) b new
  took_made size m after bytes kept b new L =
      let w = step_within h label file old g full b (Made size m after L.fields kept) L.told few in
      record {
        going = g;
        within = w.0;
        short = w.1;
        steps =
            step_after_lem h label file old g full b (Made size m after L.fields kept) L.told L.kept_is (ample_room (length old) ample _ _ _) _ refl _ new
            (record { answer = rw L.bytes_are; stand = refl; buffer = L.laid ∙ ap (λ (y : Next). laid_by y old 0) (sym L.told.same) });
      }

  -- no record: the label has m bytes then
  took_on : (size m : ℕ) (after : Setting) (b new : List ℕ) → Tells (Ok (On size m after)) b item → new ≡ old → Took h label file old size m after Nothing b new
  took_on size m after b new T e =
      record {
        going = g;
        within = step_within h label file old g full b (On size m after) T few;
        short = T.short;
        steps = step_after_lem h label file old g full b (On size m after) T tt (ample_room (length old) ample _ _ _) _ refl _ new (refl, refl, e);
      }

  -- whatever the answer is
  pub shortly : (r : Option Quick) (b new : List ℕ) → Quickly r item stays h.setting label b old new 0 → Shortly r h label file old b new
  shortly None b new Q = Q
  shortly (Some (QuickLeg size m to kept)) b new Q = took_made size m (moved_to h.setting to) (34 + m) kept b new Q
  shortly (Some (QuickMade size m bytes kept)) b new Q = took_made size m h.setting bytes kept b new Q
  shortly (Some (Trim m)) b new Q = took_on 1 m h.setting b new Q.0 Q.1
  shortly (Some (Move m to)) b new Q = took_on 13 m (moved_to h.setting to) b new Q.0 Q.1
