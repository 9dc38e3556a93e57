-- Laws of what an item does to the state: a style, a date, an emptied label and a leg, by what its numbers say, and an item with a label by
-- its label step. Assumes nothing.
use Rattle.std.specs.Prelude.{Option, None, Some}
use Prim.Native.Nat.{ℕ, ◌≤◌, ◌<◌}
use mathlib.Core.Path.{◌≡◌}
use mathlib.Core.List.{List, []}
use lib.ListN.{length}
use borrow.Author.Tests.{lt-ltb, le-ltb, eq-eqb, ne_eqb}
use Rattle.format.specs.Bytes.{pick}
use Rattle.format.specs.Label.{Labelled, too_short, too_long, labelled, label_step, label_limit}
use Rattle.format.specs.declared.Cut.{Cut}
use Rattle.format.specs.Items.{Stop, Style, Date}
use Rattle.format.specs.State.{State, leg, named, styled, dated_by, moved, Next, bad, end, on, made, date_of, bad_dates, on_label, leg_from, apply}
use Rattle.format.specs.declared.Point.{Point}
use Rattle.format.proofs.LabelLaws.{ShortLabelled, label_bound}

module _ (st : State) (n : ℕ) where
  -- ---- a style

  pub style_other : (k : ℕ) → (k ≡ 0 → ⊥) → apply st n (Style k) ≡ on n (styled k st)
  unfolding pick
  style_other k h = simp (ne_eqb k 0 h)

  pub style_first : (k : ℕ) → k ≡ 0 → (st.setting.style ≡ 0 → ⊥) → apply st n (Style k) ≡ on n (styled k st)
  unfolding pick
  style_first k z h = simp (eq-eqb k 0 z, ne_eqb st.setting.style 0 h)

  pub style_end : (k : ℕ) → k ≡ 0 → st.setting.style ≡ 0 → apply st n (Style k) ≡ end
  unfolding pick
  style_end k z h = simp (eq-eqb k 0 z, eq-eqb st.setting.style 0 h)

  -- ---- a date

  module _ (first last : ℕ) where
    pub date_before : last < first → apply st n (Date first last) ≡ bad 9
    unfolding bad_dates pick
    date_before h = simp (lt-ltb last first h)

    pub date_late : first ≤ last → 65535 < last → apply st n (Date first last) ≡ bad 9
    unfolding bad_dates pick
    date_late h k = simp (le-ltb last first h, lt-ltb 65535 last k)

    pub date_on : first ≤ last → last ≤ 65535 → apply st n (Date first last) ≡ on n (dated_by (date_of first last) st)
    unfolding bad_dates pick
    date_on h k = simp (le-ltb last first h, le-ltb 65535 last k)

  -- ---- v3 to v7, 00

  pub stop_end : length st.label ≡ 0 → apply st n Stop ≡ end
  unfolding pick
  stop_end e = simp (eq-eqb (length st.label) 0 e)

  pub stop_empties : (length st.label ≡ 0 → ⊥) → apply st n Stop ≡ on n (named [] st)
  unfolding pick label_step
  stop_empties h = simp (ne_eqb (length st.label) 0 h)

  -- ---- a leg, once it has its label

  module _ (flags : ℕ) (to : Point) (l : List ℕ) where
    pub leg_unset : st.setting.position ≡ None → leg_from st.setting.position n st flags to l ≡ bad 8
    leg_unset e = rw e

    pub leg_set : {from : Point} → st.setting.position ≡ Some from → leg_from st.setting.position n st flags to l
        ≡ made n (leg (record { flags = flags; style = st.setting.style; date = st.setting.date; from = from; to = to }) l) (moved to (named l st))
    leg_set e = rw e

-- ---- what holds of the refusals and of what else an item comes to holds of the item

module _ (P : Next → Type 0) where
  on_label_lem : (x : Labelled) (go : List ℕ → Next) → ShortLabelled x → P (bad 6) → P (bad 7) → ((m : List ℕ) → length m ≤ label_limit → P (go m))
      → P (on_label x go)
  on_label_lem too_short go z p q f = p
  on_label_lem too_long go z p q f = q
  on_label_lem (labelled m) go z p q f = f m z

  pub label_case : (l : List ℕ) (cut : Cut) (added : List ℕ) (go : List ℕ → Next) → P (bad 6) → P (bad 7) → ((m : List ℕ) → length m ≤ label_limit → P (go m))
      → P (on_label (label_step l cut added) go)
  label_case l cut added go p q f = on_label_lem (label_step l cut added) go (label_bound l cut added) p q f

  pub leg_case : (p : Option Point) (n : ℕ) (st : State) (flags : ℕ) (to : Point) (l : List ℕ) → P (bad 8)
      → ((from : Point) → P (made n (leg (record { flags = flags; style = st.setting.style; date = st.setting.date; from = from; to = to }) l)
      (moved to (named l st))))
      → P (leg_from p n st flags to l)
  leg_case None n st flags to l z f = z
  leg_case (Some from) n st flags to l z f = f from
