-- A file that the writing rules give, cut before one of its records: what stands from there on is what they give for the records that are
-- left, in the state that reading has reached there. So two files in the same state before the same records go on alike. Assumes nothing.
use Rattle.format.specs.Refusals.{Good}
use Prim.Native.Nat.{ℕ, zero, suc, ◌+◌, ◌≤◌, ◌<◌}
use mathlib.Core.Path.{◌≡◌, refl, ◌∙◌, subst}
use mathlib.Core.List.{List, [], ◌∷◌}
use mathlib.Core.Bool.{false}
use native.Mathlib.Omega.{arith}
use lib.ListN.{length, take, drop}
use Rattle.format.specs.Bytes.{pick}
use Rattle.format.specs.Header.{Header}
use Rattle.format.specs.Label.{label_limit}
use Rattle.format.specs.State.{State, start_setting, start, Record, leg, station, section, error}
use Rattle.format.specs.WellFormed.{WellFormed, AllWellFormed}
use Rattle.format.specs.Reading.{run}
use Rattle.format.specs.Writing.{v8, after_all, file_of, records_verdict}
use Rattle.format.specs.Codes.{codes, after, unsayable}
use Rattle.format.specs.Editing.{codes_place}
use Rattle.format.proofs.ReadingLaws.{SizedNext, next_sized}
use Rattle.format.proofs.GoingLaws.{Goes, past, adds}
use Rattle.format.proofs.WritingLaws.{able, after_short, codes_go}
use Rattle.format.proofs.ReadBack.{encode_read, v8_reads_back}
use Rattle.format.proofs.EditingLaws.{formed_drop, from_record}
use Rattle.format.proofs.RoundTrip.{map_same}
use Rattle.judge.specs.Walking.{GoodSetting}

-- ---- records left

-- that nothing is refused with 13 hangs on no number
pub sayable_any : (m n : ℕ) (st : State) (rs : List Record) → records_verdict v8 n st rs ≡ Good → records_verdict v8 m st rs ≡ Good
unfolding records_verdict pick
sayable_any m n st [] e = refl
sayable_any m n st (r ∷ rs) e = let s = able v8 n st r rs e in rw s.0 (sayable_any (m + 1) (n + 1) (after st r) rs s.1)

pub sayable_drop : (j m n : ℕ) (st : State) (rs : List Record) → records_verdict v8 n st rs ≡ Good
    → records_verdict v8 m (after_all v8 st (take j rs)) (drop j rs) ≡ Good
unfolding after_all records_verdict
sayable_drop zero m n st rs e = sayable_any m n st rs e
sayable_drop (suc j) m n st [] e = refl
sayable_drop (suc j) m n st (r ∷ rs) e = sayable_drop j m (n + 1) (after st r) rs (able v8 n st r rs e).1

-- the label stays short
pub after_fits : (j : ℕ) (st : State) (rs : List Record) → length st.label ≤ label_limit → AllWellFormed rs
    → length (after_all v8 st (take j rs)).label ≤ label_limit
unfolding after_all
after_fits zero st rs h w = h
after_fits (suc j) st [] h w = h
after_fits (suc j) st (r ∷ rs) h w = after_fits j (after st r) rs (after_short st r h w.0) w.1

-- ---- a record has codes

goes_some : {version : ℕ} {s : List ℕ} {st st' : State} {r : Record} {rs : List Record} {k : ℕ} → Goes version s st (r ∷ rs) k st' → 0 < k
goes_some {version} {s} {st} (past n st₁ e f) = let z = goes_some f in omega arith
goes_some {version} {s} {st} (adds n r st₁ e f) = let z = subst (SizedNext (length s)) e (next_sized version s st) in omega (arith, z)

pub codes_some : (st : State) (r : Record) → length st.label ≤ label_limit → WellFormed r → unsayable st.setting.style r ≡ false → 0 < length (codes st r)
codes_some st r h w u = goes_some (codes_go st r h w u [])

-- ---- a file from a record on

module _ (h : Header) (rs : List Record) (j : ℕ) (w : AllWellFormed rs) (e : records_verdict v8 0 start rs ≡ Good) where
  -- reading it from there on, in the state that writing had, makes the records that are left
  pub read_from_lem : (at : ℕ)
      → run 8 at (drop (codes_place h rs j) (file_of v8 h rs)) (after_all v8 start (take j rs)) ≡ record { records = drop j rs; verdict = Good }
  read_from_lem at =
      rw (from_record h rs j)
      (encode_read v8_reads_back (drop j rs) 0 (after_all v8 start (take j rs)) (after_fits j start rs (omega arith) w) (formed_drop j rs w)
      (sayable_drop j 0 0 start rs e) at ∙ rw (map_same (drop j rs)))

-- ---- style, date and position stay as reading leaves them

pub good_start : GoodSetting start_setting
good_start = record { style_fits = omega arith; date_fits = tt; position_fits = tt }

pub good_after : (st : State) (r : Record) → GoodSetting st.setting → WellFormed r → GoodSetting (after st r).setting
good_after st (leg g label) s w = record { style_fits = w.style_fits; date_fits = w.date_fits; position_fits = w.to_fits }
good_after st (station x label) s w = s
good_after st (section x label) s w = record { style_fits = s.style_fits; date_fits = w.date_fits; position_fits = s.position_fits }
good_after st (error t) s w = s

pub good_all : (j : ℕ) (st : State) (rs : List Record) → GoodSetting st.setting → AllWellFormed rs → GoodSetting (after_all v8 st (take j rs)).setting
unfolding after_all
good_all zero st rs s w = s
good_all (suc j) st [] s w = s
good_all (suc j) st (r ∷ rs) s w = good_all j (after st r) rs (good_after st r s w.0) w.1
