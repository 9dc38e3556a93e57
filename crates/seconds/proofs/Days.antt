-- The rule for the days before a month, the days of years and months, and how large the days of a real date are. Assumes nothing.
use Prim.Native.Nat.{ℕ, zero, suc, ◌+◌, ◌-◌, ◌*◌, ◌/◌, ◌%◌, ◌≤◌, ◌<◌}
use mathlib.Core.Path.{◌≡◌, refl}
use mathlib.Core.Bool.{Bool, true, ◌&&◌}
use mathlib.Core.Logic.{◌⊎◌, inl, inr}
use native.Mathlib.Nat.{le_of_suc-le-suc, not-suc-le-zero, eq-or-lt_of_le}
use native.Mathlib.Omega.{arith}
use lib.ListN.{get_or}
use lib.Dec.{eqb, ltb, leb}
use borrow.Author.Tests.{eqb-true, eqb-false, leb-true, lt-ltb, le-ltb}
use Rattle.format.specs.Bytes.{pick}
use Rattle.format.specs.Times.{leap, month_lengths, month_length, month_days, year_days, day_number, real_date}
use Rattle.format.proofs.Basics.{both, pick_case}

-- ---- a rule at every number below a bound, by one test that is computed

abbrev all : ℕ → (ℕ → Bool) → Bool
all zero f = true
all (suc n) f = f n && all n f

at : (n : ℕ) (f : ℕ → Bool) → all n f ≡ true → (k : ℕ) → k < n → f k ≡ true
at zero f t k h = absurd (not-suc-le-zero h)
at (suc n) f t k h = go (eq-or-lt_of_le (le_of_suc-le-suc h)) (at n f (both (f n) (all n f) t).1 k)
  where
    go : (k ≡ n) ⊎ (k < n) → (k < n → f k ≡ true) → f k ≡ true
    go (inl e) rest = rw e (both (f n) (all n f) t).0
    go (inr l) rest = rest l

-- ---- months

-- #103: the rule that `days_before` computes, tied by one test to the lengths of the months, for every month of both kinds of year;
-- 13 is the January after
abbrev rule : ℕ → ℕ → ℕ
rule row month = pick (ltb month 3) (31 * (month - 1)) (59 + row + (153 * (month - 3) + 2) / 5)

abbrev ruled : ℕ → ℕ → Bool
ruled row month = eqb (rule row month) (month_days row (month - 1))

rule_all : all 2 (λ row. all 14 (ruled row)) ≡ true
unfolding month_lengths month_days pick
rule_all = refl

module _ (row month : ℕ) (hr : row < 2) (hm : month ≤ 13) where
  rule_at : rule row month ≡ month_days row (month - 1)
  rule_at = eqb-true (rule row month) (month_days row (month - 1)) (at 14 (ruled row) (at 2 (λ k. all 14 (ruled k)) rule_all row hr) month (omega arith))

  pub before_march : month < 3 → 31 * (month - 1) ≡ month_days row (month - 1)
  unfolding pick
  before_march h = rw (lt-ltb month 3 h) at rule_at

  pub from_march : 3 ≤ month → 59 + row + (153 * (month - 3) + 2) / 5 ≡ month_days row (month - 1)
  unfolding pick
  from_march h = rw (le-ltb month 3 h) at rule_at

-- no month has more than 31 days, and no month has more than 335 before it
abbrev small : ℕ → ℕ → Bool
small row m = leb (get_or (month_lengths row) m 0) 31 && leb (month_days row m) 335

small_all : all 2 (λ row. all 12 (small row)) ≡ true
unfolding month_lengths month_days
small_all = refl

module _ (row m : ℕ) (hr : row < 2) (h1 : 1 ≤ m) (hm : m ≤ 12) where
  small_at : small row (m - 1) ≡ true
  small_at = at 12 (small row) (at 2 (λ k. all 12 (small k)) small_all row hr) (m - 1) (omega arith)

  pub month_short : month_length row m ≤ 31
  unfolding month_length
  month_short = leb-true (get_or (month_lengths row) (m - 1) 0) 31
      (both (leb (get_or (month_lengths row) (m - 1) 0) 31) (leb (month_days row (m - 1)) 335) small_at).0

  pub months_short : month_days row (m - 1) ≤ 335
  months_short = leb-true (month_days row (m - 1)) 335 (both (leb (get_or (month_lengths row) (m - 1) 0) 31) (leb (month_days row (m - 1)) 335) small_at).1

-- one month more
pub months_next : (row m : ℕ) → 1 ≤ m → month_days row m ≡ month_days row (m - 1) + month_length row m
unfolding month_days month_length
months_next row zero h = absurd (omega arith)
months_next row (suc m) h = let e : suc m - 1 ≡ m = omega arith in rw e

-- ---- years

pub leap_row : (year : ℕ) → leap year < 2
unfolding leap
leap_row year = pick_case (λ (n : ℕ). n < 2) _ _ _ (λ e. omega arith) λ e. omega arith

-- every fourth year from 1972 on has a day more
pub years : (n : ℕ) → 365 * n + (n + 1) / 4 ≡ year_days n
unfolding year_days leap
years zero = refl
years (suc n) =
    let h = years n in
    pick_case (λ (x : ℕ). 365 * suc n + (suc n + 1) / 4 ≡ year_days n + (365 + x)) (eqb ((1970 + n) % 4) 0) 1 0
    (λ e. let z = eqb-true ((1970 + n) % 4) 0 e in omega arith) λ e. let z = eqb-false ((1970 + n) % 4) 0 e in omega arith

-- ---- a real date

pub record Real (year month day : ℕ) : Type 0 where
  pub from : 1970 ≤ year
  pub to : year ≤ 2099
  pub first : 1 ≤ month
  pub last : month ≤ 12
  pub least : 1 ≤ day
  pub most : day ≤ 31

pub real : (year month day : ℕ) → real_date year month day ≡ true → Real year month day
unfolding real_date
real year month day e =
    let p = both (leb 1970 year && leb year 2099) _ e in
    let q = both (leb 1970 year) (leb year 2099) p.0 in
    let r = both (leb 1 month && leb month 12) _ p.1 in
    let s = both (leb 1 month) (leb month 12) r.0 in
    let t = both (leb 1 day) (leb day (month_length (leap year) month)) r.1 in
    let h1 : 1 ≤ month = leb-true 1 month s.0 in
    let h12 : month ≤ 12 = leb-true month 12 s.1 in
    let d : day ≤ month_length (leap year) month = leb-true day (month_length (leap year) month) t.1 in
    let z = month_short (leap year) month (leap_row year) h1 h12 in
    record {
      from = leb-true 1970 year q.0;
      to = leb-true year 2099 q.1;
      first = h1;
      last = h12;
      least = leb-true 1 day t.0;
      most = omega arith;
    }

pub day_small : (year month day : ℕ) → Real year month day → day_number year month day ≤ 47482
unfolding day_number
day_small year month day d =
    omega (arith, years (year - 1970), months_short (leap year) month (leap_row year) d.first d.last)
