-- What a good version and a good line have, the other way round from the code's tests, and what each line leads to. Assumes nothing.
use Prim.Native.Nat.{ℕ, ◌+◌, ◌-◌, ◌≤◌, ◌<◌}
use mathlib.Core.Path.{◌≡◌, refl}
use mathlib.Core.List.{List}
use mathlib.Core.Bool.{Bool, true, false, ◌&&◌, not}
use native.Mathlib.Omega.{arith}
use native.Mathlib.Nat.{le_of_lt}
use lib.ListN.{length, get_or, take, drop, get_or-eq_default}
use lib.Seq.{length-take-le, get_or-take}
use lib.Dec.{eqb, ltb, leb}
use borrow.Author.Tests.{lt-ltb, le-ltb, le-leb, lt-leb, eq-eqb, ne_eqb, ltb-true, leb-true}
use Rattle.format.specs.Bytes.{pick}
use Rattle.format.specs.Header.{line_end, ends_in_return, good_line, good_version, title_line, time_line, closed_header, shut}
use Rattle.format.proofs.Basics.{both, less_or_not}
use Rattle.header.specs.Head.{line_of, saying}
use Rattle.std.specs.Prelude.{Some, None}

-- ---- the version

and-false : (a b c : Bool) → (a && (b && (c && false))) ≡ false
and-false true true true = refl
and-false true true false = refl
and-false true false c = refl
and-false false b c = refl

pub version_short : (file : List ℕ) → length file < 24 → good_version file ≡ false
unfolding good_version
version_short file h =
    let z : length file ≤ 23 = omega arith in
    let e : eqb (get_or file 23 0) 10 ≡ false = rw (get_or-eq_default file 0 z) in
    rw e (and-false (eqb (get_or file 21 0) 118) (leb 51 (get_or file 22 0)) (leb (get_or file 22 0) 56))

pub record Versioned (file : List ℕ) : Type 0 where
  pub low : 51 ≤ get_or file 22 0
  pub high : get_or file 22 0 ≤ 56
  pub behind : 24 ≤ length file

pub versioned : (file : List ℕ) → good_version file ≡ true → Versioned file
unfolding good_version
versioned file g =
    let v = get_or file 22 0 in
    let d = eqb (get_or file 23 0) 10 in
    let p = both (eqb (get_or file 21 0) 118) (leb 51 v && (leb v 56 && d)) g in
    let q = both (leb 51 v) (leb v 56 && d) p.1 in
    let r = both (leb v 56) d q.1 in
    record {
      low = leb-true 51 v q.0;
      high = leb-true v 56 r.0;
      behind = less_or_not (length file) 24 (λ h. absurd (let f = version_short file h in let z : ◌≡◌ {A = ℕ} 0 1 = cc in omega arith)) (λ h. h);
    }

-- ---- a line

module _ (limit : ℕ) (s : List ℕ) where
  pub line_unended : length s ≤ line_end s → None ≡ line_of limit s
  unfolding line_of good_line pick
  line_unended h = simp (le-ltb _ _ h)

  module _ (h : line_end s < length s) where
    pub line_long : limit < line_end s → None ≡ line_of limit s
    unfolding line_of good_line pick
    line_long k = simp (lt-ltb _ _ h, lt-leb _ _ k)

    module _ (k : line_end s ≤ limit) where
      last_byte : get_or (take (line_end s) s) (length (take (line_end s) s) - 1) 0 ≡ get_or (take (line_end s) s) (line_end s - 1) 0
      last_byte = rw (length-take-le (line_end s) s (le_of_lt h))

      pub line_empty : line_end s ≡ 0 → Some 0 ≡ line_of limit s
      unfolding line_of good_line pick ends_in_return
      line_empty e = rw (lt-ltb _ _ h, le-leb _ _ k, e)

      module _ (o : 0 < line_end s) where
        returned : ends_in_return (take (line_end s) s) ≡ eqb (get_or s (line_end s - 1) 0) 13
        unfolding ends_in_return
        returned =
            let z : line_end s - 1 < line_end s = omega arith in
            rw (last_byte, get_or-take (line_end s) s (line_end s - 1) 0 z)

        pub line_returned : get_or s (line_end s - 1) 0 ≡ 13 → None ≡ line_of limit s
        unfolding line_of good_line pick
        line_returned e = simp (lt-ltb _ _ h, le-leb _ _ k, returned, eq-eqb _ _ e)

        pub line_ends : (get_or s (line_end s - 1) 0 ≡ 13 → ⊥) → Some (line_end s) ≡ line_of limit s
        unfolding line_of good_line pick
        line_ends e = simp (lt-ltb _ _ h, le-leb _ _ k, returned, ne_eqb _ _ e)

-- ---- what a line that was found has, and what it leads to

pub record Line (limit : ℕ) (s : List ℕ) (n : ℕ) : Type 0 where
  pub is : n ≡ line_end s
  pub ended : n < length s
  pub short : n ≤ limit
  pub good : good_line limit s ≡ true

module _ (limit : ℕ) (s : List ℕ) where
  good_short : good_line limit s ≡ true → (line_end s < length s) × (line_end s ≤ limit)
  unfolding good_line
  good_short g =
      let r = not (ends_in_return (take (line_end s) s)) in
      let p = both (ltb (line_end s) (length s)) (leb (line_end s) limit && r) g in
      (ltb-true _ _ p.0, leb-true _ _ (both (leb (line_end s) limit) r p.1).0)

  pub line_found : (n : ℕ) → Some n ≡ line_of limit s → Line limit s n
  unfolding line_of pick
  line_found n = go (good_line limit s) refl
    where
      go : (b : Bool) → good_line limit s ≡ b → Some n ≡ pick b (Some (line_end s)) None → Line limit s n
      go true g e =
          let q : n ≡ line_end s = cc in
          let p = good_short g in
          record { is = q; ended = omega arith; short = omega arith; good = g }
      go false g e = absurd (let z : ◌≡◌ {A = ℕ} 0 1 = cc in omega arith)

  pub line_broken : None ≡ line_of limit s → good_line limit s ≡ false
  unfolding line_of pick
  line_broken = go (good_line limit s)
    where
      go : (b : Bool) → None ≡ pick b (Some (line_end s)) None → b ≡ false
      go true e = cc
      go false e = refl

module _ (v : ℕ) (file : List ℕ) where
  pub title_broken : None ≡ line_of 4096 (drop 24 file) → shut 3 24 ≡ title_line v file
  unfolding title_line pick
  title_broken e = simp (line_broken 4096 (drop 24 file) e)

  pub title_found : (t : ℕ) → Line 4096 (drop 24 file) t → time_line v file t ≡ title_line v file
  unfolding title_line pick
  title_found t l = simp (l.good, ← l.is)

  module _ (t : ℕ) where
    pub time_broken : None ≡ line_of 64 (drop (25 + t) file) → shut 3 (25 + t) ≡ time_line v file t
    unfolding time_line pick
    time_broken e = simp (line_broken 64 (drop (25 + t) file) e)

    pub time_found : (m : ℕ) → Line 64 (drop (25 + t) file) m → closed_header v file (26 + t + m) (saying 0 t m file) ≡ time_line v file t
    unfolding time_line pick
    time_found m l = simp (l.good, ← l.is)
