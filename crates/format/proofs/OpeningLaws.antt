-- A header is settled by its own bytes: those from the first item's place on change nothing in how a file opens. Assumes nothing.
use Prim.Native.Nat.{ℕ, suc, ◌+◌, ◌-◌, ◌≤◌, ◌<◌}
use mathlib.Core.Path.{◌≡◌, refl, sym, ap, ◌∙◌}
use mathlib.Core.List.{List, [], ◌∷◌, ◌++◌}
use mathlib.Core.Bool.{Bool, true, false}
use native.Mathlib.Omega.{arith}
use lib.ListN.{length, get_or, take, drop, length-append, length-drop, take-append-drop, get_or-append}
use lib.Seq.{take-append-le, drop-append-le, length-take-le}
use lib.Dec.{eqb}
use borrow.Author.Tests.{lt-ltb, le-ltb, lt-leb}
use Rattle.format.specs.Bytes.{pick}
use Rattle.format.specs.Header.{Header, Opening, shut, opened, title_limit, time_limit, file_limit, line_end, good_line, extended_byte}
use Rattle.format.specs.Header.{closed_header, time_line, title_line, good_version, header_of, opening_of}
use Rattle.format.proofs.Basics.{pick_case, pick_false}
use Rattle.format.proofs.HeaderLaws.{opening_fits}

-- ---- where a file opens, the first item stands behind what the header's parts were read from

abbrev From : ℕ → Opening → Type 0
From m (shut n p) = Unit
From m (opened v p h) = m ≤ p

module _ (file : List ℕ) (m : ℕ) where
  extended_from : (k : ℕ) (g : Header) → m ≤ k + 1 → From m (extended_byte file k g)
  unfolding extended_byte
  extended_from k g h =
      pick_case (From m) _ _ _ (λ e. tt) λ e. pick_case (From m) _ _ _ (λ e. h) λ e. pick_case (From m) _ _ _ (λ e. h) λ e. tt

  closed_from : (version k : ℕ) (g : Header) → m ≤ k → From m (closed_header version file k g)
  unfolding closed_header
  closed_from version k g h = pick_case (From m) _ _ _ (λ e. extended_from k g (omega arith)) λ e. h

  time_from : (version k : ℕ) → m ≤ 26 + k → From m (time_line version file k)
  unfolding time_line
  time_from version k h = pick_case (From m) _ _ _ (λ e. closed_from version _ _ (omega arith)) λ e. tt

-- ---- two files that begin with u

-- a line that ends in w, whatever comes behind w
line_same : (w t t' : List ℕ) → line_end (w ++ t) < length w → line_end (w ++ t') ≡ line_end (w ++ t)
unfolding line_end pick
line_same [] t t' h = absurd (omega arith)
line_same (b ∷ w) t t' h = go (eqb b 10) h (line_same w t t')
  where
    go : (c : Bool) → pick c 0 (suc (line_end (w ++ t))) < suc (length w) → (line_end (w ++ t) < length w → line_end (w ++ t') ≡ line_end (w ++ t))
        → pick c 0 (suc (line_end (w ++ t'))) ≡ pick c 0 (suc (line_end (w ++ t)))
    go true h f = refl
    go false h f = ap suc (f (omega arith))

module _ (u t t' : List ℕ) where
  get_same : (i : ℕ) → i < length u → get_or (u ++ t') i 0 ≡ get_or (u ++ t) i 0
  get_same i h = get_or-append u t' 0 i h ∙ sym (get_or-append u t 0 i h)

  take_same : (n : ℕ) → n ≤ length u → take n (u ++ t') ≡ take n (u ++ t)
  take_same n h = take-append-le n u t' h ∙ sym (take-append-le n u t h)

  good_line_same : (limit : ℕ) → line_end (u ++ t) < length u → good_line limit (u ++ t') ≡ good_line limit (u ++ t)
  unfolding good_line
  good_line_same limit h =
      let n = line_end (u ++ t) in
      let l = length-append u t in
      let l' = length-append u t' in
      rw (line_same u t t' h, take_same n (omega arith), lt-ltb n (length (u ++ t)) (omega arith), lt-ltb n (length (u ++ t')) (omega arith))

-- two lists whose first lines are one
record SameLine (limit : ℕ) (s s' : List ℕ) : Type 0 where
  end_is : line_end s' ≡ line_end s
  good_is : good_line limit s' ≡ good_line limit s
  text_is : take (line_end s) s' ≡ take (line_end s) s

module _ (u t t' : List ℕ) where
  -- the lines from k on, where they end in u
  line_at : (limit k : ℕ) → k + line_end (drop k (u ++ t)) < length u → SameLine limit (drop k (u ++ t)) (drop k (u ++ t'))
  line_at limit k h =
      let w = drop k u in
      let e : drop k (u ++ t) ≡ w ++ t = drop-append-le k u t (omega arith) in
      let e' : drop k (u ++ t') ≡ w ++ t' = drop-append-le k u t' (omega arith) in
      let l = length-drop k u in
      let q : line_end (w ++ t) < length w = let z : line_end (drop k (u ++ t)) < length w = omega arith in rw e at z in
      rw (e, e') (record { end_is = line_same w t t' q; good_is = good_line_same w t t' limit q; text_is = take_same w t t' (line_end (w ++ t)) (omega arith) })

  part_same : (k n : ℕ) → k + n ≤ length u → take n (drop k (u ++ t')) ≡ take n (drop k (u ++ t))
  part_same k n h =
      let l = length-drop k u in
      rw (drop-append-le k u t (omega arith), drop-append-le k u t' (omega arith)) (take_same (drop k u) t t' n (omega arith))

  extended_same : (k : ℕ) (g : Header) → k < length u → extended_byte (u ++ t') k g ≡ extended_byte (u ++ t) k g
  unfolding extended_byte
  extended_same k g h =
      let l = length-append u t in
      let l' = length-append u t' in
      pick_false _ _ (lt-leb (length (u ++ t')) k (omega arith))
      ∙ (rw (get_same u t t' k h) refl ∙ sym (pick_false _ _ (lt-leb (length (u ++ t)) k (omega arith))))

-- what opens as `opened v p h` with u, which has p bytes or more, and t behind it, opens so with t' behind it
module _ (u t t' : List ℕ) (v p : ℕ) (h : Header) (inside : p ≤ length u) where
  abbrev Opens : Opening → Opening → Type 0
  Opens o o' = o ≡ opened v p h → o' ≡ opened v p h

  -- a place that a part of the header stands before
  placed : (m : ℕ) (o : Opening) → From m o → o ≡ opened v p h → m ≤ length u
  placed m o f e = let z : m ≤ p = rw e at f in omega arith

  -- a test that both answer alike, and one that has to hold
  opens_pick : (c : Bool) (a b a' b' : Opening) → Opens a a' → Opens b b' → Opens (pick c a b) (pick c a' b')
  unfolding pick
  opens_pick true a b a' b' f g = f
  opens_pick false a b a' b' f g = g

  opens_where : (c c' : Bool) (a a' : Opening) (n q : ℕ) → (a ≡ opened v p h → (c' ≡ c) × (a' ≡ opened v p h))
      → Opens (pick c a (shut n q)) (pick c' a' (shut n q))
  unfolding pick
  opens_where true c' a a' n q f e = let z = f e in rw z.0 z.1
  opens_where false c' a a' n q f e = absurd (let z : ◌≡◌ {A = ℕ} 0 1 = cc in omega arith)

  closed_settled : (version k : ℕ) (g : Header) → Opens (closed_header version (u ++ t) k g) (closed_header version (u ++ t') k g)
  unfolding closed_header
  closed_settled version k g =
      opens_pick (eqb version 8) _ _ _ _ (λ e.
      let z = placed (k + 1) (extended_byte (u ++ t) k g) (extended_from (u ++ t) (k + 1) k g (omega arith)) e in
      extended_same u t t' k g (omega arith) ∙ e) λ e. e

  time_settled : (version k : ℕ) → Opens (time_line version (u ++ t) k) (time_line version (u ++ t') k)
  unfolding time_line
  time_settled version k =
      let s = drop (25 + k) (u ++ t) in
      let at = 26 + k + line_end s in
      let g : Header = record { extended = 0; title = take k (drop 24 (u ++ t)); time = take (line_end s) s } in
      opens_where _ _ _ _ _ _ λ e.
      let z = placed at (closed_header version (u ++ t) at g) (closed_from (u ++ t) at version at g (omega arith)) e in
      let L = line_at u t t' time_limit (25 + k) (omega arith) in
      (L.good_is, rw (L.end_is, L.text_is, part_same u t t' 24 k (omega arith)) (closed_settled version at g e))

  title_settled : (version : ℕ) → Opens (title_line version (u ++ t)) (title_line version (u ++ t'))
  unfolding title_line
  title_settled version =
      let k = line_end (drop 24 (u ++ t)) in
      opens_where _ _ _ _ _ _ λ e.
      let z = placed (26 + k) (time_line version (u ++ t) k) (time_from (u ++ t) (26 + k) version k (omega arith)) e in
      let L = line_at u t t' title_limit 24 (omega arith) in
      (L.good_is, rw L.end_is (time_settled version k e))

  header_settled : 26 ≤ p → Opens (header_of (u ++ t)) (header_of (u ++ t'))
  unfolding header_of good_version
  header_settled l =
      rw (
        take_same u t t' 21 (omega arith),
        get_same u t t' 21 (omega arith),
        get_same u t t' 22 (omega arith),
        get_same u t t' 23 (omega arith),
      )
      (opens_pick _ _ _ _ _ (opens_pick _ _ _ _ _ (title_settled (get_or (u ++ t) 22 0 - 48)) λ e. e) λ e. e)

-- bytes from the first item's place on change nothing in how a file opens
pub opening_settled : (file file' : List ℕ) {v p : ℕ} {h : Header} → length file' ≤ file_limit → opening_of file ≡ opened v p h → take p file ≡ take p file'
    → opening_of file' ≡ opened v p h
unfolding opening_of
opening_settled file file' {v} {p} {h} few e agree =
    let F = opening_fits file e in
    let l = length-take-le p file F.inside in
    let q : take p file ++ drop p file' ≡ file' = ap (λ (u : List ℕ). u ++ drop p file') agree ∙ take-append-drop p file' in
    let S = rw (take-append-drop p file, q) at (header_settled (take p file) (drop p file) (drop p file') v p h (omega arith) F.from) in
    let shown : header_of file ≡ opened v p h = sym (pick_false _ _ (le-ltb file_limit (length file) F.few)) ∙ e in
    pick_false _ _ (le-ltb file_limit (length file') few) ∙ S shown
