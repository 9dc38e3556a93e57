-- Laws of headers: a good header's codes are read back, and what an opened file says of itself. Assumes nothing.
use Prim.Native.Nat.{ℕ, zero, suc, ◌+◌, ◌*◌, ◌-◌, ◌≤◌, ◌<◌}
use mathlib.Core.Path.{◌≡◌, refl, sym, ap, ◌∙◌}
use mathlib.Core.List.{List, [], ◌∷◌, ◌++◌, append_assoc}
use mathlib.Core.Bool.{Bool, true, false}
use native.Mathlib.Omega.{arith}
use lib.ListN.{length, get_or, take, drop, length-append, length-drop}
use lib.Seq.{take_at, drop_at, get_or_at, length-take-le}
use lib.Dec.{eqb, ltb, leb}
use borrow.Author.Tests.{eqb-false, ltb-true, ltb-false, leb-true, leb-false, lt-ltb, le-ltb, le-leb, lt-leb, not-true}
use Rattle.format.specs.Bytes.{pick}
use Rattle.format.specs.Header.{Header, Opening, shut, opened, magic, title_limit, time_limit, file_limit, line_end, good_line, extended_byte}
use Rattle.format.specs.Header.{closed_header, time_line, title_line, good_version, header_of, opening_of}
use Rattle.format.specs.Sheet.{good_text}
use Rattle.format.specs.Refusals.{reader_number}
use Rattle.format.specs.WellFormed.{GoodHeader}
use Rattle.format.specs.V7Codes.{v7_header_codes}
use Rattle.format.specs.Codes.{header_codes}
use Rattle.format.proofs.Basics.{pick_case, pick_true, pick_false, both, and_true, same_refl}
use Rattle.format.proofs.SheetLaws.{GoodText, text_good, good_text_lem}

-- ---- lines

-- a text without linefeed, and a linefeed: its line ends where the text ends
pub line_end_lem : (l rest : List ℕ) → line_end l ≡ length l → line_end (l ++ (10 ∷ rest)) ≡ length l
unfolding line_end pick
line_end_lem [] rest e = refl
line_end_lem (b ∷ l) rest e = go (eqb b 10) e (line_end_lem l rest)
  where
    go : (c : Bool) → pick c 0 (suc (line_end l)) ≡ suc (length l) → (line_end l ≡ length l → line_end (l ++ (10 ∷ rest)) ≡ length l)
        → pick c 0 (suc (line_end (l ++ (10 ∷ rest)))) ≡ suc (length l)
    go true e h = absurd (omega arith)
    go false e h = ap suc (h (omega arith))

-- the other way: what stands before the first linefeed has none
pub line_none : (s : List ℕ) → line_end (take (line_end s) s) ≡ line_end s
unfolding line_end pick
line_none [] = refl
line_none (b ∷ s) = pick_case (λ (n : ℕ). line_end (take n (b ∷ s)) ≡ n) (eqb b 10) 0 (suc (line_end s)) (λ e. refl) λ e. rw e (ap suc (line_none s))

line_inside : (s : List ℕ) → line_end s ≤ length s
unfolding line_end
line_inside [] = omega arith
line_inside (b ∷ s) = pick_case (λ (n : ℕ). n ≤ length (b ∷ s)) _ _ _ (λ e. omega arith) λ e. omega (arith, line_inside s)

-- a good text, and a linefeed, are a good line
module _ (limit : ℕ) (l rest : List ℕ) (g : GoodText limit l) where
  text_end : line_end (l ++ (10 ∷ rest)) ≡ length l
  text_end = line_end_lem l rest g.no_linefeed

  text_line : take (line_end (l ++ (10 ∷ rest))) (l ++ (10 ∷ rest)) ≡ l
  text_line = rw text_end (take_at l (10 ∷ rest) (length l) refl)

  text_good_line : good_line limit (l ++ (10 ∷ rest)) ≡ true
  unfolding good_line
  text_good_line =
      let s = l ++ (10 ∷ rest) in
      let e = length-append l (10 ∷ rest) in
      and_true (lt-ltb (line_end s) (length s) (omega (arith, text_end)))
      (and_true (le-leb (line_end s) limit (omega (arith, text_end, g.short))) (rw (text_line, g.no_return)))

-- a good line is a good text, and a linefeed
pub record GoodLine (limit : ℕ) (s : List ℕ) : Type 0 where
  pub ended : line_end s < length s
  pub short : line_end s ≤ limit
  pub size : length (take (line_end s) s) ≡ line_end s
  pub text : good_text limit (take (line_end s) s) ≡ true

pub line_good : (limit : ℕ) (s : List ℕ) → good_line limit s ≡ true → GoodLine limit s
unfolding good_line
line_good limit s e =
    let f = both (ltb (line_end s) (length s)) _ e in
    let g = both (leb (line_end s) limit) _ f.1 in
    let l : length (take (line_end s) s) ≡ line_end s = length-take-le (line_end s) s (line_inside s) in
    let short : line_end s ≤ limit = leb-true _ _ g.0 in
    record {
      ended = ltb-true _ _ f.0;
      short = short;
      size = l;
      text = good_text_lem limit (take (line_end s) s) (record { no_linefeed = line_none s ∙ sym l; short = omega arith; no_return = not-true _ g.1 });
    }

-- ---- a good header's codes, read

-- the two lines, in any version; `digit` is the byte that says it, and `third` what follows the time line
module _ (h : Header) (g : GoodHeader h) (digit : ℕ) (third : List ℕ) where
  title_text : GoodText title_limit h.title
  title_text = text_good title_limit h.title g.title_good

  time_text : GoodText time_limit h.time
  time_text = text_good time_limit h.time g.time_good

  abbrev second : List ℕ
  second = h.time ++ (10 ∷ third)

  abbrev first : List ℕ
  first = h.title ++ (10 ∷ second)

  abbrev file : List ℕ
  file = magic ++ (118 ∷ digit ∷ 10 ∷ first)

  abbrev plain : Header
  plain = record { extended = 0; title = h.title; time = h.time }

  -- the file as what stands before the time line and the rest, and as what stands before `third` and the rest
  abbrev before_time : List ℕ
  before_time = magic ++ (118 ∷ digit ∷ 10 ∷ (h.title ++ (10 ∷ [])))

  abbrev before_third : List ℕ
  before_third = magic ++ (118 ∷ digit ∷ 10 ∷ (h.title ++ (10 ∷ (h.time ++ (10 ∷ [])))))

  at_second : drop (25 + length h.title) file ≡ second
  unfolding magic
  at_second =
      let e : before_time ++ second ≡ file = simp append_assoc in
      rw (← e) (drop_at before_time second (25 + length h.title) (omega (arith, length-append h.title (10 ∷ []))))

  file_joined : before_third ++ third ≡ file
  file_joined = simp append_assoc

  before_length : length before_third ≡ 26 + length h.title + length h.time
  unfolding magic
  before_length = omega (arith, length-append h.title (10 ∷ (h.time ++ (10 ∷ []))), length-append h.time (10 ∷ []))

  at_first : drop 24 file ≡ first
  unfolding magic
  at_first = refl

  time_back : (version : ℕ) → time_line version file (length h.title) ≡ closed_header version file (26 + length h.title + length h.time) plain
  unfolding time_line
  time_back version =
      pick_true _ _ (rw at_second (text_good_line time_limit h.time third time_text))
      ∙ rw (
        at_second,
        text_line time_limit h.time third time_text,
        text_end time_limit h.time third time_text,
        at_first,
        take_at h.title (10 ∷ second) (length h.title) refl,
      )

  title_back : (version : ℕ) → title_line version file ≡ closed_header version file (26 + length h.title + length h.time) plain
  unfolding title_line
  title_back version =
      pick_true _ _ (rw at_first (text_good_line title_limit h.title second title_text))
      ∙ rw (at_first, text_end title_limit h.title second title_text) (time_back version)

  at_magic : take 21 file ≡ magic
  unfolding magic
  at_magic = refl

  at_digit : get_or file 22 0 ≡ digit
  unfolding magic
  at_digit = refl

  lines_read : (version : ℕ) → good_version file ≡ true → digit - 48 ≡ version
      → header_of file ≡ closed_header version file (26 + length h.title + length h.time) plain
  unfolding header_of
  lines_read version good e =
      pick_true _ _ (rw at_magic (same_refl magic)) ∙ (pick_true _ _ good ∙ rw (at_digit, e) (title_back version))

-- v8 has one byte more
module _ (h : Header) (g : GoodHeader h) (rest : List ℕ) where
  abbrev third_v8 : List ℕ
  third_v8 = h.extended * 0x80 ∷ rest

  abbrev file_v8 : List ℕ
  file_v8 = file h g 56 third_v8

  file_is : header_codes h ++ rest ≡ file_v8
  unfolding header_codes magic
  file_is = simp append_assoc

  start_is : length (header_codes h) ≡ 27 + length h.title + length h.time
  unfolding header_codes magic
  start_is =
      omega (arith, length-append h.title (10 ∷ (h.time ++ (10 ∷ h.extended * 128 ∷ []))), length-append h.time (10 ∷ h.extended * 128 ∷ []))

  at_third : get_or file_v8 (26 + length h.title + length h.time) 0 ≡ h.extended * 128
  at_third =
      rw (← file_joined h g 56 third_v8)
      (get_or_at (before_third h g 56 third_v8) (h.extended * 128) rest 0 (26 + length h.title + length h.time) (before_length h g 56 third_v8))

  file_length : length file_v8 ≡ length (header_codes h) + length rest
  file_length = ap length (sym file_is) ∙ length-append (header_codes h) rest

  extended_cases : (x : ℕ) → x ≤ 1 → (p : ℕ)
      → pick (eqb (x * 128) 0) (opened 8 p (record { extended = 0; title = h.title; time = h.time }))
      (pick (eqb (x * 128) 128) (opened 8 p (record { extended = 1; title = h.title; time = h.time })) (shut 4 (26 + length h.title + length h.time)))
      ≡ opened 8 p (record { extended = x; title = h.title; time = h.time })
  unfolding pick
  extended_cases zero hx p = refl
  extended_cases (suc zero) hx p = refl
  extended_cases (suc (suc x)) hx p = absurd (omega arith)

  extended_back : extended_byte file_v8 (26 + length h.title + length h.time) (record { extended = 0; title = h.title; time = h.time }) ≡ opened 8
      (length (header_codes h)) h
  unfolding extended_byte
  extended_back =
      let p = 26 + length h.title + length h.time in
      let e : p + 1 ≡ length (header_codes h) = omega (arith, start_is) in
      pick_false _ _ (lt-leb (length file_v8) p (omega (arith, file_length, start_is)))
      ∙ rw (at_third, e) (extended_cases h.extended g.extended_fits (length (header_codes h)))

  good_v8 : good_version file_v8 ≡ true
  unfolding magic good_version
  good_v8 = refl

  pub header_read : header_of (header_codes h ++ rest) ≡ opened 8 (length (header_codes h)) h
  unfolding closed_header
  header_read = rw file_is (lines_read h g 56 third_v8 8 good_v8 refl ∙ (pick_true _ _ refl ∙ extended_back))

  pub opening_read : length (header_codes h ++ rest) ≤ 16777216 → opening_of (header_codes h ++ rest) ≡ opened 8 (length (header_codes h)) h
  unfolding opening_of
  opening_read l = pick_false _ _ (le-ltb file_limit (length (header_codes h ++ rest)) l) ∙ header_read

-- v7 has none, and is never extended
module _ (h : Header) (g : GoodHeader h) (unextended : h.extended ≡ 0) (rest : List ℕ) where
  v7_file_is : v7_header_codes h ++ rest ≡ file h g 55 rest
  unfolding v7_header_codes magic
  v7_file_is = simp append_assoc

  v7_start_is : 26 + length h.title + length h.time ≡ length (v7_header_codes h)
  unfolding v7_header_codes magic
  v7_start_is = omega (arith, length-append h.title (10 ∷ (h.time ++ (10 ∷ []))), length-append h.time (10 ∷ []))

  good_v7 : good_version (file h g 55 rest) ≡ true
  unfolding magic good_version
  good_v7 = refl

  v7_header_read : header_of (v7_header_codes h ++ rest) ≡ opened 7 (length (v7_header_codes h)) h
  unfolding closed_header
  v7_header_read =
      let same_header : record { extended = 0; title = h.title; time = h.time } ≡ h =
      λ i. record { extended = sym unextended i; title = h.title; time = h.time } in
      rw v7_file_is (lines_read h g 55 rest 7 good_v7 refl ∙ (pick_false _ _ refl ∙ rw (v7_start_is, same_header)))

  pub v7_opening_read : length (v7_header_codes h ++ rest) ≤ file_limit → opening_of (v7_header_codes h ++ rest) ≡ opened 7 (length (v7_header_codes h)) h
  unfolding opening_of
  v7_opening_read l = pick_false _ _ (le-ltb file_limit (length (v7_header_codes h ++ rest)) l) ∙ v7_header_read

-- ---- a file that is opened

-- a title line and a time line at the front of a file, which end before `place`
pub record Lines (file title time : List ℕ) (place : ℕ) : Type 0 where
  pub title_good : good_text title_limit title ≡ true
  pub time_good : good_text time_limit time ≡ true
  pub title_size : length title ≤ 4096
  pub time_size : length time ≤ 64
  pub title_is : title ≡ take (length title) (drop 24 file)
  pub time_is : time ≡ take (length time) (drop (25 + length title) file)
  pub place_is : place ≡ 26 + length title + length time
  pub place_inside : place ≤ length file

-- what an opened file says of itself
pub record Fits (file : List ℕ) (version place : ℕ) (h : Header) : Type 0 where
  pub least : 3 ≤ version
  pub most : version ≤ 8
  pub header : GoodHeader h
  pub lines : Lines file h.title h.time (26 + length h.title + length h.time)
  -- the first item's place: behind the time line, and in v8 behind one byte more
  pub place_old : version < 8 → place ≡ 26 + length h.title + length h.time
  pub place_new : version ≡ 8 → place ≡ 27 + length h.title + length h.time
  pub from : 26 ≤ place
  pub inside : place ≤ length file
  pub few : length file ≤ 16777216

abbrev pub FitsOpening : List ℕ → Opening → Type 0
FitsOpening file (shut n p) = reader_number n ≡ true
FitsOpening file (opened v p h) = Fits file v p h

module _ (file : List ℕ) (few : length file ≤ 16777216) where
  -- with the extended bit x
  with_bit : (x : ℕ) → x ≤ 1 → (title time : List ℕ) (p : ℕ) → Lines file title time p → p < length file
      → Fits file 8 (p + 1) (record { extended = x; title = title; time = time })
  with_bit x hx title time p l h =
      let e = l.place_is in
      record {
        least = omega arith;
        most = omega arith;
        header = record { extended_fits = hx; title_good = l.title_good; time_good = l.time_good };
        lines = rw e at l;
        place_old = λ (lt : 8 < 8). absurd (omega arith);
        place_new = λ q. omega arith;
        from = omega arith;
        inside = omega arith;
        few = few;
      }

  without_bit : (version : ℕ) → 3 ≤ version → version < 8 → (title time : List ℕ) (p : ℕ) → Lines file title time p
      → Fits file version p (record { extended = 0; title = title; time = time })
  without_bit version h3 h8 title time p l =
      let e = l.place_is in
      record {
        least = h3;
        most = omega arith;
        header = record { extended_fits = omega arith; title_good = l.title_good; time_good = l.time_good };
        lines = rw e at l;
        place_old = λ q. e;
        place_new = λ q. absurd (omega arith);
        from = omega arith;
        inside = l.place_inside;
        few = few;
      }

  extended_fits_at : (title time : List ℕ) (p : ℕ) → Lines file title time p
      → FitsOpening file (extended_byte file p (record { extended = 0; title = title; time = time }))
  unfolding extended_byte
  extended_fits_at title time p l =
      pick_case (FitsOpening file) _ _ _ (λ e. refl) λ e0.
      let h : p < length file = leb-false (length file) p e0 in
      pick_case (FitsOpening file) _ _ _ (λ e. with_bit 0 (omega arith) title time p l h) λ e.
      pick_case (FitsOpening file) _ _ _ (λ e. with_bit 1 (omega arith) title time p l h) λ e. refl

  closed_fits : (version : ℕ) → 3 ≤ version → version ≤ 8 → (title time : List ℕ) (p : ℕ) → Lines file title time p
      → FitsOpening file (closed_header version file p (record { extended = 0; title = title; time = time }))
  unfolding closed_header
  closed_fits version h3 h8 title time p l =
      pick_case (FitsOpening file) _ _ _ (λ e. extended_fits_at title time p l)
      λ e. without_bit version h3 (let z = eqb-false version 8 e in omega arith) title time p l

  module _ (t : GoodLine title_limit (drop 24 file)) where
    abbrev k : ℕ
    k = line_end (drop 24 file)

    abbrev u : List ℕ
    u = drop (25 + k) file

    lines_at : GoodLine time_limit u → Lines file (take k (drop 24 file)) (take (line_end u) u) (26 + k + line_end u)
    lines_at m =
        let lt = length-drop 24 file in
        let lu = length-drop (25 + k) file in
        let et = t.size in
        let em = m.size in
        record {
          title_good = t.text;
          time_good = m.text;
          title_size = omega (arith, t.short);
          time_size = omega (arith, m.short);
          title_is = rw et;
          time_is = rw (et, em);
          place_is = omega arith;
          place_inside = omega (arith, m.ended);
        }

    time_fits : (version : ℕ) → 3 ≤ version → version ≤ 8 → FitsOpening file (time_line version file k)
    unfolding time_line
    time_fits version h3 h8 =
        pick_case (FitsOpening file) _ _ _ (λ e. closed_fits version h3 h8 _ _ _ (lines_at (line_good time_limit u e))) λ e. refl

  title_fits : (version : ℕ) → 3 ≤ version → version ≤ 8 → FitsOpening file (title_line version file)
  unfolding title_line
  title_fits version h3 h8 =
      pick_case (FitsOpening file) _ _ _ (λ e. time_fits (line_good title_limit (drop 24 file) e) version h3 h8) λ e. refl

  version_fits : good_version file ≡ true → (3 ≤ get_or file 22 0 - 48) × (get_or file 22 0 - 48 ≤ 8)
  unfolding good_version
  version_fits e =
      let f = both (eqb (get_or file 21 0) 118) _ e in
      let g = both (leb 51 (get_or file 22 0)) _ f.1 in
      let i = both (leb (get_or file 22 0) 56) _ g.1 in
      let a : 51 ≤ get_or file 22 0 = leb-true _ _ g.0 in
      let b : get_or file 22 0 ≤ 56 = leb-true _ _ i.0 in
      (omega arith, omega arith)

  header_fits : FitsOpening file (header_of file)
  unfolding header_of
  header_fits =
      pick_case (FitsOpening file) _ _ _ (λ e0.
      pick_case (FitsOpening file) _ _ _ (λ e. let v = version_fits e in title_fits (get_or file 22 0 - 48) v.0 v.1) λ e. refl) λ e. refl

pub fits_opening : (file : List ℕ) → FitsOpening file (opening_of file)
unfolding opening_of
fits_opening file = pick_case (FitsOpening file) _ _ _ (λ e. refl) λ e. header_fits file (ltb-false file_limit (length file) e)

pub opening_fits : (file : List ℕ) {v p : ℕ} {h : Header} → opening_of file ≡ opened v p h → Fits file v p h
opening_fits file e = rw e at (fits_opening file)
