-- The front of a sheet, of the bytes that the code reads, on plain values. Assumes nothing.
use Prim.Native.Nat.{ℕ, ◌+◌, ◌-◌, ◌≤◌, ◌<◌}
use mathlib.Core.Path.{◌≡◌, refl, ap, ◌∙◌}
use mathlib.Core.List.{List}
use Rattle.std.specs.Prelude.{Option, Some, None}
use mathlib.Core.Bool.{true, false, and-false}
use native.Mathlib.Omega.{arith}
use lib.ListN.{length, get_or, take, drop, length-drop}
use lib.Seq.{drop-drop, length-take-le}
use lib.Dec.{leb, eqb}
use borrow.Author.Tests.{le-leb, lt-leb, eq-eqb, ne_eqb}
use Rattle.format.specs.Bytes.{be16}
use Rattle.format.specs.Sheet.{framed, good_text, good_header, good_front, front_header, behind_front}
use Rattle.format.proofs.SheetLaws.{text_good}
use Rattle.sheet.specs.Seen.{Headed, HeaderTold, Fronted, FrontTold}
use Rattle.sheet.specs.declared.Front.{Front}

-- ---- the header record of n bytes t

module _ (n : ℕ) (t : List ℕ) where
  pub header_kind : (get_or t 0 0 ≡ 0 → ⊥) → good_header n t ≡ false
  unfolding good_header
  header_kind h = simp (ne_eqb _ _ h)

  pub header_extended : get_or t 0 0 ≡ 0 → 1 < get_or t 1 0 → good_header n t ≡ false
  unfolding good_header
  header_extended k h = simp (k, lt-leb _ _ h)

  module _ (k : get_or t 0 0 ≡ 0) (x : get_or t 1 0 ≤ 1) where
    pub header_short : n < 4 + be16 (drop 2 t) → good_header n t ≡ false
    unfolding good_header
    header_short h = simp (k, le-leb _ _ x, lt-leb _ _ h)

    module _ (w : 4 + be16 (drop 2 t) ≤ n) where
      pub header_title : good_text 4096 (take (be16 (drop 2 t)) (drop 4 t)) ≡ false → good_header n t ≡ false
      unfolding good_header
      header_title h = simp (k, le-leb _ _ x, le-leb _ _ w, h)

      module _ (a : good_text 4096 (take (be16 (drop 2 t)) (drop 4 t)) ≡ true) where
        pub header_time : good_text 64 (take (n - (4 + be16 (drop 2 t))) (drop (4 + be16 (drop 2 t)) t)) ≡ false → good_header n t ≡ false
        unfolding good_header
        header_time h = simp (k, le-leb _ _ x, le-leb _ _ w, a, h)

        pub header_whole : n ≤ length t → good_text 64 (take (n - (4 + be16 (drop 2 t))) (drop (4 + be16 (drop 2 t)) t)) ≡ true
            → Headed n t (get_or t 1 0) (be16 (drop 2 t)) (n - (4 + be16 (drop 2 t)))
        unfolding good_header
        header_whole hn b =
            let m = be16 (drop 2 t) in
            let la = length-take-le m (drop 4 t) (simp length-drop (omega arith)) in
            let lb = length-take-le (n - (4 + m)) (drop (4 + m) t) (simp length-drop (omega arith)) in
            record {
              good = simp (k, le-leb _ _ x, le-leb _ _ w, a, b);
              header = refl;
              size = omega arith;
              extended_small = x;
              title_short = omega (arith, la, (text_good 4096 _ a).short);
              time_short = omega (arith, lb, (text_good 64 _ b).short);
            }

-- ---- the sheet

module _ (version : ℕ) (sheet : List ℕ) where
  pub front_version : (get_or sheet 0 0 ≡ version → ⊥) → good_front version sheet ≡ false
  unfolding good_front
  front_version h = simp (ne_eqb _ _ h)

  pub front_empty : length sheet ≡ 0 → good_front version sheet ≡ false
  unfolding good_front framed
  front_empty e =
      let l = length-drop 1 sheet in
      let f : leb 3 (length (drop 1 sheet)) ≡ false = lt-leb 3 (length (drop 1 sheet)) (omega arith) in
      rw f (and-false (eqb (get_or sheet 0 0) version))

  pub front_unframed : get_or sheet 0 0 ≡ version → framed (drop 1 sheet) ≡ false → good_front version sheet ≡ false
  unfolding good_front
  front_unframed v h = simp (eq-eqb _ _ v, h)

  module _ (v : get_or sheet 0 0 ≡ version) (f : framed (drop 1 sheet) ≡ true) where
    pub front_short : be16 (drop 1 sheet) < 4 → good_front version sheet ≡ false
    unfolding good_front
    front_short h = simp (eq-eqb _ _ v, f, lt-leb _ _ h)

    module _ (l : 4 ≤ be16 (drop 1 sheet)) where
      pub front_header_lem : good_header (be16 (drop 1 sheet)) (drop 3 sheet) ≡ false → good_front version sheet ≡ false
      unfolding good_front
      front_header_lem h = simp (eq-eqb _ _ v, f, le-leb _ _ l, h)

      pub front_whole : 3 + be16 (drop 1 sheet) ≤ length sheet → (x k m : ℕ) → Headed (be16 (drop 1 sheet)) (drop 3 sheet) x k m → Fronted version sheet x k m
      unfolding good_front front_header behind_front
      front_whole hl x k m h =
          let z : 3 + (4 + k) ≡ 7 + k = omega arith in
          let y : 3 + be16 (drop 1 sheet) ≡ 7 + k + m = omega (arith, h.size) in
          record {
            good = simp (eq-eqb _ _ v, f, le-leb _ _ l, h.good);
            header = h.header ∙ simp (drop-drop, z);
            behind = ap (λ (i : ℕ). drop i sheet) y;
            inside = omega arith;
            extended_small = h.extended_small;
            title_short = h.title_short;
            time_short = h.time_short;
          }

      pub front_told : 3 + be16 (drop 1 sheet) ≤ length sheet → (r : Option Front) → HeaderTold r (be16 (drop 1 sheet)) (drop 3 sheet) → FrontTold r version sheet
      front_told hl None h = front_header_lem h
      front_told hl (Some f) h = front_whole hl f.extended f.title f.time h
