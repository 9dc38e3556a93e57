-- A record whose label part takes one byte, and its codes, on plain values. Assumes nothing.
use Rattle.std.specs.Prelude.{Option}
use Rattle.format.specs.declared.Point.{Point}
use Prim.Native.Nat.{ℕ, ◌+◌, ◌-◌, ◌*◌, ◌≤◌}
use mathlib.Core.Path.{◌≡◌, sym, ap, ◌∙◌}
use mathlib.Core.List.{List, ◌∷◌, ◌++◌}
use mathlib.Core.Bool.{true, false, ◌&&◌}
use native.Mathlib.Omega.{arith}
use lib.ListN.{length, take, drop, length-take, length-drop}
use lib.Seq.{drop-drop, drop_at, take-add, length-take-le}
use lib.Dec.{leb}
use borrow.Author.Tests.{leb-true, le-ltb}
use Rattle.format.specs.Bytes.{same}
use Rattle.format.specs.Codes.{common, short_part, label_codes, codes}
use Rattle.format.specs.Fields.{record_of, state_of}
use Rattle.format.specs.declared.Setting.{Setting}
use Rattle.format.proofs.Basics.{both, less_or_not}
use Rattle.wire.proofs.Laws.{common_within}
use Rattle.part.proofs.Labels.{first_longer, second_longer, part_short}
use Rattle.sheet.specs.Seen.{label_of}
use Rattle.plain.specs.Plainly.{label_at, tail_of, Goes, Headed, Plainly, plain_codes}
use Rattle.plain.specs.declared.Form.{Form}

unequal : false ≡ true → ⊥
unequal e = let z : ◌≡◌ {A = ℕ} 0 1 = cc in omega (arith, z)

-- ---- a label part of one byte

record Few (d a : ℕ) : Type 0 where
  dropped : d ≤ 15
  added : a ≤ 15

few : (d a : ℕ) → short_part d a ≡ true → Few d a
few d a e =
    let f = both (leb d 15) (leb a 15) (both (leb d 15 && leb a 15) _ e).0 in
    record { dropped = leb-true d 15 f.0; added = leb-true a 15 f.1 }

-- the labels differ
differ : (l m : List ℕ) → short_part (length l - common l m) (length m - common l m) ≡ true → same l m ≡ false
differ l m e =
    let w = common_within l m in
    less_or_not (common l m) (length l)
    (λ h. sym (first_longer l m h))
    λ h. less_or_not (common l m) (length m)
    (λ k. sym (second_longer l m k))
    λ k. let x : length l - common l m ≤ 0 = omega arith in
    let y : length m - common l m ≤ 0 = omega arith in
    absurd (unequal (rw (le-ltb 0 (length l - common l m) x, le-ltb 0 (length m - common l m) y) at
    (both (leb (length l - common l m) 15 && leb (length m - common l m) 15) _ e).1))

-- what is left of a front of m
pub drop_take : (k m : ℕ) (l : List ℕ) → k ≤ m → m ≤ length l → drop k (take m l) ≡ take (m - k) (drop k l)
drop_take k m l h j =
    let z : k + (m - k) ≡ m = omega arith in
    ap (λ (i : ℕ). drop k (take i l)) (sym z) ∙ ap (drop k) (take-add k (m - k) l)
    ∙ drop_at (take k l) (take (m - k) (drop k l)) k (length-take-le k l (omega arith))

module _ (version : ℕ) (s : List ℕ) (mark : ℕ) (position : Option Point) (last : List ℕ) (size kept code : ℕ) (form : Form) where
  abbrev pub name : List ℕ
  name = label_of size (label_at form) s

  pub name_long : size ≤ length s → length name ≡ size - label_at form
  name_long h = simp (length-take, length-drop) (omega arith)

  pub plainly : Headed version s mark position size code form → size ≤ length s → kept ≡ common last name → short_part (length last - kept)
      (length name - kept) ≡ true
      → Plainly version s mark position last size kept code form
  plainly H h e q =
      let w = common_within last name in
      let i = H.inside in
      let n = name_long h in
      let q' = rw n at q in
      let f = few _ _ q' in
      record {
        headed = H;
        within = h;
        kept_is = e;
        kept_first = omega (arith, e, w.0);
        kept_second = omega (arith, e, w.1, n, i);
        short = q';
        few_dropped = f.dropped;
        few_added = f.added;
        other = differ last name (rw e at q);
      }

  -- its codes: the code, the label part, the bytes that are added, and the tail
  module _ (P : Plainly version s mark position last size kept code form) (setting : Setting) (G : Goes version s setting size code form) where
    label_is : label_codes last name (common last name) ≡ (16 * (length last - kept) + (size - label_at form - kept)) ∷ drop kept name
    unfolding label_codes
    label_is =
        rw (← P.kept_is, name_long P.within)
        (ap (λ (x : List ℕ). x ++ drop kept name) (sym (part_short (length last - kept) (size - label_at form - kept) (sym P.short))))

    plain_codes_lem : codes (state_of setting last) (record_of G.fields name) ≡ code ∷ (16 * (length last - kept) + (size - label_at form - kept)) ∷
        (drop kept name ++ tail_of form s)
    plain_codes_lem = G.codes_are last name P.other ∙ ap (λ (x : List ℕ). code ∷ (x ++ tail_of form s)) label_is

    -- the same, where the bytes that are added stand in the record
    added_is : drop kept name ≡ take (size - (label_at form + kept)) (drop (label_at form + kept) s)
    added_is =
        let z : size - label_at form - kept ≡ size - (label_at form + kept) = omega arith in
        drop_take kept (size - label_at form) (drop (label_at form) s) (omega (arith, P.kept_second)) (simp length-drop (omega (arith, P.within)))
        ∙ rw (drop-drop kept (label_at form) s, z)

    pub plain_item : codes (state_of setting last) (record_of G.fields name)
        ≡ plain_codes (record { size = size; kept = kept; code = code; form = form }) (length last) s
    plain_item =
        let n : length (take (size - (label_at form + kept)) (drop (label_at form + kept) s)) ≡ size - label_at form - kept =
        simp (length-take, length-drop) (omega (arith, P.within)) in
        rw n (rw added_is at plain_codes_lem)
