-- A label in a buffer that bytes are dropped from and others appended to: it always fits. Assumes nothing.
use Rattle.std.specs.Prelude.{Result, Ok, Err, IsOk}
use Rattle.std.proofs.Common.{inl, inr}
use mathlib.Core.Path.{◌≡◌, refl, sym, ap, ◌∙◌}
use mathlib.Core.List.{List, ◌++◌}
use Prim.Native.Nat.{ℕ, ◌+◌, ◌-◌, ◌≤◌}
use native.Mathlib.Omega.{arith}
use lib.ListN.{length, take, drop, length-append}
use lib.Seq.{take-take, take_at, length-take-le, drop-append_seam}
use Rattle.format.specs.Label.{labelled, label_step}
use Rattle.format.specs.declared.Fault.{Fault}
use Rattle.format.specs.declared.Fault.TheVariants.{LabelTooShort, LabelTooLong}
use Rattle.format.specs.declared.Cut.TheVariants.{Back}
use Rattle.format.proofs.WritingLaws.{Shares, label_read}
use Rattle.label.specs.Seen.{fault_seen, Tells}
use Rattle.label.specs.declared.Relabelled.{Relabelled}
use Rattle.scan.specs.Keeping.{Swaps}

module _ (b b' added : List ℕ) (len off : ℕ) (short : len ≤ 4096) (whole : length b ≡ 4096) (inside : off ≤ len) (fits : len - off + length added ≤ 4096) where
  abbrev m : List ℕ
  m = take (len - off) b ++ added

  kept_size : length (take (len - off) b) ≡ len - off
  kept_size = length-take-le (len - off) b (omega arith)

  stepped : label_step (take len b) (Back off) added ≡ labelled m
  stepped =
      let n = length-take-le len b (omega arith) in
      let size : length m ≡ len - off + length added = length-append (take (len - off) b) added ∙ ap (λ (i : ℕ). i + length added) kept_size in
      let e : length (take len b) - (len - off) ≡ off = omega (arith, n) in
      let d : drop (len - off) m ≡ added = ap (λ (i : ℕ). drop i m) (sym kept_size) ∙ drop-append_seam (take (len - off) b) added in
      let sh : Shares (take len b) m (len - off) =
      record {
        first = omega (arith, n);
        second = omega (arith, size);
        equal = take-take (len - off) len b (omega arith) ∙ sym (take_at (take (len - off) b) added (len - off) kept_size);
      } in
      rw (e, d) at (label_read (take len b) m (len - off) sh (omega (arith, size)))

  pub relabel_ok : (r : Result Relabelled Fault) → Tells r b' (label_step (take len b) (Back off) added) → IsOk r
  relabel_ok (Ok q) T = refl
  relabel_ok (Err f) T = absurd (elim T.short [ inl e ↦ apart LabelTooShort e (T.same ∙ stepped) | inr e ↦ apart LabelTooLong e (T.same ∙ stepped) ])
    where
      apart : (g : Fault) → f ≡ g → fault_seen f ≡ labelled m → ⊥
      apart LabelTooShort e q = cc
      apart g e q = cc

  pub relabel_fits : (q : Relabelled) → Tells (Ok q) b' (label_step (take len b) (Back off) added) → Swaps b' m q.len
  relabel_fits q T = let e : labelled (take q.len b') ≡ labelled m = T.same ∙ stepped in record { label_is = cc; label_short = T.short; label_whole = T.whole }

-- all of the old label is dropped
pub swap_whole : (b b' name : List ℕ) (len r : ℕ) → Swaps b' (take (len - len) b ++ name) r → Swaps b' name r
swap_whole b b' name len r S = let z : len - len ≡ 0 = omega arith in rw z at S
