-- Laws of answers, by the room that there is. Assumes nothing.
use Prim.Native.Nat.{ℕ}
use mathlib.Core.Path.{◌≡◌, refl, sym, ◌∙◌}
use lib.Dec.{ltb}
use borrow.Author.Tests.{le-ltb}
use native.Mathlib.Omega.{arith}
use Rattle.format.specs.Bytes.{pick}
use Rattle.format.specs.Refusals.{Outcome, accepted, refused, outcome_of, Good, Refusal, Verdict}
use Rattle.format.proofs.Basics.{pick_false}

pub never : (k p b n v : ℕ) → refused k p ≡ accepted b n v → ⊥
never k p b n v e = let z : ◌≡◌ {A = ℕ} 0 1 = cc in omega arith

-- with just the room that is needed
pub outcome_fits : (bytes records version : ℕ) → outcome_of Good bytes records version bytes ≡ accepted bytes records version
outcome_fits bytes records version = pick_false _ _ (le-ltb bytes bytes (omega arith))

pub outcome_bytes : (w : Verdict) (bytes records version b n v : ℕ) → outcome_of w bytes records version bytes ≡ accepted b n v → b ≡ bytes
outcome_bytes Good bytes records version b n v e = let z = sym (outcome_fits bytes records version) ∙ e in cc
outcome_bytes (Refusal k p) bytes records version b n v e = absurd (never k p b n v e)

-- that answer, where there is so much room
abbrev pub capped : Outcome → ℕ → Outcome
capped (accepted b n v) room = pick (ltb room b) (refused 11 b) (accepted b n v)
capped (refused k p) room = refused k p

pub outcome_capped : (w : Verdict) (bytes records version room : ℕ)
    → outcome_of w bytes records version room ≡ capped (outcome_of w bytes records version bytes) room
outcome_capped Good bytes records version room = rw (outcome_fits bytes records version)
outcome_capped (Refusal k p) bytes records version room = refl
