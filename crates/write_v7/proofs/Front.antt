-- A sheet's front for v7: its header is written without the mark of an extended elevation, and such a one is refused. Assumes nothing.
use Prim.Native.Nat.{ℕ, ◌+◌, ◌-◌}
use mathlib.Core.Path.{◌≡◌, refl, ap}
use mathlib.Core.List.{List}
use lib.Dec.{eqb}
use lib.ListN.{take, drop}
use Rattle.format.specs.Header.{Header}
use Rattle.format.specs.Sheet.{records_of, front_header, version_of, sheet_result}
use Rattle.format.specs.V7Codes.{v7_header_codes}
use Rattle.format.specs.Writing.{v7, headed_by, headed}
use Rattle.std.specs.Prelude.{Result as Answered}
use Rattle.format.specs.declared.Refusal.{Refusal}
use Rattle.format.specs.declared.Done.{Done}
use Rattle.sheet.specs.Seen.{Fronted}
use Rattle.part.specs.Lays.{Puts}
use Rattle.counts.specs.Tallies.{Rest, Passed}
use Rattle.write.proofs.Whole.{header_cut, pass_sheet}

unmarked : (x : ℕ) (title time : List ℕ)
    → v7_header_codes (record { extended = 0; title = title; time = time }) ≡ v7_header_codes (record { extended = x; title = title; time = time })
unfolding v7_header_codes
unmarked x title time = refl

pub pass_v7 : (version : ℕ) (sheet d e f : List ℕ) (x k m most head : ℕ) (r : Answered Done Refusal) → version ≡ version_of sheet → Fronted version sheet x k m
    → Puts d e
    (v7_header_codes (record { extended = 0; title = take (7 + k - 7) (drop 7 sheet); time = take (7 + k + m - (7 + k)) (drop (7 + k) sheet) })) most head
    → Rest v7 (headed_by (eqb x 1) 23 (records_of version (drop (7 + k + m) sheet))) head e f r
    → Passed v7 (front_header sheet) (headed v7 (front_header sheet) (sheet_result sheet)) d f r
pass_v7 version sheet d e f x k m most head r v F P R =
    let z : (front_header sheet).extended ≡ x = ap (λ (h : Header). h.extended) (header_cut version sheet x k m F) in
    let Q = rw (unmarked x (take (7 + k - 7) (drop 7 sheet)) (take (7 + k + m - (7 + k)) (drop (7 + k) sheet))) at P in
    pass_sheet v7 version sheet d e f x k m most head r v F Q (rw z R)
