-- A sheet whole for any writer, on plain values: its front and then its records. Assumes nothing.
use Prim.Native.Nat.{ℕ, ◌+◌, ◌-◌}
use mathlib.Core.Path.{◌≡◌, refl, ap, ◌∙◌}
use mathlib.Core.Bool.{false}
use mathlib.Core.List.{List}
use native.Mathlib.Omega.{arith}
use lib.ListN.{take, drop}
use Rattle.format.specs.Sheet.{records_of, good_front, front_header, behind_front, version_result, version_of, sheet_result}
use Rattle.format.specs.Refusals.{stop, refused, Refusal}
use Rattle.format.specs.Writing.{Writer, filed_outcome, written_outcome, headed}
use Rattle.std.specs.Prelude.{Result as Answered, Err}
use Rattle.format.specs.declared.Refusal.{Refusal as Refused}
use Rattle.format.specs.declared.Done.{Done}
use Rattle.format.proofs.Basics.{pick_true, pick_false}
use Rattle.sheet.specs.Seen.{Fronted}
use Rattle.part.specs.Lays.{Puts}
use Rattle.counts.specs.Tallies.{Rest, file_outcome, Passed}
use Rattle.format.proofs.RefusalLaws.{never}
use Rattle.counts.proofs.Files.{pass_whole}
use Rattle.write.proofs.Standing.{headed_stop}

-- the front is not good
pub pass_flawed : (w : Writer) (version : ℕ) (sheet d : List ℕ) → version ≡ version_of sheet → good_front version sheet ≡ false
    → Passed w (front_header sheet) (headed w (front_header sheet) (sheet_result sheet)) d d (Err (record { number = 12; place = 0 }))
unfolding written_outcome filed_outcome sheet_result version_result
pass_flawed w version sheet d v e =
    let h = front_header sheet in
    let q : sheet_result sheet ≡ stop (Refusal 12 0) = rw (← v) (pick_false (records_of version (behind_front sheet)) (stop (Refusal 12 0)) e) in
    let y : headed w h (sheet_result sheet) ≡ stop (Refusal 12 0) = rw q (headed_stop (w.bars h) w.number 12 0) in
    let z : refused 12 0 ≡ file_outcome w h (headed w h (sheet_result sheet)) = rw y in
    record { answer = z; kept = refl; written = λ b n u q h. absurd (never 12 0 b n u (z ∙ q)) }

-- the bytes of the header's texts, as the code cuts them out
pub header_cut : (version : ℕ) (sheet : List ℕ) (x k m : ℕ) → Fronted version sheet x k m
    → front_header sheet ≡ record { extended = x; title = take (7 + k - 7) (drop 7 sheet); time = take (7 + k + m - (7 + k)) (drop (7 + k) sheet) }
header_cut version sheet x k m F =
    let y : 7 + k - 7 ≡ k = omega arith in
    let z : 7 + k + m - (7 + k) ≡ m = omega arith in
    rw (y, z) F.header

-- it is, and the records stand behind it
pub pass_sheet : (w : Writer) (version : ℕ) (sheet d e f : List ℕ) (x k m most head : ℕ) (r : Answered Done Refused) → version ≡ version_of sheet → Fronted version sheet x k m
    → Puts d e (w.head (record { extended = x; title = take (7 + k - 7) (drop 7 sheet); time = take (7 + k + m - (7 + k)) (drop (7 + k) sheet) })) most head
    → Rest w (headed w (front_header sheet) (records_of version (drop (7 + k + m) sheet))) head e f r
    → Passed w (front_header sheet) (headed w (front_header sheet) (sheet_result sheet)) d f r
unfolding sheet_result version_result
pass_sheet w version sheet d e f x k m most head r v F P R =
    let h = front_header sheet in
    let q : sheet_result sheet ≡ records_of version (drop (7 + k + m) sheet) = rw (← v) (pick_true _ _ F.good ∙ ap (records_of version) F.behind) in
    rw q (pass_whole w h (headed w h (records_of version (drop (7 + k + m) sheet))) d e f most head r (rw (header_cut version sheet x k m F) P) R)
