-- What the code's answers say in document 01's terms. Assumes nothing.
use Rattle.std.specs.Prelude.{ℕ, ◌≤◌, ◌≡◌, List, length, take, Result, Ok, Err}
use Rattle.format.specs.Faults.{fault_number}
use Rattle.format.specs.declared.Fault.{Fault}
use Rattle.format.specs.Label.{label_limit}
use Rattle.format.specs.State.{State, station, section, named, Next, bad, end, on, made, leg_from}
use Rattle.format.specs.Fields.{record_of, state_of}
use Rattle.decode.specs.declared.Body.{Body}
use Rattle.decode.specs.declared.Body.TheVariants.{Only, Section as SectionBody, Station as StationBody, Line as LineBody}
use Rattle.item.specs.declared.Step.{Step}
use Rattle.item.specs.declared.Step.TheVariants.{End, On, Made}

-- ---- what an item comes to, where b is the label's buffer

abbrev pub seen : Result Step Fault → List ℕ → Next
seen (Err e) b = bad (fault_number e)
seen (Ok End) b = end
seen (Ok (On n m st)) b = on n (state_of st (take m b))
seen (Ok (Made n m st f kept)) b = made n (record_of f (take m b)) (state_of st (take m b))

-- the label's length
abbrev pub Short : Result Step Fault → Type 0
Short (Err e) = Unit
Short (Ok End) = Unit
Short (Ok (On n m st)) = m ≤ label_limit
Short (Ok (Made n m st f kept)) = m ≤ label_limit

-- an answer and the buffer after it tell what the item comes to
pub record Tells (r : Result Step Fault) (b : List ℕ) (x : Next) : Type 0 where
  pub same : seen r b ≡ x
  pub whole : length b ≡ 4096
  pub short : Short r

-- an answer tells how many bytes of the label its item kept (#107)
abbrev pub TellsKept : Result Step Fault → ℕ → Type 0
TellsKept (Err e) x = Unit
TellsKept (Ok End) x = Unit
TellsKept (Ok (On n m st)) x = Unit
TellsKept (Ok (Made n m st f kept)) x = kept ≡ x

-- what an item of n bytes comes to once it has the label l
abbrev pub made_of : Body → State → ℕ → List ℕ → Next
made_of Only st n l = on n (named l st)
made_of (SectionBody last size) st n l = made n (section (record { last = last; date = st.setting.date; size = size }) l) (named l st)
made_of (StationBody flags place) st n l = made n (station (record { flags = flags; place = place }) l) (named l st)
made_of (LineBody flags place) st n l = leg_from st.setting.position n st flags place l

-- ---- a step that does not touch the label's buffer: what it says of every buffer, where the label had len bytes

pub record Does (r : Result Step Fault) (f : List ℕ → Next) (len : ℕ) : Type 0 where
  pub same : (b : List ℕ) → seen r b ≡ f b
  pub short : len ≤ label_limit → Short r
