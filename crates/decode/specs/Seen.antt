-- What an item that is read says in document 01's terms. Assumes nothing.
use Rattle.std.specs.Prelude.{ℕ, ◌+◌, ◌≤◌, ◌≡◌, List, length, take, drop, Result, Ok, Err}
use Rattle.format.specs.Items.{Item, Stop as stop_item, Shorten as shorten_item, Style as style_item, Move as move_item, NoDate as no_date_item, Date as date_item, Error as error_item, Decoded, faulty, whole}
use Rattle.format.specs.Faults.{fault_number}
use Rattle.format.specs.declared.Fault.{Fault}
use Rattle.format.specs.declared.Cut.{Cut}
use Rattle.format.specs.declared.Cut.TheVariants.{Empty, ToDot, Trim, Back}
use Rattle.decode.specs.Bodies.{body_item}
use Rattle.decode.specs.declared.Body.{Body}
use Rattle.decode.specs.declared.Body.TheVariants.{Only, Section as SectionBody, Station as StationBody, Line as LineBody}
use Rattle.decode.specs.declared.Item.{Item as Told}
use Rattle.decode.specs.declared.Item.TheVariants.{Stop, Style, Move, NoDate, Date, Error as ErrorTold, Relabel}

-- ---- an item, of whose bytes s it is

-- how many bytes a label part drops
abbrev pub dropped : Cut → ℕ
dropped Empty = 0
dropped (ToDot n) = 0
dropped (Trim n) = 0
dropped (Back d) = d

-- an item that changes the label by a cut and appends bytes
abbrev pub relabel_item : Body → Cut → List ℕ → Item
relabel_item Only cut added = shorten_item cut
relabel_item (SectionBody last size) cut added = body_item (SectionBody last size) (dropped cut) added
relabel_item (StationBody flags place) cut added = body_item (StationBody flags place) (dropped cut) added
relabel_item (LineBody flags place) cut added = body_item (LineBody flags place) (dropped cut) added

abbrev pub item_seen : Result Told Fault → List ℕ → Decoded
item_seen (Err e) s = faulty (fault_number e)
item_seen (Ok Stop) s = whole 1 stop_item
item_seen (Ok (Style style)) s = whole 1 (style_item style)
item_seen (Ok (Move place)) s = whole 13 (move_item place)
item_seen (Ok NoDate) s = whole 1 no_date_item
item_seen (Ok (Date n first last)) s = whole n (date_item first last)
item_seen (Ok (ErrorTold traverse)) s = whole 21 (error_item traverse)
item_seen (Ok (Relabel n cut from count body)) s = whole n (relabel_item body cut (take count (drop from s)))

-- what only cuts appends nothing, and what else has a label cuts as a label part does
abbrev pub Suits : Body → Cut → ℕ → Type 0
Suits Only cut count = count ≡ 0
Suits (SectionBody last size) cut count = cut ≡ Back (dropped cut)
Suits (StationBody flags place) cut count = cut ≡ Back (dropped cut)
Suits (LineBody flags place) cut count = cut ≡ Back (dropped cut)

-- the bytes to append are the item's own
abbrev pub Sound : Result Told Fault → List ℕ → Type 0
Sound (Err e) s = Unit
Sound (Ok Stop) s = Unit
Sound (Ok (Style style)) s = Unit
Sound (Ok (Move place)) s = Unit
Sound (Ok NoDate) s = Unit
Sound (Ok (Date n first last)) s = Unit
Sound (Ok (ErrorTold traverse)) s = Unit
Sound (Ok (Relabel n cut from count body)) s = (from + count ≤ length s) × Suits body cut count

pub record Reads (r : Result Told Fault) (s : List ℕ) (x : Decoded) : Type 0 where
  pub same : item_seen r s ≡ x
  pub sound : Sound r s
