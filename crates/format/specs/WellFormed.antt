-- What a sheet can hold, document 01, "State and sheet", said of values. The laws `layout_records` and `records_layout` tie it to the bytes.
-- Assumes nothing.
use Rattle.std.specs.Prelude.{ℕ, ◌≤◌, ◌<◌, ◌≡◌, List, [], ◌∷◌, true, length}
use Rattle.format.specs.Header.{Header, title_limit, time_limit}
use Rattle.format.specs.Label.{label_limit}
use Rattle.format.specs.State.{Record, leg, station, section, error}
use Rattle.format.specs.Sheet.{good_text}
use Rattle.format.specs.declared.Point.{Point}
use Rattle.format.specs.declared.Dimensions.{Dimensions}
use Rattle.format.specs.declared.Traverse.{Traverse}
use Rattle.format.specs.declared.Leg.{Leg}
use Rattle.format.specs.declared.Station.{Station}
use Rattle.format.specs.declared.Section.{Section}
use Rattle.format.specs.declared.Dated.{Dated}
use Rattle.format.specs.declared.Dated.TheVariants.{Undated, Day, Range}

pub record GoodPoint (p : Point) : Type 0 where
  pub x_fits : p.x < 4294967296
  pub y_fits : p.y < 4294967296
  pub z_fits : p.z < 4294967296

pub record GoodDimensions (d : Dimensions) : Type 0 where
  pub left_fits : d.left < 4294967296
  pub right_fits : d.right < 4294967296
  pub up_fits : d.up < 4294967296
  pub down_fits : d.down < 4294967296

pub record GoodTraverse (t : Traverse) : Type 0 where
  pub legs_fit : t.legs < 4294967296
  pub total_fits : t.total < 4294967296
  pub e_fits : t.e < 4294967296
  pub h_fits : t.h < 4294967296
  pub v_fits : t.v < 4294967296

abbrev pub GoodDated : Dated → Type 0
GoodDated Undated = Unit
GoodDated (Day d) = d < 65536
GoodDated (Range d e) = (d < e) × (e < 65536)

pub record GoodLeg (g : Leg) (label : List ℕ) : Type 0 where
  pub flags_fit : g.flags ≤ 0x07
  pub style_fits : g.style ≤ 5
  pub date_fits : GoodDated g.date
  pub from_fits : GoodPoint g.from
  pub to_fits : GoodPoint g.to
  pub label_fits : length label ≤ label_limit

pub record GoodStation (s : Station) (label : List ℕ) : Type 0 where
  pub flags_fit : s.flags ≤ 0x7f
  pub place_fits : GoodPoint s.place
  pub label_fits : length label ≤ label_limit

pub record GoodSection (s : Section) (label : List ℕ) : Type 0 where
  pub last_fits : s.last ≤ 1
  pub date_fits : GoodDated s.date
  pub dimensions_fit : GoodDimensions s.size
  pub label_fits : length label ≤ label_limit

-- a well-formed record
abbrev pub WellFormed : Record → Type 0
WellFormed (leg g label) = GoodLeg g label
WellFormed (station s label) = GoodStation s label
WellFormed (section s label) = GoodSection s label
WellFormed (error t) = GoodTraverse t

abbrev pub AllWellFormed : List Record → Type 0
AllWellFormed [] = Unit
AllWellFormed (r ∷ rs) = WellFormed r × AllWellFormed rs

pub record GoodHeader (h : Header) : Type 0 where
  pub extended_fits : h.extended ≤ 1
  pub title_good : good_text title_limit h.title ≡ true
  pub time_good : good_text time_limit h.time ≡ true
