-- What stands before the label of a record in a sheet of today's version: the length bytes of a label of so many bytes, and all fields.
-- Assumes nothing.
use Rattle.std.specs.Prelude.{ℕ, ◌+◌, List, [], ◌∷◌, ◌++◌}
use Rattle.format.specs.Bytes.{to_be16, to_be32}
use Rattle.format.specs.Sheet.{leg_size, station_size, section_size, error_size, date_bytes, point_bytes, dimension_bytes, traverse_bytes}
use Rattle.format.specs.State.{Record, leg, station, section, error}
use Rattle.format.specs.declared.Leg.{Leg}
use Rattle.format.specs.declared.Station.{Station}
use Rattle.format.specs.declared.Section.{Section}

unfoldable pub leg_front : Leg → ℕ → List ℕ
leg_front g len =
    to_be16 (leg_size + len) ++ (1 ∷ g.flags ∷ g.style ∷ (date_bytes g.date ++ (point_bytes to_be32 g.from ++ point_bytes to_be32 g.to)))

unfoldable pub station_front : Station → ℕ → List ℕ
station_front s len = to_be16 (station_size + len) ++ (2 ∷ s.flags ∷ point_bytes to_be32 s.place)

unfoldable pub section_front : Section → ℕ → List ℕ
section_front s len = to_be16 (section_size + len) ++ (3 ∷ s.last ∷ (date_bytes s.date ++ dimension_bytes to_be32 s.size))

-- what stands before a record's label of n bytes, its size, and the label; an error has none
abbrev pub front_of : Record → ℕ → List ℕ
front_of (leg g l) n = leg_front g n
front_of (station s l) n = station_front s n
front_of (section s l) n = section_front s n
front_of (error t) n = to_be16 error_size ++ (4 ∷ traverse_bytes to_be32 t)

abbrev pub front_size : Record → ℕ
front_size (leg g l) = 34
front_size (station s l) = 16
front_size (section s l) = 25
front_size (error t) = 23

abbrev pub label_of : Record → List ℕ
label_of (leg g l) = l
label_of (station s l) = l
label_of (section s l) = l
label_of (error t) = []
