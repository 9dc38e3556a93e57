-- A record and a state as the code holds them: the label stands beside the rest. Assumes nothing.
use Rattle.std.specs.Prelude.{ℕ, ◌+◌, List}
use Rattle.format.specs.State.{State, Record, leg, station, section, error}
use Rattle.format.specs.Sheet.{leg_size, station_size, section_size, error_size}
use Rattle.format.specs.declared.Setting.{Setting}
use Rattle.format.specs.declared.Fields.{Fields}
use Rattle.format.specs.declared.Fields.TheVariants.{Leg, Station, Section, Error}

-- the state of a setting and a label
abbrev pub state_of : Setting → List ℕ → State
state_of setting l = record { label = l; setting = setting }

-- the record of fields and a label; a traverse error has no label
abbrev pub record_of : Fields → List ℕ → Record
record_of (Leg flags style date from to) label = leg (record { flags = flags; style = style; date = date; from = from; to = to }) label
record_of (Station s) label = station s label
record_of (Section last unused date size) label = section (record { last = last; date = date; size = size }) label
record_of (Error traverse) label = error traverse

-- the size of a record with a label of so many bytes in a sheet that reading gives, its two length bytes included
abbrev pub record_size : Fields → ℕ → ℕ
record_size (Leg flags style date from to) len = 2 + leg_size + len
record_size (Station s) len = 2 + station_size + len
record_size (Section last unused date size) len = 2 + section_size + len
record_size (Error traverse) len = 2 + error_size
