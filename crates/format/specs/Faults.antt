-- The numbers of refusals: document 01, "Numbers for no", and what the requests of document 02 add. Assumes nothing.
use Rattle.std.specs.Prelude.{ℕ}
use Rattle.format.specs.declared.Fault.{Fault}
use Rattle.format.specs.declared.Fault.TheVariants.{NotSurvex, UnknownVersion, BrokenHeader, Reserved, Unfinished, LabelTooShort, LabelTooLong, NoPosition, BadDate, BytesAfterEnd, BufferTooSmall, BrokenLayout, StyleUnsaid, NotHouseWritten, PastRecords, FileTooLong, TimeUnreadable, UnknownStation, StationMoved, TooFar, NoLegs, NoRoomForNames, NotInV7}

abbrev pub fault_number : Fault → ℕ
-- "first 21 bytes wrong or missing"
fault_number NotSurvex = 1
-- "next three not v3 to v8 and linefeed"
fault_number UnknownVersion = 2
-- "title or time line unended, too long or with final carriage return; v8 byte missing"
fault_number BrokenHeader = 3
-- "reserved code or bit"
fault_number Reserved = 4
-- "item unfinished, or no end"
fault_number Unfinished = 5
-- "label too short to drop from"
fault_number LabelTooShort = 6
-- "label over 4,096"
fault_number LabelTooLong = 7
-- "LINE with no position"
fault_number NoPosition = 8
-- "last day before first, or day over 65535"
fault_number BadDate = 9
-- "bytes after the end"
fault_number BytesAfterEnd = 10
-- "buffer too small"
fault_number BufferTooSmall = 11
-- "sheet breaks the layout"
fault_number BrokenLayout = 12
-- "style 5 after another style"
fault_number StyleUnsaid = 13
-- "file to edit is not what our writer gives for its sheet"
fault_number NotHouseWritten = 14
-- "first record plus count above the record count"
fault_number PastRecords = 15
-- "file read or written over 16,777,216 bytes"
fault_number FileTooLong = 16
-- "time line not readable"
fault_number TimeUnreadable = 17
-- #108: a cross-section's label that no station has
fault_number UnknownStation = 18
-- #108: a station that came earlier with another place
fault_number StationMoved = 19
-- #104: a coordinate too far from the origin
fault_number TooFar = 20
-- #102: no leg takes part
fault_number NoLegs = 21
-- #108: no room left for an index of names
fault_number NoRoomForNames = 22
-- what v7 cannot carry
fault_number NotInV7 = 23
