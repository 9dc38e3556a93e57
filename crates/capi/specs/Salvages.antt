-- What salvaging answers, in the numbers of the interface for C. Assumes nothing.
use Rattle.read.specs.Salvage.{SalvageOutcome, saved, unsaved}
use Rattle.capi.specs.declared.SalvageNumbers.{SalvageNumbers}

abbrev pub salvage_numbers : SalvageOutcome → SalvageNumbers
salvage_numbers (saved bytes records version number place left) =
    record { refused = 0; bytes = bytes; records = records; version = version; number = number; place = place; left = left }
salvage_numbers (unsaved number place) = record { refused = number; bytes = 0; records = 0; version = 0; number = 0; place = place; left = 0 }
