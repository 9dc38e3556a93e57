-- What `list` writes, by what is to be printed. Assumes nothing.
use Rattle.std.specs.Prelude.{ℕ, ◌+◌, ◌*◌, List}
use Rattle.listing.specs.declared.Printed.{Printed}
use Rattle.listing.specs.declared.Printed.TheVariants.{TooLong, Refused, Sheet}
use Rattle.listing.specs.Lines.{refusal_line, too_long_line, sheet_listing}
use Rattle.listing.specs.Puts.{line_limit}

-- the text for an input: "A refusal prints only `refused N at P`", "else prints `too long`"
abbrev pub printed_text : Printed → List ℕ → List ℕ
printed_text TooLong sheet = too_long_line
printed_text (Refused refusal) sheet = refusal_line refusal.number refusal.place
printed_text (Sheet version) sheet = sheet_listing version sheet

-- and the most bytes that it can have, for a sheet of n
abbrev pub printed_limit : Printed → ℕ → ℕ
printed_limit TooLong n = line_limit
printed_limit (Refused refusal) n = line_limit
printed_limit (Sheet version) n = 4 * n + 2 * line_limit
