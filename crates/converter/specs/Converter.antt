-- What the converter writes for an input, document 01, "Cases at the edges", the converter. Assumes nothing.
use Rattle.std.specs.Prelude.{ℕ, List, length, ltb}
use Rattle.format.specs.Bytes.{pick}
use Rattle.format.specs.Conversion.{converted_file, convert_outcome}
use Rattle.listing.specs.Lines.{input_limit, too_long_line, outcome_text}

-- "a sheet of at most 32,768 bytes and a v8 file of at most 16,384 (11 beyond either)"
abbrev pub converter_sheet_limit : ℕ
converter_sheet_limit = 32768

abbrev pub converter_file_limit : ℕ
converter_file_limit = 16384

-- "The converter reads the same way, .. and writes the file to standard output, or the same refusal line"
unfoldable pub converter_text : List ℕ → List ℕ
converter_text input =
    pick (ltb input_limit (length input)) too_long_line (outcome_text (convert_outcome input converter_sheet_limit converter_file_limit) (converted_file input))
