-- Case 14 of document 01, "Cases at the edges", as a statement about the definitions. Assumes nothing.
use Prim.Native.Nat.{ℕ}
use mathlib.Core.Path.{◌≡◌, refl}
use mathlib.Core.List.{List, [], ◌∷◌, ◌++◌}
use lib.ListN.{replicate}
use Rattle.format.specs.Bytes.{pick, le16, le32, to_le16, to_le32, to_be16, to_be32, widened, same, over}
use Rattle.format.specs.Header.{magic, line_end, ends_in_return, good_line, extended_byte, closed_header, time_line, title_line, good_version, header_of, opening_of}
use Rattle.format.specs.Label.{label_step}
use Rattle.format.specs.Items.{sized, old_part, length_size, length_value, long_part, new_part, labelled_item, station_item, line_item, section_item, move_item}
use Rattle.format.specs.Items.{error_item, new_date_item, new_low_item, new_high_item, item_of}
use Rattle.format.specs.Iterate.{iter, iter_up}
use Rattle.format.specs.Sheet.{layout, layout_all, header_layout, sheet_of}
use Rattle.format.specs.Reading.{next, ended, read_step, run, items_of, read_outcome}
use Rattle.listing.specs.Text.{digits_up, decimal_text, signed_text, hex_digit, plain, escaped_byte, escaped, text_of, spaced, line}
use Rattle.listing.specs.Lines.{version_word, title_word, time_word, extended_word, station_word, leg_word, end_word, none_word, leg_line, station_line}
use Rattle.listing.specs.Lines.{header_line, end_line, record_lines, rest_of, listing_of, lister_text}

-- "the header of case 1 and items 82 03 61 2e 31, twelve 00; 00; 0f, twelve 00; 40 20 64 00 00 00 00 00 00 00 ff ff ff ff; 00"
abbrev pub case14 : List ℕ
case14 =
    magic ++ (118 ∷ 56 ∷ 10 ∷ 65 ∷ 10 ∷ 64 ∷ 48 ∷ 10 ∷ 0
    ∷ 130 ∷ 3 ∷ 97 ∷ 46 ∷ 49 ∷ (replicate 12 0
    ++ (0
    ∷ 15 ∷ (replicate 12 0
    ++ (64 ∷ 32 ∷ 100 ∷ 0 ∷ 0 ∷ 0 ∷ 0 ∷ 0 ∷ 0 ∷ 0 ∷ 255 ∷ 255 ∷ 255 ∷ 255
    ∷ 0 ∷ [])))))

abbrev pub printed14 : List ℕ
printed14 =
    -- version 8 title A time @0 extended 0
    118 ∷ 101 ∷ 114 ∷ 115 ∷ 105 ∷ 111 ∷ 110 ∷ 32 ∷ 56 ∷ 32 ∷ 116 ∷ 105 ∷ 116 ∷ 108 ∷ 101 ∷ 32 ∷ 65 ∷ 32 ∷ 116 ∷ 105 ∷ 109 ∷ 101 ∷ 32 ∷ 64 ∷ 48
    ∷ 32 ∷ 101 ∷ 120 ∷ 116 ∷ 101 ∷ 110 ∷ 100 ∷ 101 ∷ 100 ∷ 32 ∷ 48 ∷ 10
    -- station 2 0 0 0 a.1
    ∷ 115 ∷ 116 ∷ 97 ∷ 116 ∷ 105 ∷ 111 ∷ 110 ∷ 32 ∷ 50 ∷ 32 ∷ 48 ∷ 32 ∷ 48 ∷ 32 ∷ 48 ∷ 32 ∷ 97 ∷ 46 ∷ 49 ∷ 10
    -- leg 0 0 none 0 0 0 100 0 -1 a
    ∷ 108 ∷ 101 ∷ 103 ∷ 32 ∷ 48 ∷ 32 ∷ 48 ∷ 32 ∷ 110 ∷ 111 ∷ 110 ∷ 101 ∷ 32 ∷ 48 ∷ 32 ∷ 48 ∷ 32 ∷ 48 ∷ 32 ∷ 49 ∷ 48 ∷ 48 ∷ 32 ∷ 48 ∷ 32 ∷ 45 ∷ 49 ∷ 32 ∷ 97 ∷ 10
    -- end 2
    ∷ 101 ∷ 110 ∷ 100 ∷ 32 ∷ 50 ∷ 10 ∷ []

-- what the lister prints for the file of case 14 is what document 01 shows
pub case_14 : lister_text case14 ≡ printed14
unfolding pick le16 le32 to_le16 to_le32 to_be16 to_be32 widened same over magic line_end ends_in_return good_line extended_byte closed_header time_line title_line
    good_version header_of opening_of label_step sized old_part length_size length_value long_part new_part labelled_item station_item line_item section_item move_item
    error_item new_date_item new_low_item new_high_item item_of iter iter_up layout layout_all header_layout sheet_of next ended read_step run items_of read_outcome digits_up
    decimal_text signed_text hex_digit plain escaped_byte escaped text_of spaced line version_word title_word time_word extended_word station_word leg_word end_word
    none_word leg_line station_line header_line end_line record_lines rest_of listing_of lister_text
case_14 = refl
