-- Numbers and text as the lister prints them, document 01, "Cases at the edges", the lister. Text is a list of bytes. Assumes nothing.
use Rattle.std.specs.Prelude.{ℕ, zero, suc, ◌+◌, ◌-◌, ◌/◌, ◌%◌, List, [], ◌∷◌, ◌++◌, Bool, ◌&&◌, not, eqb, ltb, leb}
use Rattle.format.specs.Bytes.{pick, same}

-- ---- numbers: every number is printed in decimal

-- the digits of a number, the highest first. The first number counts the digits that may still come; a number has no more digits than one
-- more than itself, so it is never used up, and the law `decimal-eq` is the equation to read
unfoldable pub digits_up : ℕ → ℕ → List ℕ
digits_up zero n = []
digits_up (suc f) n = let more = digits_up f (n / 10) ++ (48 + n % 10) ∷ [] in pick (ltb n 10) ((48 + n) ∷ []) more

unfoldable pub decimal_text : ℕ → List ℕ
decimal_text n = digits_up (suc n) n

-- an i32 of the bit pattern n: a coordinate, a dimension or a traverse's number
unfoldable pub signed_text : ℕ → List ℕ
signed_text n = pick (ltb n 2147483648) (decimal_text n) (45 ∷ decimal_text (4294967296 - n))

-- ---- text

-- a number below 16 as a lower hex digit
unfoldable pub hex_digit : ℕ → ℕ
hex_digit n = pick (ltb n 10) (48 + n) (87 + n)

-- "Text bytes outside 33 to 126, and `%`, print as `%` and two lower hex digits"
unfoldable pub plain : ℕ → Bool
plain b = leb 33 b && (leb b 126 && not (eqb b 37))

unfoldable pub escaped_byte : ℕ → List ℕ
escaped_byte b = pick (plain b) (b ∷ []) (37 ∷ hex_digit (b / 16) ∷ hex_digit (b % 16) ∷ [])

unfoldable pub escaped : List ℕ → List ℕ
escaped [] = []
escaped (b ∷ s) = escaped_byte b ++ escaped s

-- "empty text as `-`, the text `-` as `%2d`"
unfoldable pub text_of : List ℕ → List ℕ
text_of s = pick (same s []) (45 ∷ []) (pick (same s (45 ∷ [])) (37 ∷ 50 ∷ 100 ∷ []) (escaped s))

-- ---- lines: words with a space before each but the first, and a linefeed at the end

unfoldable pub spaced : List (List ℕ) → List ℕ
spaced [] = []
spaced (w ∷ ws) = 32 ∷ (w ++ spaced ws)

unfoldable pub line : List ℕ → List (List ℕ) → List ℕ
line w ws = w ++ (spaced ws ++ 10 ∷ [])
