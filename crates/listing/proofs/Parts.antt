-- Each line is the parts that the code puts one after another. A number that the code widens first comes with the equation that it is the
-- same. Assumes nothing.
use mathlib.Core.Path.{◌≡◌}
use mathlib.Core.List.{List, [], ◌∷◌, ◌++◌, append_assoc, append-nil}
use Prim.Native.Nat.{ℕ}
use Rattle.format.specs.declared.Traverse.{Traverse}
use Rattle.format.specs.declared.Leg.{Leg}
use Rattle.format.specs.declared.Station.{Station}
use Rattle.format.specs.declared.Section.{Section}
use Rattle.format.specs.declared.Dated.{Dated}
use Rattle.listing.specs.Text.{decimal_text, signed_text, text_of, spaced, line}
use Rattle.listing.specs.Lines.{version_word, title_word, time_word, extended_word, station_word, leg_word, section_word, error_word, end_word}
use Rattle.listing.specs.Lines.{refused_word, at_word, date_text, point_words, dimension_words, traverse_words, leg_line, station_line, section_line}
use Rattle.listing.specs.Lines.{error_line, header_line, end_line, refusal_line}

-- a space and a word; a space and a number; a space, text and a linefeed; a space, a number and a linefeed
abbrev word : List ℕ → List ℕ
word w = 32 ∷ w

abbrev number : ℕ → List ℕ
number n = word (decimal_text n)

abbrev last_name : List ℕ → List ℕ
last_name s = 32 ∷ (text_of s ++ 10 ∷ [])

abbrev last_number : ℕ → List ℕ
last_number n = 32 ∷ (decimal_text n ++ 10 ∷ [])

abbrev pub leg_front : ℕ → ℕ → Dated → List ℕ
leg_front flags style date = leg_word ++ spaced (decimal_text flags ∷ decimal_text style ∷ date_text date ∷ [])

abbrev pub header_front : ℕ → List ℕ → List ℕ
header_front version title = version_word ++ spaced (decimal_text version ∷ title_word ∷ text_of title ∷ [])

pub leg_front_parts : (date : Dated) {m flags n style : ℕ} → m ≡ flags → n ≡ style
    → leg_word ++ number m ++ number n ++ word (date_text date) ≡ leg_front flags style date
unfolding spaced
leg_front_parts date e f = simp (e, f, append_assoc, append-nil)

-- the same on any lists
leg_join : (w f s d x y z x' y' z' t e : List ℕ)
    → (w ++ (f ++ (s ++ (d ++ [])))) ++ (x ++ (y ++ (z ++ []))) ++ (x' ++ (y' ++ (z' ++ []))) ++ (t ++ e)
    ≡ w ++ ((f ++ (s ++ (d ++ (x ++ (y ++ (z ++ (x' ++ (y' ++ (z' ++ (t ++ [])))))))))) ++ e)
leg_join w f s d x y z x' y' z' t e = simp (append_assoc, append-nil)

pub leg_parts : (g : Leg) (label : List ℕ)
    → leg_front g.flags g.style g.date ++ spaced (point_words g.from) ++ spaced (point_words g.to) ++ last_name label ≡ leg_line g label
unfolding leg_line line spaced
leg_parts g label =
    leg_join leg_word (word (decimal_text g.flags)) (word (decimal_text g.style)) (word (date_text g.date))
    (word (signed_text g.from.x)) (word (signed_text g.from.y)) (word (signed_text g.from.z))
    (word (signed_text g.to.x)) (word (signed_text g.to.y)) (word (signed_text g.to.z)) (word (text_of label)) (10 ∷ [])

pub station_parts : (s : Station) (label : List ℕ) {n : ℕ} → n ≡ s.flags
    → station_word ++ number n ++ spaced (point_words s.place) ++ last_name label ≡ station_line s label
unfolding station_line line spaced
station_parts s label e = simp (e, append_assoc, append-nil)

pub section_parts : (s : Section) (label : List ℕ) {n : ℕ} → n ≡ s.last
    → section_word ++ number n ++ word (date_text s.date) ++ spaced (dimension_words s.size) ++ last_name label ≡ section_line s label
unfolding section_line line spaced
section_parts s label e = simp (e, append_assoc, append-nil)

pub error_parts : (t : Traverse) → error_word ++ spaced (traverse_words t) ++ (10 ∷ []) ≡ error_line t
unfolding error_line line
error_parts t = simp append_assoc

pub header_front_parts : (title : List ℕ) {n version : ℕ} → n ≡ version
    → version_word ++ number n ++ word title_word ++ word (text_of title) ≡ header_front version title
unfolding spaced
header_front_parts title e = simp (e, append_assoc, append-nil)

header_join : (w v t n i m x u e : List ℕ)
    → (w ++ (v ++ (t ++ (n ++ [])))) ++ i ++ m ++ x ++ (u ++ e) ≡ w ++ ((v ++ (t ++ (n ++ (i ++ (m ++ (x ++ (u ++ []))))))) ++ e)
header_join w v t n i m x u e = simp (append_assoc, append-nil)

pub header_parts : (version : ℕ) (title time : List ℕ) {n extended : ℕ} → n ≡ extended
    → header_front version title ++ word time_word ++ word (text_of time) ++ word extended_word ++ last_number n ≡ header_line version
    (record { extended = extended; title = title; time = time })
unfolding header_line line spaced
header_parts version title time e =
    rw e
    (header_join version_word (word (decimal_text version)) (word title_word) (word (text_of title)) (word time_word) (word (text_of time)) (word extended_word)
    (word (decimal_text _)) (10 ∷ []))

pub end_parts : (n : ℕ) → end_word ++ last_number n ≡ end_line n
unfolding end_line line spaced
end_parts n = simp append-nil

pub refusal_parts : (place : ℕ) {n number' : ℕ} → n ≡ number'
    → refused_word ++ number n ++ word at_word ++ last_number place ≡ refusal_line number' place
unfolding refusal_line line spaced
refusal_parts place e = simp (e, append_assoc, append-nil)
