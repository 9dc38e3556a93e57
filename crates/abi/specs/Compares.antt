-- Comparisons in the numbers of the interface for C. Assumes nothing.
use Rattle.format.specs.Times.{Comparison, first, second, equal, first_refused, second_refused}
use Rattle.format.specs.declared.Handed.{Handed}
use Rattle.abi.specs.declared.Compared.{Compared}

-- 1, 2 or 0: the first file is later, the second, neither, with the later line's place and length; 3 is a refusal, with the file that it names
abbrev pub compared_of : Comparison → Handed → Compared
compared_of first h = record { which = 1; file = 0; number = 0; place = h.place; length = h.size }
compared_of second h = record { which = 2; file = 0; number = 0; place = h.place; length = h.size }
compared_of equal h = record { which = 0; file = 0; number = 0; place = h.place; length = h.size }
compared_of (first_refused number place) h = record { which = 3; file = 1; number = number; place = place; length = 0 }
compared_of (second_refused number place) h = record { which = 3; file = 2; number = number; place = place; length = 0 }
