-- The index of no names, on plain values. Assumes nothing.
use Prim.Native.Nat.{ℕ}
use mathlib.Core.Path.{◌≡◌, refl}
use mathlib.Core.List.{List, []}
use native.Mathlib.Omega.{arith}
use Rattle.table.specs.Entries.{room_of, entries_of}
use Rattle.table.specs.Good.{Good}

pub good_empty : (seed : ℕ) (r : List ℕ) → Good seed r 0 0 0
unfolding entries_of room_of
good_empty seed r =
    record {
      body = record {
        fits = omega arith;
        few = omega arith;
        short = omega arith;
        used = refl;
        inside = λ i l. absurd (omega arith);
        hashes = λ i l. absurd (omega arith);
        distinct = λ i j l m e. absurd (omega arith);
      };
      chained = record { heads = λ b l. absurd (omega arith); nexts = λ i l. absurd (omega arith); reached = λ b j l e. absurd (omega arith) };
      spread = omega arith;
      some = λ l. absurd (omega arith);
    }

pub none_empty : (r : List ℕ) → entries_of r 0 ≡ []
unfolding entries_of
none_empty r = refl
