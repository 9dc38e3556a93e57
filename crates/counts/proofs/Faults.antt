-- Whether a leg cannot be written as v8, by its fields. Assumes nothing.
use Prim.Native.Nat.{ℕ}
use mathlib.Core.Path.{◌≡◌}
use mathlib.Core.Bool.{true, false}
use mathlib.Core.List.{[]}
use borrow.Author.Tests.{eq-eqb, ne_eqb}
use Rattle.format.specs.Fields.{record_of}
use Rattle.format.specs.Codes.{unsayable}
use Rattle.format.specs.declared.Dated.{Dated}
use Rattle.format.specs.declared.Point.{Point}
use Rattle.format.specs.declared.Fields.{Fields}
use Rattle.format.specs.declared.Fields.TheVariants.{Leg}

module _ (old : ℕ) (f : Fields) (flags style : ℕ) (date : Dated) (from to : Point) (e : f ≡ Leg flags style date from to) where
  pub said : (style ≡ 5 → ⊥) → false ≡ unsayable old (record_of f [])
  said h = rw (e, ne_eqb style 5 h)

  pub never_said : style ≡ 5 → old ≡ 5 → false ≡ unsayable old (record_of f [])
  never_said h k = rw (e, eq-eqb style 5 h, eq-eqb old 5 k)

  pub not_said_lem : style ≡ 5 → (old ≡ 5 → ⊥) → true ≡ unsayable old (record_of f [])
  not_said_lem h k = rw (e, eq-eqb style 5 h, ne_eqb old 5 k)
