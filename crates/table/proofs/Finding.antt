-- A turn of `find`, and its answers, on plain values. Assumes nothing.
use Prim.Native.Nat.{ℕ, ◌+◌, ◌*◌, ◌%◌, ◌≤◌, ◌<◌}
use mathlib.Core.Path.{◌≡◌, sym, ap, subst, ◌∙◌}
use mathlib.Core.List.{List}
use mathlib.Core.Bool.{Bool, true, false}
use Rattle.std.specs.Prelude.{Ok, Err}
use native.Mathlib.Omega.{arith}
use Rattle.table.specs.Hash.{hash_of}
use Rattle.table.specs.Room.{hash_at, next_at, head_at, name_at, point_at}
use Rattle.table.specs.Entries.{somewhere}
use Rattle.table.specs.Good.{Hit, In, Good}
use Rattle.table.specs.Told.{Says, FindTold}
use Rattle.format.specs.declared.Point.{Point}
use Rattle.table.proofs.Lookups.{none, one}
use Rattle.table.proofs.Chains.{in_none, in_past}

pub says_yes : {P : Type 0} {b : Bool} → b ≡ true → Says b P → P
says_yes {P} e s = subst (λ (b : Bool). Says b P) e s

pub says_no : {P : Type 0} {b : Bool} → b ≡ false → Says b P → P → ⊥
says_no {P} e s = subst (λ (b : Bool). Says b P) e s

-- each node with this name is in the chain from c on
abbrev pub Ahead : List ℕ → ℕ → List ℕ → ℕ → Type 0
Ahead r n name c = (j : ℕ) → j < n → name_at r j ≡ name → In r c j

module _ (seed : ℕ) (r : List ℕ) (n : ℕ) (name : List ℕ) where
  pub empty_told : n ≡ 0 → (h : ℕ) → h ≡ hash_of seed name → FindTold (Err h) seed r n name
  empty_told e h t = record { same = sym (none r n name (λ j l q. omega arith)); hash = t }

  pub missing_told : (c : ℕ) → c ≡ 0 → Ahead r n name c → (h : ℕ) → h ≡ hash_of seed name → FindTold (Err h) seed r n name
  missing_told c z a h t = record { same = sym (none r n name (λ j l q. in_none c z (a j l q))); hash = t }

  module _ (back p : ℕ) (g : Good seed r n back p) where
    pub ahead_first : (h b c : ℕ) → h ≡ hash_of seed name → b ≡ h % (2 * p) → c ≡ head_at r b → Ahead r n name c
    ahead_first h b c e f q j l m =
        let y : hash_at r j % (2 * p) ≡ b = rw (g.body.hashes j l, m, ← e) (sym f) in
        rw q (g.chained.reached b j l y)

    pub first_within : (h b c : ℕ) → b < 2 * p → c ≡ head_at r b → c ≤ n
    first_within h b c l q = let x = g.chained.heads b l in omega arith

    module _ (h : ℕ) (eh : h ≡ hash_of seed name) (c i : ℕ) (q : c ≡ i + 1) (l : c ≤ n) where
      pub found_told : Hit r i h name → (place : Point) → place ≡ point_at r i → FindTold (Ok place) seed r n name
      found_told x place e =
          let li : i < n = omega arith in
          record { same = ap somewhere e ∙ sym (one r n name i li x.name_same (λ j m d. g.body.distinct j i m li (d ∙ sym x.name_same))); hash = tt }

      pub ahead_next : (Hit r i h name → ⊥) → Ahead r n name c → (d : ℕ) → d ≡ next_at r i → Ahead r n name d
      ahead_next off a d e j m s =
          rw e (in_past c i q (λ z. off (hit z)) (a j m s))
        where
          hit : j ≡ i → Hit r i h name
          hit z =
              let t : name_at r i ≡ name = rw z at s in
              record { hash = g.body.hashes i (omega arith) ∙ ap (hash_of seed) t ∙ sym eh; name_same = t }

      pub next_less : (d : ℕ) → d ≡ next_at r i → d < c
      next_less d e = let x = g.chained.nexts i (omega arith) in omega arith
