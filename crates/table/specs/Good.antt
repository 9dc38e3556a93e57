-- The invariant of the room: whoever calls `find` and `add` hands it on and looks into none of it. Assumes nothing.
use Rattle.std.specs.Prelude.{ℕ, ◌+◌, ◌*◌, ◌%◌, ◌≤◌, ◌<◌, ◌≡◌, List, length}
use Rattle.piece.specs.Pieces.{piece}
use Rattle.table.specs.Hash.{hash_of}
use Rattle.table.specs.Room.{start_at, size_at, hash_at, next_at, head_at, name_at}
use Rattle.table.specs.Entries.{room_of, entries_of}

-- node i has this hash and this name
pub record Hit (r : List ℕ) (i h : ℕ) (name : List ℕ) : Type 0 where
  pub hash : hash_at r i ≡ h
  pub name_same : name_at r i ≡ name

-- node j is in the chain from the link c on
pub data In (r : List ℕ) : ℕ → ℕ → Type 0 where
  here : {c j : ℕ} → c ≡ j + 1 → In r c j
  there : {c j : ℕ} (k : ℕ) → c ≡ k + 1 → In r (next_at r k) j → In r c j

-- n nodes are in the 2 * p chains, each in the chain of its hash; a chain goes to earlier nodes
pub record Chained (r : List ℕ) (p n : ℕ) : Type 0 where
  pub heads : (b : ℕ) → b < 2 * p → head_at r b ≤ n
  pub nexts : (i : ℕ) → i < n → next_at r i ≤ i
  pub reached : (b j : ℕ) → j < n → hash_at r j % (2 * p) ≡ b → In r (head_at r b) j

pub record Inside (r : List ℕ) (back i : ℕ) : Type 0 where
  pub size_within : size_at r i ≤ start_at r i
  pub start_within : start_at r i ≤ back

-- n nodes, whose names take `back` bytes
pub record Body (seed : ℕ) (r : List ℕ) (n back : ℕ) : Type 0 where
  pub fits : 32 * n + back ≤ length r
  pub few : n < 16777216
  pub short : back ≤ 4096 * n
  pub used : room_of (entries_of r n) ≡ 32 * n + back
  pub inside : (i : ℕ) → i < n → Inside r back i
  pub hashes : (i : ℕ) → i < n → hash_at r i ≡ hash_of seed (name_at r i)
  pub distinct : (i j : ℕ) → i < n → j < n → name_at r i ≡ name_at r j → i ≡ j

pub record Good (seed : ℕ) (r : List ℕ) (n back p : ℕ) : Type 0 where
  pub body : Body seed r n back
  pub chained : Chained r p n
  pub spread : p ≤ n
  pub some : 0 < n → 0 < p

-- what a change of links keeps: all of a node before its links and behind them, and what stands behind n nodes
pub record Links (r r' : List ℕ) (n : ℕ) : Type 0 where
  pub same_length : length r' ≡ length r
  pub front : (j a m : ℕ) → a + m ≤ 11 → piece r' (32 * j + a) m ≡ piece r (32 * j + a) m
  pub rear : (j a m : ℕ) → 20 ≤ a → a + m ≤ 32 → piece r' (32 * j + a) m ≡ piece r (32 * j + a) m
  pub names : (a m : ℕ) → 32 * n ≤ a → piece r' a m ≡ piece r a m

-- the links of n nodes made anew
pub record Rehung (r r' : List ℕ) (p n : ℕ) : Type 0 where
  pub links : Links r r' n
  pub chained : Chained r' p n

-- no heads in the first i nodes
pub record Blank (r r' : List ℕ) (n i : ℕ) : Type 0 where
  pub links : Links r r' n
  pub none : (b : ℕ) → b < 2 * i → head_at r' b ≡ 0
