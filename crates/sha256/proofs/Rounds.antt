-- The schedule and the rounds of a block, one at a time. Assumes nothing.
use Rattle.std.proofs.Common.{◌≡◌, ℕ, ◌+◌, ◌-◌, ◌*◌, ◌<◌, ◌≤◌, List, [], ◌∷◌, ◌++◌, length, get_or, take, drop, set, sym, refl, ap, ◌∙◌, add-one, arith, length-set, length-take-le, take_all, get_or-take, take-suc, take-suc-set, le-ltb, lt-ltb}
use borrow.Author.Rules.{part_to_end}
use Rattle.format.specs.Bytes.{pick, be32}
use Rattle.sha256.specs.Digest.{constants, word_at, next_word, grown, schedule, round_of, rounds, sum_of, compressed}
use Rattle.sha256.specs.declared.Hash.{Hash}

-- ---- the schedule

-- a word of the block
pub early_word : (m w : List ℕ) (t v : ℕ) → t < 16 → length w ≡ 64 → take t w ≡ schedule m t → v ≡ be32 (take (length m - 4 * t) (drop (4 * t) m))
    → take (t + 1) (set w t v) ≡ schedule m (t + 1)
unfolding schedule grown pick
early_word m w t v h l e k =
    let i : t < length w = omega arith in
    let k' : v ≡ word_at m t = rw part_to_end at k in
    rw (add-one, take-suc-set w t v i, lt-ltb t 16 h) (cc)

-- a word is of those before it alone
next_of : (w x : List ℕ) (t : ℕ) → get_or x (t - 2) 0 ≡ get_or w (t - 2) 0 → get_or x (t - 7) 0 ≡ get_or w (t - 7) 0 → get_or x (t - 15) 0 ≡ get_or w (t - 15) 0
    → get_or x (t - 16) 0 ≡ get_or w (t - 16) 0 → next_word w t ≡ next_word x t
unfolding next_word
next_of w x t p q r s = cc

next_front : (w : List ℕ) (t : ℕ) → 16 ≤ t → next_word w t ≡ next_word (take t w) t
next_front w t h = next_of w (take t w) t (at 2 (omega arith) (omega arith)) (at 7 (omega arith) (omega arith)) (at 15 (omega arith) (omega arith))
    (at 16 (omega arith) (omega arith))
  where
    at : (n : ℕ) → 0 < n → n ≤ 16 → get_or (take t w) (t - n) 0 ≡ get_or w (t - n) 0
    at n a b = get_or-take t w (t - n) 0 (omega arith)

late_word : (m w : List ℕ) (t v : ℕ) → 16 ≤ t → t < length w → take t w ≡ schedule m t → v ≡ next_word (take t w) t
    → take (t + 1) (set w t v) ≡ schedule m (t + 1)
unfolding schedule grown pick
late_word m w t v h i e k = rw (add-one, take-suc-set w t v i, le-ltb t 16 h) (cc)

-- ---- the rounds

rounds_snoc : (ks ws : List ℕ) (k w : ℕ) (h : Hash) → length ks ≡ length ws → rounds (ks ++ (k ∷ [])) (ws ++ (w ∷ [])) h ≡ round_of k w (rounds ks ws h)
unfolding rounds
rounds_snoc [] [] k w h e = refl
rounds_snoc [] (x ∷ ws) k w h e = absurd (omega arith)
rounds_snoc (x ∷ ks) [] k w h e = absurd (omega arith)
rounds_snoc (x ∷ ks) (y ∷ ws) k w h e = rounds_snoc ks ws k w (round_of x y h) (omega arith)

-- one more
pub one_round : (ks ws : List ℕ) (t u : ℕ) (h s x : Hash) → u ≡ t + 1 → t < length ks → t < length ws → s ≡ rounds (take t ks) (take t ws) h
    → x ≡ round_of (get_or ks t 0) (get_or ws t 0) s → x ≡ rounds (take u ks) (take u ws) h
one_round ks ws t u h s x q i j e k =
    let l : length (take t ks) ≡ length (take t ws) = length-take-le t ks (omega arith) ∙ sym (length-take-le t ws (omega arith)) in
    let f : x ≡ round_of (get_or ks t 0) (get_or ws t 0) (rounds (take t ks) (take t ws) h) = k ∙ ap (round_of (get_or ks t 0) (get_or ws t 0)) e in
    rw (q, add-one, take-suc ks t 0 i, take-suc ws t 0 j) (f ∙ sym (rounds_snoc (take t ks) (take t ws) (get_or ks t 0) (get_or ws t 0) h l))

pub no_rounds : (ks ws : List ℕ) (h : Hash) → h ≡ rounds (take 0 ks) (take 0 ws) h
unfolding rounds
no_rounds ks ws h = refl

pub constants_length : length constants ≡ 64
unfolding constants
constants_length = refl

-- ---- after t rounds, with as many words of the schedule
pub record Going (m : List ℕ) (h : Hash) (w : List ℕ) (t : ℕ) (s : Hash) : Type 0 where
  pub size : length w ≡ 64
  pub words : take t w ≡ schedule m t
  pub same : s ≡ rounds (take t constants) (take t w) h

pub going_first : (k m w : List ℕ) (h s : Hash) → k ≡ constants → length w ≡ 64 → take 16 w ≡ schedule m 16 → s ≡ rounds (take 16 k) (take 16 w) h
    → Going m h w 16 s
going_first k m w h s q l e r = record { size = l; words = e; same = rw q at r }

late_same : (w : List ℕ) (t v : ℕ) (h s x : Hash) → t < 64 → length w ≡ 64 → s ≡ rounds (take t constants) (take t w) h → x ≡ round_of (get_or constants t 0) v s
    → x ≡ rounds (take (t + 1) constants) (take (t + 1) (set w t v)) h
late_same w t v h s x i l e k =
    let n : length constants ≡ 64 = constants_length in
    let j : t < length w = omega arith in
    let l' : length (take t constants) ≡ length (take t w) = length-take-le t constants (omega arith) ∙ sym (length-take-le t w (omega arith)) in
    let f : x ≡ round_of (get_or constants t 0) v (rounds (take t constants) (take t w) h) = k ∙ ap (round_of (get_or constants t 0) v) e in
    rw (add-one, take-suc-set w t v j, take-suc constants t 0 (omega arith)) (f ∙ sym (rounds_snoc (take t constants) (take t w) (get_or constants t 0) v h l'))

going_next : (m w : List ℕ) (t : ℕ) (h s x : Hash) → 16 ≤ t → t < 64 → Going m h w t s → x ≡ round_of (get_or constants t 0) (next_word w t) s
    → Going m h (set w t (next_word w t)) (t + 1) x
going_next m w t h s x a b G r =
    let l : length w ≡ 64 = G.size in
    record {
      size = length-set w t (next_word w t) ∙ l;
      words = late_word m w t (next_word w t) a (omega arith) G.words (next_front w t a);
      same = late_same w t (next_word w t) h s x b l G.same r;
    }

pub going_on : (k m w w' : List ℕ) (t u : ℕ) (h s x : Hash) → k ≡ constants → u ≡ t + 1 → 16 ≤ t → t < 64 → Going m h w t s
    → w' ≡ set w t (next_word w t) → x ≡ round_of (get_or k t 0) (next_word w t) s → Going m h w' u x
going_on k m w w' t u h s x q f a b G e r = rw (f, e) (going_next m w t h s x a b G (rw q at r))

pub rounds_done : (m w : List ℕ) (t : ℕ) (h s x : Hash) → t ≡ 64 → Going m h w t s → x ≡ sum_of h s → x ≡ compressed h m
unfolding compressed
rounds_done m w t h s x q G e =
    let G' : Going m h w 64 s = rw q at G in
    let f : take 64 constants ≡ constants = take_all 64 constants (omega (arith, constants_length)) in
    e ∙ ap (sum_of h) (G'.same ∙ rw (f, G'.words) refl)
