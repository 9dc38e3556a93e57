-- A message in parts has the digest of the whole, however it is cut; and what one part more comes to. Assumes nothing.
use Rattle.std.proofs.Common.{◌≡◌, ℕ, zero, suc, ◌+◌, ◌-◌, ◌*◌, ◌/◌, ◌%◌, ◌^◌, ◌<◌, ◌≤◌, List, [], ◌∷◌, ◌++◌, length, take, drop, sym, refl, ap, ◌∙◌, ap₂, append_assoc, append-nil, add-zero, zero-add, arith, length-append, length-drop, take-append-drop, length-take-le, drop-drop, take_at, drop_at}
use lib.Seq.{drop-append-le, take-append-le}
use Rattle.format.specs.Bytes.{over}
use Rattle.wire.specs.Laid.{laid}
use Rattle.wire.proofs.Laws.{laid_zero, take_laid}
use Rattle.sha256.proofs.Padding.{laid_end}
use Rattle.sha256.specs.Digest.{initial, bit_length, padding, compressed, blocks, digest, hashed, sha256_of}
use Rattle.sha256.specs.Streams.{Stream, started, updated, updates, joined, finished, stream_of, begun, TakenIn}
use Rattle.sha256.specs.declared.Hash.{Hash}
use Rattle.sha256.specs.declared.Running.{Running}

-- ---- blocks

-- the first block, where there is one
blocks_turn : (s p : List ℕ) (h : Hash) → 64 ≤ length s
    → blocks (length (s ++ p) / 64) (s ++ p) h ≡ blocks (length (drop 64 s ++ p) / 64) (drop 64 s ++ p) (compressed h (take 64 s))
unfolding blocks
blocks_turn s p h g =
    let e : length (s ++ p) / 64 ≡ suc (length (drop 64 s ++ p) / 64) = simp (length-append, length-drop) (omega arith) in
    ap (λ (k : ℕ). blocks k (s ++ p) h) e
    ∙ ap₂ (λ (u v : List ℕ). blocks (length (drop 64 s ++ p) / 64) u (compressed h v)) (drop-append-le 64 s p g) (take-append-le 64 s p g)

-- the first n blocks, and then those of what is behind them
blocks_on : (n : ℕ) (s p : List ℕ) (h : Hash) → n * 64 ≤ length s
    → blocks (length (drop (n * 64) s ++ p) / 64) (drop (n * 64) s ++ p) (blocks n s h) ≡ blocks (length (s ++ p) / 64) (s ++ p) h
unfolding blocks
blocks_on zero s p h g = refl
blocks_on (suc n) s p h g =
    let z : suc n * 64 ≡ 64 + n * 64 = omega arith in
    let e : drop (suc n * 64) s ≡ drop (n * 64) (drop 64 s) = ap (λ (j : ℕ). drop j s) z ∙ sym (drop-drop (n * 64) 64 s) in
    let l : n * 64 ≤ length (drop 64 s) = simp length-drop (omega arith) in
    ap (λ (x : List ℕ). blocks (length (x ++ p) / 64) (x ++ p) (blocks n (drop 64 s) (compressed h (take 64 s)))) e
    ∙ blocks_on n (drop 64 s) p (compressed h (take 64 s)) l
    ∙ sym (blocks_turn s p h (omega arith))

whole_blocks : (s : List ℕ) → length s / 64 * 64 ≤ length s
whole_blocks s = omega arith

-- ---- a turn of the loop over whole blocks, and its end

pub absorb_first : (d : List ℕ) (h : Hash) → blocks ((length d - 0) / 64) (drop 0 d) h ≡ blocks (length d / 64) d h
absorb_first d h =
    let e : (length d - 0) / 64 ≡ length d / 64 = omega arith in
    ap (λ (k : ℕ). blocks k d h) e

pub block_length : (d : List ℕ) (at : ℕ) → at + 64 ≤ length d → length (take (at + 64 - at) (drop at d)) ≡ 64
block_length d at g = length-take-le (at + 64 - at) (drop at d) (simp length-drop (omega arith)) ∙ omega arith

pub absorb_turn : (d : List ℕ) (at : ℕ) (s x : Hash) {y : Hash} → at + 64 ≤ length d → x ≡ compressed s (take (at + 64 - at) (drop at d))
    → blocks ((length d - at) / 64) (drop at d) s ≡ y → blocks ((length d - (at + 64)) / 64) (drop (at + 64) d) x ≡ y
unfolding blocks
absorb_turn d at s x g e i =
    let z : at + 64 - at ≡ 64 = omega arith in
    let n : (length d - at) / 64 ≡ suc ((length d - (at + 64)) / 64) = omega arith in
    let x' : x ≡ compressed s (take 64 (drop at d)) = rw z at e in
    ap₂ (λ (u : List ℕ) (v : Hash). blocks ((length d - (at + 64)) / 64) u v) (sym (drop-drop 64 at d)) x'
    ∙ sym (ap (λ (k : ℕ). blocks k (drop at d) s) n)
    ∙ i

pub absorb_done : (d : List ℕ) (at : ℕ) (s : Hash) {y : Hash} → length d - at < 64 → blocks ((length d - at) / 64) (drop at d) s ≡ y → s ≡ y
unfolding blocks
absorb_done d at s g i =
    let n : (length d - at) / 64 ≡ 0 = omega arith in
    sym (ap (λ (k : ℕ). blocks k (drop at d) s) n) ∙ i

-- ---- the bytes that wait in a block, and those that come

-- no whole block
pub taken_short : (h : Hash) (d x b : List ℕ) (k : ℕ) → length d ≡ 64 → k < 64 → length b < 64 - k → x ≡ laid d k b → TakenIn h (take k d ++ b) h x
unfolding blocks
taken_short h d x b k l g f q =
    let n : length (take k d ++ b) ≡ k + length b = length-append (take k d) b ∙ ap (λ (j : ℕ). j + length b) (length-take-le k d (omega arith)) in
    let e0 : length (take k d ++ b) / 64 ≡ 0 = omega arith in
    let e1 : length (take k d ++ b) % 64 ≡ k + length b = omega arith in
    let e2 : length (take k d ++ b) / 64 * 64 ≡ 0 = omega arith in (
      sym (ap (λ (j : ℕ). blocks j (take k d ++ b) h) e0),
      ap (λ (j : ℕ). take j x) e1 ∙ ap (take (k + length b)) q ∙ take_laid d b k (omega arith) ∙ sym (ap (λ (j : ℕ). drop j (take k d ++ b)) e2),
    )

-- a whole block z, and what is behind it
taken_behind : (h r : Hash) (z b x : List ℕ) → length z ≡ 64 → r ≡ blocks (length b / 64) b (compressed h z) → x ≡ laid z 0 (drop (length b / 64 * 64) b)
    → TakenIn h (z ++ b) r x
unfolding blocks over
taken_behind h r z b x l e q =
    let n : length (z ++ b) ≡ 64 + length b = length-append z b ∙ ap (λ (j : ℕ). j + length b) l in
    let e0 : length (z ++ b) / 64 ≡ suc (length b / 64) = omega arith in
    let e1 : length (z ++ b) / 64 * 64 ≡ 64 + length b / 64 * 64 = omega arith in
    let m : length (drop (length b / 64 * 64) b) ≡ length (z ++ b) % 64 = length-drop (length b / 64 * 64) b ∙ omega arith in
    let f : drop (length (z ++ b) / 64 * 64) (z ++ b) ≡ drop (length b / 64 * 64) b =
    ap (λ (j : ℕ). drop j (z ++ b)) e1 ∙ sym (drop-drop (length b / 64 * 64) 64 (z ++ b)) ∙ ap (drop (length b / 64 * 64)) (drop_at z b 64 l) in (
      e
          ∙ ap₂ (λ (u v : List ℕ). blocks (length b / 64) u (compressed h v)) (sym (drop_at z b 64 l)) (sym (take_at z b 64 l))
          ∙ sym (ap (λ (j : ℕ). blocks j (z ++ b) h) e0),
      ap (take (length (z ++ b) % 64)) (q ∙ laid_zero z (drop (length b / 64 * 64) b))
          ∙ take_at (drop (length b / 64 * 64) b) (drop (length (drop (length b / 64 * 64) b)) z) (length (z ++ b) % 64) m
          ∙ sym f,
    )

taken_long : (h r : Hash) (d z b f x : List ℕ) (k : ℕ) → length d ≡ 64 → k < 64 → 64 - k ≤ length b → f ≡ take (64 - k) b → z ≡ laid d k f
    → r ≡ blocks (length (drop (64 - k) b) / 64) (drop (64 - k) b) (compressed h z)
    → x ≡ laid z 0 (drop (length (drop (64 - k) b) / 64 * 64) (drop (64 - k) b)) → TakenIn h (take k d ++ b) r x
taken_long h r d z b f x k l g j p q e i =
    let lf : length f ≡ 64 - k = ap length p ∙ length-take-le (64 - k) b j in
    let z' : z ≡ take k d ++ f = q ∙ laid_end d f k (omega arith) in
    let lz : length z ≡ 64 = ap length z' ∙ length-append (take k d) f ∙ ap (λ (n : ℕ). n + length f) (length-take-le k d (omega arith)) ∙ omega arith in
    let a : z ++ drop (64 - k) b ≡ take k d ++ b =
    ap (λ (v : List ℕ). v ++ drop (64 - k) b) z'
    ∙ append_assoc (take k d) f (drop (64 - k) b)
    ∙ ap (λ (v : List ℕ). take k d ++ v) (ap (λ (v : List ℕ). v ++ drop (64 - k) b) p ∙ take-append-drop (64 - k) b) in
    rw a at (taken_behind h r z (drop (64 - k) b) x lz e i)

pub taken_done : (h o r : Hash) (d z b f g t x : List ℕ) (k : ℕ) → length d ≡ 64 → k < 64 → 64 - k ≤ length b → f ≡ take (64 - k) b → z ≡ laid d k f
    → o ≡ compressed h z → g ≡ drop (64 - k) b → r ≡ blocks (length g / 64) g o → t ≡ drop (length g / 64 * 64) g → x ≡ laid z 0 t → TakenIn h (take k d ++ b)
    r x
taken_done h o r d z b f g t x k l i j p q eo eg er et ex =
    let r' : r ≡ blocks (length (drop (64 - k) b) / 64) (drop (64 - k) b) (compressed h z) =
    er ∙ ap₂ (λ (u : List ℕ) (v : Hash). blocks (length u / 64) u v) eg eo in
    let x' : x ≡ laid z 0 (drop (length (drop (64 - k) b) / 64 * 64) (drop (64 - k) b)) =
    ex ∙ ap (laid z 0) (et ∙ ap (λ (u : List ℕ). drop (length u / 64 * 64) u) eg) in
    taken_long h r d z b f x k l i j p q r' x'

-- ---- one part more, in what a caller holds

abbrev stream : Hash → List ℕ → ℕ → Stream
stream h r c = record { hash = h; rest = r; count = c }

parts_same : {h h' : Hash} {r r' : List ℕ} {c c' : ℕ} → h ≡ h' → r ≡ r' → c ≡ c' → stream h r c ≡ stream h' r' c'
parts_same p q e = rw (p, q, e) refl

pub update_held : (run : Running) (h : Hash) (c : ℕ) (d x b : List ℕ) (k : ℕ) → length d ≡ 64 → k ≡ run.length % 64 → TakenIn run.hash (take k d ++ b) h x
    → c ≡ (run.length + length b) % 2 ^ 64 → stream_of (record { hash = h; length = c }) x ≡ updated (stream_of run d) b
unfolding updated
update_held run h c d x b k l q T e =
    let T' : TakenIn run.hash (take (run.length % 64) d ++ b) h x = rw q at T in
    let n : length (take (run.length % 64) d ++ b) ≡ run.length % 64 + length b =
    length-append (take (run.length % 64) d) b ∙ ap (λ (j : ℕ). j + length b) (length-take-le (run.length % 64) d (omega arith)) in
    let m : c % 64 ≡ length (take (run.length % 64) d ++ b) % 64 = rw (e, n) (omega arith) in
    parts_same T'.0 (ap (λ (j : ℕ). take j x) m ∙ T'.1) e

pub rest_front : (d : List ℕ) (k : ℕ) → take (k - 0) (drop 0 d) ≡ take k d
rest_front d k =
    let e : k - 0 ≡ k = omega arith in
    ap (λ (j : ℕ). take j d) e

pub rest_length : (d : List ℕ) (k n : ℕ) → length d ≡ 64 → k ≡ n % 64 → length (take (k - 0) (drop 0 d)) ≡ n % 64
rest_length d k n l q = ap length (rest_front d k) ∙ length-take-le k d (omega arith) ∙ q

pub finish_held : (run : Running) (d x f : List ℕ) (last : Hash) (k : ℕ) → k ≡ run.length % 64 → f ≡ take k d → last ≡ hashed run.hash f run.length
    → x ≡ digest last → x ≡ finished (stream_of run d)
unfolding finished
finish_held run d x f last k q p e i = i ∙ ap digest (e ∙ ap (λ (v : List ℕ). hashed run.hash v run.length) (p ∙ ap (λ (j : ℕ). take j d) q))

-- ---- the digest of a message in parts

-- the number of bits is told modulo 2 ^ 64, so a count of bytes modulo 2 ^ 64 is enough
padding_wraps : (n : ℕ) → padding (n % 2 ^ 64) ≡ padding n
unfolding padding bit_length
padding_wraps n =
    let a : (119 - n % 2 ^ 64 % 64) % 64 ≡ (119 - n % 64) % 64 = omega arith in
    let b : (n % 2 ^ 64 * 8) / 2 ^ 32 % 2 ^ 32 ≡ (n * 8) / 2 ^ 32 % 2 ^ 32 = omega arith in
    let c : (n % 2 ^ 64 * 8) % 2 ^ 32 ≡ (n * 8) % 2 ^ 32 = omega arith in
    rw (a, b, c) refl

hashed_same : (h : Hash) (s : List ℕ) (m n : ℕ) → m % 2 ^ 64 ≡ n % 2 ^ 64 → hashed h s m ≡ hashed h s n
unfolding hashed
hashed_same h s m n e =
    let p : padding m ≡ padding n = sym (padding_wraps m) ∙ ap padding e ∙ padding_wraps n in
    rw p refl

-- the whole blocks may be taken in first
hashed_on : (s b : List ℕ) (h : Hash) (m : ℕ) → hashed (blocks (length s / 64) s h) (drop (length s / 64 * 64) s ++ b) m ≡ hashed h (s ++ b) m
unfolding hashed
hashed_on s b h m =
    rw (append_assoc (drop (length s / 64 * 64) s) b (padding m), append_assoc s b (padding m))
    (blocks_on (length s / 64) s (b ++ padding m) h (whole_blocks s))

-- of any stream: what parts come to is that of all their bytes at once, after what was there
pub finish_parts : (bs : List (List ℕ)) (s : Stream) → finished (updates s bs) ≡ digest
    (hashed s.hash (s.rest ++ joined bs) (s.count + length (joined bs)))
unfolding updates joined finished updated
finish_parts [] s = rw (append-nil, add-zero) refl
finish_parts (b ∷ bs) s =
    let e : ((s.count + length b) % 2 ^ 64 + length (joined bs)) % 2 ^ 64 ≡ (s.count + length (b ++ joined bs)) % 2 ^ 64 =
    rw (length-append b (joined bs)) (omega arith) in
    finish_parts bs (updated s b)
    ∙ ap digest
    (hashed_on (s.rest ++ b) (joined bs) s.hash ((s.count + length b) % 2 ^ 64 + length (joined bs))
    ∙ ap (λ (v : List ℕ). hashed s.hash v ((s.count + length b) % 2 ^ 64 + length (joined bs))) (append_assoc s.rest b (joined bs))
    ∙ hashed_same s.hash (s.rest ++ (b ++ joined bs)) ((s.count + length b) % 2 ^ 64 + length (joined bs)) (s.count + length (b ++ joined bs)) e)

-- start, any updates and finish: the digest of the message
pub in_parts : (bs : List (List ℕ)) → finished (updates started bs) ≡ sha256_of (joined bs)
unfolding sha256_of
in_parts bs = finish_parts bs started ∙ ap (λ (n : ℕ). digest (hashed initial (joined bs) n)) (zero-add (length (joined bs)))

pub at_once : (b : List ℕ) → finished (updated started b) ≡ sha256_of b
unfolding updates joined
at_once b = in_parts (b ∷ []) ∙ ap sha256_of (append-nil b)

pub whole_done : (run last : Running) (d d' b x : List ℕ) → run ≡ begun → stream_of last d' ≡ updated (stream_of run d) b → x ≡ finished (stream_of last d')
    → x ≡ sha256_of b
whole_done run last d d' b x q e i = i ∙ ap finished (e ∙ ap (λ (v : Running). updated (stream_of v d) b) q) ∙ at_once b
