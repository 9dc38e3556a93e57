-- The last block or two: a message's last bytes, 0x80, zeros and the number of bits. Assumes nothing.
use Rattle.std.proofs.Common.{◌≡◌, ℕ, suc, ◌+◌, ◌-◌, ◌*◌, ◌/◌, ◌%◌, ◌<◌, ◌≤◌, List, ◌∷◌, ◌++◌, length, take, drop, set, replicate, sym, refl, ap, ◌∙◌, ap₂, append_assoc, append-nil, arith, length-append, drop_of_length-le, take_all, take_at, drop_at}
use lib.ListN.{length-replicate, replicate-append-replicate}
use lib.Seq.{set_at}
use Rattle.format.specs.Bytes.{over, to_be32}
use Rattle.wire.specs.Laid.{laid}
use Rattle.wire.proofs.Laws.{laid_next, length_laid}
use Rattle.sha256.specs.Digest.{bit_length, padding, half_digest, compressed, blocks, digest, hashed}
use Rattle.sha256.specs.declared.Hash.{Hash}

-- 5.1.1: "k is the smallest, non-negative solution to the equation l + 1 + k ≡ 448 mod 512", in bytes
pub fewest_zeros : (n k : ℕ) → (n + 1 + k) % 64 ≡ 56 → (119 - n % 64) % 64 ≤ k
fewest_zeros n k e = omega arith

pub zeros_solve : (n : ℕ) → (n + 1 + (119 - n % 64) % 64) % 64 ≡ 56
zeros_solve n = omega arith

-- ---- words laid one after another

pub word_length : (n : ℕ) → length (to_be32 n) ≡ 4
unfolding to_be32
word_length n = refl

bits_length : (n : ℕ) → length (bit_length n) ≡ 8
unfolding bit_length to_be32
bits_length n = refl

-- s behind four bytes
laid_word : (d s : List ℕ) (k j n : ℕ) → j ≡ k + 4 → k ≤ length d → laid (laid d k (to_be32 n)) j s ≡ laid d k (to_be32 n ++ s)
laid_word d s k j n e h =
    let f : j ≡ k + length (to_be32 n) = rw (word_length n) e in
    ap (λ (i : ℕ). laid (laid d k (to_be32 n)) i s) f ∙ laid_next d (to_be32 n) s k h

-- what ends where the list ends
pub laid_end : (d s : List ℕ) (k : ℕ) → k + length s ≡ length d → laid d k s ≡ take k d ++ s
unfolding laid
laid_end d s k e = rw (drop_of_length-le d {i = k + length s} (omega arith), append-nil) refl

both_words : (hi lo n : ℕ) → hi ≡ n * 8 / 4294967296 % 4294967296 → lo ≡ n * 8 % 4294967296 → to_be32 hi ++ to_be32 lo ≡ bit_length n
unfolding bit_length
both_words hi lo n p q = rw (p, q) refl

length_laid_in : (d : List ℕ) (n hi lo : ℕ) → length d ≡ 64 → hi ≡ n * 8 / 4294967296 % 4294967296 → lo ≡ n * 8 % 4294967296
    → laid (laid d 56 (to_be32 hi)) 60 (to_be32 lo) ≡ take 56 d ++ bit_length n
length_laid_in d n hi lo l p q =
    laid_word d (to_be32 lo) 56 60 hi refl (omega arith)
    ∙ ap (laid d 56) (both_words hi lo n p q)
    ∙ laid_end d (bit_length n) 56 (omega (arith, bits_length n))

pub length_done : (d x y : List ℕ) (n hi lo : ℕ) → length d ≡ 64 → hi ≡ n * 8 / 4294967296 % 4294967296 → lo ≡ n * 8 % 4294967296
    → x ≡ laid d 56 (to_be32 hi) → y ≡ laid x 60 (to_be32 lo) → y ≡ take 56 d ++ bit_length n
length_done d x y n hi lo l p q e f = f ∙ ap (λ (v : List ℕ). laid v 60 (to_be32 lo)) e ∙ length_laid_in d n hi lo l p q

half_length : (a b c d : ℕ) → length (half_digest a b c d) ≡ 16
unfolding to_be32
half_length a b c d = refl

half_laid : (s : List ℕ) (k a b c d : ℕ) → k + 16 ≤ length s
    → laid (laid (laid (laid s k (to_be32 a)) (k + 4) (to_be32 b)) (k + 8) (to_be32 c)) (k + 12) (to_be32 d) ≡ laid s k (half_digest a b c d)
half_laid s k a b c d h =
    let l1 : length (laid s k (to_be32 a)) ≡ length s = length_laid s (to_be32 a) k (omega (arith, word_length a)) in
    let l2 : length (laid (laid s k (to_be32 a)) (k + 4) (to_be32 b)) ≡ length s = length_laid (laid s k (to_be32 a)) (to_be32 b) (k + 4)
    (omega (arith, l1, word_length b)) ∙ l1 in
    laid_word (laid (laid s k (to_be32 a)) (k + 4) (to_be32 b)) (to_be32 d) (k + 8) (k + 12) c (omega arith) (omega (arith, l2))
    ∙ laid_word (laid s k (to_be32 a)) (to_be32 c ++ to_be32 d) (k + 4) (k + 8) b (omega arith) (omega (arith, l1))
    ∙ laid_word s (to_be32 b ++ (to_be32 c ++ to_be32 d)) k (k + 4) a refl (omega arith)

pub half_done : (s s1 s2 s3 s4 : List ℕ) (k a b c d : ℕ) → k + 16 ≤ length s → s1 ≡ laid s k (to_be32 a) → s2 ≡ laid s1 (k + 4) (to_be32 b)
    → s3 ≡ laid s2 (k + 8) (to_be32 c) → s4 ≡ laid s3 (k + 12) (to_be32 d) → s4 ≡ laid s k (half_digest a b c d)
half_done s s1 s2 s3 s4 k a b c d h e1 e2 e3 e4 =
    e4
    ∙ ap (λ (v : List ℕ). laid v (k + 12) (to_be32 d))
    (e3 ∙ ap (λ (v : List ℕ). laid v (k + 8) (to_be32 c)) (e2 ∙ ap (λ (v : List ℕ). laid v (k + 4) (to_be32 b)) e1))
    ∙ half_laid s k a b c d h

halves : (d x y : List ℕ) → length x ≡ 16 → length y ≡ 16 → length d ≡ 32 → laid (laid d 0 x) 16 y ≡ x ++ y
halves d x y p q l =
    let e : 16 ≡ 0 + length x = omega arith in
    let m : length (x ++ y) ≡ 32 = length-append x y ∙ omega arith in
    ap (λ (i : ℕ). laid (laid d 0 x) i y) e ∙ laid_next d x y 0 (omega arith) ∙ laid_end d (x ++ y) 0 (omega arith)

digest_laid : (d : List ℕ) (s : Hash) → length d ≡ 32
    → laid (laid d 0 (half_digest s.a s.b s.c s.d)) 16 (half_digest s.e s.f s.g s.h) ≡ digest s
unfolding digest
digest_laid d s l =
    halves d (half_digest s.a s.b s.c s.d) (half_digest s.e s.f s.g s.h)
    (half_length s.a s.b s.c s.d) (half_length s.e s.f s.g s.h) l

pub digest_done : (d x y : List ℕ) (s : Hash) → length d ≡ 32 → x ≡ laid d 0 (half_digest s.a s.b s.c s.d)
    → y ≡ laid x 16 (half_digest s.e s.f s.g s.h) → y ≡ digest s
digest_done d x y s l e f = f ∙ ap (λ (v : List ℕ). laid v 16 (half_digest s.e s.f s.g s.h)) e ∙ digest_laid d s l

-- ---- the last bytes

zeros_cons : (n m : ℕ) → n ≡ suc m → replicate {A = ℕ} n 0 ≡ 0 ∷ replicate m 0
zeros_cons n m e = rw e refl

drop_zeros : (n m : ℕ) → drop n (replicate {A = ℕ} (n + m) 0) ≡ replicate m 0
drop_zeros n m = rw (← replicate-append-replicate {A = ℕ} n m 0) (drop_at (replicate n 0) (replicate m 0) n (length-replicate n 0))

-- s copied over zeros, and a byte behind it
pub last_block : (s b z : List ℕ) → length s < 64 → z ≡ replicate 64 0 → b ≡ over s z → set b (length s) 128 ≡ s ++ (128 ∷ replicate (63 - length s) 0)
unfolding over
last_block s b z h q e =
    let m : 64 ≡ length s + (64 - length s) = omega arith in
    let d : drop (length s) z ≡ 0 ∷ replicate (63 - length s) 0 =
    ap (drop (length s)) (q ∙ ap (λ (j : ℕ). replicate {A = ℕ} j 0) m) ∙ drop_zeros (length s) (64 - length s) ∙ zeros_cons (64 - length s) (63 - length s)
    (omega arith) in
    rw (e, d) (set_at s 0 (replicate (63 - length s) 0) 128 (length s) refl)

one_block : (e : List ℕ) (h : Hash) → length e ≡ 64 → blocks (length e / 64) e h ≡ compressed h e
unfolding blocks
one_block e h l = rw (l, take_all 64 e (omega arith)) refl

two_blocks : (b e : List ℕ) (h : Hash) → length b ≡ 64 → length e ≡ 64 → blocks (length (b ++ e) / 64) (b ++ e) h ≡ compressed (compressed h b) e
unfolding blocks
two_blocks b e h l k =
    let n : length (b ++ e) ≡ 128 = simp length-append (omega arith) in
    rw (n, take_at b e 64 l, drop_at b e 64 l, take_all 64 e (omega arith)) refl

-- the zeros of a padding in two parts
zeros_split : (s : List ℕ) (j k : ℕ) → s ++ (128 ∷ replicate (j + k) 0) ≡ (s ++ (128 ∷ replicate j 0)) ++ replicate k 0
zeros_split s j k = rw (append_assoc, ← replicate-append-replicate {A = ℕ} j k 0) refl

end_length : (s : List ℕ) (j : ℕ) → length (s ++ (128 ∷ replicate j 0)) ≡ length s + (1 + j)
end_length s j = length-append s (128 ∷ replicate j 0) ∙ ap (λ (x : ℕ). length s + x) (ap suc (length-replicate j 0) ∙ (omega arith))

padding_is : (s : List ℕ) (n z : ℕ) → (119 - n % 64) % 64 ≡ z → s ++ padding n ≡ (s ++ (128 ∷ replicate z 0)) ++ bit_length n
unfolding padding
padding_is s n z e = rw (e, append_assoc) refl

short_cut : (s : List ℕ) → length s < 56 → take 56 (s ++ (128 ∷ replicate (63 - length s) 0)) ≡ s ++ (128 ∷ replicate (55 - length s) 0)
short_cut s h =
    let e : 63 - length s ≡ 55 - length s + 8 = omega arith in
    let l : length (s ++ (128 ∷ replicate (55 - length s) 0)) ≡ 56 = end_length s (55 - length s) ∙ omega arith in
    rw (e, zeros_split s (55 - length s) 8) (take_at (s ++ (128 ∷ replicate (55 - length s) 0)) (replicate 8 0) 56 l)

-- the number of bits has room in the same block
pub short_end : (s b e : List ℕ) (n : ℕ) (h x : Hash) → length s ≡ n % 64 → length s < 56 → b ≡ s ++ (128 ∷ replicate (63 - length s) 0)
    → e ≡ take 56 b ++ bit_length n → x ≡ compressed h e → x ≡ hashed h s n
unfolding hashed
short_end s b e n h x r g p q k =
    let z : s ++ padding n ≡ e = padding_is s n (55 - length s) (omega arith) ∙ ap (λ (v : List ℕ). v ++ bit_length n)
    (sym (short_cut s g) ∙ ap (take 56) (sym p)) ∙ sym q in
    let l : length e ≡ 64 = ap length (sym z ∙ padding_is s n (55 - length s) (omega arith)) ∙ length-append (s ++ (128 ∷ replicate (55 - length s) 0))
    (bit_length n) ∙ rw (end_length s (55 - length s), bits_length n) (omega arith) in
    rw z (k ∙ sym (one_block e h l))

-- or it takes one more
pub long_end : (s b e o : List ℕ) (n : ℕ) (h x y : Hash) → length s ≡ n % 64 → 56 ≤ length s → length s < 64 → b ≡ s ++ (128 ∷ replicate (63 - length s) 0)
    → o ≡ replicate 64 0 → e ≡ take 56 o ++ bit_length n → y ≡ compressed h b → x ≡ compressed y e → x ≡ hashed h s n
unfolding hashed
long_end s b e o n h x y r g g' p w q k k' =
    let a : 63 - length s + 56 ≡ 119 - length s = omega arith in
    let e' : e ≡ replicate 56 0 ++ bit_length n = q ∙ ap (λ (v : List ℕ). take 56 v ++ bit_length n) w in
    let z : s ++ padding n ≡ b ++ e =
    padding_is s n (63 - length s + 56) (omega arith)
    ∙ ap (λ (v : List ℕ). v ++ bit_length n) (zeros_split s (63 - length s) 56)
    ∙ append_assoc (s ++ (128 ∷ replicate (63 - length s) 0)) (replicate 56 0) (bit_length n)
    ∙ ap₂ (λ (u v : List ℕ). u ++ v) (sym p) (sym e') in
    let lb : length b ≡ 64 = ap length p ∙ end_length s (63 - length s) ∙ omega arith in
    let le : length e ≡ 64 = ap length e' ∙ length-append (replicate 56 0) (bit_length n) ∙ rw (bits_length n) refl in
    rw z (k' ∙ ap (λ (v : Hash). compressed v e) k ∙ sym (two_blocks b e h lb le))
