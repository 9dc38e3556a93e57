-- One name more: the room stays good, and the entries are one more. Assumes nothing.
use Prim.Native.Nat.{ℕ, ◌+◌, ◌-◌, ◌*◌, ◌/◌, ◌%◌, ◌≤◌, ◌<◌}
use mathlib.Core.Path.{◌≡◌, refl, sym, ap, subst, ◌∙◌}
use mathlib.Core.List.{List, [], ◌∷◌, ◌++◌}
use mathlib.Core.Logic.{◌⊎◌, inl, inr}
use native.Mathlib.Omega.{arith}
use native.Mathlib.Nat.{add-zero, mod-lt}
use lib.ListN.{length, drop}
use lib.Seq.{take-length}
use Rattle.format.specs.Bytes.{le16, le32, to_le32}
use Rattle.wire.specs.Laid.{laid}
use Rattle.piece.specs.Pieces.{le40, piece}
use Rattle.wire.proofs.Laws.{length_laid}
use Rattle.piece.proofs.Laws.{piece_before, piece_behind, piece_of, le16_piece, le24_piece, le32_piece, le40_piece}
use Rattle.table.specs.Hash.{hash_of}
use Rattle.table.specs.Room.{start_at, size_at, hash_at, next_at, point_at, name_at, head_spot, head_at, front_of, node_of, hung_at}
use Rattle.table.specs.Entries.{nowhere, lookup, room_of, entries_of}
use Rattle.table.specs.Good.{In, here, there, Inside, Body, Chained, Good, Links, Rehung}
use Rattle.table.specs.Told.{NodeTold, Grew}
use Rattle.format.specs.declared.Point.{Point}
use Rattle.table.proofs.Lookups.{one, room_last, entries_same, entries_more}
use Rattle.table.proofs.Frames.{start_kept, size_kept, hash_kept, point_kept, name_kept}
use Rattle.table.proofs.Chains.{last_or, hang_kept, hang_chained}

-- ---- a node's bytes read back

le32_read : (n : ℕ) (rest : List ℕ) → n < 4294967296 → le32 (n % 256 ∷ n / 256 % 256 ∷ n / 65536 % 256 ∷ n / 16777216 % 256 ∷ rest) ≡ n
unfolding le32
le32_read n rest h = let z : n / 16777216 % 256 ≡ n / 16777216 = omega arith in rw z (omega arith)

le40_read : (n : ℕ) (rest : List ℕ) → n < 1099511627776 → le40 (n % 256 ∷ n / 256 % 256 ∷ n / 65536 % 256 ∷ n / 16777216 % 256 ∷ n / 4294967296 % 256 ∷ rest) ≡ n
unfolding le40
le40_read n rest h =
    let a : n ≡ n % 256 + n / 256 * 256 = omega arith in
    let b : n / 256 ≡ n / 256 % 256 + n / 65536 * 256 = omega arith in
    let c : n / 65536 ≡ n / 65536 % 256 + n / 16777216 * 256 = omega arith in
    let d : n / 16777216 ≡ n / 16777216 % 256 + n / 4294967296 * 256 = omega arith in
    let z : n / 4294967296 % 256 ≡ n / 4294967296 = omega arith in
    rw z (omega arith)

abbrev pub bytes_of : ℕ → ℕ → ℕ → Point → List ℕ
bytes_of start size h p = node_of (front_of start size (to_le32 h)) (to_le32 p.x) (to_le32 p.y) (to_le32 p.z)

module _ (start size h : ℕ) (p : Point) where
  node_length : length (bytes_of start size h p) ≡ 32
  unfolding node_of
  node_length = refl

  node_start : start < 1099511627776 → le40 (drop 0 (bytes_of start size h p)) ≡ start
  unfolding node_of front_of
  node_start l = le40_read start _ l

  node_size : size < 65536 → le16 (drop 5 (bytes_of start size h p)) ≡ size
  unfolding node_of front_of le16
  node_size l = omega arith

  node_hash : h < 4294967296 → le32 (drop 7 (bytes_of start size h p)) ≡ h
  unfolding node_of front_of to_le32
  node_hash l = le32_read h _ l

  node_point : p.x < 4294967296 → p.y < 4294967296 → p.z < 4294967296
      → ◌≡◌ {A = Point} (record { x = le32 (drop 20 (bytes_of start size h p)); y = le32 (drop 24 (bytes_of start size h p)); z = le32 (drop 28 (bytes_of start size h p)) }) p
  unfolding node_of to_le32
  node_point hx hy hz = rw (le32_read p.x _ hx, le32_read p.y _ hy, le32_read p.z _ hz)

-- ---- the room after a name and its node, in no chain yet

pub record Put (r r' : List ℕ) (n back : ℕ) (name : List ℕ) (h : ℕ) (p : Point) : Type 0 where
  pub same_length : length r' ≡ length r
  pub old : (a m : ℕ) → a + m ≤ 32 * n → piece r' a m ≡ piece r a m
  pub names : (a m : ℕ) → length r - back ≤ a → piece r' a m ≡ piece r a m
  pub new_start : start_at r' n ≡ back + length name
  pub new_size : size_at r' n ≡ length name
  pub new_hash : hash_at r' n ≡ h
  pub new_point : point_at r' n ≡ p
  pub new_name : piece r' (length r - (back + length name)) (length name) ≡ name

abbrev pub room_with : List ℕ → List ℕ → ℕ → ℕ → List ℕ → List ℕ
room_with r name n back node = laid (laid r (length r - (back + length name)) name) (32 * n) node

put : (r name : List ℕ) (n back h : ℕ) (p : Point) (node : List ℕ) → 32 * n + 32 + (back + length name) ≤ length r → back + length name < 1099511627776 → length name < 65536
    → NodeTold node (back + length name) (length name) h p → Put r (room_with r name n back node) n back name h p
unfolding start_at size_at hash_at point_at piece
put r name n back h p node room hs hn t =
    let start = back + length name in
    let from = length r - start in
    let r₁ = laid r from name in
    let r₂ = laid r₁ (32 * n) node in
    let size : length node ≡ 32 = ap length t.bytes ∙ node_length start (length name) h p in
    let l₁ : length r₁ ≡ length r = length_laid r name from (omega arith) in
    let l₂ : length r₂ ≡ length r = length_laid r₁ node (32 * n) (omega (arith, l₁)) ∙ l₁ in
    let new : (j m : ℕ) → j + m ≤ 32 → piece r₂ (32 * n + j) m ≡ piece node j m = λ j m b. piece_of r₁ node (32 * n) j m (omega (arith, l₁)) (omega arith) in
    let told : (f : List ℕ → ℕ) (j : ℕ) → f (drop j node) ≡ f (drop j (bytes_of start (length name) h p)) = λ f j. ap (λ (s : List ℕ). f (drop j s)) t.bytes in
    record {
      same_length = l₂;
      old = λ a m b. piece_before r₁ node (32 * n) a m (omega (arith, l₁)) b ∙ piece_before r name from a m (omega arith) (omega arith);
      names = λ a m b. piece_behind r₁ node (32 * n) a m (omega (arith, l₁)) (omega arith) ∙ piece_behind r name from a m (omega arith) (omega arith);
      new_start = le40_piece r₂ node (32 * n) 0 (rw (add-zero (32 * n)) at (new 0 5 (omega arith))) ∙ told le40 0 ∙ node_start start (length name) h p hs;
      new_size = le16_piece r₂ node (32 * n + 5) 5 (new 5 2 (omega arith)) ∙ told le16 5 ∙ node_size start (length name) h p hn;
      new_hash = le32_piece r₂ node (32 * n + 7) 7 (new 7 4 (omega arith)) ∙ told le32 7 ∙ node_hash start (length name) h p t.hash_fits;
      new_point = rw (le32_piece r₂ node (32 * n + 20) 20 (new 20 4 (omega arith)) ∙ told le32 20, le32_piece r₂ node (32 * n + 24) 24 (new 24 4 (omega arith)) ∙ told le32 24, le32_piece r₂ node (32 * n + 28) 28 (new 28 4 (omega arith)) ∙ told le32 28) (node_point start (length name) h p t.x_fits t.y_fits t.z_fits);
      new_name =
          piece_behind r₁ node (32 * n) from (length name) (omega (arith, l₁)) (omega arith)
          ∙ ap (λ (a : ℕ). piece (laid r from name) a (length name)) (sym (add-zero from))
          ∙ piece_of r name from 0 (length name) (omega arith) (omega arith)
          ∙ take-length name;
    }

module _ (seed : ℕ) (r r' : List ℕ) (n back p : ℕ) (name : List ℕ) (h : ℕ) (place : Point) (g : Good seed r n back p) (w : Put r r' n back name h place) where
  start_old : (i : ℕ) → i < n → start_at r' i ≡ start_at r i
  unfolding start_at
  start_old i l = le40_piece r' r (32 * i) (32 * i) (w.old (32 * i) 5 (omega arith))

  size_old : (i : ℕ) → i < n → size_at r' i ≡ size_at r i
  unfolding size_at
  size_old i l = le16_piece r' r (32 * i + 5) (32 * i + 5) (w.old (32 * i + 5) 2 (omega arith))

  hash_old : (i : ℕ) → i < n → hash_at r' i ≡ hash_at r i
  unfolding hash_at
  hash_old i l = le32_piece r' r (32 * i + 7) (32 * i + 7) (w.old (32 * i + 7) 4 (omega arith))

  next_old : (i : ℕ) → i < n → next_at r' i ≡ next_at r i
  unfolding next_at
  next_old i l = le24_piece r' r (32 * i + 17) (32 * i + 17) (w.old (32 * i + 17) 3 (omega arith))

  head_old : (b : ℕ) → b < 2 * n → head_at r' b ≡ head_at r b
  unfolding head_at
  head_old b l = le24_piece r' r (head_spot b) (head_spot b) (w.old (head_spot b) 3 (omega arith))

  point_old : (i : ℕ) → i < n → point_at r' i ≡ point_at r i
  unfolding point_at
  point_old i l =
      rw (le32_piece r' r (32 * i + 20) (32 * i + 20) (w.old (32 * i + 20) 4 (omega arith)), le32_piece r' r (32 * i + 24) (32 * i + 24) (w.old (32 * i + 24) 4 (omega arith)), le32_piece r' r (32 * i + 28) (32 * i + 28) (w.old (32 * i + 28) 4 (omega arith)))

  name_old : (i : ℕ) → i < n → name_at r' i ≡ name_at r i
  unfolding name_at
  name_old i l =
      rw (w.same_length, start_old i l, size_old i l) (w.names (length r - start_at r i) (size_at r i) (let x = g.body.inside i l in omega arith))

  name_new : name_at r' n ≡ name
  unfolding name_at
  name_new = rw (w.same_length, w.new_start, w.new_size) w.new_name

  pub put_entries : entries_of r' (n + 1) ≡ entries_of r n ++ (record { name = name; place = place } ∷ [])
  put_entries = entries_more r' n ∙ rw (entries_same r r' n name_old point_old, name_new, w.new_point)

  in_old : {c j : ℕ} → c ≤ n → In r c j → In r' c j
  in_old l (here q) = here q
  in_old {j = j} l (there k q x) =
      let m : k < n = omega arith in
      let y = g.chained.nexts k m in
      there k q (subst (λ (c : ℕ). In r' c j) (sym (next_old k m)) (in_old (omega arith) x))

  reached_old : (b j : ℕ) → j < n → hash_at r' j % (2 * p) ≡ b → In r' (head_at r' b) j
  reached_old b j l e =
      let q : hash_at r j % (2 * p) ≡ b = rw (hash_old j l) at e in
      let some : 0 < p = g.some (omega arith) in
      let m : b < 2 * p = subst (λ (k : ℕ). k < 2 * p) q (mod-lt (hash_at r j) (let z : 0 < 2 * p = omega arith in z)) in
      let k : b < 2 * n = let y = g.spread in omega arith in
      subst (λ (c : ℕ). In r' c j) (sym (head_old b k)) (in_old (g.chained.heads b m) (g.chained.reached b j l q))

  -- the old nodes' chains
  pub put_chained : Chained r' p n
  put_chained =
      record {
        heads = λ b l. let x = head_old b (let y = g.spread in omega arith) in let y = g.chained.heads b l in omega arith;
        nexts = λ i l. let x = next_old i l in let y = g.chained.nexts i l in omega arith;
        reached = reached_old;
      }

  absent : lookup (entries_of r n) name ≡ nowhere → (j : ℕ) → j < n → name_at r j ≡ name → ⊥
  absent e j l q =
      let x = one r n name j l q (λ i m d. g.body.distinct i j m l (d ∙ sym q)) in
      let z : ◌≡◌ {A = ℕ} 0 1 = cc in
      omega arith

  module _ (e : lookup (entries_of r n) name ≡ nowhere) (eh : h ≡ hash_of seed name) where
    all_distinct : (i j : ℕ) → i < n + 1 → j < n + 1 → name_at r' i ≡ name_at r' j → i ≡ j
    all_distinct i j li lj q = go (last_or i n li) (last_or j n lj)
      where
        new_is : (k : ℕ) → k ≡ n → name_at r' k ≡ name
        new_is k x = ap (name_at r') x ∙ name_new

        go : (i ≡ n) ⊎ (i < n) → (j ≡ n) ⊎ (j < n) → i ≡ j
        go (inl x) (inl y) = x ∙ sym y
        go (inl x) (inr y) = absurd (absent e j y (sym (name_old j y) ∙ sym q ∙ new_is i x))
        go (inr x) (inl y) = absurd (absent e i x (sym (name_old i x) ∙ q ∙ new_is j y))
        go (inr x) (inr y) = g.body.distinct i j x y (sym (name_old i x) ∙ q ∙ name_old j y)

    all_hashes : (i : ℕ) → i < n + 1 → hash_at r' i ≡ hash_of seed (name_at r' i)
    all_hashes i l = go (last_or i n l)
      where
        go : (i ≡ n) ⊎ (i < n) → hash_at r' i ≡ hash_of seed (name_at r' i)
        go (inl x) = ap (hash_at r') x ∙ w.new_hash ∙ eh ∙ ap (hash_of seed) (sym (ap (name_at r') x ∙ name_new))
        go (inr x) = hash_old i x ∙ g.body.hashes i x ∙ ap (hash_of seed) (sym (name_old i x))

    all_inside : (i : ℕ) → i < n + 1 → Inside r' (back + length name) i
    all_inside i l = go (last_or i n l)
      where
        go : (i ≡ n) ⊎ (i < n) → Inside r' (back + length name) i
        go (inl x) =
            let a : start_at r' i ≡ back + length name = ap (start_at r') x ∙ w.new_start in
            let b : size_at r' i ≡ length name = ap (size_at r') x ∙ w.new_size in
            record { size_within = omega arith; start_within = omega arith }
        go (inr x) =
            let a = start_old i x in
            let b = size_old i x in
            let y = g.body.inside i x in
            record { size_within = omega (arith, y.size_within); start_within = omega (arith, y.start_within) }

    pub put_body : 32 * n + 32 + (back + length name) ≤ length r → length name ≤ 4096 → n < 16777215 → Body seed r' (n + 1) (back + length name)
    put_body room short few =
        record {
          fits = let q = w.same_length in omega arith;
          few = omega arith;
          short = let q = g.body.short in omega arith;
          used = ap room_of put_entries ∙ room_last (entries_of r n) (record { name = name; place = place }) ∙ (let q = g.body.used in omega arith);
          inside = all_inside;
          hashes = all_hashes;
          distinct = all_distinct;
        }

-- ---- a change of links keeps the rest

module _ (seed : ℕ) (r r' : List ℕ) (n back : ℕ) (g : Body seed r n back) (w : Links r r' n) where
  named : (i : ℕ) → i < n → name_at r' i ≡ name_at r i
  named i l = name_kept r r' n w i (let x = g.inside i l in let y = g.fits in omega arith)

  pub links_entries : entries_of r' n ≡ entries_of r n
  links_entries = entries_same r r' n named (λ i l. point_kept r r' n w i)

  pub links_body : Body seed r' n back
  links_body =
      record {
        fits = let q = w.same_length in let y = g.fits in omega arith;
        few = g.few;
        short = g.short;
        used = ap room_of links_entries ∙ g.used;
        inside = λ i l. let x = g.inside i l in let a = start_kept r r' n w i in let b = size_kept r r' n w i in record { size_within = omega (arith, x.size_within); start_within = omega (arith, x.start_within) };
        hashes = λ i l. hash_kept r r' n w i ∙ g.hashes i l ∙ ap (hash_of seed) (sym (named i l));
        distinct = λ i j li lj q. g.distinct i j li lj (sym (named i li) ∙ q ∙ named j lj);
      }

-- ---- `add`

module _ (seed : ℕ) (r name : List ℕ) (n back p h : ℕ) (place : Point) (node : List ℕ) (g : Good seed r n back p) (e : lookup (entries_of r n) name ≡ nowhere) (eh : h ≡ hash_of seed name)
    (room : 32 * n + 32 + (back + length name) ≤ length r) (short : length name ≤ 4096) (few : n < 16777215) (t : NodeTold node (back + length name) (length name) h place) where
  abbrev r₂ : List ℕ
  r₂ = room_with r name n back node

  w₂ : Put r r₂ n back name h place
  w₂ = put r name n back h place node room (let x = g.body.short in omega arith) (omega arith) t

  pub room_kept : length r₂ ≡ length r
  room_kept = w₂.same_length

  grew : (r₃ : List ℕ) (q : ℕ) → Links r₂ r₃ (n + 1) → Chained r₃ q (n + 1) → 0 < q → q ≤ n + 1 → Grew r r₃ n name place (record { count = n + 1; back = back + length name; spread = q; seed = seed })
  grew r₃ q w c some within =
      let b = put_body seed r r₂ n back p name h place g w₂ e eh room short few in
      record {
        room = let x = g.body.used in omega arith;
        count = refl;
        good = record { body = links_body seed r₂ r₃ (n + 1) (back + length name) b w; chained = c; spread = within; some = λ l. some };
        entries = links_entries seed r₂ r₃ (n + 1) (back + length name) b w ∙ put_entries seed r r₂ n back p name h place g w₂;
      }

  pub grew_anew : (r₃ : List ℕ) → Rehung r₂ r₃ (n + 1) (n + 1) → Grew r r₃ n name place (record { count = n + 1; back = back + length name; spread = n + 1; seed = seed })
  grew_anew r₃ w = grew r₃ (n + 1) w.links w.chained (omega arith) (omega arith)

  pub grew_on : n + 1 ≤ 2 * p → Grew r (hung_at r₂ (hash_at r₂ n % (2 * p)) n) n name place (record { count = n + 1; back = back + length name; spread = p; seed = seed })
  grew_on l =
      let some : 0 < p = omega arith in
      let within : p ≤ n + 1 = let x = g.spread in omega arith in
      let big : 32 * (n + 1) ≤ length r₂ = let x = room_kept in omega arith in
      let c = put_chained seed r r₂ n back p name h place g w₂ in
      grew (hung_at r₂ (hash_at r₂ n % (2 * p)) n) p (hang_kept r₂ p (n + 1) n c some within (omega arith) (omega arith) big) (hang_chained r₂ p (n + 1) n c some within (omega arith) (omega arith) big) some within
