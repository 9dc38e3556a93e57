-- An item is settled by its own bytes. With other bytes behind them it is the same item; and where bytes are too few for an item, whatever comes
-- behind them makes an item that is longer than they are, or none. Assumes nothing.
use Rattle.std.specs.Prelude.{Option, None, Some}
use Prim.Native.Nat.{ℕ, zero, suc, ◌+◌, ◌-◌, ◌%◌, ◌≤◌, ◌<◌}
use mathlib.Core.Path.{◌≡◌, refl, sym, ap, ap₂, ◌∙◌}
use mathlib.Core.List.{List, [], ◌∷◌, ◌++◌}
use mathlib.Core.Bool.{Bool, true, false}
use native.Mathlib.Omega.{arith}
use lib.ListN.{length, get_or, take, drop, length-append, length-drop, take-append-drop}
use lib.Dec.{eqb, ltb}
use lib.Seq.{drop-drop, length-take-le}
use borrow.Author.Tests.{ltb-true, ltb-false, le-ltb, eqb-false, eq-eqb, ne_eqb}
use Rattle.format.specs.Bytes.{pick, le16, le32, widened}
use Rattle.format.specs.Items.{Item, Move, Date, Error, Xsect, Label, Line, Decoded, faulty, whole, sized, with_part, behind_code, labelled_item, station_item, line_item, section_item, move_item, error_item, day_item, span_item, days_item, seconds_item, two_seconds_item, day_of_seconds, old_part, length_size, length_value, long_part, new_part, old_date_item, v7_date_item, old_middle_item, old_low_item, old_high_item, new_date_item, new_low_item, new_high_item, point_of, dimensions_of, traverse_of, item_of, numbers}
use Rattle.format.specs.declared.Point.{Point}
use Rattle.format.specs.declared.Dimensions.{Dimensions}
use Rattle.format.specs.declared.LabelPart.{LabelPart}
use Rattle.format.proofs.Basics.{pick_case}
use Rattle.format.proofs.ReadingLaws.{SizedItem, progress}

-- ---- the front of a list, with t behind it

pub drop_front : (j : ℕ) (u t : List ℕ) → j ≤ length u → drop j (u ++ t) ≡ drop j u ++ t
drop_front zero u t h = refl
drop_front (suc j) [] t h = absurd (omega arith)
drop_front (suc j) (b ∷ u) t h = drop_front j u t (omega arith)

take_front : (a : ℕ) (u t : List ℕ) → a ≤ length u → take a (u ++ t) ≡ take a u
take_front zero u t h = refl
take_front (suc a) [] t h = absurd (omega arith)
take_front (suc a) (b ∷ u) t h = ap (λ (v : List ℕ). b ∷ v) (take_front a u t (omega arith))

get_front : (i : ℕ) (u t : List ℕ) → i < length u → get_or (u ++ t) i 0 ≡ get_or u i 0
get_front i [] t h = absurd (omega arith)
get_front zero (b ∷ u) t h = refl
get_front (suc i) (b ∷ u) t h = get_front i u t (omega arith)

-- what looks at w bytes of every list finds the same behind j others
front_at : {X : Type 0} (f : List ℕ → X) (w : ℕ) (t : List ℕ) → ((v : List ℕ) → w ≤ length v → f (v ++ t) ≡ f v) → (j : ℕ) (u : List ℕ) → j + w ≤ length u → f (drop j (u ++ t)) ≡ f (drop j u)
front_at f w t h j u l = ap f (drop_front j u t (omega arith)) ∙ h (drop j u) (let z = length-drop j u in omega arith)

module _ (t : List ℕ) where
  le16_front : (v : List ℕ) → 2 ≤ length v → le16 (v ++ t) ≡ le16 v
  unfolding le16
  le16_front v l = rw (get_front 0 v t (omega arith), get_front 1 v t (omega arith))

  le32_front : (v : List ℕ) → 4 ≤ length v → le32 (v ++ t) ≡ le32 v
  unfolding le32
  le32_front v l = rw (get_front 0 v t (omega arith), get_front 1 v t (omega arith), get_front 2 v t (omega arith), get_front 3 v t (omega arith))

  point_front : (v : List ℕ) → 12 ≤ length v → point_of le32 (v ++ t) ≡ point_of le32 v
  point_front v l = rw (le32_front v (omega arith), front_at le32 4 t le32_front 4 v (omega arith), front_at le32 4 t le32_front 8 v (omega arith))

  long_front : (v : List ℕ) → 16 ≤ length v → dimensions_of 4 le32 (v ++ t) ≡ dimensions_of 4 le32 v
  long_front v l = rw (le32_front v (omega arith), front_at le32 4 t le32_front 4 v (omega arith), front_at le32 4 t le32_front 8 v (omega arith), front_at le32 4 t le32_front 12 v (omega arith))

  abbrev short : List ℕ → ℕ
  short s = widened (le16 s)

  wide_front : (v : List ℕ) → 2 ≤ length v → short (v ++ t) ≡ short v
  wide_front v l = ap widened (le16_front v l)

  short_front : (v : List ℕ) → 8 ≤ length v → dimensions_of 2 short (v ++ t) ≡ dimensions_of 2 short v
  short_front v l = rw (wide_front v (omega arith), front_at short 2 t wide_front 2 v (omega arith), front_at short 2 t wide_front 4 v (omega arith), front_at short 2 t wide_front 6 v (omega arith))

  traverse_front : (v : List ℕ) → 20 ≤ length v → traverse_of le32 (v ++ t) ≡ traverse_of le32 v
  traverse_front v l =
      rw (le32_front v (omega arith), front_at le32 4 t le32_front 4 v (omega arith), front_at le32 4 t le32_front 8 v (omega arith), front_at le32 4 t le32_front 12 v (omega arith), front_at le32 4 t le32_front 16 v (omega arith))

-- ---- what m bytes say of an item, and what more say

-- none, or one that is longer
abbrev pub Longer : ℕ → Decoded → Type 0
Longer m (faulty k) = Unit
Longer m (whole n it) = m < n

abbrev pub Grows : ℕ → Decoded → Decoded → Type 0
Grows m (faulty k) y = Longer m y
Grows m (whole n it) y = y ≡ whole n it

grow_pick : (m : ℕ) (c : Bool) (a b a' b' : Decoded) → Grows m a a' → Grows m b b' → Grows m (pick c a b) (pick c a' b')
unfolding pick
grow_pick m true a b a' b' p q = p
grow_pick m false a b a' b' p q = q

-- a test that fails on both sides
grow_skip : (m : ℕ) (c c' : Bool) (a b a' b' : Decoded) → c ≡ false → c' ≡ false → Grows m b b' → Grows m (pick c a b) (pick c' a' b')
unfolding pick
grow_skip m c c' a b a' b' e e' g = rw (e, e') g

grow_open : (m k : ℕ) (c : Bool) (b y : Decoded) → c ≡ true → Longer m y → Grows m (pick c (faulty k) b) y
unfolding pick
grow_open m k c b y e g = rw e g

pick_false : {X : Type 0} (c : Bool) (a b : X) → c ≡ false → pick c a b ≡ b
unfolding pick
pick_false c a b e = rw e

-- the same of a label part's numbers
abbrev PartLonger : ℕ → Option LabelPart → Type 0
PartLonger m None = Unit
PartLonger m (Some q) = m < q.size

abbrev PartGrows : ℕ → Option LabelPart → Option LabelPart → Type 0
PartGrows m None y = PartLonger m y
PartGrows m (Some q) y = y ≡ numbers q.size q.drop q.add

part_pick : (m : ℕ) (c : Bool) (a b a' b' : Option LabelPart) → PartGrows m a a' → PartGrows m b b' → PartGrows m (pick c a b) (pick c a' b')
unfolding pick
part_pick m true a b a' b' p q = p
part_pick m false a b a' b' p q = q

part_skip : (m : ℕ) (c c' : Bool) (a b a' b' : Option LabelPart) → c ≡ false → c' ≡ false → PartGrows m b b' → PartGrows m (pick c a b) (pick c' a' b')
unfolding pick
part_skip m c c' a b a' b' e e' g = rw (e, e') g

-- what is not finished yet
part_open : (m : ℕ) (c : Bool) (b y : Option LabelPart) → c ≡ true → PartLonger m y → PartGrows m (pick c None b) y
unfolding pick
part_open m c b y e g = rw e g

module _ (u t : List ℕ) where
  more : length u ≤ length (u ++ t)
  more = let z = length-append u t in omega arith

  enough : (k : ℕ) → k ≤ length u → ltb (length (u ++ t)) k ≡ false
  enough k l = let z = more in le-ltb (length (u ++ t)) k (omega arith)

  grow_sized : (k : ℕ) (x x' : Item) → (k ≤ length u → x' ≡ x) → Grows (length u) (sized k u x) (sized k (u ++ t) x')
  unfolding sized
  grow_sized k x x' h =
      pick_case (λ (y : Decoded). Grows (length u) y (pick (ltb (length (u ++ t)) k) (faulty 5) (whole k x'))) (ltb (length u) k) (faulty 5) (whole k x)
      (λ e. pick_case (Longer (length u)) (ltb (length (u ++ t)) k) (faulty 5) (whole k x') (λ f. tt) (λ f. ltb-true (length u) k e))
      (λ e. let l = ltb-false (length u) k e in pick_false _ _ _ (enough k l) ∙ ap (whole k) (h l))

  part_sized : (k d a a' : ℕ) → (k ≤ length u → a' ≡ a)
      → PartGrows (length u) (pick (ltb (length u) k) None (numbers k d a)) (pick (ltb (length (u ++ t)) k) None (numbers k d a'))
  part_sized k d a a' h =
      pick_case (λ (y : Option LabelPart). PartGrows (length u) y (pick (ltb (length (u ++ t)) k) None (numbers k d a'))) (ltb (length u) k) None (numbers k d a)
      (λ e. pick_case (PartLonger (length u)) (ltb (length (u ++ t)) k) None (numbers k d a') (λ f. tt) (λ f. ltb-true (length u) k e))
      (λ e. let l = ltb-false (length u) k e in pick_false _ _ _ (enough k l) ∙ ap (numbers k d) (h l))

  -- ---- items without a label

  grow_move : Grows (length u) (move_item u) (move_item (u ++ t))
  unfolding move_item
  grow_move = grow_sized 13 _ _ (λ l. ap Move (front_at (point_of le32) 12 t (point_front t) 1 u l))

  grow_error : Grows (length u) (error_item u) (error_item (u ++ t))
  unfolding error_item
  grow_error = grow_sized 21 _ _ (λ l. ap Error (front_at (traverse_of le32) 20 t (traverse_front t) 1 u l))

  le16_at : (j : ℕ) → j + 2 ≤ length u → le16 (drop j (u ++ t)) ≡ le16 (drop j u)
  le16_at j l = front_at le16 2 t (le16_front t) j u l

  le32_at : (j : ℕ) → j + 4 ≤ length u → le32 (drop j (u ++ t)) ≡ le32 (drop j u)
  le32_at j l = front_at le32 4 t (le32_front t) j u l

  grow_day : Grows (length u) (day_item u) (day_item (u ++ t))
  unfolding day_item
  grow_day = grow_sized 3 _ _ (λ l. ap (λ (n : ℕ). Date n n) (le16_at 1 l))

  grow_span : Grows (length u) (span_item u) (span_item (u ++ t))
  unfolding span_item
  grow_span = grow_sized 4 _ _ (λ l. ap₂ (λ (n : ℕ) (k : ℕ). Date n (n + k)) (le16_at 1 (omega arith)) (get_front 3 u t (omega arith)))

  grow_days : Grows (length u) (days_item u) (days_item (u ++ t))
  unfolding days_item
  grow_days = grow_sized 5 _ _ (λ l. ap₂ Date (le16_at 1 (omega arith)) (le16_at 3 (omega arith)))

  grow_seconds : Grows (length u) (seconds_item u) (seconds_item (u ++ t))
  unfolding seconds_item
  grow_seconds = grow_sized 5 _ _ (λ l. ap (λ (n : ℕ). Date (day_of_seconds n) (day_of_seconds n)) (le32_at 1 l))

  grow_two_seconds : Grows (length u) (two_seconds_item u) (two_seconds_item (u ++ t))
  unfolding two_seconds_item
  grow_two_seconds = grow_sized 9 _ _ (λ l. ap₂ (λ (n : ℕ) (k : ℕ). Date (day_of_seconds n) (day_of_seconds k)) (le32_at 1 (omega arith)) (le32_at 5 (omega arith)))

  -- ---- items with a label, behind their code

  behind : (m : ℕ) (x y : Decoded) → Grows m x y → Grows (1 + m) (behind_code x) (behind_code y)
  behind m (faulty k) (faulty j) g = tt
  behind m (faulty k) (whole n it) g = omega arith
  behind m (whole n it) y g = ap behind_code g

  part_rest : (k a n : ℕ) (make : ℕ → List ℕ → List ℕ → Item) (d : ℕ) → ((v : List ℕ) (added : List ℕ) → n ≤ length v → make d added (v ++ t) ≡ make d added v)
      → Grows (length u) (with_part (numbers k d a) u n make) (with_part (numbers k d a) (u ++ t) n make)
  part_rest k a n make d h =
      grow_sized (k + a + n) _ _ λ l.
      let e : take a (drop k (u ++ t)) ≡ take a (drop k u) = ap (take a) (drop_front k u t (omega arith)) ∙ take_front a (drop k u) t (let z = length-drop k u in omega arith) in
      rw e (front_at (make d (take a (drop k u))) n t (λ v l'. h v _ l') (k + a) u l)

  part_longer : (k d a n : ℕ) (make : ℕ → List ℕ → List ℕ → Item) → length u < k → Longer (length u) (with_part (numbers k d a) (u ++ t) n make)
  unfolding sized
  part_longer k d a n make g = pick_case (Longer (length u)) _ _ _ (λ f. tt) (λ f. omega arith)

  with_part_lem : (p q : Option LabelPart) → PartGrows (length u) p q → (n : ℕ) (make : ℕ → List ℕ → List ℕ → Item)
      → ((d : ℕ) (v : List ℕ) (added : List ℕ) → n ≤ length v → make d added (v ++ t) ≡ make d added v) → Grows (length u) (with_part p u n make) (with_part q (u ++ t) n make)
  with_part_lem None None g n make h = tt
  with_part_lem None (Some q) g n make h = part_longer q.size q.drop q.add n make g
  with_part_lem (Some p) q g n make h = rw g (part_rest p.size p.add n make p.drop (h p.drop))

  module _ (p q : Option LabelPart) (g : PartGrows (length u) p q) where
    grow_labelled : (n : ℕ) (make : ℕ → List ℕ → List ℕ → Item) → ((d : ℕ) (v : List ℕ) (added : List ℕ) → n ≤ length v → make d added (v ++ t) ≡ make d added v)
        → Grows (1 + length u) (labelled_item p u n make) (labelled_item q (u ++ t) n make)
    unfolding labelled_item
    grow_labelled n make h = behind (length u) (with_part p u n make) (with_part q (u ++ t) n make) (with_part_lem p q g n make h)

    grow_station : (flags : ℕ) → Grows (1 + length u) (station_item flags p u) (station_item flags q (u ++ t))
    unfolding station_item
    grow_station flags = grow_labelled 12 _ (λ d v added l. ap (λ (x : Point). Label flags x d added) (point_front t v l))

    grow_line : (flags : ℕ) → Grows (1 + length u) (line_item flags p u) (line_item flags q (u ++ t))
    unfolding line_item
    grow_line flags = grow_labelled 12 _ (λ d v added l. ap (λ (x : Point). Line flags x d added) (point_front t v l))

    grow_section : (code : ℕ) → Grows (1 + length u) (section_item code p u) (section_item code q (u ++ t))
    unfolding section_item
    grow_section code =
        grow_pick (1 + length u) (ltb code 0x32) _ _ _ _
        (grow_labelled 8 _ (λ d v added l. ap (λ (x : Dimensions). Xsect (code % 2) x d added) (short_front t v l)))
        (grow_labelled 16 _ (λ d v added l. ap (λ (x : Dimensions). Xsect (code % 2) x d added) (long_front t v l)))

-- ---- label parts

old_none : (t : List ℕ) → PartLonger 0 (old_part t)
unfolding old_part
old_none t =
    let P = PartLonger 0 in
    pick_case P _ _ _ (λ e. tt) λ e.
    pick_case P _ _ _ (λ e. omega arith) λ e.
    pick_case P _ _ _ (λ e. pick_case P _ _ _ (λ e. tt) (λ e. omega arith)) (λ e. pick_case P _ _ _ (λ e. tt) (λ e. omega arith))

some : (b : ℕ) (r : List ℕ) → ltb (length (b ∷ r)) 1 ≡ false
some b r = le-ltb (length (b ∷ r)) 1 (omega arith)

old_part_lem : (u t : List ℕ) → PartGrows (length u) (old_part u) (old_part (u ++ t))
unfolding old_part
old_part_lem [] t = part_open 0 _ _ _ refl (old_none t)
old_part_lem (b ∷ r) t =
    let m = length (b ∷ r) in
    part_skip m _ _ _ _ _ _ (some b r) (some b (r ++ t))
    (part_pick m (ltb b 0xfe) _ _ _ _ refl
    (part_pick m (eqb b 0xfe) _ _ _ _
    (part_sized (b ∷ r) t 3 0 _ _ (λ l. ap (λ (n : ℕ). n + 254) (le16_at (b ∷ r) t 1 l)))
    (part_sized (b ∷ r) t 5 0 _ _ (λ l. le32_at (b ∷ r) t 1 l))))

-- a number of v8: it is there and settled, or it wants more bytes
data Number (v w : List ℕ) : Type 0 where
  cut : length_size v ≡ 0 → (1 ≤ length_size w → length v < length_size w) → Number v w
  settled : 1 ≤ length_size v → length_size v ≤ length v → length_size w ≡ length_size v → length_value w ≡ length_value v → Number v w

number_front : (v t : List ℕ) → Number v (v ++ t)
unfolding length_size length_value pick
number_front [] t = cut refl (λ h. omega arith)
number_front (b ∷ r) t = byte (ltb b 0xff) refl
  where
    v : List ℕ
    v = b ∷ r

    w : List ℕ
    w = b ∷ (r ++ t)

    five : (c : Bool) → ltb (length v) 5 ≡ c → ltb b 0xff ≡ false → Number v w
    five true f e =
        let s : length_size v ≡ 0 = rw (some b r, e, f) in
        let s' : length_size w ≡ pick (ltb (length w) 5) 0 5 = rw (some b (r ++ t), e) in
        cut s (rw s' (pick_case (λ (n : ℕ). 1 ≤ n → length v < n) (ltb (length w) 5) 0 5 (λ g h. absurd (omega arith)) (λ g h. ltb-true (length v) 5 f)))
    five false f e =
        let l : 5 ≤ length v = ltb-false (length v) 5 f in
        let z = length-append r t in
        let s : length_size v ≡ 5 = rw (some b r, e, f) in
        let s' : length_size w ≡ 5 = rw (some b (r ++ t), e, le-ltb (length w) 5 (omega arith)) in
        settled (omega (arith, s)) (omega (arith, s)) (s' ∙ sym s) (rw e (le32_front t r (omega arith)))

    byte : (c : Bool) → ltb b 0xff ≡ c → Number v w
    byte true e =
        let s : length_size v ≡ 1 = rw (some b r, e) in
        let s' : length_size w ≡ 1 = rw (some b (r ++ t), e) in
        settled (omega (arith, s)) (omega (arith, s)) (s' ∙ sym s) (rw e)
    byte false e = five (ltb (length v) 5) refl e

pos : (n : ℕ) → (n ≡ 0 → ⊥) → 1 ≤ n
pos zero h = absurd (h refl)
pos (suc n) h = omega arith

module _ (b : ℕ) (r t : List ℕ) where
  abbrev m : ℕ
  m = length (b ∷ r)

  abbrev w : List ℕ
  w = b ∷ (r ++ t)

  -- D wants more bytes
  long_first : length_size r ≡ 0 → (1 ≤ length_size (r ++ t) → length r < length_size (r ++ t)) → PartGrows m (long_part (b ∷ r)) (long_part w)
  unfolding long_part
  long_first e h =
      let P = PartLonger m in
      part_open m _ _ _ (eq-eqb _ _ e)
      (pick_case P _ _ _ (λ g. tt) (λ g. pick_case P _ _ _ (λ g'. tt) (λ g'. let k = h (pos _ (eqb-false _ _ g)) in omega arith)))

  module _ (one : 1 ≤ length_size r) (there : length_size r ≤ length r) (same : length_size (r ++ t) ≡ length_size r) (value : length_value (r ++ t) ≡ length_value r) where
    abbrev d : ℕ
    d = length_size r

    at : drop (1 + d) (b ∷ r) ≡ drop d r
    at = sym (drop-drop d 1 (b ∷ r))

    at' : drop (1 + length_size (r ++ t)) w ≡ drop d r ++ t
    at' = rw same (sym (drop-drop d 1 w) ∙ drop_front d r t there)

    first_there : eqb d 0 ≡ false
    first_there = ne_eqb d 0 (λ z. omega (arith, z))

    first_there' : eqb (length_size (r ++ t)) 0 ≡ false
    first_there' = ne_eqb (length_size (r ++ t)) 0 (λ z. omega (arith, z, same))

    -- A wants more bytes
    long_second : length_size (drop d r) ≡ 0 → (1 ≤ length_size (drop d r ++ t) → length (drop d r) < length_size (drop d r ++ t)) → PartGrows m (long_part (b ∷ r)) (long_part w)
    unfolding long_part
    long_second e h =
        let P = PartLonger m in
        let l = length-drop d r in
        let a : length_size (drop (1 + d) (b ∷ r)) ≡ 0 = ap length_size at ∙ e in
        let a' : length_size (drop (1 + length_size (r ++ t)) w) ≡ length_size (drop d r ++ t) = ap length_size at' in
        part_skip m _ _ _ _ _ _ first_there first_there'
        (part_open m _ _ _ (eq-eqb _ _ a)
        (pick_case P _ _ _ (λ g. tt) (λ g. let k = h (rw a' at (pos (length_size (drop (1 + length_size (r ++ t)) w)) (eqb-false (length_size (drop (1 + length_size (r ++ t)) w)) 0 g))) in omega (arith, a', same))))

    long_both : 1 ≤ length_size (drop d r) → length_size (drop d r ++ t) ≡ length_size (drop d r) → length_value (drop d r ++ t) ≡ length_value (drop d r)
        → PartGrows m (long_part (b ∷ r)) (long_part w)
    unfolding long_part
    long_both one' same' value' =
        let a : length_size (drop (1 + d) (b ∷ r)) ≡ length_size (drop d r) = ap length_size at in
        let a' : length_size (drop (1 + length_size (r ++ t)) w) ≡ length_size (drop d r) = ap length_size at' ∙ same' in
        part_skip m _ _ _ _ _ _ first_there first_there'
        (part_skip m _ _ _ _ _ _ (ne_eqb (length_size (drop (1 + d) (b ∷ r))) 0 (λ z. omega (arith, z, a))) (ne_eqb (length_size (drop (1 + length_size (r ++ t)) w)) 0 (λ z. omega (arith, z, a')))
        (rw (at, at', same, same', value, value')))

  long_rest : Number r (r ++ t) → PartGrows m (long_part (b ∷ r)) (long_part w)
  long_rest (cut e h) = long_first e h
  long_rest (settled one there same value) = go (number_front (drop (length_size r) r) t)
    where
      go : Number (drop (length_size r) r) (drop (length_size r) r ++ t) → PartGrows m (long_part (b ∷ r)) (long_part w)
      go (cut e h) = long_second one there same value e h
      go (settled one' there' same' value') = long_both one there same value one' same' value'

  long_part_lem : PartGrows m (long_part (b ∷ r)) (long_part w)
  long_part_lem = long_rest (number_front r t)

new_none : (t : List ℕ) → PartLonger 0 (new_part t)
unfolding new_part long_part
new_none t =
    let P = PartLonger 0 in
    pick_case P _ _ _ (λ e. tt) λ e.
    pick_case P _ _ _ (λ e. pick_case P _ _ _ (λ e. tt) λ e. pick_case P _ _ _ (λ e. tt) (λ e. omega arith)) (λ e. omega arith)

new_part_lem : (u t : List ℕ) → PartGrows (length u) (new_part u) (new_part (u ++ t))
unfolding new_part
new_part_lem [] t = part_open 0 _ _ _ refl (new_none t)
new_part_lem (b ∷ r) t =
    let m = length (b ∷ r) in
    part_skip m _ _ _ _ _ _ (some b r) (some b (r ++ t)) (part_pick m (eqb b 0x00) _ _ _ _ (long_part_lem b r t) refl)

-- ---- the tables

module _ (u t : List ℕ) where
  abbrev G : Decoded → Decoded → Type 0
  G = Grows (length u)

  grow_old_middle : (version code : ℕ) → G (old_middle_item version code u) (old_middle_item version code (u ++ t))
  unfolding old_middle_item old_date_item v7_date_item
  grow_old_middle version code =
      let m = length u in
      grow_pick m (eqb code 0x22) _ _ _ _ (grow_pick m (ltb version 6) _ _ _ _ tt (grow_error u t))
      (grow_pick m (ltb version 4) _ _ _ _ tt
      (grow_pick m (ltb version 7) _ _ _ _
      (grow_pick m (eqb code 0x20) _ _ _ _ (grow_seconds u t) (grow_pick m (eqb code 0x21) _ _ _ _ (grow_two_seconds u t) tt))
      (grow_pick m (eqb code 0x20) _ _ _ _ (grow_day u t)
      (grow_pick m (eqb code 0x21) _ _ _ _ (grow_span u t)
      (grow_pick m (eqb code 0x23) _ _ _ _ (grow_days u t)
      (grow_pick m (eqb code 0x24) _ _ _ _ refl tt))))))

  grow_old_low : (code : ℕ) → G (old_low_item code u) (old_low_item code (u ++ t))
  unfolding old_low_item
  grow_old_low code =
      let m = length u in
      grow_pick m (eqb code 0x00) _ _ _ _ refl (grow_pick m (ltb code 0x0f) _ _ _ _ refl (grow_pick m (eqb code 0x0f) _ _ _ _ (grow_move u t) refl))

  grow_new_low : (code : ℕ) → G (new_low_item code u) (new_low_item code (u ++ t))
  unfolding new_low_item new_date_item
  grow_new_low code =
      let m = length u in
      grow_pick m (ltb code 0x05) _ _ _ _ refl
      (grow_pick m (ltb code 0x0f) _ _ _ _ tt
      (grow_pick m (eqb code 0x0f) _ _ _ _ (grow_move u t)
      (grow_pick m (ltb code 0x14) _ _ _ _
      (grow_pick m (eqb code 0x10) _ _ _ _ refl (grow_pick m (eqb code 0x11) _ _ _ _ (grow_day u t) (grow_pick m (eqb code 0x12) _ _ _ _ (grow_span u t) (grow_days u t))))
      (grow_pick m (eqb code 0x1f) _ _ _ _ (grow_error u t) tt))))

  -- u is what stands behind the code
  abbrev H : Decoded → Decoded → Type 0
  H = Grows (1 + length u)

  grow_old_high : (version code : ℕ) → H (old_high_item version code u) (old_high_item version code (u ++ t))
  unfolding old_high_item
  grow_old_high version code =
      let m = 1 + length u in
      let p = old_part_lem u t in
      grow_pick m (ltb code 0x34) _ _ _ _ (grow_pick m (ltb version 5) _ _ _ _ tt (grow_section u t _ _ p code))
      (grow_pick m (ltb code 0x40) _ _ _ _ tt
      (grow_pick m (ltb code 0x60) _ _ _ _ (grow_station u t _ _ p (code - 0x40))
      (grow_pick m (ltb code 0x80) _ _ _ _ tt
      (grow_pick m (ltb code 0x88) _ _ _ _ (grow_line u t _ _ p (code - 0x80)) tt))))

  grow_new_high : (code : ℕ) → H (new_high_item code u) (new_high_item code (u ++ t))
  unfolding new_high_item
  grow_new_high code =
      let m = 1 + length u in
      let p = new_part_lem u t in
      grow_pick m (ltb code 0x34) _ _ _ _ (grow_section u t _ _ p code)
      (grow_pick m (ltb code 0x40) _ _ _ _ tt
      (grow_pick m (ltb code 0x48) _ _ _ _ (grow_line u t _ _ p (code - 0x40))
      (grow_pick m (ltb code 0x60) _ _ _ _ tt
      (grow_pick m (ltb code 0x68) _ _ _ _ (grow_line u t (numbers 0 0 0) (numbers 0 0 0) refl (code - 0x60))
      (grow_pick m (ltb code 0x80) _ _ _ _ tt
      (grow_station u t _ _ p (code - 0x80)))))))

-- no bytes at all
none_longer : (x : Decoded) (m : ℕ) → SizedItem m x → Longer 0 x
none_longer (faulty k) m h = tt
none_longer (whole n it) m h = omega (arith, h.0)

-- THE law: whatever stands behind it, an item that is whole stays what it is, and bytes that were too few for one say nothing of a shorter one
pub item_grows : (version : ℕ) (u t : List ℕ) → Grows (length u) (item_of version u) (item_of version (u ++ t))
unfolding item_of
item_grows version [] t = grow_open 0 5 _ _ _ refl (none_longer (item_of version t) (length t) (progress version t))
item_grows version (b ∷ r) t =
    let s = b ∷ r in
    let m = length s in
    let e : 1 + length r ≡ length (b ∷ r) = omega arith in
    grow_skip m _ _ _ _ _ _ (some b r) (some b (r ++ t))
    (grow_pick m (ltb version 8) _ _ _ _
    (grow_pick m (ltb b 0x20) _ _ _ _ (grow_old_low s t b)
    (grow_pick m (ltb b 0x30) _ _ _ _ (grow_old_middle s t version b) (rw e at (grow_old_high r t version b))))
    (grow_pick m (ltb b 0x30) _ _ _ _ (grow_new_low s t b) (rw e at (grow_new_high r t b))))

-- an item is settled by its own bytes: other bytes behind those change nothing
whole_front : (n : ℕ) (it : Item) (x y : Decoded) → Grows n x (whole n it) → Grows n x y → y ≡ whole n it
whole_front n it (faulty k) y g h = absurd (omega arith)
whole_front n it (whole k jt) y g h = h ∙ sym g

pub item_settled : (version : ℕ) (s s' : List ℕ) (n : ℕ) (it : Item) → item_of version s ≡ whole n it → take n s ≡ take n s' → item_of version s' ≡ whole n it
item_settled version s s' n it e same =
    let z = rw e at (progress version s) in
    let l : length (take n s) ≡ n = length-take-le n s z.1 in
    let g = rw (l, take-append-drop n s, e) at (item_grows version (take n s) (drop n s)) in
    let q : take n s ++ drop n s' ≡ s' = ap (λ (v : List ℕ). v ++ drop n s') same ∙ take-append-drop n s' in
    let h = rw (l, q) at (item_grows version (take n s) (drop n s')) in
    whole_front n it (item_of version (take n s)) (item_of version s') g h
