-- What is known of a record's head comes to with a label behind it, and legs and stations among them, on plain values. Assumes nothing.
use Rattle.std.specs.Prelude.{Option, Some, None}
use Rattle.format.specs.declared.Point.{Point}
use Prim.Native.Nat.{ℕ, ◌+◌, ◌-◌, ◌≤◌}
use mathlib.Core.Path.{◌≡◌, refl, sym, ◌∙◌}
use mathlib.Core.List.{List, [], ◌∷◌, ◌++◌}
use mathlib.Core.Bool.{Bool, true, false, not}
use native.Mathlib.Omega.{arith}
use lib.ListN.{length, get_or, drop}
use borrow.Author.Tests.{not-false, lt-ltb}
use Rattle.format.specs.Bytes.{be16, be32, to_le32}
use Rattle.format.specs.Items.{point_of}
use Rattle.format.specs.Sheet.{point_bytes, framed}
use Rattle.format.specs.Fields.{record_of, state_of}
use Rattle.format.specs.V7Codes.{shorten_codes, old_length_codes, added_codes, labelled_codes, v7_codes}
use Rattle.format.specs.declared.Setting.{Setting}
use Rattle.format.proofs.Basics.{pick_true}
use Rattle.format.proofs.SheetLaws.{frame}
use Rattle.sheet.specs.Seen.{label_of}
use Rattle.plain.specs.Plainly.{label_at, tail_of, tail_size, v7_code, Goes, Headed, HeadTold, LegTold, StationTold, Plainly, Found, Labelled}
use Rattle.plain.specs.Placed.{Placed, place_at, PlacedTold, FoundPlaced}
use Rattle.plain.specs.declared.Form.{Form}
use Rattle.plain.specs.declared.Form.TheVariants.{Leg, Station, Narrow, Wide}
use Rattle.plain.specs.declared.Head.{Head}
use Rattle.plain.specs.declared.Item.{Item}
use Rattle.plain.proofs.Finds.{plainly, name_long}

-- ---- a head, and a label behind it

-- the record at the front of s is all there, with a body of n bytes
pub record Framed (s : List ℕ) (n : ℕ) : Type 0 where
  pub size_is : n ≡ be16 s
  pub frame_is : framed s ≡ true
  pub there : 2 + n ≤ length s

-- as the code's test and its two calls say it
pub framed_by : {s : List ℕ} {t : Bool} {m n : ℕ} → t ≡ framed s → not t ≡ false → m ≡ be16 s → n ≡ m → Framed s n
framed_by {s = s} e h b d =
    let f = sym e ∙ not-false _ h in
    let z = d ∙ b in
    record { size_is = z; frame_is = f; there = omega (arith, z, frame s f) }

-- and where the test holds
pub framed_of : {s : List ℕ} {t : Bool} {m n : ℕ} → t ≡ framed s → t ≡ true → m ≡ be16 s → n ≡ m → Framed s n
framed_of {s = s} e h b d =
    let f = sym e ∙ h in
    let z = d ∙ b in
    record { size_is = z; frame_is = f; there = omega (arith, z, frame s f) }

module _ {s : List ℕ} {n : ℕ} (z : Framed s n) (mark : ℕ) (position : Option Point) where
  pub head_fits : (h : Head) (version : ℕ) → HeadTold (Some h) version s mark position → label_at h.form ≤ 2 + n
  head_fits h version H = omega (arith, z.size_is, H.inside)

  pub found_by : (version : ℕ) (r : Option Item) (h : Head) (last : List ℕ) → HeadTold (Some h) version s mark position → Labelled r h s (2 + n) last
      → Found r version s mark position last
  found_by version None h last H L = tt
  found_by version (Some item) h last H L =
      let K : Headed version s mark position (2 + be16 s) item.code item.form = rw L.1 at H in
      rw L.0 (plainly version s mark position last (2 + n) item.kept item.code item.form (rw z.size_is K) z.there L.2 L.3)

-- ---- legs and stations

pub leg_placed : (h : Option Head) (s : List ℕ) (mark : ℕ) (position : Option Point) → LegTold h s mark position → PlacedTold h s mark position
leg_placed None s mark position T = tt
leg_placed (Some h) s mark position T = (rw T.0.0 tt, T.0.1, omega (arith, T.0.2), T.1)

pub station_placed_lem : (h : Option Head) (s : List ℕ) (mark : ℕ) (position : Option Point) → StationTold h s → get_or s 3 0 ≤ 0x1f → PlacedTold h s mark position
station_placed_lem None s mark position T f = tt
station_placed_lem (Some h) s mark position T f =
    (rw T.0.0 tt, omega (arith, T.0.1), omega (arith, T.0.2), λ version. T.1 version mark position)

pub placed_by : {s : List ℕ} {n : ℕ} → Framed s n → (mark : ℕ) (position : Option Point) (r : Option Item) (h : Head) (last : List ℕ)
    → PlacedTold (Some h) s mark position → Labelled r h s (2 + n) last → FoundPlaced r s mark position last
placed_by z mark position None h last T L = tt
placed_by {s = s} z mark position (Some item) h last T L =
    let K : PlacedTold (Some (record { code = item.code; form = item.form })) s mark position = rw L.1 at T in
    (K.0, K.1, K.2, λ version. found_by z mark position version (Some item) h last (T.3 version) L)

-- the place that ends their codes
pub place_tail : (form : Form) → Placed form → (s : List ℕ) → point_bytes to_le32 (point_of be32 (drop (place_at form) s)) ≡ tail_of form s
place_tail Leg p s = refl
place_tail Station p s = refl
place_tail Narrow p s = absurd p
place_tail Wide p s = absurd p

pub place_inside : (form : Form) → Placed form → (place_at form + 12 ≤ label_at form) × (tail_size form ≡ 12)
place_inside Leg p = (omega arith, refl)
place_inside Station p = (omega arith, refl)
place_inside Narrow p = absurd p
place_inside Wide p = absurd p

-- ---- the codes in v7: what shortens the label, the code, a length of one byte, the bytes that are added, and the tail

module _ (version : ℕ) (s : List ℕ) (mark : ℕ) (position : Option Point) (last : List ℕ) (size kept code : ℕ) (form : Form)
    (P : Plainly version s mark position last size kept code form) (setting : Setting) (G : Goes version s setting size code form) where
  abbrev name : List ℕ
  name = label_of size (label_at form) s

  short_length : old_length_codes (size - label_at form - kept) ≡ (size - label_at form - kept) ∷ []
  unfolding old_length_codes
  short_length = pick_true _ _ (lt-ltb (size - label_at form - kept) 0xfe (omega (arith, P.few_added)))

  pub plain_v7_codes : v7_codes (state_of setting last) (record_of G.fields name)
      ≡ shorten_codes (length last) kept ++ (v7_code form code ∷ (size - label_at form - kept) ∷ (drop kept name ++ tail_of form s))
  unfolding labelled_codes added_codes
  plain_v7_codes =
      G.v7_codes_are last name
      ∙ rw (← P.kept_is, name_long version s mark position last size kept code form P.within, short_length)
