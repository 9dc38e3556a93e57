-- `sheet::read_entry` meets its contract: each arm hands on what the function of its kind tells. Assumes nothing.
use Rattle.sheet.proofs.Entries.{unframed, kind_leg, kind_station, kind_section, kind_error, kind_other, entry_told}
use Prim.Native.Nat.{ℕ}
use mathlib.Core.Path.{◌≡◌, sym, ◌∙◌}
use mathlib.Core.Bool.{true}
use mathlib.Core.List.{List}
use Rattle.std.specs.Prelude.{Option}
use lib.ListN.{drop}
use Rattle.format.specs.Bytes.{be16, Bytes}
use Rattle.format.specs.Sheet.{Entry, framed, leg_entry, station_entry, section_in, error_entry, entry_of}
use Rattle.sheet.specs.Seen.{Told, EntryTold}
use Rattle.sheet.specs.declared.Entry.{Entry as Found}
use Rattle.sheet.proofs.read_entry.Goals as goal

-- what is told of a body of n bytes of its kind is told of the record
told_at : (version : ℕ) (s : List ℕ) → Bytes s → (n : ℕ) → n ≡ be16 s → (r : Option Found) (f : ℕ → Entry) → Told r s (f n)
    → f (be16 s) ≡ entry_of version s → EntryTold r version s
told_at version s b n size r f T e = entry_told version s b r (rw (size, e) at T)

pub returns-then-not-is_framed : goal.returns-then-not-is_framed
returns-then-not-is_framed c =
    record {
      same = unframed c.args.version c.args.s.now
          (sym c.is_framed.ensures ∙ c.if-not-is_framed.true);
      inside = tt;
      formed = tt;
    }

pub returns-then-kind-eq1 : goal.returns-then-kind-eq1
returns-then-kind-eq1 c =
    told_at _ _ (λ i. (c.type_inv.s i).fits) _ (c.size_of-n.ensures ∙ c.get_be16.ensures.0) c.leg_entry.result
    (λ n. leg_entry n (drop 2 c.args.s.now)) c.leg_entry.ensures
    (kind_leg _ _ ((let it : framed c.args.s.now ≡ true = sym c.is_framed.ensures ∙ c.if-not-is_framed.false in it)) c.if-kind-eq1.true)

pub returns-then-kind-eq2 : goal.returns-then-kind-eq2
returns-then-kind-eq2 c =
    told_at _ _ (λ i. (c.type_inv.s i).fits) _ (c.size_of-n.ensures ∙ c.get_be16.ensures.0) c.station_entry.result
    (λ n. station_entry n (drop 2 c.args.s.now)) c.station_entry.ensures
    (kind_station _ _ ((let it : framed c.args.s.now ≡ true = sym c.is_framed.ensures ∙ c.if-not-is_framed.false in it)) c.if-kind-eq2.true)

pub returns-then-kind-eq3 : goal.returns-then-kind-eq3
returns-then-kind-eq3 c =
    told_at _ _ (λ i. (c.type_inv.s i).fits) _ (c.size_of-n.ensures ∙ c.get_be16.ensures.0) c.section_entry.result
    (λ n. section_in c.args.version n
    (drop 2 c.args.s.now)) c.section_entry.ensures
    (kind_section _ _ ((let it : framed c.args.s.now ≡ true = sym c.is_framed.ensures ∙ c.if-not-is_framed.false in it)) c.if-kind-eq3.true)

pub returns-then-kind-eq4 : goal.returns-then-kind-eq4
returns-then-kind-eq4 c =
    told_at _ _ (λ i. (c.type_inv.s i).fits) _ (c.size_of-n.ensures ∙ c.get_be16.ensures.0) c.error_entry.result
    (λ n. error_entry n (drop 2 c.args.s.now))
    c.error_entry.ensures (kind_error _ _ ((let it : framed c.args.s.now ≡ true = sym c.is_framed.ensures ∙ c.if-not-is_framed.false in it)) c.if-kind-eq4.true)

pub returns : goal.returns
returns c =
    record {
      same = kind_other _ _ ((let it : framed c.args.s.now ≡ true = sym c.is_framed.ensures ∙ c.if-not-is_framed.false in it)) c.if-kind-eq1.false
          c.if-kind-eq2.false c.if-kind-eq3.false c.if-kind-eq4.false;
      inside = tt;
      formed = tt;
    }
