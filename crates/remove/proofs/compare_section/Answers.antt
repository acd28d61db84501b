-- `compare_section` looks the patch's section up, and compares counts and tops.
use Prim.Native.Nat.{ℕ, ◌*◌, ◌≤◌, ◌<◌}
use mathlib.Core.Path.{◌≡◌, sym, ap, ◌∙◌}
use mathlib.Core.Bool.{true, false}
use mathlib.Core.List.{List}
use mathlib.Core.Option.{Option, some, none}
use native.Mathlib.Omega.{arith}
use borrow.Author.Tests.{lt-ltb, le-ltb}
use lib.Dec.{T, ltb}
use Rattle.std.specs.Prelude.{Result, Ok, Err}
use Rattle.record.specs.Layout.{records, record_at}
use Rattle.record.specs.Keys.{record_keys, place}
use Rattle.record.specs.Section.{Section, sections, meaning, find}
use Rattle.record.specs.Sound.{sound}
use Rattle.record.proofs.Found.{found, missing}
use Rattle.remove.specs.Remaining.{has_fewer, has_lower}
use Rattle.remove.proofs.compare_section.Goals as goal

-- ---- what is said of a section that is held
module _ (p : Section) {o : Option Section} {t : Section} (e : o ≡ some t) where
  fewer-held : t.count < p.count → has_fewer o p ≡ true
  unfolding has_fewer
  fewer-held l = rw (e, lt-ltb t.count p.count l)

  enough-held : p.count ≤ t.count → has_fewer o p ≡ false
  unfolding has_fewer
  enough-held l = rw (e, le-ltb t.count p.count l)

  lower-held : {m n : ℕ} → m ≡ t.top → n ≡ p.top → has_lower o p ≡ ltb m n
  unfolding has_lower
  lower-held a b = rw (e, a, b)

not_held : (p : Section) {o : Option Section} → o ≡ none → has_fewer o p ≡ true
unfolding has_fewer
not_held p e = rw e

-- ---- where the key that was read was looked up in the table s of g records, and p is what came of it
module _ (s : List ℕ) (g k : ℕ) (sd : T (sound s g)) {m : ℕ} {p : Result ℕ ℕ} (read : m ≡ k) (l : p ≡ place m (record_keys (records s g))) where
  is_place : p ≡ place k (record_keys (records s g))
  is_place = l ∙ ap (λ (m : ℕ). place m (record_keys (records s g))) read

  held : (j : ℕ) → p ≡ Ok j → find k (sections s g) ≡ some (meaning (record_at s (j * 64)))
  held j e = (found s g k j sd (sym e ∙ is_place)).1

  absent : (i : ℕ) → p ≡ Err i → find k (sections s g) ≡ none
  absent i e = missing s g k i sd (sym e ∙ is_place)

pub returns-then-count : goal.returns-then-count
returns-then-count c =
    let t = c.args.t in
    let p = meaning (record_at c.args.patch.bytes.now (c.args.i * 64)) in
    fewer-held p (held t.bytes.now t.groups p.key t.sound c.key.ensures c.locate_in.ensures.place _ c.in-Ok.is) (omega (arith, c.count.ensures, c.count-in-Ok.ensures))

pub returns-else-count : goal.returns-else-count
returns-else-count c =
    let t = c.args.t in
    let p = meaning (record_at c.args.patch.bytes.now (c.args.i * 64)) in
    let h = held t.bytes.now t.groups p.key t.sound c.key.ensures c.locate_in.ensures.place _ c.in-Ok.is in
    (enough-held p h (omega (arith, c.count.ensures, c.count-in-Ok.ensures)), lower-held p h c.top.ensures c.top-in-Ok.ensures)

pub returns-in-Err : goal.returns-in-Err
returns-in-Err c =
    let t = c.args.t in
    let p = meaning (record_at c.args.patch.bytes.now (c.args.i * 64)) in
    not_held p (absent t.bytes.now t.groups p.key t.sound c.key.ensures c.locate_in.ensures.place _ c.in-Err.is)
