-- `exceeds_for`: a total whose residue is in range is too large just where it is not sound for its rows.
use Prim.Native.Nat.{ℕ, ◌*◌, ◌<◌}
use mathlib.Core.Path.{◌≡◌, refl, sym, ap, ap₂, ◌∙◌}
use mathlib.Core.Bool.{Bool, true, false, not, ◌||◌}
use native.Mathlib.Decide.{dec_le}
use native.Mathlib.Omega.{arith}
use borrow.Author.Tests.{not-true, not-false, lt-ltb, le-ltb, le-leb, lt-leb}
use lib.Dec.{ltb}
use lib.IntN.{nat_abs}
use Rattle.level.specs.declared.SplitTotal.{SplitTotal}
use Rattle.level.specs.Level.{level_bound}
use Rattle.level.specs.Carry.{carry_base, total_of}
use Rattle.record.specs.declared.Record.{Record}
use Rattle.record.specs.Section.{meaning}
use Rattle.record.specs.Sound.{sound_total}
use Rattle.remove.specs.Remaining.{exceeds_for}
use Rattle.remove.proofs.exceeds_for.Goals as goal

too_large : (n : ℕ) (h : SplitTotal) → h.residue < carry_base → ltb (n * level_bound) (nat_abs (total_of h)) ≡ not (sound_total n h)
unfolding sound_total
too_large n h l =
    elim (dec_le (nat_abs (total_of h)) (n * level_bound)) [
      | yes a ↦ rw (lt-ltb h.residue carry_base l, le-ltb (n * level_bound) (nat_abs (total_of h)) a, le-leb (nat_abs (total_of h)) (n * level_bound) a)
      | no a ↦ rw (lt-ltb h.residue carry_base l, lt-ltb (n * level_bound) (nat_abs (total_of h)) (omega arith), lt-leb (nat_abs (total_of h)) (n * level_bound) (omega arith))
    ]

-- the code's three tests, by what they answer
module _ (r : Record) (n : ℕ) (l : (r.high.residue < carry_base) × (r.middle.residue < carry_base) × (r.low.residue < carry_base)) where
  by_tests : exceeds_for n (meaning r) ≡ not (sound_total n r.high) || (not (sound_total n r.middle) || not (sound_total n r.low))
  by_tests = ap₂ ◌||◌ (too_large n r.high l.0) (ap₂ ◌||◌ (too_large n r.middle l.1) (too_large n r.low l.2))

  tested : (x y : Bool) → sound_total n r.high ≡ x → sound_total n r.middle ≡ y
      → not x || (not y || not (sound_total n r.low)) ≡ exceeds_for n (meaning r)
  tested x y p q = sym (by_tests ∙ rw (p, q))

pub returns-then-not-total_sound : goal.returns-then-not-total_sound
returns-then-not-total_sound c = tested c.args.r c.args.count c.requires false (sound_total c.args.count c.args.r.middle) (sym c.total_sound.ensures ∙ not-true c.total_sound.result (ap not c.if-not-total_sound.true)) refl

pub returns-then-not-total_sound-2 : goal.returns-then-not-total_sound-2
returns-then-not-total_sound-2 c =
    tested c.args.r c.args.count c.requires true false (sym c.total_sound.ensures ∙ not-false c.total_sound.result (ap not c.if-not-total_sound.false)) (sym c.total_sound-2.ensures ∙ not-true c.total_sound-2.result (ap not c.if-not-total_sound-2.true))

pub returns : goal.returns
returns c =
    ap not c.total_sound-3.ensures
    ∙ tested c.args.r c.args.count c.requires true true (sym c.total_sound.ensures ∙ not-false c.total_sound.result (ap not c.if-not-total_sound.false)) (sym c.total_sound-2.ensures ∙ not-false c.total_sound-2.result (ap not c.if-not-total_sound-2.false))
