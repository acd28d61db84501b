-- The sections of two tables counted from the last one on.
use Prim.Native.Nat.{ℕ, ◌+◌, ◌≤◌, ◌<◌}
use mathlib.Core.Path.{◌≡◌, refl, sym, ap, ◌∙◌}
use mathlib.Core.Bool.{true, false, or-true, or-false}
use native.Mathlib.Omega.{arith}
use borrow.Author.Tests.{lt-ltb, le-ltb}
use lib.ListN.{length}
use Rattle.lists.specs.Lists.{any_of}
use Rattle.record.proofs.Sound.{sound_parts}
use Rattle.table.specs.Calls.{most_rows, overflows}
use Rattle.table.proofs.State.{length-sections}
use Rattle.merge.specs.declared.TablePair.{TablePair}
use Rattle.merge.specs.Steps.{union, taken_section, StepBack}
use Rattle.merge.proofs.State.{none_overflow}
use Rattle.merge.proofs.Walk.{union_back, length_more, any_more, merge_none}

-- n sections of t were taken, none of which overflows; t' is left
pub record Counted (t : TablePair) (n : ℕ) (t' : TablePair) : Type 0 where
  pub few : n + t'.first.groups + t'.second.groups ≤ 2048
  pub counted : n + length (union t') ≡ length (union t)
  pub same_overflow : any_of overflows (union t') ≡ any_of overflows (union t)

pub none_counted : (t : TablePair) → Counted t 0 t
none_counted t =
    let p = sound_parts t.first.bytes.now t.first.groups t.first.sound in
    let q = sound_parts t.second.bytes.now t.second.groups t.second.sound in
    record { few = omega (arith, p.1, q.1); counted = omega arith; same_overflow = refl }

module _ {t t' : TablePair} {n : ℕ} (v : Counted t n t') where
  module _ {r : TablePair} (b : StepBack t' r) where
    pub one_overflows : most_rows < (taken_section t' r).count → any_of overflows (union t) ≡ true
    one_overflows h =
        sym v.same_overflow
        ∙ any_more (union r) _ (union_back b)
        ∙ rw (lt-ltb most_rows (taken_section t' r).count h) (or-true (any_of overflows (union r)))

    pub one_more : (taken_section t' r).count ≤ most_rows → Counted t (n + 1) r
    one_more h = record {
      few = omega (arith, v.few, b.last_taken.fewer);
      counted = omega (arith, v.counted, length_more (union r) _ (union_back b));
      same_overflow =
          sym (any_more (union r) _ (union_back b) ∙ rw (le-ltb most_rows (taken_section t' r).count h) (or-false (any_of overflows (union r))))
          ∙ v.same_overflow;
    }

  -- the second table's are all passed: the first one's that are left stand for themselves
  module _ (h : t'.second.groups ≤ 0) where
    pub all_counted : n + t'.first.groups ≡ length (union t)
    all_counted =
        let e = merge_none t'.first.bytes.now t'.second.bytes.now t'.first.groups t'.second.groups h in
        omega (arith, ap length e, length-sections t'.first.bytes.now t'.first.groups, v.counted)

    pub no_overflow : any_of overflows (union t) ≡ false
    no_overflow =
        let e = merge_none t'.first.bytes.now t'.second.bytes.now t'.first.groups t'.second.groups h in
        let f = (sound_parts t'.first.bytes.now t'.first.groups t'.first.sound).0 in
        sym v.same_overflow ∙ ap (any_of overflows) e ∙ none_overflow t'.first.bytes.now t'.first.groups f t'.first.bytes_fit
