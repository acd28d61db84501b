-- `row_total`: what was added up, and the sections from i on, make the whole.
use Prim.Native.Nat.{ℕ, suc, ◌+◌, ◌*◌, ◌≤◌, ◌<◌}
use mathlib.Core.Path.{◌≡◌, ap, ◌∙◌}
use mathlib.Core.List.{List}
use native.Mathlib.Numerals.{add-one}
use native.Mathlib.Omega.{arith}
use lib.Dec.{T}
use lib.ListN.{length, drop, drop_of_length-le}
use lib.Seq.{drop-cons}
use Rattle.codec.specs.Bytes.{number_at}
use Rattle.record.specs.Layout.{record_at}
use Rattle.record.specs.Section.{Section, meaning, sections}
use Rattle.record.specs.Sound.{sound}
use Rattle.record.proofs.Laws.{get_d_sections}
use Rattle.record.proofs.Sound.{sound_parts}
use Rattle.table.proofs.State.{length-sections}
use Rattle.totals.specs.Totals.{row_total}
use Rattle.totals.proofs.row_total.Goals as goal

module _ (s : List ℕ) (g i : ℕ) where
  -- the section at i is the first of those that are left
  next : T (sound s g) → i < g → row_total (drop i (sections s g)) ≡ number_at 4 s (i * 64 + 4) + row_total (drop (i + 1) (sections s g))
  unfolding row_total
  next ok h =
      rw (add-one i)
      (ap row_total (drop-cons (sections s g) i (meaning (record_at s (i * 64))) (omega (arith, length-sections s g)))
      ∙ ap (λ (t : Section). t.count + row_total (drop (suc i) (sections s g))) (get_d_sections s g (sound_parts s g ok).0 i (record_at s (i * 64)) h))

  -- none is left
  end : g ≤ i → row_total (drop i (sections s g)) ≡ 0
  unfolding row_total
  end h = let l : length (sections s g) ≤ i = omega (arith, length-sections s g) in ap row_total (drop_of_length-le (sections s g) l)

-- what is added up so far is at most i full row counts, which fit 64 bits
pub overflow_add-count : goal.overflow_add-count
overflow_add-count c = let t = c.args.t in omega (arith, (sound_parts t.bytes.now t.groups t.sound).1)

pub loop-i-preserved : goal.loop-i-preserved
loop-i-preserved c =
    let t = c.args.t in record {
      added_up = omega (arith, next t.bytes.now t.groups c.loop-i.i t.sound c.loop-i-test.true);
      few_rows = omega arith;
    }

pub returns : goal.returns
returns c = omega (arith, end c.args.t.bytes.now c.args.t.groups c.loop-i.i (omega arith))
