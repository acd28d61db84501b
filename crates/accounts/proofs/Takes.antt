-- A removal of rows that a table holds, repeats counted, leaves the others, and none of 20, 21 and 22 refuses it. The idea: at each key the held section is that of
-- the patch's rows and of the others, and without the patch's section it is that of the others at the same top and finest power.
use Prim.Native.Nat.{ℕ, ◌-◌, ◌*◌, ◌≤◌}
use mathlib.Core.Path.{◌≡◌, refl, sym, ◌∙◌, ap₂}
use mathlib.Core.Bool.{Bool, true, false, cond}
use mathlib.Core.List.{List, [], ◌∷◌, ◌++◌}
use mathlib.Core.Option.{Option, some}
use native.Mathlib.Omega.{arith}
use native.Mathlib.Nat.{le_refl}
use native.Mathlib.Decide.{dec_le}
use borrow.Author.Tests.{le-ltb}
use lib.Dec.{leb}
use lib.IntN.{ℤ, pos, ◌+ℤ◌, ◌-ℤ◌, nat_abs}
use lib.ListN.{length, length-append}
use Rattle.lists.proofs.Booleans.{never}
use Rattle.lists.proofs.Any.{any_map}
use Rattle.integers.proofs.Diff.{ints, by_parts₂}
use Rattle.level.specs.Level.{level_bound, below, top_of, total}
use Rattle.level.specs.Finest.{finest_of}
use Rattle.level.proofs.Finest.{finest_of-append}
use Rattle.level.proofs.Section.{total-append, total-bound, top_of-append}
use Rattle.columns.specs.Columns.{Row}
use Rattle.record.specs.Section.{Section, find, section_at_top, section_of}
use Rattle.table.specs.Combine.{added}
use Rattle.table.proofs.Lookup.{added-rising}
use Rattle.table.proofs.Combine.{section_at_cong}
use Rattle.remove.specs.Remaining.{without_at, without, without_if, all_without, remaining, has_fewer, has_lower, exceeds, too_few_rows, raises_top, total_exceeds}
use Rattle.remove.proofs.Found.{any_none}
use Rattle.remove.proofs.Remaining.{if_rows, rows-kept, rows_gone, left_of, find-remaining, remaining-rising, within}
use Rattle.history.specs.Rows.{SameRows, section_bits}
use Rattle.history.specs.Canonical.{section_if}
use Rattle.history.proofs.Canonical.{section_bits-append}
use Rattle.accounts.specs.Holds.{held_at, HoldsBits, without_record, with_record}
use Rattle.accounts.proofs.Holds.{Holds, level_of-held, holds_same, find_patch}

-- ---- one section
held-count : (k : ℕ) (bs : List ℕ) (t z : ℕ) → (held_at k bs t z).count ≡ length bs
unfolding held_at
held-count k bs t z = refl

held-within : (k : ℕ) (bs : List ℕ) (t z : ℕ) → exceeds (held_at k bs t z) ≡ false
unfolding held_at
held-within k bs t z = within (held_at k bs t z) (bound 0) (bound 1) (bound 2)
  where
    by : (b : Bool) (x : ℤ) (n : ℕ) → nat_abs x ≤ n → nat_abs (cond b x (pos 0)) ≤ n
    by true x n h = h
    by false x n h = omega arith

    bound : (i : ℕ) → nat_abs (below (total bs) t i) ≤ length bs * level_bound
    bound i = by (leb i t) (total bs (t - i)) (length bs * level_bound) (total-bound bs (t - i))

-- the section of the rows cs and ds, without that of cs
without-held : (k : ℕ) (cs ds : List ℕ) (t z : ℕ) → top_of (cs ++ ds) ≤ t → without (held_at k (cs ++ ds) t z) (section_of k cs) ≡ held_at k ds t z
unfolding without held_at section_at_top
without-held k cs ds t z h =
    let n : length (cs ++ ds) - length cs ≡ length ds = omega (arith, length-append cs ds) in
    let tops = top_of-append cs ds in
    section_at_cong k (length (cs ++ ds) - length cs) t z (without_at (held_at k (cs ++ ds) t z) (section_of k cs)) (total ds)
    (λ j q. ap₂ ◌-ℤ◌ (level_of-held k (cs ++ ds) t z j h q ∙ total-append cs ds j) (level_of-held k cs (top_of cs) (finest_of cs) j (le_refl (top_of cs)) (omega arith))
    ∙ off (total cs j) (total ds j))
    ∙ rw n
  where
    off : (x y : ℤ) → x +ℤ y -ℤ x ≡ y
    off = by_parts₂ _ (λ a b c d. simp ints (omega arith))

-- also where there are none of cs
without-part : (k : ℕ) (cs ds : List ℕ) (t z : ℕ) → top_of (cs ++ ds) ≤ t → without_if (held_at k (cs ++ ds) t z) (section_if k cs) ≡ held_at k ds t z
unfolding section_if without_if
without-part k [] ds t z h = refl
without-part k (c ∷ cs) ds t z h = without-held k (c ∷ cs) ds t z h

module _ (k : ℕ) (cs ds : List ℕ) where
  bits_left : (x : Option Section) → HoldsBits k (cs ++ ds) x → HoldsBits k ds (left_of x (section_if k cs))
  unfolding left_of
  bits_left x (without_record e) = without_record (omega (arith, length-append cs ds))
  bits_left x (with_record t z n l f) = rw (without-part k cs ds t z l) (go (dec_le 1 (length ds)))
    where
      go : Dec (1 ≤ length ds) → HoldsBits k ds (if_rows (held_at k ds t z))
      go (yes h) =
          rw (rows-kept (held_at k ds t z) (rw (held-count k ds t z) h))
          (with_record t z h (omega (arith, top_of-append cs ds)) (omega (arith, finest_of-append cs ds)))
      go (no h) = rw (rows_gone (held_at k ds t z) (held-count k ds t z ∙ omega arith)) (without_record (omega arith))

  -- none of 20, 21 and 22 holds of it
  part_held : (x : Option Section) → HoldsBits k (cs ++ ds) x → (p : Section) → section_if k cs ≡ some p → (has_fewer x p ≡ false) × (has_lower x p ≡ false)
  unfolding section_if section_at_top has_fewer has_lower held_at
  part_held x h p q = go cs x h q
    where
      go : (cs : List ℕ) (x : Option Section) → HoldsBits k (cs ++ ds) x → section_if k cs ≡ some p → (has_fewer x p ≡ false) × (has_lower x p ≡ false)
      go [] x h q = never cc
      go (c ∷ cs) x (without_record e) q = absurd (omega arith)
      go (c ∷ cs) x (with_record t z n l f) q =
          let r : p ≡ section_of k (c ∷ cs) = cc in
          rw r (
            le-ltb (length (c ∷ cs ++ ds)) (length (c ∷ cs)) (omega (arith, length-append (c ∷ cs) ds)),
            le-ltb t (top_of (c ∷ cs)) (omega (arith, top_of-append (c ∷ cs) ds)),
          )

  left-within : (x : Option Section) → HoldsBits k (cs ++ ds) x → (u : Section) → x ≡ some u → exceeds (without_if u (section_if k cs)) ≡ false
  left-within x (without_record n) u q = never cc
  left-within x (with_record t z n l f) u q =
      let r : u ≡ held_at k (cs ++ ds) t z = cc in
      rw (r, without-part k cs ds t z l) (held-within k ds t z)

-- ---- a whole table
module _ (ts : List Section) (rows gone left : List Row) (h : Holds ts rows) (e : SameRows rows (gone ++ left)) where
  abbrev ps : List Section
  ps = added [] gone

  both : (k : ℕ) → HoldsBits k (section_bits k gone ++ section_bits k left) (find k ts)
  both k = rw (section_bits-append k gone left) at ((holds_same ts rows (gone ++ left) e h).found k)

  pub holds-remaining : Holds (remaining ts ps) left
  holds-remaining = record {
    rising = remaining-rising ts ps h.rising;
    found = λ k.
        rw (find-remaining ts ps k h.rising, find_patch gone k) (bits_left k (section_bits k gone) (section_bits k left) (find k ts) (both k));
  }

  found_part : (p : Section) → find p.key ps ≡ some p → (has_fewer (find p.key ts) p ≡ false) × (has_lower (find p.key ts) p ≡ false)
  found_part p q =
      part_held p.key (section_bits p.key gone) (section_bits p.key left) (find p.key ts) (both p.key) p (sym (find_patch gone p.key) ∙ q)

  pub holds-20 : too_few_rows ts ps ≡ false
  holds-20 = any_none (λ (p : Section). has_fewer (find p.key ts) p) ps (added-rising [] gone tt) (λ p q. (found_part p q).0)

  pub holds-21 : raises_top ts ps ≡ false
  holds-21 = any_none (λ (p : Section). has_lower (find p.key ts) p) ps (added-rising [] gone tt) (λ p q. (found_part p q).1)

  pub holds-22 : total_exceeds ts ps ≡ false
  unfolding all_without
  holds-22 =
      any_map exceeds (λ (t : Section). without_if t (find t.key ps)) ts
      ∙ any_none (λ (t : Section). exceeds (without_if t (find t.key ps))) ts h.rising
      (λ u q. rw (find_patch gone u.key) (left-within u.key (section_bits u.key gone) (section_bits u.key left) (find u.key ts) (both u.key) u q))
