-- A table that holds its rows, at tops at least and with finest powers at most theirs, holds all rows after an add and after a merge, and holds them in any order.
-- The idea: a rising table is what `find` sees in it, and there an add and a merge join two sections, each of which holds the totals of its own rows.
use Prim.Native.Nat.{ℕ, ◌+◌, ◌≤◌, max, min}
use mathlib.Core.Path.{◌≡◌, refl, sym, ◌∙◌, ap}
use mathlib.Core.List.{List, [], ◌∷◌, ◌++◌, append-nil}
use mathlib.Core.Option.{Option}
use native.Mathlib.Omega.{arith}
use native.Mathlib.Nat.{le_refl}
use lib.IntN.{◌+ℤ◌}
use lib.ListN.{length, length-append}
use Rattle.lists.proofs.Booleans.{never}
use Rattle.level.specs.Level.{top_of, total}
use Rattle.level.specs.Finest.{finest_of}
use Rattle.level.proofs.Finest.{finest_of-append}
use Rattle.level.proofs.Section.{total_above, total-append, top_of-append}
use Rattle.columns.specs.Columns.{Row}
use Rattle.record.specs.Section.{Section, find, section_at_top, section_of}
use Rattle.table.specs.Combine.{level_of, combine, added, merged}
use Rattle.table.proofs.Lookup.{Rising, keys_in, find_nil, join, added-rising, find-merged, merged-rising}
use Rattle.table.proofs.Combine.{level_of_at, section_at_cong, section_at-combine}
use Rattle.remove.proofs.Found.{find-added}
use Rattle.history.specs.Rows.{SameRows, section_bits, section_numbers}
use Rattle.history.specs.Canonical.{section_if, canonical}
use Rattle.history.proofs.Canonical.{section_bits-append, find-canonical, added-canonical}
use Rattle.history.proofs.Order.{section_same}
use Rattle.accounts.specs.Holds.{held_at, HoldsBits, without_record, with_record}

-- a table, its keys rising, holds these rows and no other
pub record Holds (ts : List Section) (rows : List Row) : Type 0 where
  pub rising : Rising (keys_in ts)
  pub found : (k : ℕ) → HoldsBits k (section_bits k rows) (find k ts)

-- ---- the section of rows at a top that is at least theirs
pub level_of-held : (k : ℕ) (bs : List ℕ) (t z j : ℕ) → top_of bs ≤ t → t ≤ j + 2 → level_of (held_at k bs t z) j ≡ total bs j
unfolding held_at
level_of-held k bs t z j h l = level_of_at k (length bs) t z (total bs) j l (λ q. total_above bs j (omega arith))

section_held : (k : ℕ) (bs : List ℕ) → section_of k bs ≡ held_at k bs (top_of bs) (finest_of bs)
unfolding section_at_top held_at
section_held k bs = refl

combine-held : (k : ℕ) (bs cs : List ℕ) (t u z y : ℕ) → top_of bs ≤ t → top_of cs ≤ u → combine (held_at k bs t z) (held_at k cs u y) ≡ held_at k (bs ++ cs) (max t u) (min z y)
unfolding held_at
combine-held k bs cs t u z y h l =
    section_at-combine k (length bs) (length cs) t u z y (total bs) (total cs) (λ j q. total_above bs j (omega arith)) (λ j q. total_above cs j (omega arith))
    ∙ section_at_cong k (length bs + length cs) (max t u) (min z y) (λ j. total bs j +ℤ total cs j) (total (bs ++ cs)) (λ j q. sym (total-append bs cs j))
    ∙ rw (length-append bs cs)

-- ---- what is found for one section
bits-held : (k : ℕ) (bs : List ℕ) → HoldsBits k bs (section_if k bs)
unfolding section_if
bits-held k [] = without_record refl
bits-held k (b ∷ bs) =
    rw (section_held k (b ∷ bs)) (with_record (top_of (b ∷ bs)) (finest_of (b ∷ bs)) (omega arith) (le_refl (top_of (b ∷ bs))) (le_refl (finest_of (b ∷ bs))))

bits_joined : (k : ℕ) (bs cs : List ℕ) (x y : Option Section) → HoldsBits k bs x → HoldsBits k cs y → HoldsBits k (bs ++ cs) (join x y)
unfolding join
bits_joined k [] cs x y (without_record e) h = h
bits_joined k (b ∷ bs) cs x y (without_record e) h = absurd (omega arith)
bits_joined k bs [] x y (with_record t z n l f) (without_record e) = rw (append-nil bs) (with_record t z n l f)
bits_joined k bs (c ∷ cs) x y (with_record t z n l f) (without_record e) = absurd (omega arith)
bits_joined k bs cs x y (with_record t z n l f) (with_record u w m q g) =
    rw (combine-held k bs cs t u z w l q)
    (with_record (max t u) (min z w) (omega (arith, length-append bs cs)) (omega (arith, top_of-append bs cs)) (omega (arith, finest_of-append bs cs)))

-- ---- rows in another order
-- the number, the top, the finest power and the totals at the three levels are read off the section
record Alike (zs bs : List ℕ) : Type 0 where
  number : length zs ≡ length bs
  highest : top_of zs ≡ top_of bs
  finest : finest_of zs ≡ finest_of bs
  totals : (j : ℕ) → top_of zs ≤ j + 2 → total zs j ≡ total bs j

sections_alike : (k : ℕ) (zs bs : List ℕ) → section_of k zs ≡ section_of k bs → Alike zs bs
unfolding section_at_top
sections_alike k zs bs e =
    let h : top_of zs ≡ top_of bs = ap (λ (s : Section). s.top) e in
    record {
      number = ap (λ (s : Section). s.count) e;
      highest = h;
      finest = ap (λ (s : Section). s.finest) e;
      totals = λ j l.
          sym (level_of_at k (length zs) (top_of zs) (finest_of zs) (total zs) j l (total_above zs j))
          ∙ ap (λ (s : Section). level_of s j) e ∙ level_of_at k (length bs) (top_of bs) (finest_of bs) (total bs) j (omega arith) (total_above bs j);
    }

bits_alike : (k : ℕ) (zs bs : List ℕ) → section_if k zs ≡ section_if k bs → Alike zs bs
unfolding section_if
bits_alike k [] [] e = record { number = refl; highest = refl; finest = refl; totals = λ j l. refl }
bits_alike k [] (b ∷ bs) e = never cc
bits_alike k (a ∷ zs) [] e = never cc
bits_alike k (a ∷ zs) (b ∷ bs) e = let q : section_of k (a ∷ zs) ≡ section_of k (b ∷ bs) = cc in sections_alike k (a ∷ zs) (b ∷ bs) q

held_alike : (k : ℕ) (zs bs : List ℕ) (t z : ℕ) → Alike zs bs → top_of zs ≤ t → held_at k zs t z ≡ held_at k bs t z
unfolding held_at
held_alike k zs bs t z a h = section_at_cong k (length zs) t z (total zs) (total bs) (λ j l. a.totals j (omega arith)) ∙ rw a.number

bits-same : (k : ℕ) (zs bs : List ℕ) (x : Option Section) → Alike zs bs → HoldsBits k zs x → HoldsBits k bs x
bits-same k zs bs x a (without_record e) = without_record (sym a.number ∙ e)
bits-same k zs bs x a (with_record t z n l f) =
    rw (held_alike k zs bs t z a l) (with_record t z (rw (← a.number) n) (rw (← a.highest) l) (rw (← a.finest) f))

-- ---- a whole table
pub holds-none : Holds [] []
unfolding section_bits
holds-none = record { rising = tt; found = λ k. rw (find_nil k) (without_record refl) }

-- a table holds the same rows in any order
pub holds_same : (ts : List Section) (xs ys : List Row) → SameRows xs ys → Holds ts xs → Holds ts ys
holds_same ts xs ys e h = record {
  rising = h.rising;
  found = λ k.
      bits-same k (section_bits k xs) (section_bits k ys) (find k ts) (bits_alike k (section_bits k xs) (section_bits k ys) (section_same k xs ys e)) (h.found k);
}

-- the patch's own sections
pub find_patch : (rs : List Row) (k : ℕ) → find k (added [] rs) ≡ section_if k (section_bits k rs)
unfolding canonical section_numbers
find_patch rs k = ap (find k) (added-canonical [] rs) ∙ find-canonical k rs

-- an add brings its rows
pub holds-added : (ts : List Section) (xs rs : List Row) → Holds ts xs → Holds (added ts rs) (xs ++ rs)
holds-added ts xs rs h = record {
  rising = added-rising ts rs h.rising;
  found = λ k.
      rw (find-added rs ts k h.rising, find_patch rs k, section_bits-append k xs rs)
      (bits_joined k (section_bits k xs) (section_bits k rs) (find k ts) (section_if k (section_bits k rs)) (h.found k) (bits-held k (section_bits k rs)));
}

-- a merge brings the other table's rows
pub holds-merged : (ts us : List Section) (xs ys : List Row) → Holds ts xs → Holds us ys → Holds (merged ts us) (xs ++ ys)
holds-merged ts us xs ys h l = record {
  rising = merged-rising ts us h.rising;
  found = λ k.
      rw (find-merged ts us k h.rising l.rising, section_bits-append k xs ys)
      (bits_joined k (section_bits k xs) (section_bits k ys) (find k ts) (find k us) (h.found k) (l.found k));
}
