-- Row counts added up over a table: what a merge adds, what a removal takes off, and what a table that holds some rows has. The idea: the counts by themselves are a
-- table too, of sections with nothing else in them (`count_only`), and a rising table is what `find` sees in it; so tables with the same counts at each key have the
-- same number of sections, the same row total, and the same answer to 11.
use Prim.Native.Nat.{ℕ, ◌+◌, ◌-◌, ◌≤◌}
use mathlib.Core.Path.{◌≡◌, refl, sym, ◌∙◌, ap}
use mathlib.Core.Bool.{false, true≢false}
use mathlib.Core.List.{List, [], ◌∷◌, map}
use mathlib.Core.Option.{Option, none, some}
use native.Mathlib.Omega.{arith}
use native.Mathlib.Decide.{ℕ_discrete, dec_le}
use borrow.Author.Tests.{ltb-false}
use lib.IntN.{pos}
use lib.ListN.{length, length-map}
use Rattle.lists.specs.Lists.{any_of}
use Rattle.lists.proofs.All.{All}
use Rattle.lists.proofs.Any.{any_map}
use Rattle.columns.specs.Columns.{Row}
use Rattle.record.specs.Section.{Section, find, section_at_top}
use Rattle.record.proofs.Found.{find-key}
use Rattle.table.specs.Combine.{combine, absorb, merged}
use Rattle.table.specs.Calls.{overflows}
use Rattle.table.proofs.Lookup.{Rising, keys_in, find_nil, find_head, find_tail, find_ext, merged-rising, find-merged, join, join_none, none_join}
use Rattle.table.proofs.Proper.{Proper}
use Rattle.totals.specs.Totals.{row_total, table_totals}
use Rattle.totals.proofs.Rows.{row-total-absorb}
use Rattle.remove.specs.Remaining.{without, without_if, remaining, has_fewer, too_few_rows}
use Rattle.remove.proofs.Found.{found_all, found_not}
use Rattle.remove.proofs.Remaining.{if_rows, rows-kept, rows_gone, left_of, find-remaining, remaining-rising}
use Rattle.history.specs.Rows.{section_bits, section_numbers, rows_totals}
use Rattle.history.specs.Calls.{too_many_rows}
use Rattle.history.specs.Canonical.{section_if, canonical}
use Rattle.history.proofs.Canonical.{find-canonical, canonical-rising}
use Rattle.history.proofs.Tables.{overflows-canonical, length-canonical}
use Rattle.history.proofs.Totals.{totals-canonical}
use Rattle.accounts.specs.Holds.{held_at, HoldsBits, without_record, with_record}
use Rattle.accounts.proofs.Holds.{Holds}

pub row-total-merged : (ts ss : List Section) → row_total (merged ts ss) ≡ row_total ts + row_total ss
unfolding merged row_total
row-total-merged ts [] = omega arith
row-total-merged ts (s ∷ ss) = omega (arith, row-total-merged (absorb s ts) ss, row-total-absorb s ts)

-- ---- the counts by themselves
count_only : Section → Section
count_only t = record { key = t.key; count = t.count; top = 0; finest = 0; high = pos 0; middle = pos 0; low = pos 0 }

count_if : Option Section → Option Section
count_if none = none
count_if (some t) = some (count_only t)

count-keys : (ts : List Section) → keys_in (map count_only ts) ≡ keys_in ts
unfolding count_only
count-keys [] = refl
count-keys (t ∷ ts) = ap (λ (l : List ℕ). t.key ∷ l) (count-keys ts)

row-total-counts : (ts : List Section) → row_total (map count_only ts) ≡ row_total ts
unfolding row_total count_only
row-total-counts [] = refl
row-total-counts (t ∷ ts) = ap (λ (n : ℕ). t.count + n) (row-total-counts ts)

find-count : (k : ℕ) (ts : List Section) → find k (map count_only ts) ≡ count_if (find k ts)
unfolding count_only count_if
find-count k [] = rw (find_nil k)
find-count k (t ∷ ts) = go (ℕ_discrete k t.key) (find-count k ts)
  where
    go : Dec (k ≡ t.key) → find k (map count_only ts) ≡ count_if (find k ts) → find k (count_only t ∷ map count_only ts) ≡ count_if (find k (t ∷ ts))
    go (yes e) ih = rw (find_head k (count_only t) (map count_only ts) e, find_head k t ts e)
    go (no e) ih = rw (find_tail k (count_only t) (map count_only ts) e, find_tail k t ts e) ih

-- two tables with the same counts
same-counts : (ts us : List Section) → Rising (keys_in ts) → Rising (keys_in us) → ((k : ℕ) → count_if (find k ts) ≡ count_if (find k us)) → map count_only ts ≡ map count_only us
same-counts ts us a b e =
    find_ext (map count_only ts) (map count_only us) (rw (count-keys ts) a) (rw (count-keys us) b) (λ k. find-count k ts ∙ e k ∙ sym (find-count k us))

same-row-total : (ts us : List Section) → map count_only ts ≡ map count_only us → row_total ts ≡ row_total us
same-row-total ts us e = sym (row-total-counts ts) ∙ ap row_total e ∙ row-total-counts us

count_is : (s t : Section) → s.key ≡ t.key → s.count ≡ t.count → count_only s ≡ count_only t
unfolding count_only
count_is s t e f = λ i. record { key = e i; count = f i; top = 0; finest = 0; high = pos 0; middle = pos 0; low = pos 0 }

-- ---- what remains, with the patch's own sections merged into it, has the held counts
without-count : (t p : Section) → (without t p).count ≡ t.count - p.count
unfolding without
without-count t p = refl

combine-count : (t p : Section) → p.count ≤ t.count → ((combine (without t p) p).key ≡ t.key) × ((combine (without t p) p).count ≡ t.count)
unfolding combine without
combine-count t p h = (refl, omega arith)

none-fewer : (p : Section) → has_fewer none p ≡ false → ⊥
unfolding has_fewer
none-fewer p e = true≢false e

not_fewer : (t p : Section) → has_fewer (some t) p ≡ false → p.count ≤ t.count
unfolding has_fewer
not_fewer t p e = ltb-false t.count p.count e

module _ (ts ps : List Section) (a : Rising (keys_in ts)) (b : Rising (keys_in ps)) (proper : All Proper ts) (enough : too_few_rows ts ps ≡ false) where
  put_back : (t p : Section) → p.count ≤ t.count → p.key ≡ t.key → Dec (t.count ≤ p.count) → count_if (join (if_rows (without t p)) (some p)) ≡ count_if (some t)
  unfolding count_if join
  put_back t p h e (yes l) = rw (rows_gone (without t p) (without-count t p ∙ omega arith)) (ap some (count_is p t e (omega arith)))
  put_back t p h e (no l) =
      let w = combine-count t p h in
      rw (rows-kept (without t p) (rw (without-count t p) (omega arith))) (ap some (count_is (combine (without t p) p) t w.0 w.1))

  together : (k : ℕ) (x y : Option Section) → find k ts ≡ x → find k ps ≡ y → count_if (join (left_of x y) y) ≡ count_if x
  unfolding left_of without_if
  together k none none e f = ap count_if (none_join none)
  together k none (some p) e f = absurd (none-fewer p (rw e at (found_not has_fewer k ts ps enough f)))
  together k (some t) none e f = rw (rows-kept t (found_all Proper k ts proper e).count) (ap count_if (join_none (some t)))
  together k (some t) (some p) e f =
      put_back t p (not_fewer t p (rw e at (found_not has_fewer k ts ps enough f))) (find-key k ps f ∙ sym (find-key k ts e)) (dec_le t.count p.count)

  pub row-total-remaining : row_total (remaining ts ps) + row_total ps ≡ row_total ts
  row-total-remaining =
      let r = remaining-rising ts ps a in
      sym (row-total-merged (remaining ts ps) ps)
      ∙ same-row-total (merged (remaining ts ps) ps) ts
      (same-counts (merged (remaining ts ps) ps) ts (merged-rising (remaining ts ps) ps r) a
      (λ k. ap count_if (find-merged (remaining ts ps) ps k r b ∙ ap (λ (o : Option Section). join o (find k ps)) (find-remaining ts ps k a))
      ∙ together k (find k ts) (find k ps) refl refl))

-- ---- a table that holds some rows has the counts of the sections that they fix
count_held : (k : ℕ) (bs : List ℕ) (x : Option Section) → HoldsBits k bs x → count_if x ≡ count_if (section_if k bs)
unfolding section_if section_at_top held_at count_if count_only
count_held k [] x (without_record e) = refl
count_held k (b ∷ bs) x (without_record e) = absurd (omega arith)
count_held k [] x (with_record t z n l f) = absurd (omega arith)
count_held k (b ∷ bs) x (with_record t z n l f) = refl

module _ (ts : List Section) (rows : List Row) (h : Holds ts rows) where
  counts_are : map count_only ts ≡ map count_only (canonical rows)
  counts_are =
      same-counts ts (canonical rows) h.rising (canonical-rising rows)
      (λ k. count_held k (section_bits k rows) (find k ts) (h.found k) ∙ ap count_if (sym (find-canonical k rows)))

  held-groups : length ts ≡ length (canonical rows)
  held-groups = sym (length-map ts count_only) ∙ ap length counts_are ∙ length-map (canonical rows) count_only

  -- as many sections as the rows have distinct numbers
  pub holds-length : length ts ≡ length (section_numbers rows)
  holds-length = held-groups ∙ length-canonical rows

  pub holds-totals : table_totals ts ≡ rows_totals rows
  holds-totals =
      let n = held-groups in
      let r = same-row-total ts (canonical rows) counts_are in
      (λ i. record { groups = n i; count = r i }) ∙ totals-canonical rows

  -- 11 is read off the rows
  pub holds-overflows : any_of overflows ts ≡ too_many_rows rows
  unfolding count_only
  holds-overflows =
      sym (any_map overflows count_only ts) ∙ ap (any_of overflows) counts_are ∙ any_map overflows count_only (canonical rows) ∙ overflows-canonical rows
