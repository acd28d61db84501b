-- The sections of a table balance with its account: its row total is the rows brought less those removed, and while it is accounted for it holds its rows. An accepted
-- add, merge and removal keep the balance, and so does a file of an older version, in which all finest powers are 0. The idea: each part has its own law. The row total
-- has those of `Counts`, what is held those of `Holds` and `Takes`, and the premise on patches goes by how often each row stands in the patches that were not removed.
use Prim.Native.Nat.{ℕ, ◌+◌, zero-le}
use mathlib.Core.Path.{◌≡◌, refl, ap}
use mathlib.Core.Bool.{true, false, not}
use mathlib.Core.List.{List, [], ◌∷◌, map}
use mathlib.Core.Option.{Option}
use native.Mathlib.Omega.{arith}
use borrow.Author.Tests.{not-true}
use Rattle.lists.specs.Lists.{any_of}
use Rattle.lists.proofs.All.{All}
use Rattle.lists.proofs.Booleans.{both_true}
use Rattle.refusal.specs.Outcome.{accepted}
use Rattle.columns.specs.Columns.{Row}
use Rattle.record.specs.Section.{Section, find}
use Rattle.table.specs.Combine.{merged, added}
use Rattle.table.proofs.Lookup.{Rising, keys_in, added-rising}
use Rattle.table.proofs.Proper.{Proper}
use Rattle.totals.specs.declared.TableTotals.{TableTotals}
use Rattle.totals.specs.Totals.{row_total}
use Rattle.totals.proofs.Rows.{row-total-added}
use Rattle.remove.specs.Remaining.{remaining, too_few_rows}
use Rattle.history.specs.Rows.{occurs, section_bits}
use Rattle.history.specs.Older.{with_finest}
use Rattle.history.proofs.Faded.{faded_option, faded-rising, find-faded}
use Rattle.history.proofs.Fades.{same-totals}
use Rattle.accounts.specs.Holds.{held_at, HoldsBits, without_record, with_record}
use Rattle.accounts.specs.Accounts.{take_out, lacking, equal_patches, Account, blank, with_added, with_merged, with_removed}
use Rattle.accounts.proofs.Rows.{occurs-append, occurs-take_out, taken-same, lacks_none, occurs_all, occurs_all_append, occurs_all_one, take_patch_lem}
use Rattle.accounts.proofs.Holds.{Holds, holds-none, holds-added, holds-merged}
use Rattle.accounts.proofs.Takes.{holds-remaining}
use Rattle.accounts.proofs.Counts.{row-total-merged, row-total-remaining}

pub record Balances (ts : List Section) (l : Account) : Type 0 where
  pub counted : row_total ts + l.removed ≡ l.brought
  pub held : l.accounted ≡ true → Holds ts l.account_rows
  -- under the premise on patches it is accounted for, and its rows are those of the patches that were not removed
  pub by_patches : l.patchwise ≡ true → (l.accounted ≡ true) × ((q : Row) → occurs q l.account_rows ≡ occurs_all q l.patches)

none-counted : row_total [] ≡ 0
unfolding row_total
none-counted = refl

pub balances_none : Balances [] blank
unfolding occurs occurs_all
balances_none = record { counted = omega (arith, none-counted); held = λ e. holds-none; by_patches = λ e. (refl, λ q. refl) }

module _ (ts : List Section) (l : Account) (b : Balances ts l) where
  pub balances_added : (n : ℕ) (rs : List Row) → Balances (added ts rs) (with_added (accepted n) rs l)
  balances_added n rs = record {
    counted = omega (arith, row-total-added ts rs, b.counted);
    held = λ e. holds-added ts l.account_rows rs (b.held e);
    by_patches = λ e.
        let w = b.by_patches e in
        (w.0, λ q. omega (arith, w.1 q, occurs-append q l.account_rows rs, occurs_all_append q l.patches (rs ∷ []), occurs_all_one q rs));
  }

  pub balances_merged : (n : ℕ) (us : List Section) (m : Account) → Balances us m → Balances (merged ts us) (with_merged (accepted n) m l)
  balances_merged n us m c = record {
    counted = omega (arith, row-total-merged ts us, b.counted, c.counted);
    held = λ e.
        let w = both_true l.accounted m.accounted e in
        holds-merged ts us l.account_rows m.account_rows (b.held w.0) (c.held w.1);
    by_patches = λ e.
        let w = both_true l.patchwise m.patchwise e in
        let x = b.by_patches w.0 in
        let y = c.by_patches w.1 in
        (rw (x.0, y.0), λ q. omega (arith, x.1 q, y.1 q, occurs-append q l.account_rows m.account_rows, occurs_all_append q l.patches m.patches));
  }

  pub balances_removed : (n : ℕ) (gone : List Row) → Rising (keys_in ts) → All Proper ts → too_few_rows ts (added [] gone) ≡ false
      → Balances (remaining ts (added [] gone)) (with_removed (accepted n) gone l)
  balances_removed n gone r p few = record {
    counted = omega (arith, row-total-remaining ts (added [] gone) r (added-rising [] gone tt) p few, row-total-added [] gone, none-counted, b.counted);
    held = λ e.
        let w = both_true l.accounted (not (lacking gone l.account_rows)) e in
        holds-remaining ts l.account_rows gone (take_out gone l.account_rows) (b.held w.0)
        (taken-same gone l.account_rows (not-true (lacking gone l.account_rows) w.1));
    by_patches = λ e.
        let w = both_true l.patchwise (any_of (equal_patches gone) l.patches) e in
        let x = b.by_patches w.0 in
        let y = take_patch_lem gone l.patches w.1 in (
          rw (x.0, lacks_none gone l.account_rows (λ q. omega (arith, x.1 q, y q))),
          λ q. omega (arith, x.1 q, y q, occurs-take_out q gone l.account_rows),
        );
  }

  -- with 0 for every finest power
  faded-held : (k : ℕ) (bs : List ℕ) (x : Option Section) → HoldsBits k bs x → HoldsBits k bs (faded_option true x)
  unfolding held_at
  faded-held k bs x (without_record e) = without_record e
  faded-held k bs x (with_record t z n h f) = with_record t 0 n h zero-le

  pub balances_older : Balances (map (with_finest 0) ts) l
  balances_older = record {
    counted = omega (arith, ap (λ (x : TableTotals). x.count) (same-totals (λ k. true) (map (with_finest 0) ts) ts refl), b.counted);
    held = λ e. record {
      rising = faded-rising (λ k. true) ts (b.held e).rising;
      found = λ k. rw (find-faded (λ k. true) k ts) (faded-held k (section_bits k l.account_rows) (find k ts) ((b.held e).found k));
    };
    by_patches = b.by_patches;
  }
