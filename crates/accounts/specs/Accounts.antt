-- What the accepted calls of a list say of each table, and of each saved one: its account.
use Rattle.std.specs.Prelude.{ℕ, ◌+◌, Bool, true, false, not, cond, ◌&&◌, List, [], ◌∷◌, ◌++◌, ltb, length, get_or}
use Rattle.refusal.specs.Outcome.{Outcome, accepted, refused}
use Rattle.lists.specs.Lists.{any_of}
use Rattle.columns.specs.Columns.{Row, rows_of}
use Rattle.table.specs.Calls.{add_outcome, merge_outcome}
use Rattle.checkpoint.specs.Calls.{save_outcome, load_outcome}
use Rattle.remove.specs.Calls.{remove_outcome}
use Rattle.history.specs.Rows.{equal_rows, occurs}
use Rattle.history.specs.Calls.{add, merge, ask, save, load, update, replaced, shelved}
use Rattle.history.specs.Run.{Store, State, file_on}
use Rattle.history.specs.Older.{older_file, ordinary, load-older}
use Rattle.accounts.specs.AnyCalls.{AnyCall, other, remove, step_any}

-- ---- rows and patches taken out of lists

-- the rows without the first that is r
unfoldable pub take_one : Row → List Row → List Row
take_one r [] = []
take_one r (s ∷ ss) = cond (equal_rows r s) ss (s ∷ take_one r ss)

-- the rows without those of a patch, one occurrence for each
unfoldable pub take_out : List Row → List Row → List Row
take_out [] rows = rows
take_out (r ∷ rs) rows = take_out rs (take_one r rows)

-- the patch has a row more often than the rows have it
unfoldable pub lacking : List Row → List Row → Bool
lacking gone rows = any_of (λ (r : Row). ltb (occurs r rows) (occurs r gone)) gone

-- two patches have the same rows in the same order
unfoldable pub equal_patches : List Row → List Row → Bool
equal_patches [] [] = true
equal_patches [] (s ∷ ss) = false
equal_patches (r ∷ rs) [] = false
equal_patches (r ∷ rs) (s ∷ ss) = equal_rows r s && equal_patches rs ss

-- the patches without the first that is p
unfoldable pub take_patch : List Row → List (List Row) → List (List Row)
take_patch p [] = []
take_patch p (q ∷ qs) = cond (equal_patches p q) qs (q ∷ take_patch p qs)

-- the rows of patches, one patch after the other
unfoldable pub patch_rows : List (List Row) → List Row
patch_rows [] = []
patch_rows (p ∷ ps) = p ++ patch_rows ps

-- ---- accounts

-- what the accepted calls say of a table
pub record Account : Type 0 where
  -- its rows, and how many were brought and removed
  pub account_rows : List Row
  pub brought : ℕ
  pub removed : ℕ
  -- it is accounted for: each removal took rows that it had, repeats counted, and each table merged into it was accounted for at that moment
  pub accounted : Bool
  -- the patches that were added and not removed, and Card 9's premise: each removal took one of them, and so in each table merged into it
  pub patches : List (List Row)
  pub patchwise : Bool

-- at the start
abbrev pub blank : Account
blank = record { account_rows = []; brought = 0; removed = 0; accounted = true; patches = []; patchwise = true }

-- after an add of new rows
abbrev pub with_added : Outcome ℕ → List Row → Account → Account
with_added (accepted g) new l =
    record {
      account_rows = l.account_rows ++ new;
      brought = l.brought + length new;
      removed = l.removed;
      accounted = l.accounted;
      patches = l.patches ++ (new ∷ []);
      patchwise = l.patchwise;
    }
with_added (refused n) new l = l

-- after a merge of a table with the account m
abbrev pub with_merged : Outcome ℕ → Account → Account → Account
with_merged (accepted g) m l =
    record {
      account_rows = l.account_rows ++ m.account_rows;
      brought = l.brought + m.brought;
      removed = l.removed + m.removed;
      accounted = l.accounted && m.accounted;
      patches = l.patches ++ m.patches;
      patchwise = l.patchwise && m.patchwise;
    }
with_merged (refused n) m l = l

-- after a removal of the rows of a patch
abbrev pub with_removed : Outcome ℕ → List Row → Account → Account
with_removed (accepted g) gone l =
    record {
      account_rows = take_out gone l.account_rows;
      brought = l.brought;
      removed = l.removed + length gone;
      accounted = l.accounted && not (lacking gone l.account_rows);
      patches = take_patch gone l.patches;
      patchwise = l.patchwise && any_of (equal_patches gone) l.patches;
    }
with_removed (refused n) gone l = l

-- the accounts of the tables, and those of the saved ones in the order of saving: a saved and loaded table keeps its account
pub record Accounts : Type 0 where
  pub of_table : ℕ → Account
  pub of_file : List Account

-- no table has rows, and none was saved
abbrev pub no_accounts : Accounts
no_accounts = record { of_table = λ i. blank; of_file = [] }

-- the accounts with l for table i
abbrev pub set_account : ℕ → Account → Accounts → Accounts
set_account i l a = record { of_table = update i l a.of_table; of_file = a.of_file }

-- the accounts after a load of the file f, number n of the shelf, into the table t with the number i
abbrev pub with_loaded : ℕ → Store → List ℕ → ℕ → Accounts → Accounts
with_loaded i t f n a = set_account i (replaced (load_outcome f (length t.buffer)) (a.of_table i) (get_or a.of_file n blank)) a

-- the accounts after one call in the state s. Whether it is accepted is read off the bytes, since in a table that is not accounted for the rows do not decide it
unfoldable pub step_accounts : State → Accounts → AnyCall → Accounts
step_accounts s a (other (ordinary (add i kind ks vs b work_len))) =
    set_account i (with_added (add_outcome kind (s.tables i).buffer (s.tables i).groups ks vs work_len) (rows_of kind ks vs) (a.of_table i)) a
step_accounts s a (other (ordinary (merge i j d))) =
    set_account i (with_merged (merge_outcome (s.tables i).buffer (s.tables i).groups (s.tables j).buffer (s.tables j).groups) (a.of_table j) (a.of_table i)) a
step_accounts s a (other (ordinary (ask i q))) = a
step_accounts s a (other (ordinary (save i out_len))) =
    record { of_table = a.of_table; of_file = shelved (save_outcome (s.tables i).buffer (s.tables i).groups out_len) (a.of_table i) a.of_file }
step_accounts s a (other (ordinary (load i n))) = with_loaded i (s.tables i) (file_on s.shelf n) n a
step_accounts s a (other (load-older i n)) = with_loaded i (s.tables i) (older_file (file_on s.shelf n)) n a
step_accounts s a (remove i kind ks vs b work_len) =
    set_account i (with_removed (remove_outcome kind (s.tables i).buffer (s.tables i).groups ks vs work_len) (rows_of kind ks vs) (a.of_table i)) a

-- and after a list of them
unfoldable pub accounts_after : State → Accounts → List AnyCall → Accounts
accounts_after s a [] = a
accounts_after s a (e ∷ es) = accounts_after (step_any s e) (step_accounts s a e) es
