-- A state beside its accounts, after one call and after a list of them: every table and every file is kept, and no call answers 7.
use Prim.Native.Nat.{ℕ}
use mathlib.Core.Path.{◌≡◌, refl}
use mathlib.Core.Bool.{false}
use mathlib.Core.List.{List, [], ◌∷◌}
use native.Mathlib.Decide.{ℕ_discrete}
use borrow.Author.Tests.{eq-eqb, ne_eqb}
use lib.ListN.{length, get_or}
use Rattle.lists.specs.Lists.{any_of}
use Rattle.lists.proofs.Pairwise.{Pairwise}
use Rattle.history.specs.Calls.{add, merge, ask, save, load, update}
use Rattle.history.specs.Run.{Store, State, no_groups, set_table, file_on, step, answer, refuses}
use Rattle.history.specs.Older.{older_file, ordinary, load-older, step_older, answer_older}
use Rattle.accounts.specs.AnyCalls.{AnyCall, other, remove, step_any, state_after_any, answer_any, answers_any}
use Rattle.accounts.specs.Accounts.{Account, blank, Accounts, no_accounts, set_account, step_accounts, accounts_after}
use Rattle.accounts.proofs.Kept.{KeptTable, kept-none, add_kept, merge-kept, remove-kept}
use Rattle.accounts.proofs.Files.{KeptFile, ReadFile, read-file, read-older, save-kept, load_kept}
use Rattle.accounts.proofs.Answered.{add_not_7, merge_not_7, remove_not_7, ask_not_7, save_not_7, load_not_7}

-- what holds of each two of a number holds with two of them changed
pub updated : {A B : Type 0} (R : ℕ → A → B → Type 0) (f : ℕ → A) (g : ℕ → B) → ((j : ℕ) → R j (f j) (g j)) → (i : ℕ) (x : A) (y : B) → R i x y
    → (j : ℕ) → R j (update i x f j) (update i y g j)
updated R f g h i x y r j = go (ℕ_discrete j i)
  where
    go : Dec (j ≡ i) → R j (update i x f j) (update i y g j)
    go (yes e) = rw (eq-eqb j i e, e) r
    go (no e) = rw (ne_eqb j i e) (h j)

-- len i is the length of table i's buffer
pub record KeptState (len : ℕ → ℕ) (s : State) (a : Accounts) : Type 0 where
  pub tables : (i : ℕ) → KeptTable (len i) (s.tables i) (a.of_table i)
  pub files : Pairwise KeptFile s.shelf a.of_file

pub state_none : (initial : ℕ → List ℕ) → KeptState (λ i. length (initial i)) (no_groups initial) no_accounts
state_none initial = record { tables = λ i. kept-none (initial i); files = tt }

module _ (len : ℕ → ℕ) where
  module _ (s : State) (a : Accounts) (k : KeptState len s a) where
    set_kept : (i : ℕ) (t : Store) (l : Account) → KeptTable (len i) t l → KeptState len (set_table i t s) (set_account i l a)
    set_kept i t l x = record { tables = updated (λ (j : ℕ). KeptTable (len j)) s.tables a.of_table k.tables i t l x; files = k.files }

    -- what number n reads, as it is and as an older version wrote it
    read_now : (n : ℕ) → ReadFile (file_on s.shelf n) (get_or a.of_file n blank)
    read_now n = read-file s.shelf a.of_file k.files n

    read_old : (n : ℕ) → ReadFile (older_file (file_on s.shelf n)) (get_or a.of_file n blank)
    read_old n = read-older (file_on s.shelf n) (get_or a.of_file n blank) (read_now n)

    pub step_kept : (e : AnyCall) → KeptState len (step_any s e) (step_accounts s a e)
    unfolding step_any step_older step step_accounts
    step_kept (other (ordinary (add i kind ks vs b work_len))) = set_kept i _ _ (add_kept (len i) (s.tables i) (a.of_table i) (k.tables i) kind ks vs work_len b)
    step_kept (other (ordinary (merge i j d))) = set_kept i _ _ (merge-kept (len i) (s.tables i) (a.of_table i) (k.tables i) (len j) (s.tables j) (a.of_table j) (k.tables j))
    step_kept (other (ordinary (ask i q))) = k
    step_kept (other (ordinary (save i out_len))) =
        record { tables = k.tables; files = save-kept s.shelf a.of_file k.files (len i) (s.tables i) (a.of_table i) (k.tables i) out_len }
    step_kept (other (ordinary (load i n))) = set_kept i _ _ (load_kept (len i) (s.tables i) (a.of_table i) (k.tables i) (file_on s.shelf n) (get_or a.of_file n blank) (read_now n))
    step_kept (other (load-older i n)) = set_kept i _ _ (load_kept (len i) (s.tables i) (a.of_table i) (k.tables i) (older_file (file_on s.shelf n)) (get_or a.of_file n blank) (read_old n))
    step_kept (remove i kind ks vs b work_len) = set_kept i _ _ (remove-kept (len i) (s.tables i) (a.of_table i) (k.tables i) kind ks vs work_len)

    call_not_7 : (e : AnyCall) → refuses 7 (answer_any s e) ≡ false
    unfolding answer_any answer_older answer
    call_not_7 (other (ordinary (add i kind ks vs b work_len))) = add_not_7 (len i) (s.tables i) (a.of_table i) (k.tables i) kind ks vs work_len
    call_not_7 (other (ordinary (merge i j d))) = merge_not_7 (len i) (s.tables i) (a.of_table i) (k.tables i) (len j) (s.tables j) (a.of_table j) (k.tables j)
    call_not_7 (other (ordinary (ask i q))) = ask_not_7 (len i) (s.tables i) (a.of_table i) (k.tables i) q
    call_not_7 (other (ordinary (save i out_len))) = save_not_7 (len i) (s.tables i) (a.of_table i) (k.tables i) out_len
    call_not_7 (other (ordinary (load i n))) = load_not_7 (file_on s.shelf n) (get_or a.of_file n blank) (read_now n) (length (s.tables i).buffer)
    call_not_7 (other (load-older i n)) = load_not_7 (older_file (file_on s.shelf n)) (get_or a.of_file n blank) (read_old n) (length (s.tables i).buffer)
    call_not_7 (remove i kind ks vs b work_len) = remove_not_7 (len i) (s.tables i) (a.of_table i) (k.tables i) kind ks vs work_len

  pub state_kept : (s : State) (a : Accounts) → KeptState len s a → (es : List AnyCall) → KeptState len (state_after_any s es) (accounts_after s a es)
  unfolding state_after_any accounts_after
  state_kept s a k [] = k
  state_kept s a k (e ∷ es) = state_kept (step_any s e) (step_accounts s a e) (step_kept s a k e) es

  pub answers_not_7 : (s : State) (a : Accounts) → KeptState len s a → (es : List AnyCall) → any_of (refuses 7) (answers_any s es) ≡ false
  unfolding answers_any any_of
  answers_not_7 s a k [] = refl
  answers_not_7 s a k (e ∷ es) = rw (call_not_7 s a k e) (answers_not_7 (step_any s e) (step_accounts s a e) (step_kept s a k e) es)
