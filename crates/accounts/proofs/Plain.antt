-- Ways of working that remove nothing: their accounts have the rows that are counted from the calls alone, with files of this version and with older ones. The idea:
-- all their tables are accounted for, so every call is answered by the rows (`add-answered` and its kin), and takes the same turn in both countings.
use Prim.Native.Nat.{ℕ, ◌≤◌}
use mathlib.Core.Path.{◌≡◌, refl, sym, ◌∙◌, ap, ap₂, subst}
use mathlib.Core.Bool.{true}
use mathlib.Core.List.{List, [], ◌∷◌, ◌++◌, map}
use native.Mathlib.Omega.{arith}
use native.Mathlib.Decide.{dec_le}
use borrow.Author.Tests.{le-leb, lt-leb}
use lib.ListN.{length, get_or, get_or-eq_default}
use Rattle.lists.proofs.Pairwise.{Pairwise, pairwise_length, pairwise_more, pairwise_at}
use Rattle.refusal.specs.Outcome.{Outcome, accepted, refused}
use Rattle.columns.specs.Columns.{Row, rows_of}
use Rattle.checkpoint.specs.Calls.{load_outcome}
use Rattle.checkpoint.proofs.Loading.{load-2}
use Rattle.history.specs.Rows.{section_numbers}
use Rattle.history.specs.Calls.{add, merge, ask, save, load, add_rows_outcome, merge_rows_outcome, save_rows_outcome, load_rows_grounds, load_rows_outcome, Ledger, no_rows, set_rows, extended, replaced, shelved, step_rows, ledger_after}
use Rattle.history.specs.Run.{State, file_on, Answer}
use Rattle.history.specs.Older.{older_file, OlderCall, ordinary, load-older, step_older, state_after_older, answer_older, answers_older, renewed}
use Rattle.history.proofs.Older.{older-empty}
use Rattle.accounts.specs.AnyCalls.{other, step_any, state_after_any, answer_any, answers_any}
use Rattle.accounts.specs.Accounts.{Account, blank, with_added, with_merged, Accounts, no_accounts, set_account, step_accounts, accounts_after}
use Rattle.accounts.proofs.Files.{KeptFile, older-kept, file-outcome}
use Rattle.accounts.proofs.Answered.{add-answered, merge-answered, groups_are_lem, save-answered}
use Rattle.accounts.proofs.Steps.{updated, KeptState, step_kept}

-- ---- the state and the answers
pub plain_state : (s : State) (cs : List OlderCall) → state_after_any s (map other cs) ≡ state_after_older s cs
unfolding state_after_any state_after_older step_any
plain_state s [] = refl
plain_state s (c ∷ cs) = plain_state (step_older s c) cs

pub plain_answers : (s : State) (cs : List OlderCall) → answers_any s (map other cs) ≡ answers_older s cs
unfolding answers_any answers_older step_any answer_any
plain_answers s [] = refl
plain_answers s (c ∷ cs) = ap (λ (xs : List Answer). answer_older s c ∷ xs) (plain_answers (step_older s c) cs)

-- ---- one account, beside the rows
pub record Plain (m : Account) (rs : List Row) : Type 0 where
  pub has-rows : m.account_rows ≡ rs
  pub none-removed : m.removed ≡ 0
  pub is_accounted : m.accounted ≡ true

plain_blank : Plain blank []
plain_blank = record { has-rows = refl; none-removed = refl; is_accounted = refl }

plain_added : (o : Outcome ℕ) (new : List Row) (m : Account) (rs : List Row) → Plain m rs → Plain (with_added o new m) (extended o rs new)
plain_added (accepted n) new m rs p = record { has-rows = ap (λ (xs : List Row). xs ++ new) p.has-rows; none-removed = p.none-removed; is_accounted = p.is_accounted }
plain_added (refused n) new m rs p = p

plain_merged : (o : Outcome ℕ) (m' m : Account) (rs' rs : List Row) → Plain m' rs' → Plain m rs → Plain (with_merged o m' m) (extended o rs rs')
plain_merged (accepted n) m' m rs' rs q p = record {
  has-rows = ap₂ ◌++◌ p.has-rows q.has-rows;
  none-removed = rw (p.none-removed, q.none-removed);
  is_accounted = rw (p.is_accounted, q.is_accounted);
}
plain_merged (refused n) m' m rs' rs q p = p

plain_replaced : (o : Outcome ℕ) (m m' : Account) (rs rs' : List Row) → Plain m rs → Plain m' rs' → Plain (replaced o m m') (replaced o rs rs')
plain_replaced (accepted n) m m' rs rs' p q = q
plain_replaced (refused n) m m' rs rs' p q = p

plain_shelved : (o : Outcome ℕ) (m : Account) (rs : List Row) (ms : List Account) (rss : List (List Row)) → Plain m rs → Pairwise Plain ms rss
    → Pairwise Plain (shelved o m ms) (shelved o rs rss)
plain_shelved (accepted n) m rs ms rss p x = pairwise_more Plain ms rss m rs x p
plain_shelved (refused n) m rs ms rss p x = x

-- ---- files
-- the table of a file has as many groups as its rows have numbers
file-groups : (f : List ℕ) (m : Account) (rs : List Row) (z : KeptFile f m) → Plain m rs → z.store.groups ≡ length (section_numbers rs)
file-groups f m rs z p =
    groups_are_lem (length z.store.buffer) z.store m (record { sized = refl; table = z.table; balances = z.balances }) p.is_accounted
    ∙ ap (λ (r : List Row). length (section_numbers r)) p.has-rows

-- a load of file n of the shelf, as it is or as an older version wrote it, is answered by the rows
module _ (fs : List (List ℕ)) (ms : List Account) (rss : List (List Row)) (x : Pairwise KeptFile fs ms) (y : Pairwise Plain ms rss) (n : ℕ)
    (F : List ℕ → List ℕ) (none : F [] ≡ []) (keeps : (f : List ℕ) (m : Account) → KeptFile f m → KeptFile (F f) m) where
  load-answered : (table_len : ℕ) → load_outcome (F (file_on fs n)) table_len ≡ load_rows_outcome table_len rss n
  unfolding load_rows_grounds
  load-answered table_len = go (dec_le (length rss) n)
    where
      go : Dec (length rss ≤ n) → load_outcome (F (file_on fs n)) table_len ≡ load_rows_outcome table_len rss n
      go (yes h) =
          let c = pairwise_length KeptFile fs ms x in
          let d = pairwise_length Plain ms rss y in
          rw (le-leb (length rss) n h) (ap (λ (f : List ℕ). load_outcome (F f) table_len) (get_or-eq_default fs [] {n = n} (omega arith)) ∙ rw none (load-2 [] table_len (omega arith)))
      go (no h) =
          let d = pairwise_length Plain ms rss y in
          let m = get_or ms n blank in
          let z = keeps (file_on fs n) m (pairwise_at KeptFile fs ms n [] blank x (omega arith)) in
          let e = file-groups (F (file_on fs n)) m (get_or rss n []) z (pairwise_at Plain ms rss n blank [] y (omega arith)) in
          rw (lt-leb (length rss) n (omega arith)) (file-outcome (F (file_on fs n)) m z table_len ∙ rw e)

-- the account and the rows of number n; where there is no such file both are none
plain_at : (ms : List Account) (rss : List (List Row)) → Pairwise Plain ms rss → (n : ℕ) → Plain (get_or ms n blank) (get_or rss n [])
plain_at ms rss y n = go (dec_le (length rss) n)
  where
    go : Dec (length rss ≤ n) → Plain (get_or ms n blank) (get_or rss n [])
    go (yes h) =
        let d = pairwise_length Plain ms rss y in
        rw (get_or-eq_default ms blank {n = n} (omega arith), get_or-eq_default rss [] {n = n} (omega arith)) plain_blank
    go (no h) = pairwise_at Plain ms rss n blank [] y (omega arith)

-- ---- a state
pub record PlainState (a : Accounts) (l : Ledger) : Type 0 where
  pub tables : (i : ℕ) → Plain (a.of_table i) (l.rows i)
  pub files : Pairwise Plain a.of_file l.saved_rows

pub plain_none : PlainState no_accounts no_rows
plain_none = record { tables = λ i. plain_blank; files = tt }

module _ (len : ℕ → ℕ) where
  module _ (s : State) (a : Accounts) (l : Ledger) (k : KeptState len s a) (p : PlainState a l) where
    set_plain : (i : ℕ) (m : Account) (rs : List Row) → Plain m rs → PlainState (set_account i m a) (set_rows i rs l)
    set_plain i m rs x = record { tables = updated (λ (j : ℕ). Plain) a.of_table l.rows p.tables i m rs x; files = p.files }

    -- a load of a file that is answered by the rows
    load_plain : (i n : ℕ) (f : List ℕ) → ((table_len : ℕ) → load_outcome f table_len ≡ load_rows_outcome table_len l.saved_rows n)
        → Plain (replaced (load_outcome f (length (s.tables i).buffer)) (a.of_table i) (get_or a.of_file n blank)) (replaced (load_rows_outcome (len i) l.saved_rows n) (l.rows i) (get_or l.saved_rows n []))
    load_plain i n f e =
        rw (e (length (s.tables i).buffer), (k.tables i).sized)
        (plain_replaced (load_rows_outcome (len i) l.saved_rows n) (a.of_table i) (get_or a.of_file n blank) (l.rows i) (get_or l.saved_rows n []) (p.tables i)
        (plain_at a.of_file l.saved_rows p.files n))

    step_plain : (c : OlderCall) → PlainState (step_accounts s a (other c)) (step_rows len l (renewed c))
    unfolding step_accounts step_rows
    step_plain (ordinary (add i kind ks vs b work_len)) =
        let x = p.tables i in
        let e = add-answered (len i) (s.tables i) (a.of_table i) (k.tables i) x.is_accounted kind ks vs work_len ∙ ap (λ (rs : List Row). add_rows_outcome kind (len i) rs ks vs work_len) x.has-rows in
        set_plain i _ _
        (subst (λ (o : Outcome ℕ). Plain (with_added o (rows_of kind ks vs) (a.of_table i)) (extended (add_rows_outcome kind (len i) (l.rows i) ks vs work_len) (l.rows i) (rows_of kind ks vs))) (sym e)
        (plain_added (add_rows_outcome kind (len i) (l.rows i) ks vs work_len) (rows_of kind ks vs) (a.of_table i) (l.rows i) x))
    step_plain (ordinary (merge i j d)) =
        let x = p.tables i in
        let y = p.tables j in
        let e = merge-answered (len i) (s.tables i) (a.of_table i) (k.tables i) x.is_accounted (len j) (s.tables j) (a.of_table j) (k.tables j) y.is_accounted ∙ ap₂ (merge_rows_outcome (len i)) x.has-rows y.has-rows in
        set_plain i _ _
        (subst (λ (o : Outcome ℕ). Plain (with_merged o (a.of_table j) (a.of_table i)) (extended (merge_rows_outcome (len i) (l.rows i) (l.rows j)) (l.rows i) (l.rows j))) (sym e)
        (plain_merged (merge_rows_outcome (len i) (l.rows i) (l.rows j)) (a.of_table j) (a.of_table i) (l.rows j) (l.rows i) y x))
    step_plain (ordinary (ask i q)) = p
    step_plain (ordinary (save i out_len)) =
        let x = p.tables i in
        let e = save-answered (len i) (s.tables i) (a.of_table i) (k.tables i) x.is_accounted out_len ∙ ap (λ (rs : List Row). save_rows_outcome rs out_len) x.has-rows in
        record {
          tables = p.tables;
          files = subst (λ (o : Outcome ℕ). Pairwise Plain (shelved o (a.of_table i) a.of_file) (shelved (save_rows_outcome (l.rows i) out_len) (l.rows i) l.saved_rows)) (sym e)
              (plain_shelved (save_rows_outcome (l.rows i) out_len) (a.of_table i) (l.rows i) a.of_file l.saved_rows x p.files);
        }
    step_plain (ordinary (load i n)) =
        set_plain i _ _ (load_plain i n (file_on s.shelf n) (load-answered s.shelf a.of_file l.saved_rows k.files p.files n (λ f. f) refl (λ f m x. x)))
    step_plain (load-older i n) =
        set_plain i _ _ (load_plain i n (older_file (file_on s.shelf n)) (load-answered s.shelf a.of_file l.saved_rows k.files p.files n older_file older-empty older-kept))

  pub state_plain : (s : State) (a : Accounts) (l : Ledger) → KeptState len s a → PlainState a l → (cs : List OlderCall)
      → PlainState (accounts_after s a (map other cs)) (ledger_after len l (map renewed cs))
  unfolding accounts_after ledger_after
  state_plain s a l k p [] = p
  state_plain s a l k p (c ∷ cs) =
      state_plain (step_any s (other c)) (step_accounts s a (other c)) (step_rows len l (renewed c)) (step_kept len s a k (other c)) (step_plain s a l k p c) cs
