-- Each call keeps it that every table holds its rows in the ledger, and is answered by the ledger; so both hold over every list of calls.
use Prim.Native.Nat.{ℕ}
use mathlib.Core.Path.{◌≡◌, refl, sym, ap, ap₂, subst, ◌∙◌}
use mathlib.Core.Bool.{false}
use mathlib.Core.List.{List, [], ◌∷◌}
use native.Mathlib.Decide.{ℕ_discrete}
use borrow.Author.Tests.{eq-eqb, ne_eqb}
use lib.ListN.{length, get_or}
use Rattle.refusal.specs.Outcome.{Outcome, accepted, refused}
use Rattle.record.specs.Section.{written}
use Rattle.history.specs.Canonical.{canonical}
use Rattle.refusal.proofs.Outcomes.{not_given}
use Rattle.columns.specs.Columns.{Row, rows_of}
use Rattle.lists.specs.Lists.{any_of}
use Rattle.history.specs.Calls.{Call, add, merge, ask, save, load, add_rows_grounds, add_rows_outcome, merge_rows_grounds, merge_rows_outcome, save_rows_grounds, load_rows_grounds, load_rows_outcome, Ledger, no_rows, update, set_rows, extended, replaced, step_rows, ledger_after}
use Rattle.history.specs.Beneath.{step_beneath, beneath_after}
use Rattle.history.specs.Run.{Store, State, no_groups, set_table, step, state_after, groups_are, length_is, after_add, after_merge, after_load, file_on, answer, answers, answer_rows, answers_rows, refuses}
use Rattle.history.proofs.Questions.{ask_is, ask_not_7}
use Rattle.history.proofs.Tables.{HoldsRows, holds-none, sound_is, add-outcome, add_holds, merge-outcome, merge-holds}
use Rattle.history.proofs.Shelf.{ShelfHolds, save-outcome, save-holds, load-outcome, load-holds}

-- the state is that of the ledger, where table i's buffer has len i bytes and the bytes b i lie beneath its records
pub record Agrees (len : ℕ → ℕ) (b : ℕ → List ℕ) (s : State) (l : Ledger) : Type 0 where
  pub tables : (i : ℕ) → HoldsRows (b i) (s.tables i) (l.rows i)
  pub same_length : (i : ℕ) → length (b i) ≡ len i
  pub files : ShelfHolds s.shelf l.saved_rows

module _ (len : ℕ → ℕ) where
  pub agrees_none : (initial : ℕ → List ℕ) → ((i : ℕ) → length (initial i) ≡ len i) → Agrees len initial (no_groups initial) no_rows
  agrees_none initial e = record { tables = λ i. holds-none (initial i); same_length = e; files = tt }

  -- table i changed, and what lies beneath its records
  agrees_set : (b b' : ℕ → List ℕ) (s : State) (l : Ledger) → Agrees len b s l → (i : ℕ) (t : Store) (rows : List Row) → HoldsRows (b' i) t rows → length (b' i) ≡ len i
      → ((j : ℕ) → (j ≡ i → ⊥) → b' j ≡ b j) → Agrees len b' (set_table i t s) (set_rows i rows l)
  agrees_set b b' s l a i t rows h e others = record { tables = λ j. go j (ℕ_discrete j i); same_length = λ j. long j (ℕ_discrete j i); files = a.files }
    where
      go : (j : ℕ) → Dec (j ≡ i) → HoldsRows (b' j) (update i t s.tables j) (update i rows l.rows j)
      go j (yes q) = rw (eq-eqb j i q, q) h
      go j (no q) = rw (ne_eqb j i q, others j q) (a.tables j)

      long : (j : ℕ) → Dec (j ≡ i) → length (b' j) ≡ len j
      long j (yes q) = rw q e
      long j (no q) = ap length (others j q) ∙ a.same_length j

  module _ (b : ℕ → List ℕ) (s : State) (l : Ledger) (a : Agrees len b s l) where
    -- what a load leaves beneath has the buffer's length
    length-beneath : (i : ℕ) (o : Outcome ℕ) → length (replaced o (b i) (written (canonical (l.rows i)) (b i))) ≡ len i
    length-beneath i (accepted g) = ap length (sym (a.tables i).buffer) ∙ (a.tables i).same_length ∙ a.same_length i
    length-beneath i (refused n) = a.same_length i

    pub step_agrees : (c : Call) → Agrees len (step_beneath len l b c) (step s c) (step_rows len l c)
    unfolding step step_rows step_beneath
    step_agrees (add i kind ks vs d work_len) =
        agrees_set b b s l a i _ _
        (subst (λ (n : ℕ). HoldsRows (b i) (after_add kind (s.tables i) ks vs work_len) (extended (add_rows_outcome kind n (l.rows i) ks vs work_len) (l.rows i) (rows_of kind ks vs)))
        (a.same_length i)
        (add_holds (b i) (s.tables i) (l.rows i) (a.tables i) kind ks vs work_len d))
        (a.same_length i)
        (λ j q. refl)
    step_agrees (merge i j d) =
        agrees_set b b s l a i _ _
        (subst (λ (n : ℕ). HoldsRows (b i) (after_merge (s.tables i) (s.tables j)) (extended (merge_rows_outcome n (l.rows i) (l.rows j)) (l.rows i) (l.rows j)))
        (a.same_length i)
        (merge-holds (b i) (s.tables i) (l.rows i) (a.tables i) (b j) (s.tables j) (l.rows j) (a.tables j)))
        (a.same_length i)
        (λ k q. refl)
    step_agrees (ask i q) = a
    step_agrees (save i out_len) = record {
      tables = a.tables;
      same_length = a.same_length;
      files = save-holds (b i) (s.tables i) (l.rows i) (a.tables i) out_len s.shelf l.saved_rows a.files;
    }
    step_agrees (load i n) =
        agrees_set b (step_beneath len l b (load i n)) s l a i _ _
        (rw (eq-eqb i i refl)
        (subst (λ (k : ℕ). HoldsRows (replaced (load_rows_outcome k l.saved_rows n) (b i) (written (canonical (l.rows i)) (b i))) (after_load (s.tables i) (file_on s.shelf n)) (replaced (load_rows_outcome k l.saved_rows n) (l.rows i) (get_or l.saved_rows n [])))
        (a.same_length i)
        (load-holds s.shelf l.saved_rows a.files n (b i) (s.tables i) (l.rows i) (a.tables i))))
        (rw (eq-eqb i i refl) (length-beneath i (load_rows_outcome (len i) l.saved_rows n)))
        (λ j q. rw (ne_eqb j i q))

    pub answer_is : (c : Call) → answer s c ≡ answer_rows len l c
    unfolding answer answer_rows
    answer_is (add i kind ks vs d work_len) =
        ap groups_are (add-outcome (b i) (s.tables i) (l.rows i) (a.tables i) kind ks vs work_len ∙ ap (λ (n : ℕ). add_rows_outcome kind n (l.rows i) ks vs work_len) (a.same_length i))
    answer_is (merge i j d) =
        ap groups_are
        (merge-outcome (b i) (s.tables i) (l.rows i) (a.tables i) (b j) (s.tables j) (l.rows j) (a.tables j) ∙ ap (λ (n : ℕ). merge_rows_outcome n (l.rows i) (l.rows j)) (a.same_length i))
    answer_is (ask i q) = ask_is (s.tables i) (l.rows i) (sound_is (b i) (s.tables i) (l.rows i) (a.tables i)) (a.tables i).has-sections q
    answer_is (save i out_len) = ap length_is (save-outcome (b i) (s.tables i) (l.rows i) (a.tables i) out_len)
    answer_is (load i n) =
        ap groups_are
        (load-outcome s.shelf l.saved_rows a.files n (length (s.tables i).buffer) ∙ ap (λ (k : ℕ). load_rows_outcome k l.saved_rows n) ((a.tables i).same_length ∙ a.same_length i))

  pub agrees_after : (b : ℕ → List ℕ) (s : State) (l : Ledger) → Agrees len b s l → (cs : List Call) → Agrees len (beneath_after len l b cs) (state_after s cs) (ledger_after len l cs)
  unfolding state_after ledger_after beneath_after
  agrees_after b s l a [] = a
  agrees_after b s l a (c ∷ cs) = agrees_after (step_beneath len l b c) (step s c) (step_rows len l c) (step_agrees b s l a c) cs

  pub answers_by_rows : (b : ℕ → List ℕ) (s : State) (l : Ledger) → Agrees len b s l → (cs : List Call) → answers s cs ≡ answers_rows len l cs
  unfolding answers answers_rows
  answers_by_rows b s l a [] = refl
  answers_by_rows b s l a (c ∷ cs) = ap₂ ◌∷◌ (answer_is b s l a c) (answers_by_rows (step_beneath len l b c) (step s c) (step_rows len l c) (step_agrees b s l a c) cs)

-- ---- no answer is 7
answer_not_7 : (len : ℕ → ℕ) (l : Ledger) (c : Call) → refuses 7 (answer_rows len l c) ≡ false
unfolding answer_rows add_rows_grounds merge_rows_grounds save_rows_grounds load_rows_grounds
answer_not_7 len l (add i kind ks vs b work_len) = not_given 7 (add_rows_grounds kind (len i) (l.rows i) ks vs work_len) _ refl
answer_not_7 len l (merge i j d) = not_given 7 (merge_rows_grounds (len i) (l.rows i) (l.rows j)) _ refl
answer_not_7 len l (ask i q) = ask_not_7 (l.rows i) q
answer_not_7 len l (save i out_len) = not_given 7 (save_rows_grounds (l.rows i) out_len) _ refl
answer_not_7 len l (load i n) = not_given 7 (load_rows_grounds (len i) l.saved_rows n) _ refl

pub answers_not_7 : (len : ℕ → ℕ) (l : Ledger) (cs : List Call) → any_of (refuses 7) (answers_rows len l cs) ≡ false
unfolding answers_rows any_of
answers_not_7 len l [] = refl
answers_not_7 len l (c ∷ cs) = rw (answer_not_7 len l c) (answers_not_7 len (step_rows len l c) cs)
