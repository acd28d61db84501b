-- Two lists of calls that differ in the numbers of their tables alone, from ledgers with the same rows at those numbers, lead to such ledgers and are answered alike.
use Prim.Native.Nat.{ℕ}
use mathlib.Core.Path.{◌≡◌, refl, ap, ap₂, ◌∙◌}
use mathlib.Core.List.{List, [], ◌∷◌}
use native.Mathlib.Decide.{ℕ_discrete}
use borrow.Author.Tests.{eq-eqb, ne_eqb}
use lib.ListN.{get_or}
use Rattle.columns.specs.Columns.{Row, rows_of}
use Rattle.history.specs.Calls.{Call, add, merge, ask, save, load, add_rows_outcome, merge_rows_outcome, save_rows_outcome, load_rows_outcome, Ledger, update, set_rows, extended, replaced, shelved, step_rows, ledger_after}
use Rattle.history.specs.Run.{groups_are, length_is, ask_rows, answer_rows, answers_rows}
use Rattle.lists.proofs.All.{All}
use Rattle.history.specs.Reloaded.{named, Renamed, RenamedCalls}

-- table k of the first is table σ k of the second, for the numbers that count; the saved tables are the same
pub record Alike (σ : ℕ → ℕ) (Counts : ℕ → Type 0) (l m : Ledger) : Type 0 where
  pub same_rows : (k : ℕ) → Counts k → l.rows k ≡ m.rows (σ k)
  pub same_saved : l.saved_rows ≡ m.saved_rows

-- every table that a call names counts
abbrev pub Names : (ℕ → Type 0) → Call → Type 0
Names Counts c = All Counts (named c)

module _ (len : ℕ → ℕ) (σ : ℕ → ℕ) (Counts : ℕ → Type 0) (apart : (x y : ℕ) → σ x ≡ σ y → x ≡ y) (long : (k : ℕ) → Counts k → len k ≡ len (σ k)) where
  module _ (l m : Ledger) (a : Alike σ Counts l m) where
    set_alike : (i : ℕ) (xs ys : List Row) → xs ≡ ys → Alike σ Counts (set_rows i xs l) (set_rows (σ i) ys m)
    set_alike i xs ys e = record { same_rows = λ k p. go k p (ℕ_discrete k i); same_saved = a.same_saved }
      where
        go : (k : ℕ) → Counts k → Dec (k ≡ i) → update i xs l.rows k ≡ update (σ i) ys m.rows (σ k)
        go k p (yes q) = rw (eq-eqb k i q, eq-eqb (σ k) (σ i) (ap σ q)) e
        go k p (no q) = rw (ne_eqb k i q, ne_eqb (σ k) (σ i) (λ r. q (apart k i r))) (a.same_rows k p)

    step_alike : (c c' : Call) → Renamed σ c c' → Names Counts c → Alike σ Counts (step_rows len l c) (step_rows len m c')
    unfolding step_rows Renamed named
    step_alike (add i kind ks vs b work_len) c' e p =
        rw e
        (set_alike i _ _
        (ap₂ (λ (n : ℕ) (rs : List Row). extended (add_rows_outcome kind n rs ks vs work_len) rs (rows_of kind ks vs)) (long i p.0) (a.same_rows i p.0)))
    step_alike (merge i j d) c' e p =
        rw e.1
        (set_alike i _ _
        (ap (λ (n : ℕ). extended (merge_rows_outcome n (l.rows i) (l.rows j)) (l.rows i) (l.rows j)) (long i p.0)
        ∙ ap₂ (λ (rs ss : List Row). extended (merge_rows_outcome (len (σ i)) rs ss) rs ss) (a.same_rows i p.0) (a.same_rows j p.1.0)))
    step_alike (ask i q) c' e p = rw e a
    step_alike (save i out_len) c' e p =
        rw e
        (record {
          same_rows = a.same_rows;
          same_saved = ap₂ (λ (rs : List Row) (rss : List (List Row)). shelved (save_rows_outcome rs out_len) rs rss) (a.same_rows i p.0) a.same_saved;
        })
    step_alike (load i n) c' e p =
        rw e
        (set_alike i _ _
        (ap (λ (k : ℕ). replaced (load_rows_outcome k l.saved_rows n) (l.rows i) (get_or l.saved_rows n [])) (long i p.0)
        ∙ ap₂ (λ (rss : List (List Row)) (rs : List Row). replaced (load_rows_outcome (len (σ i)) rss n) rs (get_or rss n [])) a.same_saved (a.same_rows i p.0)))

    answer_alike : (c c' : Call) → Renamed σ c c' → Names Counts c → answer_rows len l c ≡ answer_rows len m c'
    unfolding answer_rows Renamed named
    answer_alike (add i kind ks vs b work_len) c' e p =
        rw e (ap₂ (λ (n : ℕ) (rs : List Row). groups_are (add_rows_outcome kind n rs ks vs work_len)) (long i p.0) (a.same_rows i p.0))
    answer_alike (merge i j d) c' e p =
        rw (e.1, long i p.0) (ap₂ (λ (rs ss : List Row). groups_are (merge_rows_outcome (len (σ i)) rs ss)) (a.same_rows i p.0) (a.same_rows j p.1.0))
    answer_alike (ask i q) c' e p = rw e (ap (λ (rs : List Row). ask_rows rs q) (a.same_rows i p.0))
    answer_alike (save i out_len) c' e p = rw e (ap (λ (rs : List Row). length_is (save_rows_outcome rs out_len)) (a.same_rows i p.0))
    answer_alike (load i n) c' e p =
        rw e (ap₂ (λ (k : ℕ) (rss : List (List Row)). groups_are (load_rows_outcome k rss n)) (long i p.0) a.same_saved)

  pub after_alike : (l m : Ledger) → Alike σ Counts l m → (cs ds : List Call) → RenamedCalls σ cs ds → All (Names Counts) cs → Alike σ Counts (ledger_after len l cs) (ledger_after len m ds)
  unfolding ledger_after RenamedCalls
  after_alike l m a [] [] r p = a
  after_alike l m a [] (d ∷ ds) r p = absurd r
  after_alike l m a (c ∷ cs) [] r p = absurd r
  after_alike l m a (c ∷ cs) (d ∷ ds) r p = after_alike (step_rows len l c) (step_rows len m d) (step_alike l m a c d r.0 p.0) cs ds r.1 p.1

  pub answers_alike : (l m : Ledger) → Alike σ Counts l m → (cs ds : List Call) → RenamedCalls σ cs ds → All (Names Counts) cs → answers_rows len l cs ≡ answers_rows len m ds
  unfolding answers_rows RenamedCalls
  answers_alike l m a [] [] r p = refl
  answers_alike l m a [] (d ∷ ds) r p = absurd r
  answers_alike l m a (c ∷ cs) [] r p = absurd r
  answers_alike l m a (c ∷ cs) (d ∷ ds) r p =
      ap₂ ◌∷◌ (answer_alike l m a c d r.0 p.0) (answers_alike (step_rows len l c) (step_rows len m d) (step_alike l m a c d r.0 p.0) cs ds r.1 p.1)
