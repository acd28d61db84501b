-- Card 9's claim holds. The idea: the accounts go along with the calls, and after every list of calls each table is proper and balances with its account (`kept-is`);
-- what is claimed of a table is read off that balance.
use Prim.Native.Nat.{ℕ, ◌-◌, ◌≤◌}
use mathlib.Core.Path.{◌≡◌, refl, sym, ap, ◌∙◌, subst}
use mathlib.Core.Bool.{true}
use mathlib.Core.List.{List, [], ◌∷◌, map}
use mathlib.Core.Option.{some}
use native.Mathlib.Omega.{arith}
use lib.ListN.{length}
use Rattle.refusal.specs.Outcome.{accepted}
use Rattle.record.specs.Sound.{sound}
use Rattle.record.specs.Section.{Section, find, kept}
use Rattle.level.specs.Level.{exact_sum}
use Rattle.table.proofs.State.{length-sections}
use Rattle.totals.specs.Totals.{row_total}
use Rattle.remove.proofs.Sound.{leaves-remaining}
use Rattle.remove.proofs.Back.{undone}
use Rattle.remove.proofs.AsDoubles.{removed_alike}
use Rattle.history.specs.Calls.{exactness, totals, Call, no_rows, ledger_after}
use Rattle.history.specs.Run.{State, no_groups, state_after, totals_are, exactness_is, ask_table, answers}
use Rattle.history.specs.Demand3.{History, empty, lengths, rows, sections_in}
use Rattle.history.specs.Older.{ordinary, renewed, OlderHistory, older_rows}
use Rattle.history.proofs.Older.{older_files}
use Rattle.history.proofs.Fades.{proper_sound}
use Rattle.accounts.specs.Holds.{HoldsBits}
use Rattle.accounts.specs.Accounts.{no_accounts}
use Rattle.accounts.specs.Claim.{Way, state_of, table_of, account_of, remaining_bits, Accounted, removing_nothing, no_older_files, Card9}
use Rattle.accounts.specs.AnyCalls.{other, answers_any}
use Rattle.accounts.proofs.Rows.{occurs-patches}
use Rattle.accounts.proofs.Near.{held-near, held_exact, held_low, exact_found}
use Rattle.accounts.proofs.Counts.{holds-totals}
use Rattle.accounts.proofs.Kept.{KeptTable}
use Rattle.accounts.proofs.Answered.{add-answered, merge-answered, remove-answered, save-answered}
use Rattle.accounts.proofs.Steps.{state_none, state_kept, answers_not_7}
use Rattle.accounts.proofs.Plain.{Plain, plain_state, plain_answers, plain_none, state_plain}

-- ---- a way of working
module _ (w : Way) where
  abbrev len : ℕ → ℕ
  len i = length (w.initial i)

  kept_is : (i : ℕ) → KeptTable (len i) (table_of w i) (account_of w i)
  kept_is = (state_kept len (no_groups w.initial) no_accounts (state_none w.initial) w.calls).tables

  sound_is : (i : ℕ) → sound (table_of w i).buffer (table_of w i).groups ≡ true
  sound_is i = proper_sound (table_of w i) (kept_is i).table

  total_is : (i : ℕ) → ((account_of w i).removed ≤ (account_of w i).brought)
      × (ask_table (table_of w i) totals ≡ totals_are (accepted (record { groups = (table_of w i).groups; count = (account_of w i).brought - (account_of w i).removed })))
  unfolding ask_table
  total_is i =
      let c = (kept_is i).balances.counted in
      let n : row_total (sections_in (table_of w i)) ≡ (account_of w i).brought - (account_of w i).removed = omega arith in
      (omega arith, rw (sound_is i, length-sections (table_of w i).buffer (table_of w i).groups, n))

  held_is : (i k : ℕ) → Accounted w i → HoldsBits k (remaining_bits w i k) (find k (sections_in (table_of w i)))
  held_is i k a = ((kept_is i).balances.held a).found k

  found_is : (i k : ℕ) → Accounted w i → (s : Section) → find k (sections_in (table_of w i)) ≡ some s → HoldsBits k (remaining_bits w i k) (some s)
  found_is i k a s e = subst (HoldsBits k (remaining_bits w i k)) e (held_is i k a)

  exact_is : (i k : ℕ) → Accounted w i → ask_table (table_of w i) (exactness k) ≡ exactness_is (accepted true)
      → (s : Section) × (find k (sections_in (table_of w i)) ≡ some s) × (kept s ≡ exact_sum (remaining_bits w i k))
  exact_is i k a e =
      let f = exact_found (table_of w i) k e in
      (f.0, f.1, held_exact k (remaining_bits w i k) f.0 (found_is i k a f.0 f.1) f.2)

-- one that removes nothing
plain_is : (h : OlderHistory) (i : ℕ) → Plain (account_of (removing_nothing h) i) (older_rows h i)
plain_is h = (state_plain (λ i. length (h.initial i)) (no_groups h.initial) no_accounts no_rows (state_none h.initial) plain_none h.calls).tables

-- and loads no older file: renewing changes no call
renewed-same : (cs : List Call) → map renewed (map ordinary cs) ≡ cs
renewed-same [] = refl
renewed-same (c ∷ cs) = ap (λ (ds : List Call). c ∷ ds) (renewed-same cs)

module _ (h : History) where
  abbrev plain : OlderHistory
  plain = no_older_files h

  same_state : (state_of (removing_nothing plain) ≡ state_after (empty h) h.calls) × (answers_any (empty h) (map other plain.calls) ≡ answers (empty h) h.calls)
  same_state =
      let w = older_files.without_older (empty h) h.calls in
      (plain_state (empty h) plain.calls ∙ w.0, plain_answers (empty h) plain.calls ∙ w.1)

  same_rows : (i : ℕ) → (account_of (removing_nothing plain) i).account_rows ≡ rows h i
  same_rows i = (plain_is plain i).has-rows ∙ ap (λ (cs : List Call). (ledger_after (lengths h) no_rows cs).rows i) (renewed-same h.calls)

pub card9 : Card9
card9 = record {
  leaves-remaining = leaves-remaining;
  undone = undone;
  removed_alike = removed_alike;
  any_sound = sound_is;
  any_never_7 = λ w. answers_not_7 (len w) (no_groups w.initial) no_accounts (state_none w.initial) w.calls;
  totals_subtract = total_is;
  premise = λ w i e.
      let b = (kept_is w i).balances.by_patches e in
      (b.0, record { counts = λ r. b.1 r ∙ sym (occurs-patches r (account_of w i).patches) });
  held-remaining = held_is;
  half_units = λ w i k a s e. held-near k (remaining_bits w i k) s (found_is w i k a s e);
  exact_low = λ w i k a s e. held_low k (remaining_bits w i k) s (found_is w i k a s e);
  exact_remaining = exact_is;
  counted-remaining = λ w i a. holds-totals (sections_in (table_of w i)) (account_of w i).account_rows ((kept_is w i).balances.held a);
  answered-add = λ w i kind ks vs work_len a. add-answered (len w i) (table_of w i) (account_of w i) (kept_is w i) a kind ks vs work_len;
  answered-merge = λ w i j a b. merge-answered (len w i) (table_of w i) (account_of w i) (kept_is w i) a (len w j) (table_of w j) (account_of w j) (kept_is w j) b;
  answered-save = λ w i out_len a. save-answered (len w i) (table_of w i) (account_of w i) (kept_is w i) a out_len;
  answered-remove = λ w i kind ks vs work_len a. remove-answered (len w i) (table_of w i) (account_of w i) (kept_is w i) a kind ks vs work_len;
  nothing-removed = λ h. (plain_state (no_groups h.initial) h.calls, plain_answers (no_groups h.initial) h.calls);
  nothing-removed-rows = λ h i. let p = plain_is h i in (p.has-rows, p.none-removed, p.is_accounted);
  as_demand3 = λ h. (λ i. ap (λ (s : State). s.tables i) (same_state h).0, (same_state h).1, same_rows h);
}
