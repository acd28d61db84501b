-- How tables that are accounted for answer, read off their rows, the inputs and the lent lengths: adds, merges, saves, loads, and removals of rows that they have. And
-- no table that is kept answers 7. The idea: such a table holds its rows, so the sections that a call would give it are as many as those rows have numbers.
use Prim.Native.Nat.{ℕ, ◌*◌}
use mathlib.Core.Path.{◌≡◌, refl, sym, ◌∙◌}
use mathlib.Core.Bool.{Bool, true, false, cond, ◌&&◌, ◌||◌, and-true}
use mathlib.Core.List.{List, [], ◌∷◌, ◌++◌}
use mathlib.Core.Option.{Option}
use native.Mathlib.Omega.{arith}
use lib.Dec.{eqb}
use lib.ListN.{length}
use Rattle.lists.proofs.Booleans.{both_false}
use Rattle.refusal.specs.Outcome.{Outcome, refused, Ground, outcome, is_refusal}
use Rattle.output.specs.Output.{output_ground}
use Rattle.columns.specs.declared.Kind.{Kind}
use Rattle.columns.specs.Columns.{rows_of}
use Rattle.record.specs.Section.{Section, find}
use Rattle.table.specs.Combine.{merged, added}
use Rattle.table.specs.Calls.{add_sections, column_grounds, add_grounds, add_outcome, merge_sections, merge_grounds, merge_outcome}
use Rattle.table.proofs.State.{length-sections}
use Rattle.checkpoint.specs.Saved.{saved_length}
use Rattle.checkpoint.specs.Calls.{save_grounds, save_outcome, load_outcome}
use Rattle.checkpoint.proofs.Loading.{load-2}
use Rattle.finish.specs.Finish.{sum_for, figure_for, line_for, sum_grounds, figure_grounds, finishing, sum_of, figure_of, line_of}
use Rattle.finish.specs.Exact.{answered_exact, exactness_of}
use Rattle.finish.proofs.Outcomes.{finished_not}
use Rattle.remove.specs.Calls.{patch_grounds, remove_grounds, remove_sections, remove_outcome}
use Rattle.history.specs.Rows.{section_numbers}
use Rattle.history.specs.Calls.{Question, sum, figure, line, exactness, totals, too_many_keys, add_rows_grounds, add_rows_outcome, merge_rows_grounds, merge_rows_outcome, save_rows_grounds, save_rows_outcome}
use Rattle.history.specs.Run.{Store, ask_table, refuses}
use Rattle.history.specs.Demand3.{sections_in}
use Rattle.history.proofs.Fades.{proper_sound}
use Rattle.accounts.specs.Accounts.{take_out, lacking, Account}
use Rattle.accounts.specs.Claim.{remove_rows_outcome}
use Rattle.accounts.proofs.Rows.{taken-same}
use Rattle.accounts.proofs.Holds.{Holds, holds-added, holds-merged}
use Rattle.accounts.proofs.Takes.{holds-remaining, holds-20, holds-21, holds-22}
use Rattle.accounts.proofs.Counts.{holds-length, holds-overflows}
use Rattle.accounts.proofs.Kept.{KeptTable}
use Rattle.accounts.proofs.Files.{ReadFile, no_file, kept-file, file-outcome}

-- ---- a table that is accounted for
module _ (len : ℕ) (t : Store) (l : Account) (k : KeptTable len t l) (a : l.accounted ≡ true) where
  held : Holds (sections_in t) l.account_rows
  held = k.balances.held a

  module _ (kind : Kind) (ks vs : List ℕ) (work_len : ℕ) where
    pub add-answered : add_outcome kind t.buffer t.groups ks vs work_len ≡ add_rows_outcome kind len l.account_rows ks vs work_len
    unfolding add_grounds column_grounds add_rows_grounds too_many_keys
    add-answered =
        let us = added (sections_in t) (rows_of kind ks vs) in
        let all = l.account_rows ++ rows_of kind ks vs in
        let h = holds-added (sections_in t) l.account_rows (rows_of kind ks vs) held in
        rw (proper_sound t k.table, k.sized, holds-overflows us all h, holds-length us all h)

    pub remove-answered : lacking (rows_of kind ks vs) l.account_rows ≡ false
        → remove_outcome kind t.buffer t.groups ks vs work_len ≡ remove_rows_outcome kind len l.account_rows ks vs work_len
    unfolding remove_grounds column_grounds patch_grounds
    remove-answered e =
        let ts = sections_in t in
        let gone = rows_of kind ks vs in
        let left = take_out gone l.account_rows in
        let q = taken-same gone l.account_rows e in
        rw (
          proper_sound t k.table,
          k.sized,
          holds-20 ts l.account_rows gone left held q,
          holds-21 ts l.account_rows gone left held q,
          holds-22 ts l.account_rows gone left held q,
          holds-length (remove_sections kind t.buffer t.groups ks vs) left (holds-remaining ts l.account_rows gone left held q),
        )

  pub merge-answered : (len' : ℕ) (u : Store) (m : Account) → KeptTable len' u m → m.accounted ≡ true
      → merge_outcome t.buffer t.groups u.buffer u.groups ≡ merge_rows_outcome len l.account_rows m.account_rows
  unfolding merge_grounds merge_rows_grounds too_many_keys
  merge-answered len' u m k' b =
      let us = merged (sections_in t) (sections_in u) in
      let all = l.account_rows ++ m.account_rows in
      let h = holds-merged (sections_in t) (sections_in u) l.account_rows m.account_rows held (k'.balances.held b) in
      rw (proper_sound t k.table, proper_sound u k'.table, k.sized, holds-overflows us all h, holds-length us all h)

  pub groups_are_lem : t.groups ≡ length (section_numbers l.account_rows)
  groups_are_lem = sym (length-sections t.buffer t.groups) ∙ holds-length (sections_in t) l.account_rows held

  pub save-answered : (out_len : ℕ) → save_outcome t.buffer t.groups out_len ≡ save_rows_outcome l.account_rows out_len
  unfolding save_outcome save_grounds save_rows_grounds
  save-answered out_len = rw (proper_sound t k.table, groups_are_lem)

-- ---- never 7
-- a ground with the number n holds
abbrev is_held : ℕ → List Ground → Bool
is_held n [] = false
is_held n (c ∷ cs) = (eqb n c.refusal && c.holds) || is_held n cs

-- where none does, n is not given
not_held : {A : Type 0} (n : ℕ) (gs : List Ground) (x : A) → is_held n gs ≡ false → is_refusal n (outcome gs x) ≡ false
unfolding is_refusal
not_held n [] x e = refl
not_held n (c ∷ cs) x e = let w = both_false (eqb n c.refusal && c.holds) (is_held n cs) e in go (not_held n cs x w.1) c.holds w.0
  where
    go : is_refusal n (outcome cs x) ≡ false → (b : Bool) → (eqb n c.refusal && b) ≡ false → is_refusal n (cond b (refused c.refusal) (outcome cs x)) ≡ false
    go ih true h = sym (and-true (eqb n c.refusal)) ∙ h
    go ih false h = ih

module _ (len : ℕ) (t : Store) (l : Account) (k : KeptTable len t l) where
  finishing_not_7 : {A : Type 0} (F : Option Section → Outcome A) → ((o : Option Section) → is_refusal 7 (F o) ≡ false) → (key : ℕ)
      → is_refusal 7 (finishing F t.buffer t.groups key) ≡ false
  finishing_not_7 F f key = rw (proper_sound t k.table) (f (find key (sections_in t)))

  pub ask_not_7 : (q : Question) → refuses 7 (ask_table t q) ≡ false
  unfolding ask_table is_refusal
  ask_not_7 (sum n) = finishing_not_7 sum_of (finished_not 7 sum_grounds sum_for refl (λ s. refl)) n
  ask_not_7 (figure n) = finishing_not_7 figure_of (finished_not 7 figure_grounds figure_for refl (λ s. refl)) n
  ask_not_7 (line n) = finishing_not_7 line_of (finished_not 7 figure_grounds line_for refl (λ s. refl)) n
  ask_not_7 (exactness n) = finishing_not_7 exactness_of (finished_not 7 (λ (s : Section). []) answered_exact refl (λ s. refl)) n
  ask_not_7 totals = rw (proper_sound t k.table)

  module _ (kind : Kind) (ks vs : List ℕ) (work_len : ℕ) where
    pub add_not_7 : is_refusal 7 (add_outcome kind t.buffer t.groups ks vs work_len) ≡ false
    unfolding add_grounds column_grounds
    add_not_7 = not_held 7 (add_grounds kind t.buffer t.groups ks vs work_len) (length (add_sections kind t.buffer t.groups ks vs)) (rw (proper_sound t k.table))

    pub remove_not_7 : is_refusal 7 (remove_outcome kind t.buffer t.groups ks vs work_len) ≡ false
    unfolding remove_grounds column_grounds patch_grounds
    remove_not_7 = not_held 7 (remove_grounds kind t.buffer t.groups ks vs work_len) (length (remove_sections kind t.buffer t.groups ks vs)) (rw (proper_sound t k.table))

  pub merge_not_7 : (len' : ℕ) (u : Store) (m : Account) → KeptTable len' u m → is_refusal 7 (merge_outcome t.buffer t.groups u.buffer u.groups) ≡ false
  unfolding merge_grounds
  merge_not_7 len' u m k' =
      not_held 7 (merge_grounds t.buffer t.groups u.buffer u.groups) (length (merge_sections t.buffer t.groups u.buffer u.groups))
      (rw (proper_sound t k.table, proper_sound u k'.table))

  pub save_not_7 : (out_len : ℕ) → is_refusal 7 (save_outcome t.buffer t.groups out_len) ≡ false
  unfolding save_outcome save_grounds
  save_not_7 out_len = not_held 7 (save_grounds t.buffer t.groups out_len) (saved_length t.groups) (rw (proper_sound t k.table))

pub load_not_7 : (f : List ℕ) (l : Account) → ReadFile f l → (table_len : ℕ) → is_refusal 7 (load_outcome f table_len) ≡ false
unfolding is_refusal
load_not_7 f l no_file table_len = rw (load-2 [] table_len (omega arith))
load_not_7 f l (kept-file x) table_len = rw (file-outcome f l x table_len) (not_held 7 (output_ground table_len (64 * x.store.groups) ∷ []) x.store.groups refl)
