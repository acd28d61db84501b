-- A table in its buffer beside its account, after one add, merge or removal. The idea: an accepted call leaves a proper table of which the sections are known, so only
-- their balance with the account has to be kept; a refused one changes neither.
use Prim.Native.Nat.{ℕ}
use mathlib.Core.Path.{◌≡◌, refl, ◌∙◌}
use mathlib.Core.List.{List}
use lib.Dec.{T}
use lib.Pow.{are_bytes}
use lib.ListN.{length}
use Rattle.codec.specs.Cells.{cells}
use Rattle.codec.proofs.Laws.{are_bytes_lem}
use Rattle.refusal.specs.Outcome.{Outcome, accepted, refused}
use Rattle.columns.specs.declared.Kind.{Kind}
use Rattle.columns.specs.Columns.{rows_of}
use Rattle.record.specs.Section.{Section}
use Rattle.table.specs.Calls.{leaves, add_sections, add_outcome, merge_sections, merge_outcome}
use Rattle.table.proofs.Bytes.{propers}
use Rattle.table.proofs.Accepted.{ProperTable, proper_none, AcceptedTable, add_left, merge-left}
use Rattle.remove.specs.Calls.{remove_sections, remove_outcome, leaves_fewer}
use Rattle.remove.proofs.Sound.{removed_enough, remove-left, remove-length}
use Rattle.history.specs.Run.{Store, after, after_add, after_merge}
use Rattle.history.specs.Demand3.{sections_in}
use Rattle.history.proofs.Fades.{proper_rising}
use Rattle.accounts.specs.AnyCalls.{after_remove}
use Rattle.accounts.specs.Accounts.{Account, blank, with_added, with_merged, with_removed}
use Rattle.accounts.proofs.Balances.{Balances, balances_none, balances_added, balances_merged, balances_removed}

-- the table t, in a buffer of len bytes, beside its account
pub record KeptTable (len : ℕ) (t : Store) (l : Account) : Type 0 where
  pub sized : length t.buffer ≡ len
  pub table : ProperTable t.buffer t.groups
  pub balances : Balances (sections_in t) l

-- at the start
pub kept-none : (s : List ℕ) → KeptTable (length s) (record { buffer = s; groups = 0 }) blank
unfolding cells
kept-none s = record { sized = refl; table = proper_none s; balances = balances_none }

-- ---- one call on the table t
module _ (len : ℕ) (t : Store) (l : Account) (k : KeptTable len t l) where
  abbrev s : List ℕ
  s = t.buffer

  abbrev g : ℕ
  g = t.groups

  -- a call with the outcome o that leaves the bytes L o, after which the account is F o; where it is refused neither changes
  after_kept : (L : Outcome ℕ → List ℕ) (F : Outcome ℕ → Account) → ((n : ℕ) → L (refused n) ≡ s) → ((n : ℕ) → F (refused n) ≡ l) → (o : Outcome ℕ)
      → ((n : ℕ) → o ≡ accepted n → KeptTable len (record { buffer = L o; groups = n }) (F (accepted n))) → KeptTable len (after o (L o) g) (F o)
  after_kept L F p q (accepted n) f = f n refl
  after_kept L F p q (refused n) f = rw (p n, q n) k

  accepted-kept : {b after : List ℕ} {ts : List Section} {n : ℕ} {m : Account} → AcceptedTable b ts after n → length after ≡ length s → Balances ts m
      → KeptTable len (record { buffer = after; groups = n }) m
  accepted-kept a e b = record { sized = e ∙ k.sized; table = a.table; balances = rw a.has-sections b }

  module _ (kind : Kind) (ks vs : List ℕ) (work_len : ℕ) where
    pub add_kept : T (are_bytes ks) → KeptTable len (after_add kind t ks vs work_len) (with_added (add_outcome kind s g ks vs work_len) (rows_of kind ks vs) l)
    add_kept b =
        after_kept (λ o. leaves o (add_sections kind s g ks vs) s) (λ o. with_added o (rows_of kind ks vs) l) (λ n. refl) (λ n. refl) (add_outcome kind s g ks vs work_len)
        (λ n e. let a = add_left s g k.table kind ks vs work_len (are_bytes_lem ks b) e in accepted-kept a a.same_length (balances_added (sections_in t) l k.balances n (rows_of kind ks vs)))

    pub remove-kept : KeptTable len (after_remove kind t ks vs work_len) (with_removed (remove_outcome kind s g ks vs work_len) (rows_of kind ks vs) l)
    remove-kept =
        after_kept (λ o. leaves_fewer o (remove_sections kind s g ks vs) g s) (λ o. with_removed o (rows_of kind ks vs) l) (λ n. refl) (λ n. refl) (remove_outcome kind s g ks vs work_len)
        (λ n e.
        accepted-kept (remove-left kind s g ks vs work_len e k.table) (remove-length kind s g ks vs work_len e k.table)
        (balances_removed (sections_in t) l k.balances n (rows_of kind ks vs) (proper_rising t k.table) (propers (sections_in t) k.table.storable) (removed_enough kind s g ks vs work_len e)))

  pub merge-kept : (len' : ℕ) (u : Store) (m : Account) → KeptTable len' u m → KeptTable len (after_merge t u) (with_merged (merge_outcome s g u.buffer u.groups) m l)
  merge-kept len' u m k' =
      after_kept (λ o. leaves o (merge_sections s g u.buffer u.groups) s) (λ o. with_merged o m l) (λ n. refl) (λ n. refl) (merge_outcome s g u.buffer u.groups)
      (λ n e. let a = merge-left s g k.table u.buffer u.groups k'.table e in accepted-kept a a.same_length (balances_merged (sections_in t) l k.balances n (sections_in u) m k'.balances))
