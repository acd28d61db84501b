-- A file on the shelf is that of a table that balances with the file's account: saving puts such a file there, and loading one, as it is or as an older version wrote
-- it, leaves a table that balances with that account. The idea: a load copies the records, and with them the sections and their balance; in an older file they differ in
-- finest powers only, and those may be smaller than the rows'.
use Prim.Native.Nat.{ℕ, ◌*◌, ◌≤◌}
use mathlib.Core.Path.{◌≡◌, refl, ◌∙◌, ap}
use mathlib.Core.List.{List, [], ◌∷◌, map}
use native.Mathlib.Omega.{arith}
use native.Mathlib.Decide.{dec_le}
use lib.ListN.{length, drop, get_or, get_or-eq_default}
use Rattle.lists.proofs.Pairwise.{Pairwise, pairwise_length, pairwise_more, pairwise_at}
use Rattle.refusal.specs.Outcome.{Outcome, accepted, refused, outcome}
use Rattle.output.specs.Output.{output_ground}
use Rattle.record.specs.Section.{written}
use Rattle.table.proofs.Accepted.{ProperTable}
use Rattle.checkpoint.specs.Saved.{saved_table}
use Rattle.checkpoint.specs.Calls.{most_file_groups, save_outcome, load_outcome, load_leaves}
use Rattle.checkpoint.proofs.Saving.{save_only}
use Rattle.checkpoint.proofs.Loading.{load-2, load_untouched}
use Rattle.checkpoint.proofs.Reloading.{saved_outcome}
use Rattle.history.specs.Calls.{replaced, shelved}
use Rattle.history.specs.Run.{Store, after, after_load, shelf_after, file_on}
use Rattle.history.specs.Demand3.{sections_in}
use Rattle.history.specs.Older.{with_finest, older_file}
use Rattle.history.proofs.Shelf.{loaded_is}
use Rattle.history.proofs.Fades.{proper_sound}
use Rattle.history.proofs.FadedFiles.{copied_sections, copied_proper, older-count, older-left, older_is}
use Rattle.history.proofs.Older.{empty-load, older-empty}
use Rattle.accounts.specs.Accounts.{Account, blank}
use Rattle.accounts.proofs.Balances.{Balances, balances_older}
use Rattle.accounts.proofs.Kept.{KeptTable}

-- the file f is that of a table that balances with the account l
pub record KeptFile (f : List ℕ) (l : Account) : Type 0 where
  pub store : Store
  pub table : ProperTable store.buffer store.groups
  pub balances : Balances (sections_in store) l
  pub few : store.groups ≤ most_file_groups
  pub is_file : f ≡ saved_table store.buffer store.groups

-- what a number reads: such a file, or an empty one where none has the number
pub data ReadFile : List ℕ → Account → Type 0 where
  no_file : {l : Account} → ReadFile [] l
  kept-file : {f : List ℕ} {l : Account} → KeptFile f l → ReadFile f l

module _ (fs : List (List ℕ)) (ls : List Account) (x : Pairwise KeptFile fs ls) where
  pub read-file : (n : ℕ) → ReadFile (file_on fs n) (get_or ls n blank)
  read-file n = go (dec_le (length ls) n)
    where
      go : Dec (length ls ≤ n) → ReadFile (file_on fs n) (get_or ls n blank)
      go (yes h) = let c = pairwise_length KeptFile fs ls x in rw (get_or-eq_default fs [] {n = n} (omega arith)) no_file
      go (no h) = kept-file (pairwise_at KeptFile fs ls n [] blank x (omega arith))

  -- a save of a table with the account l
  pub save-kept : (len : ℕ) (t : Store) (l : Account) → KeptTable len t l → (out_len : ℕ)
      → Pairwise KeptFile (shelf_after t out_len fs) (shelved (save_outcome t.buffer t.groups out_len) l ls)
  save-kept len t l k out_len = go (save_outcome t.buffer t.groups out_len) refl
    where
      go : (o : Outcome ℕ) → save_outcome t.buffer t.groups out_len ≡ o → Pairwise KeptFile (shelved o (saved_table t.buffer t.groups) fs) (shelved o l ls)
      go (accepted n) e =
          pairwise_more KeptFile fs ls (saved_table t.buffer t.groups) l x
          (record { store = t; table = k.table; balances = k.balances; few = (save_only t.buffer t.groups out_len e).few_groups; is_file = refl })
      go (refused n) e = x

-- as an older version wrote it
pub older-kept : (f : List ℕ) (l : Account) → KeptFile f l → KeptFile (older_file f) l
older-kept f l x =
    let t = x.store in
    let ts = map (with_finest 0) (sections_in t) in
    let a = older-left t x.table x.few f x.is_file in
    record {
      store = record { buffer = written ts t.buffer; groups = length ts };
      table = a.table;
      balances = rw a.has-sections (balances_older (sections_in t) l x.balances);
      few = rw (older-count t x.table x.few f x.is_file) x.few;
      is_file = older_is t x.table x.few f x.is_file;
    }

pub read-older : (f : List ℕ) (l : Account) → ReadFile f l → ReadFile (older_file f) l
read-older f l no_file = rw older-empty no_file
read-older f l (kept-file x) = kept-file (older-kept f l x)

-- the outcome of its load
pub file-outcome : (f : List ℕ) (l : Account) (x : KeptFile f l) (table_len : ℕ) → load_outcome f table_len ≡ outcome (output_ground table_len (64 * x.store.groups) ∷ []) x.store.groups
file-outcome f l x table_len = ap (λ (g : List ℕ). load_outcome g table_len) x.is_file ∙ saved_outcome x.store.buffer x.store.groups (proper_sound x.store x.table) x.few table_len

-- a load of it into the table t
module _ (len : ℕ) (t : Store) (l : Account) (k : KeptTable len t l) where
  abbrev s : List ℕ
  s = t.buffer

  pub load_kept : (f : List ℕ) (m : Account) → ReadFile f m → KeptTable len (after_load t f) (replaced (load_outcome f (length s)) l m)
  load_kept f m no_file = rw (empty-load t, load-2 [] (length s) (omega arith)) k
  load_kept f m (kept-file x) = go (load_outcome f (length s)) refl
    where
      go : (o : Outcome ℕ) → load_outcome f (length s) ≡ o → KeptTable len (after o (load_leaves f s) t.groups) (replaced o l m)
      go (accepted n) e =
          let u = x.store in
          let v = loaded_is u (proper_sound u x.table) x.few f s n x.is_file e in
          let rest = drop (64 * u.groups) s in
          let long = v.same_length ∙ k.sized in
          rw (v.left, v.count)
          (record { sized = rw v.left at long; table = copied_proper u x.table rest; balances = rw (copied_sections u x.table rest) x.balances })
      go (refused n) e = rw (load_untouched f s e) k
