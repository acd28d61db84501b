-- A file on the shelf is that of a table that held its rows: saving puts such a file there, and loading one is answered by the rows and leaves a table that holds them.
use Prim.Native.Nat.{ℕ, ◌*◌, ◌≤◌}
use mathlib.Core.Path.{◌≡◌, refl, sym, ◌∙◌, ap, ap₂, subst}
use mathlib.Core.Bool.{true}
use mathlib.Core.List.{List, [], ◌++◌}
use native.Mathlib.Omega.{arith}
use native.Mathlib.Decide.{dec_le}
use borrow.Author.Tests.{le-leb, lt-leb}
use lib.ListN.{length, take, drop, get_or, length-append, length-drop, get_or-eq_default}
use Rattle.lists.proofs.All.{All}
use Rattle.lists.proofs.Pairwise.{Pairwise, pairwise_length, pairwise_more, pairwise_at}
use Rattle.refusal.specs.Outcome.{Outcome, accepted, refused}
use Rattle.refusal.proofs.Outcomes.{accepted≢refused}
use Rattle.columns.specs.Columns.{Row}
use Rattle.record.specs.Sound.{sound}
use Rattle.record.specs.Section.{section_bytes, written}
use Rattle.table.proofs.Bytes.{Storable, used-written}
use Rattle.table.proofs.Accepted.{written-left}
use Rattle.checkpoint.specs.Saved.{saved_table, group_count}
use Rattle.checkpoint.specs.Calls.{most_file_groups, save_grounds, save_outcome, load_outcome, load_leaves}
use Rattle.checkpoint.proofs.Records.{length-records}
use Rattle.checkpoint.proofs.Saving.{save_only}
use Rattle.checkpoint.proofs.Loading.{load-2, load_only, load_untouched}
use Rattle.checkpoint.proofs.Reloading.{saved_fields, saved_outcome, saved_left}
use Rattle.history.specs.Canonical.{canonical}
use Rattle.history.specs.Calls.{save_rows_grounds, save_rows_outcome, load_rows_grounds, load_rows_outcome, replaced, shelved}
use Rattle.history.specs.Run.{Store, after, after_load, shelf_after, file_on}
use Rattle.history.proofs.Canonical.{canonical-rising}
use Rattle.history.proofs.Tables.{HoldsRows, sound_is, length-canonical}

-- the file f is that of a table that held these rows
pub record FileHolds (f : List ℕ) (rows : List Row) : Type 0 where
  pub initial : List ℕ
  pub store : Store
  pub holds : HoldsRows initial store rows
  pub few : store.groups ≤ most_file_groups
  pub is_file : f ≡ saved_table store.buffer store.groups

-- each file of a shelf is that of a table that held the rows with its number
abbrev pub ShelfHolds : List (List ℕ) → List (List Row) → Type 0
ShelfHolds fs rs = Pairwise FileHolds fs rs

-- ---- a save
module _ (initial : List ℕ) (t : Store) (rows : List Row) (h : HoldsRows initial t rows) (out_len : ℕ) where
  pub save-outcome : save_outcome t.buffer t.groups out_len ≡ save_rows_outcome rows out_len
  unfolding save_outcome save_grounds save_rows_grounds
  save-outcome = rw (sound_is initial t rows h, h.groups, length-canonical rows)

  pub save-holds : (fs : List (List ℕ)) (rs : List (List Row)) → ShelfHolds fs rs
      → ShelfHolds (shelf_after t out_len fs) (shelved (save_rows_outcome rows out_len) rows rs)
  save-holds fs rs x =
      subst (λ (o : Outcome ℕ). ShelfHolds (shelf_after t out_len fs) (shelved o rows rs)) save-outcome
      (go (save_outcome t.buffer t.groups out_len) refl)
    where
      go : (o : Outcome ℕ) → save_outcome t.buffer t.groups out_len ≡ o → ShelfHolds (shelved o (saved_table t.buffer t.groups) fs) (shelved o rows rs)
      go (accepted n) e =
          pairwise_more FileHolds fs rs (saved_table t.buffer t.groups) rows x
          (record { initial = initial; store = t; holds = h; few = (save_only t.buffer t.groups out_len e).few_groups; is_file = refl })
      go (refused n) e = x

-- ---- a load
module _ (fs : List (List ℕ)) (rs : List (List Row)) (x : ShelfHolds fs rs) (n table_len : ℕ) where
  here : Dec (length rs ≤ n) → load_outcome (file_on fs n) table_len ≡ load_rows_outcome table_len rs n
  unfolding load_rows_grounds
  here (yes p) =
      let l = pairwise_length FileHolds fs rs x in
      rw (le-leb (length rs) n p) (ap (λ (f : List ℕ). load_outcome f table_len) (get_or-eq_default fs [] {n = n} (omega arith)) ∙ load-2 [] table_len (omega arith))
  here (no p) =
      let a = pairwise_at FileHolds fs rs n [] [] x (omega arith) in
      let s = a.store in
      rw (lt-leb (length rs) n (omega arith), a.is_file)
      (saved_outcome s.buffer s.groups (sound_is a.initial s (get_or rs n []) a.holds) a.few table_len
      ∙ rw (a.holds.groups, length-canonical (get_or rs n [])))

  pub load-outcome : load_outcome (file_on fs n) table_len ≡ load_rows_outcome table_len rs n
  load-outcome = here (dec_le (length rs) n)

-- what an accepted load of the file of table s leaves of the bytes b
pub record Loaded (s : Store) (b after : List ℕ) (n : ℕ) : Type 0 where
  pub count : n ≡ s.groups
  pub left : after ≡ take (64 * s.groups) s.buffer ++ drop (64 * s.groups) b
  pub same_length : length after ≡ length b

pub loaded_is : (s : Store) → sound s.buffer s.groups ≡ true → s.groups ≤ most_file_groups → (g b : List ℕ) (n : ℕ) → g ≡ saved_table s.buffer s.groups
    → load_outcome g (length b) ≡ accepted n → Loaded s b (load_leaves g b) n
loaded_is s ok few g b n is e =
    let o = load_only g (length b) e in
    let count : n ≡ s.groups = sym o.count_is ∙ ap group_count is ∙ (saved_fields s.buffer s.groups ok few).first_is in
    let room : 64 * s.groups ≤ length b = rw (sym count) o.room in
    let left = ap (λ (f : List ℕ). load_leaves f b) is ∙ saved_left s.buffer s.groups ok few b room in
    record {
      count = count;
      left = left;
      same_length =
          ap length left ∙ length-append (take (64 * s.groups) s.buffer) (drop (64 * s.groups) b)
          ∙ rw (length-records s.buffer s.groups ok, length-drop (64 * s.groups) b) (omega arith);
    }

-- the table u holds some rows; loading file n into it
module _ (fs : List (List ℕ)) (rs : List (List Row)) (x : ShelfHolds fs rs) (n : ℕ) (b : List ℕ) (u : Store) (rows : List Row) (h : HoldsRows b u rows) where
  -- an accepted load leaves the records of the rows with that number
  loaded : {g : ℕ} → load_outcome (file_on fs n) (length u.buffer) ≡ accepted g → FileHolds (file_on fs n) (get_or rs n [])
      → HoldsRows (written (canonical rows) b) (record { buffer = load_leaves (file_on fs n) u.buffer; groups = g }) (get_or rs n [])
  loaded {g} e a =
      let ts = canonical (get_or rs n []) in
      let s = a.store in
      let y = a.holds in
      let v = loaded_is s (sound_is a.initial s (get_or rs n []) y) a.few (file_on fs n) u.buffer g a.is_file e in
      let room = (load_only (file_on fs n) (length u.buffer) e).room in
      let count = v.count in
      let records-are : take (64 * s.groups) s.buffer ≡ section_bytes ts =
      ap₂ (λ (k : ℕ) (b : List ℕ). take (64 * k) b) y.groups y.buffer ∙ used-written ts a.initial in
      let left : load_leaves (file_on fs n) u.buffer ≡ written ts u.buffer = v.left ∙ ap₂ (λ (r : List ℕ) (k : ℕ). r ++ drop (64 * k) u.buffer) records-are y.groups in
      let few = a.few in
      let groups = y.groups in
      let l = written-left u.buffer ts (subst (All Storable) y.has-sections y.table.storable) (canonical-rising (get_or rs n [])) (omega arith) in
      rw (left, count ∙ y.groups)
      (record {
        table = l.table;
        has-sections = l.has-sections;
        groups = refl;
        buffer = ap (written ts) h.buffer;
        same_length = l.same_length ∙ ap length h.buffer;
      })

  pub load-holds : HoldsRows (replaced (load_rows_outcome (length b) rs n) b (written (canonical rows) b)) (after_load u (file_on fs n)) (replaced (load_rows_outcome (length b) rs n) rows (get_or rs n []))
  load-holds =
      subst (λ (o : Outcome ℕ). HoldsRows (replaced o b (written (canonical rows) b)) (after_load u (file_on fs n)) (replaced o rows (get_or rs n [])))
      (load-outcome fs rs x n (length u.buffer) ∙ ap (λ (k : ℕ). load_rows_outcome k rs n) h.same_length)
      (go (load_outcome (file_on fs n) (length u.buffer)) refl)
    where
      found : {g : ℕ} → load_outcome (file_on fs n) (length u.buffer) ≡ accepted g → Dec (length rs ≤ n) → FileHolds (file_on fs n) (get_or rs n [])
      found e (yes p) =
          let l = pairwise_length FileHolds fs rs x in
          absurd (accepted≢refused (sym (load-2 [] (length u.buffer) (omega arith)) ∙ ap (λ (f : List ℕ). load_outcome f (length u.buffer)) (sym (get_or-eq_default fs [] {n = n} (omega arith))) ∙ e))
      found e (no p) = pairwise_at FileHolds fs rs n [] [] x (omega arith)

      go : (o : Outcome ℕ) → load_outcome (file_on fs n) (length u.buffer) ≡ o
          → HoldsRows (replaced o b (written (canonical rows) b)) (after o (load_leaves (file_on fs n) u.buffer) u.groups) (replaced o rows (get_or rs n []))
      go (accepted g) e = loaded e (found e (dec_le (length rs) n))
      go (refused k) e = rw (load_untouched (file_on fs n) u.buffer e) h
