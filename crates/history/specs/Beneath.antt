-- What the buffer of a table held before its records were written there, read off the calls and the bytes at the start.
use Rattle.std.specs.Prelude.{ℕ, List, [], ◌∷◌}
use Rattle.record.specs.Section.{written}
use Rattle.history.specs.Canonical.{canonical}
use Rattle.history.specs.Calls.{Call, add, merge, ask, save, load, load_rows_outcome, Ledger, update, replaced, step_rows}

-- the bytes beneath each table's records after one call, where b i lay beneath those of table i: from an accepted load on the whole buffer as it was then, its old
-- records included
unfoldable pub step_beneath : (ℕ → ℕ) → Ledger → (ℕ → List ℕ) → Call → ℕ → List ℕ
step_beneath len l b (add i kind ks vs d work_len) = b
step_beneath len l b (merge i j d) = b
step_beneath len l b (ask i q) = b
step_beneath len l b (save i out_len) = b
step_beneath len l b (load i n) = update i (replaced (load_rows_outcome (len i) l.saved_rows n) (b i) (written (canonical (l.rows i)) (b i))) b

-- and after a list of calls
unfoldable pub beneath_after : (ℕ → ℕ) → Ledger → (ℕ → List ℕ) → List Call → ℕ → List ℕ
beneath_after len l b [] = b
beneath_after len l b (c ∷ cs) = beneath_after len (step_rows len l c) (step_beneath len l b c) cs
