-- Card 4 over all ways of working: a saved and reloaded table counts as the one it came from.
use Rattle.std.specs.Prelude.{ℕ, ◌≡◌, Bool, false, not, cond, List, [], ◌∷◌, ◌++◌, T, eqb, length}
use Rattle.refusal.specs.Outcome.{accepted}
use Rattle.lists.specs.Lists.{any_of}
use Rattle.history.specs.Calls.{Call, add, merge, ask, save, load}
use Rattle.history.specs.Run.{State, groups_are, length_is, state_after, answer, answers}
use Rattle.history.specs.Demand3.{History, empty, lengths, rows, beneath}

-- a way of working, and then further calls
abbrev pub and_then : History → List Call → History
and_then h cs = record { initial = h.initial; calls = h.calls ++ cs }

-- the state after a way of working
abbrev pub final_state : History → State
final_state h = state_after (empty h) h.calls

-- how many files are on the shelf after it: the number of the next one
abbrev pub file_count : History → ℕ
file_count h = length (final_state h).shelf

-- ---- a table saved and loaded

-- after h, table i is saved, and the calls `between` follow
abbrev pub saving : History → ℕ → ℕ → List Call → History
saving h i out_len between = and_then h (save i out_len ∷ between)

-- and then its file is loaded into table j
abbrev pub reloading : History → ℕ → ℕ → List Call → ℕ → History
reloading h i out_len between j = and_then (saving h i out_len between) (load j (file_count h) ∷ [])

-- both are accepted
pub record SavedAndLoaded (h : History) (i out_len : ℕ) (between : List Call) (j : ℕ) : Type 0 where
  pub answered-length : ℕ
  pub answered-groups : ℕ
  pub save-accepted : answer (final_state h) (save i out_len) ≡ length_is (accepted answered-length)
  pub load-accepted : answer (final_state (saving h i out_len between)) (load j (file_count h)) ≡ groups_are (accepted answered-groups)

-- ---- what is said of further calls

-- the tables that a call names
unfoldable pub named : Call → List ℕ
named (add a kind ks vs b work_len) = a ∷ []
named (merge a b d) = a ∷ b ∷ []
named (ask a q) = a ∷ []
named (save a out_len) = a ∷ []
named (load a n) = a ∷ []

-- a call names table i
abbrev pub uses : ℕ → Call → Bool
uses i c = any_of (eqb i) (named c)

-- a call loads a file into table i
unfoldable pub loads_into : ℕ → Call → Bool
loads_into i (add a kind ks vs b work_len) = false
loads_into i (merge a b d) = false
loads_into i (ask a q) = false
loads_into i (save a out_len) = false
loads_into i (load a n) = eqb i a

-- the numbers i and j exchanged
unfoldable pub exchange : ℕ → ℕ → ℕ → ℕ
exchange i j k = cond (eqb k i) j (cond (eqb k j) i k)

-- the second call is the first with the table numbers that σ gives
unfoldable pub Renamed : (ℕ → ℕ) → Call → Call → Type 0
Renamed σ (add a kind ks vs b work_len) c = c ≡ add (σ a) kind ks vs b work_len
Renamed σ (merge a b d) c = (e : T (not (eqb (σ a) (σ b)))) × (c ≡ merge (σ a) (σ b) e)
Renamed σ (ask a q) c = c ≡ ask (σ a) q
Renamed σ (save a out_len) c = c ≡ save (σ a) out_len
Renamed σ (load a n) c = c ≡ load (σ a) n

-- and so in two lists, call by call
unfoldable pub RenamedCalls : (ℕ → ℕ) → List Call → List Call → Type 0
RenamedCalls σ [] [] = Unit {0}
RenamedCalls σ [] (d ∷ ds) = ⊥
RenamedCalls σ (c ∷ cs) [] = ⊥
RenamedCalls σ (c ∷ cs) (d ∷ ds) = Renamed σ c d × RenamedCalls σ cs ds

-- the claims; in none of them is the file asked to be loaded only once, nor the table that it is loaded into to be empty
pub record Reloaded : Type 0 where
  -- the table has the rows that the saved one had when it was saved, whatever was called between
  pub rows_back : (h : History) (i out_len : ℕ) (between : List Call) (j : ℕ) → SavedAndLoaded h i out_len between j → rows (reloading h i out_len between j) j ≡ rows h i
  -- Card 4's words: where the original, table i, is not used further and table j has a buffer of the same length, table j counts as table i. Take the way of working
  -- without the load, and let its later calls name i where those after the load name j: every table but the original has the same rows, j those of i, and every later call is answered alike
  pub counts_as : (h : History) (i out_len : ℕ) (between : List Call) (j : ℕ) → SavedAndLoaded h i out_len between j → lengths h i ≡ lengths h j
      → (further further' : List Call) → any_of (uses i) (between ++ further) ≡ false → RenamedCalls (exchange i j) further further'
      → ((k : ℕ) → eqb k i ≡ false → rows (and_then (reloading h i out_len between j) further) k ≡ rows (and_then (saving h i out_len between) further') (exchange i j k))
      × (answers (final_state (reloading h i out_len between j)) further ≡ answers (final_state (saving h i out_len between)) further')
  -- loaded over the original itself, which was not used since, it changes no rows and no later answer
  pub over_original : (h : History) (i out_len : ℕ) (between : List Call) → SavedAndLoaded h i out_len between i → any_of (uses i) between ≡ false → (further : List Call)
      → ((k : ℕ) → rows (and_then (reloading h i out_len between i) further) k ≡ rows (and_then (saving h i out_len between) further) k)
      × (answers (final_state (reloading h i out_len between i)) further ≡ answers (final_state (saving h i out_len between)) further)
  -- a table into which no file is loaded holds, after its records, what its buffer held at the start
  pub unloaded : (h : History) (i : ℕ) → any_of (loads_into i) h.calls ≡ false → beneath h i ≡ h.initial i
