-- Calls one after the other, each by its contract, among them loads of files as an older version wrote them: they are those that `history` computes, and exact is exact.
use Rattle.std.specs.Prelude.{ℕ, ◌≡◌, true, List, [], ◌∷◌}
use Rattle.std.proofs.Math.Option.{some}
use contract.Lifetimes.{Lfts}
use borrow.Fn.Kinds.{Dens, ended_of, res_t}
use denote.Triple.Clauses.{AtExit}
use Rattle.refusal.specs.Outcome.{accepted}
use Rattle.level.specs.Level.{exact_sum}
use Rattle.record.specs.Section.{Section, find, kept}
use Rattle.refusal.specs.Answer.{outcome_of}
use Rattle.history.specs.Rows.{section_bits}
use Rattle.history.specs.Calls.{exactness, Call, ask}
use Rattle.history.specs.Run.{State, no_groups, file_on, Answer, groups_are, exactness_is}
use Rattle.history.specs.Demand3.{sections_in}
use Rattle.history.specs.Older.{older_file, OlderCall, ordinary, load-older, step_older, state_after_older, answer_older, answers_older, OlderHistory, older_rows}
use Rattle.checkpoint.proofs.load.Reads as load_reads
use Rattle.checkpoint.proofs.load.Kinds as load_kinds
use Rattle.exports.proofs.girth_load.Reads as girth_load_reads
use Rattle.exports.proofs.girth_load.Kinds as girth_load_kinds
use Rattle.conformance.specs.Called.{state_left, count_said, Called}

-- in the state s the call answers x and leaves the state s'; a and e have what is lent and given in the order of the parameters, a at first and e at the end
pub data CalledOlder (s : State) : OlderCall → Answer → State → Type 1 where
  -- a call of demand 3
  by_ordinary : {c : Call} {x : Answer} {s' : State} → Called s c x s' → CalledOlder s (ordinary c) x s'
  -- the file with the number n as an older version wrote it, and the bytes of a table
  by_older_load : (i n : ℕ) (κs : Lfts 2) (a : Dens κs load_kinds.ps) (z : (res_t load_kinds.r κs).Denot) (e : AtExit (ended_of 2 load_kinds.ps load_kinds.r) κs)
      → older_file (file_on s.shelf n) ≡ a.0.now → (s.tables i).buffer ≡ a.1.0.now → load_reads.Learnt κs a z e
      → CalledOlder s (load-older i n) (groups_are (outcome_of z)) (state_left s i (outcome_of z) e.1.0.now)
  by_girth_older_load : (i n : ℕ) (κs : Lfts 2) (a : Dens κs girth_load_kinds.ps) (z : (res_t girth_load_kinds.r κs).Denot) (e : AtExit (ended_of 2 girth_load_kinds.ps girth_load_kinds.r) κs)
      → older_file (file_on s.shelf n) ≡ a.0.now → (s.tables i).buffer ≡ a.1.0.now → girth_load_reads.Learnt κs a z e
      → CalledOlder s (load-older i n) (groups_are (count_said z)) (state_left s i (count_said z) e.1.0.now)

-- from the state s the calls cs answer xs, one by one, and leave the state s'; each gets the state that the last one left
pub data WorkedOlder : State → List OlderCall → List Answer → State → Type 1 where
  older-done : {s : State} → WorkedOlder s [] [] s
  older-next : {s s' s'' : State} {c : OlderCall} {cs : List OlderCall} {x : Answer} {xs : List Answer} → CalledOlder s c x s' → WorkedOlder s' cs xs s'' → WorkedOlder s (c ∷ cs) (x ∷ xs) s''

-- Card 7 of calls by their contracts
pub record WorkedOlderIs : Type 1 where
  -- a call by its contract is a step of a list of calls
  pub called_older_is : (s : State) (c : OlderCall) (x : Answer) (s' : State) → CalledOlder s c x s' → (answer_older s c ≡ x) × (step_older s c ≡ s')
  -- so a list of them has the answers and leaves the state that `history` computes
  pub older-listed : (s : State) (cs : List OlderCall) (xs : List Answer) (s' : State) → WorkedOlder s cs xs s' → (answers_older s cs ≡ xs) × (state_after_older s cs ≡ s')
  -- a section of which a call tells that its kept value is known to be exact has a kept value equal to the exact sum of its rows
  pub older_told : (h : OlderHistory) (xs : List Answer) (s : State) → WorkedOlder (no_groups h.initial) h.calls xs s → (i k : ℕ) (t : State)
      → Called s (ask i (exactness k)) (exactness_is (accepted true)) t
      → (r : Section) × (find k (sections_in (s.tables i)) ≡ some r) × (kept r ≡ exact_sum (section_bits k (older_rows h i)))
  -- every list of calls can be carried out
  pub older-possible : (s : State) (cs : List OlderCall) → (xs : List Answer) × (s' : State) × WorkedOlder s cs xs s'
