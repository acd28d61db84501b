-- Calls one after the other, each by its contract, and what demand 3 says of ways of working that are carried out so.
use Rattle.std.specs.Prelude.{ℕ, ◌≡◌, true, List, [], ◌∷◌}
use Rattle.std.proofs.Math.Option.{some}
use contract.Lifetimes.{Lfts}
use borrow.Fn.Kinds.{Dens, ended_of, res_t}
use denote.Triple.Clauses.{AtExit}
use Rattle.refusal.specs.Outcome.{accepted}
use Rattle.level.specs.Level.{exact_sum}
use Rattle.record.specs.Section.{Section, find, kept}
use Rattle.table.specs.Calls.{cleared}
use Rattle.history.specs.Rows.{SameRows, section_bits, rows_totals}
use Rattle.history.specs.Calls.{Question, exactness, totals, Call, ask, no_rows}
use Rattle.history.specs.Run.{State, Answer, exactness_is, totals_are, step, state_after, answer, answers, answers_rows, ask_table}
use Rattle.history.specs.AsDoubles.{calls_as_doubles}
use Rattle.history.specs.Demand3.{History, empty, lengths, rows, table, used, sections_in}
use Rattle.add.proofs.add.Reads as add_reads
use Rattle.add.proofs.add.Kinds as add_kinds
use Rattle.exports.proofs.girth_add.Reads as girth_add_reads
use Rattle.exports.proofs.girth_add.Kinds as girth_add_kinds
use Rattle.conformance.specs.Called.{Called}

-- from the state s the calls cs answer xs, one by one, and leave the state s'; each gets the state that the last one left
pub data Worked : State → List Call → List Answer → State → Type 1 where
  done : {s : State} → Worked s [] [] s
  next : {s s' s'' : State} {c : Call} {cs : List Call} {x : Answer} {xs : List Answer} → Called s c x s' → Worked s' cs xs s'' → Worked s (c ∷ cs) (x ∷ xs) s''

-- the way of working h, carried out from its empty tables, answers xs and leaves the state s
abbrev pub CarriedOut : History → List Answer → State → Type 1
CarriedOut h xs s = Worked (empty h) h.calls xs s

-- demand 3 of calls by their contracts
pub record WorkedIs : Type 1 where
  -- a call by its contract is a step of a list of calls
  pub called_is : (s : State) (c : Call) (x : Answer) (s' : State) → Called s c x s' → (answer s c ≡ x) × (step s c ≡ s')
  -- so a list of them has the answers and leaves the state that `history` computes
  pub as_listed : (s : State) (cs : List Call) (xs : List Answer) (s' : State) → Worked s cs xs s' → (answers s cs ≡ xs) × (state_after s cs ≡ s')
  -- the answers are those that the rows fix, and the tables those of which demand 3 speaks
  pub answers_are : (h : History) (xs : List Answer) (s : State) → CarriedOut h xs s → xs ≡ answers_rows (lengths h) no_rows h.calls
  pub tables_are : (h : History) (xs : List Answer) (s : State) → CarriedOut h xs s → (i : ℕ) → s.tables i ≡ table h i
  -- and after any two ways of working tables with the same rows have the same group count, used bytes and answers
  pub same_tables : (h h' : History) (xs xs' : List Answer) (s s' : State) → CarriedOut h xs s → CarriedOut h' xs' s' → (i j : ℕ) → SameRows (rows h i) (rows h' j)
      → ((s.tables i).groups ≡ (s'.tables j).groups) × (used (s.tables i) ≡ used (s'.tables j)) × ((q : Question) → ask_table (s.tables i) q ≡ ask_table (s'.tables j) q)
  -- and every question is answered alike in the two
  pub same_questions : (h h' : History) (xs xs' : List Answer) (s s' : State) → CarriedOut h xs s → CarriedOut h' xs' s' → (i j : ℕ) → SameRows (rows h i) (rows h' j)
      → (q : Question) (x x' : Answer) (t t' : State) → Called s (ask i q) x t → Called s' (ask j q) x' t' → x ≡ x'
  -- the totals that a call gives of a table are the number of distinct sections of its rows and the number of its rows
  pub totals-counted : (h : History) (xs : List Answer) (s : State) → CarriedOut h xs s → (i : ℕ) (x : Answer) (t : State) → Called s (ask i totals) x t
      → x ≡ totals_are (accepted (rows_totals (rows h i)))
  -- a section of which a call tells that its kept value is known to be exact has a kept value equal to the exact sum of its rows
  pub exact_told : (h : History) (xs : List Answer) (s : State) → CarriedOut h xs s → (i k : ℕ) (t : State) → Called s (ask i (exactness k)) (exactness_is (accepted true)) t
      → (r : Section) × (find k (sections_in (s.tables i)) ≡ some r) × (kept r ≡ exact_sum (section_bits k (rows h i)))
  -- with all values in doubles a list of calls answers the same and leaves the same, from every state
  pub same_in_doubles : (s : State) (cs : List Call) (xs xs' : List Answer) (s' s'' : State) → Worked s cs xs s' → Worked s (calls_as_doubles cs) xs' s'' → (xs ≡ xs') × (s' ≡ s'')
  -- every list of calls can be carried out
  pub possible : (s : State) (cs : List Call) → (xs : List Answer) × (s' : State) × Worked s cs xs s'
  -- an add leaves only zeros in its work buffer
  pub buffer-cleared : (κs : Lfts 4) (a : Dens κs add_kinds.ps) (z : (res_t add_kinds.r κs).Denot) (e : AtExit (ended_of 4 add_kinds.ps add_kinds.r) κs) → add_reads.Learnt κs a z e
      → e.1.1.1.1.1.0.now ≡ cleared a.1.1.1.1.1.0.now
  pub girth_buffer_cleared : (κs : Lfts 4) (a : Dens κs girth_add_kinds.ps) (z : (res_t girth_add_kinds.r κs).Denot) (e : AtExit (ended_of 4 girth_add_kinds.ps girth_add_kinds.r) κs)
      → girth_add_reads.Learnt κs a z e → e.1.1.1.1.1.0.now ≡ cleared a.1.1.1.1.1.0.now
