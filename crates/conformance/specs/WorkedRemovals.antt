-- Calls one after the other, each by its contract, among them removals: they are those that `accounts` computes, so that Card 9's claims are about them;
-- those about answers, undoing and the work buffer are said here of the calls themselves.
use Rattle.std.specs.Prelude.{ℕ, ◌-◌, ◌≤◌, ◌≡◌, true, false, List, [], ◌∷◌, T, length}
use Rattle.std.proofs.Math.Option.{some, none}
use Rattle.std.proofs.Math.Pow.{are_bytes}
use contract.Lifetimes.{Lfts}
use borrow.Fn.Kinds.{Dens, ended_of, res_t}
use denote.Triple.Clauses.{AtExit}
use Rattle.lists.specs.Lists.{any_of}
use Rattle.refusal.specs.Outcome.{accepted}
use Rattle.level.specs.Level.{exact_sum}
use Rattle.columns.specs.declared.Kind.{Kind}
use Rattle.columns.specs.declared.Kind.TheVariants.{Double}
use Rattle.record.specs.Section.{Section, find, kept}
use Rattle.table.specs.Calls.{cleared}
use Rattle.refusal.specs.Answer.{outcome_of}
use Rattle.remove.specs.Remaining.{raises_top, lowers_finest}
use Rattle.remove.specs.Calls.{patch_sections}
use Rattle.history.specs.Calls.{exactness, totals, add, ask}
use Rattle.history.specs.Run.{State, no_groups, Answer, groups_are, exactness_is, totals_are, refuses}
use Rattle.history.specs.Demand3.{sections_in, used}
use Rattle.history.specs.Older.{OlderCall}
use Rattle.accounts.specs.AnyCalls.{AnyCall, other, remove, step_any, state_after_any, answer_any, answers_any}
use Rattle.accounts.specs.Claim.{Way, account_of, remaining_bits, Accounted}
use Rattle.exports.specs.Width.{kind_of_width}
use Rattle.remove.proofs.remove.Reads as remove_reads
use Rattle.remove.proofs.remove.Kinds as remove_kinds
use Rattle.exports.proofs.girth_remove.Reads as girth_remove_reads
use Rattle.exports.proofs.girth_remove.Kinds as girth_remove_kinds
use Rattle.conformance.specs.Called.{Lent, state_left, count_said, Called}
use Rattle.conformance.specs.WorkedOlder.{CalledOlder}

-- in the state s the call answers x and leaves the state s'; a and e have what is lent and given in the order of the parameters, a at first and e at the end
pub data CalledAny (s : State) : AnyCall → Answer → State → Type 1 where
  -- a call that removes nothing
  by_other : {c : OlderCall} {x : Answer} {s' : State} → CalledOlder s c x s' → CalledAny s (other c) x s'
  -- table, group count, keys, values, their kind and work buffer; that the keys hold bytes is not said of a call's arguments
  by_remove : (i : ℕ) (κs : Lfts 4) (a : Dens κs remove_kinds.ps) (z : (res_t remove_kinds.r κs).Denot) (e : AtExit (ended_of 4 remove_kinds.ps remove_kinds.r) κs) (b : T (are_bytes a.1.1.0.now))
      → Lent (s.tables i) a.0.now a.1.0 → remove_reads.Learnt κs a z e
      → CalledAny s (remove i a.1.1.1.1.0 a.1.1.0.now a.1.1.1.0.now b (length a.1.1.1.1.1.0.now)) (groups_are (outcome_of z)) (state_left s i (outcome_of z) e.0.now)
  -- the exported call is told the width of its values, which is that of a kind
  by_girth_remove : (i : ℕ) (kind : Kind) (κs : Lfts 4) (a : Dens κs girth_remove_kinds.ps) (z : (res_t girth_remove_kinds.r κs).Denot) (e : AtExit (ended_of 4 girth_remove_kinds.ps girth_remove_kinds.r) κs) (b : T (are_bytes a.1.1.0.now))
      → kind_of_width a.1.1.1.1.0 ≡ some kind → Lent (s.tables i) a.0.now a.1.0 → girth_remove_reads.Learnt κs a z e
      → CalledAny s (remove i kind a.1.1.0.now a.1.1.1.0.now b (length a.1.1.1.1.1.0.now)) (groups_are (count_said z)) (state_left s i (count_said z) e.0.now)
  -- or of none: such a call does what the removal of columns does that no row count fits
  by_girth_remove_of_no_kind : (i : ℕ) (κs : Lfts 4) (a : Dens κs girth_remove_kinds.ps) (z : (res_t girth_remove_kinds.r κs).Denot) (e : AtExit (ended_of 4 girth_remove_kinds.ps girth_remove_kinds.r) κs)
      → kind_of_width a.1.1.1.1.0 ≡ none → Lent (s.tables i) a.0.now a.1.0 → girth_remove_reads.Learnt κs a z e
      → CalledAny s (remove i Double (0 ∷ []) (0 ∷ []) tt (length a.1.1.1.1.1.0.now)) (groups_are (count_said z)) (state_left s i (count_said z) e.0.now)

-- from the state s the calls cs answer xs, one by one, and leave the state s'; each gets the state that the last one left
pub data WorkedAny : State → List AnyCall → List Answer → State → Type 1 where
  any_done : {s : State} → WorkedAny s [] [] s
  any_next : {s s' s'' : State} {c : AnyCall} {cs : List AnyCall} {x : Answer} {xs : List Answer} → CalledAny s c x s' → WorkedAny s' cs xs s'' → WorkedAny s (c ∷ cs) (x ∷ xs) s''

-- the way of working w, carried out from its empty tables, answers xs and leaves the state s
abbrev pub CarriedOutAny : Way → List Answer → State → Type 1
CarriedOutAny w xs s = WorkedAny (no_groups w.initial) w.calls xs s

-- Card 9 of calls by their contracts
pub record WorkedRemovalsIs : Type 1 where
  -- a call by its contract is a step of a list of calls
  pub called_any_is : (s : State) (c : AnyCall) (x : Answer) (s' : State) → CalledAny s c x s' → (answer_any s c ≡ x) × (step_any s c ≡ s')
  -- so a list of them has the answers and leaves the state that `accounts` computes
  pub any_listed : (s : State) (cs : List AnyCall) (xs : List Answer) (s' : State) → WorkedAny s cs xs s' → (answers_any s cs ≡ xs) × (state_after_any s cs ≡ s')
  -- every list of calls can be carried out
  pub any_possible : (s : State) (cs : List AnyCall) → (xs : List Answer) × (s' : State) × WorkedAny s cs xs s'
  -- no call of a way of working answers 7
  pub told_never_7 : (w : Way) (xs : List Answer) (s : State) → CarriedOutAny w xs s → any_of (refuses 7) xs ≡ false
  -- the totals that a call gives of a table are its group count and the number of the rows brought less that of the rows removed
  pub totals_told : (w : Way) (xs : List Answer) (s : State) → CarriedOutAny w xs s → (i : ℕ) (x : Answer) (t : State) → Called s (ask i totals) x t
      → ((account_of w i).removed ≤ (account_of w i).brought)
      × (x ≡ totals_are (accepted (record { groups = (s.tables i).groups; count = (account_of w i).brought - (account_of w i).removed })))
  -- in a table that is accounted for a section of which a call tells that its kept value is known to be exact has a kept value equal to the exact sum of its remaining rows
  pub remaining_told : (w : Way) (xs : List Answer) (s : State) → CarriedOutAny w xs s → (i k : ℕ) → Accounted w i → (t : State)
      → Called s (ask i (exactness k)) (exactness_is (accepted true)) t
      → (r : Section) × (find k (sections_in (s.tables i)) ≡ some r) × (kept r ≡ exact_sum (remaining_bits w i k))
  -- right after an accepted add of the same columns that raised no held section's top and lowered no held finest power, with a work buffer of the same length, a removal is
  -- accepted, and the former group count and used bytes are back
  pub undone_told : (s s' s'' : State) (i : ℕ) (kind : Kind) (ks vs : List ℕ) (b : T (are_bytes ks)) (work_len n : ℕ) (x : Answer)
      → Called s (add i kind ks vs b work_len) (groups_are (accepted n)) s' → CalledAny s' (remove i kind ks vs b work_len) x s'' → are_bytes (s.tables i).buffer ≡ true
      → raises_top (sections_in (s.tables i)) (patch_sections kind ks vs) ≡ false → lowers_finest (sections_in (s.tables i)) (patch_sections kind ks vs) ≡ false
      → (x ≡ groups_are (accepted (s.tables i).groups)) × ((s''.tables i).groups ≡ (s.tables i).groups) × (used (s''.tables i) ≡ used (s.tables i))
  -- a removal leaves only zeros in its work buffer
  pub removal_buffer_cleared : (κs : Lfts 4) (a : Dens κs remove_kinds.ps) (z : (res_t remove_kinds.r κs).Denot) (e : AtExit (ended_of 4 remove_kinds.ps remove_kinds.r) κs) → remove_reads.Learnt κs a z e
      → e.1.1.1.1.1.0.now ≡ cleared a.1.1.1.1.1.0.now
  pub girth_removal_buffer_cleared : (κs : Lfts 4) (a : Dens κs girth_remove_kinds.ps) (z : (res_t girth_remove_kinds.r κs).Denot) (e : AtExit (ended_of 4 girth_remove_kinds.ps girth_remove_kinds.r) κs)
      → girth_remove_reads.Learnt κs a z e → e.1.1.1.1.1.0.now ≡ cleared a.1.1.1.1.1.0.now
