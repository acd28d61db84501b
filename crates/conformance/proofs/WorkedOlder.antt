-- Calls with loads of older files: they step one after the other, every list of them can be carried out, and the tables are those of which Card 7 speaks.
use Prim.Native.Nat.{ℕ}
use mathlib.Core.Path.{◌≡◌, refl, sym, ap}
use mathlib.Core.Bool.{true}
use mathlib.Core.List.{List, [], ◌∷◌}
use Rattle.refusal.specs.Outcome.{accepted}
use Rattle.level.specs.Level.{exact_sum}
use Rattle.history.specs.Rows.{section_bits}
use Rattle.history.specs.Calls.{exactness, ask}
use Rattle.history.specs.Run.{State, no_groups, file_on, Answer, exactness_is, answer}
use Rattle.history.specs.Older.{older_file, OlderCall, ordinary, load-older, step_older, state_after_older, answer_older, answers_older, OlderHistory, older_table, older_rows}
use Rattle.history.proofs.Older.{older_files}
use Rattle.conformance.specs.WorkedOlder.{CalledOlder, by_ordinary, by_older_load, by_girth_older_load, WorkedOlder, older-done, older-next, WorkedOlderIs}
use Rattle.conformance.proofs.Steps.{load_said, loaded, steps}
use Rattle.conformance.proofs.Lists.{one_more, told_of}
use Rattle.conformance.proofs.Possible.{load-possible, one-possible}

-- a call by its contract is a step
pub steps_older : (s : State) (c : OlderCall) (x : Answer) (s' : State) → CalledOlder s c x s' → (answer_older s c ≡ x) × (step_older s c ≡ s')
unfolding answer_older step_older
steps_older s c x s' (by_ordinary {c = d} p) = steps s d x s' p
steps_older s c x s' (by_older_load i n κs a z e f p l) = loaded s i (older_file (file_on s.shelf n)) f p l.0 l.1
steps_older s c x s' (by_girth_older_load i n κs a z e f p l) = loaded s i (older_file (file_on s.shelf n)) f p (load_said _ _ l.0) l.1

-- calls one after the other have the answers and leave the state that `history` computes
listed : (s : State) (cs : List OlderCall) (xs : List Answer) (s' : State) → WorkedOlder s cs xs s' → (answers_older s cs ≡ xs) × (state_after_older s cs ≡ s')
unfolding answers_older state_after_older
listed s [] xs s' older-done = (refl, refl)
listed s (c ∷ cs) [] s'' x'' = elim x'' [ ]
listed s (c ∷ cs) (x ∷ xs) s'' (older-next {s' = s'} p w) = one_more (λ t. answers_older t cs) (λ t. state_after_older t cs) (steps_older s c x s' p) (listed s' cs xs s'' w)

-- so table i is the one of which the claims about older files speak
older_table_is : (h : OlderHistory) (xs : List Answer) (s : State) → WorkedOlder (no_groups h.initial) h.calls xs s → (i : ℕ) → s.tables i ≡ older_table h i
older_table_is h xs s w i = ap (λ (t : State). t.tables i) (sym (listed (no_groups h.initial) h.calls xs s w).1)

-- one call can be made by a contract
pub one-older-possible : (s : State) (c : OlderCall) → (x : Answer) × (s' : State) × CalledOlder s c x s'
one-older-possible s (ordinary c) = let p = one-possible s c in (p.0, p.1, by_ordinary p.2)
one-older-possible s (load-older i n) =
    let l = load-possible (older_file (file_on s.shelf n)) (s.tables i).buffer in (_, _, by_girth_older_load i n l.0 l.1 l.2 l.3 l.4 l.5 l.6)

-- and so can a list of them
all_older_possible : (s : State) (cs : List OlderCall) → (xs : List Answer) × (s' : State) × WorkedOlder s cs xs s'
all_older_possible s [] = ([], s, older-done)
all_older_possible s (c ∷ cs) = let p = one-older-possible s c in let w = all_older_possible p.1 cs in (p.0 ∷ w.0, w.1, older-next p.2 w.2)

pub worked_older_is : WorkedOlderIs
unfolding answer
worked_older_is = record {
  called_older_is = steps_older;
  older-listed = listed;
  older_told = λ h xs s w i k t c.
      told_of (older_table_is h xs s w i) k (exact_sum (section_bits k (older_rows h i))) (older_files.older_exact h i k) (steps s (ask i (exactness k)) (exactness_is (accepted true)) t c).0;
  older-possible = all_older_possible;
}
