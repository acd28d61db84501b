-- Card 8 over all ways of working: adds of short floats, alone or among others, do what adds of the same rows in doubles do.
use Rattle.std.specs.Prelude.{ℕ, ◌≡◌, List, map}
use Rattle.columns.specs.declared.Kind.TheVariants.{Double}
use Rattle.columns.specs.Columns.{as_doubles}
use Rattle.history.specs.Calls.{Call, add, merge, ask, save, load, Ledger, ledger_after}
use Rattle.history.specs.Run.{State, state_after, answers}

-- a call with its values in doubles
unfoldable pub call_as_doubles : Call → Call
call_as_doubles (add i kind ks vs b work_len) = add i Double ks (as_doubles kind vs) b work_len
call_as_doubles (merge i j d) = merge i j d
call_as_doubles (ask i q) = ask i q
call_as_doubles (save i out_len) = save i out_len
call_as_doubles (load i n) = load i n

-- a list of calls with all values in doubles
abbrev pub calls_as_doubles : List Call → List Call
calls_as_doubles cs = map call_as_doubles cs

-- from every state, sound or not, both lists answer alike, leave the same tables and files, and bring the same rows
pub record SameAsDoubles : Type 0 where
  pub same-answers : (s : State) (cs : List Call) → answers s (calls_as_doubles cs) ≡ answers s cs
  pub same_state : (s : State) (cs : List Call) → state_after s (calls_as_doubles cs) ≡ state_after s cs
  pub same_ledger : (len : ℕ → ℕ) (l : Ledger) (cs : List Call) → ledger_after len l (calls_as_doubles cs) ≡ ledger_after len l cs
