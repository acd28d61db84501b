-- Demand 3 holds: after every way of working the state agrees with the ledger, and each claim is read off that.
use Prim.Native.Nat.{ℕ, ◌*◌, ◌<◌}
use mathlib.Core.Path.{◌≡◌, refl, sym, ◌∙◌, ap, ap₂}
use mathlib.Core.Bool.{true}
use mathlib.Core.List.{List, [], ◌∷◌}
use mathlib.Core.Option.{none, some}
use native.Mathlib.Omega.{arith}
use native.Mathlib.Nat.{le_refl}
use lib.ListN.{length, take}
use Rattle.refusal.specs.Outcome.{accepted}
use Rattle.lists.proofs.Booleans.{never}
use Rattle.level.specs.Level.{top_of, exact_sum}
use Rattle.columns.specs.Columns.{Row}
use Rattle.record.specs.Sound.{sound}
use Rattle.record.specs.Section.{Section, section_bytes, find, section_at_top, section_of, kept}
use Rattle.finish.specs.Exact.{exactness_of}
use Rattle.finish.proofs.Exact.{exact_power}
use Rattle.totals.specs.Totals.{table_totals}
use Rattle.lists.specs.Lists.{any_of}
use Rattle.table.proofs.Bytes.{used-written}
use Rattle.history.specs.Rows.{SameRows, section_bits}
use Rattle.history.specs.Canonical.{section_if, canonical}
use Rattle.history.specs.Calls.{Question, exactness, no_rows, ledger_after}
use Rattle.history.specs.Run.{Store, state_after, exactness_is, ask_table, ask_rows, answers, answers_rows, refuses}
use Rattle.history.specs.Demand3.{History, empty, lengths, rows, beneath, table, used, sections_in, Demand3}
use Rattle.history.proofs.Sections.{section_count, section_finest}
use Rattle.history.proofs.Canonical.{find-canonical}
use Rattle.history.proofs.Order.{canonical-same}
use Rattle.history.proofs.Near.{kept_near, kept_exact}
use Rattle.history.proofs.Questions.{ask_is, ask-same}
use Rattle.history.proofs.Tables.{HoldsRows, sound_is}
use Rattle.history.proofs.Totals.{totals-canonical}
use Rattle.history.proofs.Calls.{Agrees, agrees_none, agrees_after, answers_by_rows, answers_not_7}

-- a section has a record where it has a row, and just there
present_is : (k : ℕ) (bs : List ℕ) → 0 < length bs → section_if k bs ≡ some (section_of k bs)
unfolding section_if
present_is k [] l = absurd (omega arith)
present_is k (b ∷ bs) l = refl

absent_is : (k : ℕ) (bs : List ℕ) → length bs ≡ 0 → section_if k bs ≡ none
unfolding section_if
absent_is k [] e = refl
absent_is k (b ∷ bs) e = absurd (omega arith)

-- a section that is answered exact is there, and its kept value is the exact sum
exact_is : (k : ℕ) (bs : List ℕ) → exactness_is (exactness_of (section_if k bs)) ≡ exactness_is (accepted true)
    → (section_if k bs ≡ some (section_of k bs)) × (kept (section_of k bs) ≡ exact_sum bs)
unfolding section_if section_at_top
exact_is k [] e = never cc
exact_is k (b ∷ bs) e = (refl, kept_exact k (top_of (b ∷ bs)) (b ∷ bs) (le_refl (top_of (b ∷ bs))) (exact_power (section_of k (b ∷ bs)) cc))

-- ---- a table after a list of calls
module _ (h : History) where
  -- at the start the state agrees with the ledger
  pub start_agrees : Agrees (lengths h) h.initial (empty h) no_rows
  start_agrees = agrees_none (lengths h) h.initial (λ i. refl)

  pub state_agrees : Agrees (lengths h) (beneath h) (state_after (empty h) h.calls) (ledger_after (lengths h) no_rows h.calls)
  state_agrees = agrees_after (lengths h) h.initial (empty h) no_rows start_agrees h.calls

  answered_is : answers (empty h) h.calls ≡ answers_rows (lengths h) no_rows h.calls
  answered_is = answers_by_rows (lengths h) h.initial (empty h) no_rows start_agrees h.calls

  module _ (i : ℕ) where
    pub holds_is : HoldsRows (beneath h i) (table h i) (rows h i)
    holds_is = state_agrees.tables i

    table-sound : sound (table h i).buffer (table h i).groups ≡ true
    table-sound = sound_is (beneath h i) (table h i) (rows h i) holds_is

    used_are : used (table h i) ≡ section_bytes (canonical (rows h i))
    used_are = ap₂ (λ (g : ℕ) (s : List ℕ). take (64 * g) s) holds_is.groups holds_is.buffer ∙ used-written (canonical (rows h i)) (beneath h i)

    found_is : (k : ℕ) → find k (sections_in (table h i)) ≡ section_if k (section_bits k (rows h i))
    found_is k = ap (find k) holds_is.has-sections ∙ find-canonical k (rows h i)

    asked_is : (q : Question) → ask_table (table h i) q ≡ ask_rows (rows h i) q
    asked_is = ask_is (table h i) (rows h i) table-sound holds_is.has-sections

    exact_here : (k : ℕ) → ask_table (table h i) (exactness k) ≡ exactness_is (accepted true)
        → (s : Section) × (find k (sections_in (table h i)) ≡ some s) × (kept s ≡ exact_sum (section_bits k (rows h i)))
    unfolding ask_rows
    exact_here k e =
        let bs = section_bits k (rows h i) in
        let w = exact_is k bs (sym (asked_is (exactness k)) ∙ e) in
        (section_of k bs, found_is k ∙ w.0, w.1)

-- what a table's rows decide is the same in tables with the same rows
same_by_rows : {A : Type 0} (F : Store → A) (G : List Row → A) → ((xs ys : List Row) → SameRows xs ys → G xs ≡ G ys) → ((h : History) (i : ℕ) → F (table h i) ≡ G (rows h i))
    → (h h' : History) (i j : ℕ) → SameRows (rows h i) (rows h' j) → F (table h i) ≡ F (table h' j)
same_by_rows F G same is h h' i j e = is h i ∙ same (rows h i) (rows h' j) e ∙ sym (is h' j)

pub demand3 : Demand3
demand3 = record {
  fixed = λ h i. λ x. record { buffer = (holds_is h i).buffer x; groups = (holds_is h i).groups x };
  always_sound = table-sound;
  answered = answered_is;
  never_7 = λ h. ap (any_of (refuses 7)) (answered_is h) ∙ answers_not_7 (lengths h) no_rows h.calls;
  same-groups =
      same_by_rows (λ t. t.groups) (λ xs. length (canonical xs)) (λ xs ys e. ap length (canonical-same xs ys e)) (λ h i. (holds_is h i).groups);
  same_bytes = same_by_rows used (λ xs. section_bytes (canonical xs)) (λ xs ys e. ap section_bytes (canonical-same xs ys e)) used_are;
  same_answer = λ h h' i j q. same_by_rows (λ t. ask_table t q) (λ xs. ask_rows xs q) (ask-same q) (λ h i. asked_is h i q) h h' i j;
  fixed_answer = asked_is;
  counted = λ h i. ap table_totals (holds_is h i).has-sections ∙ totals-canonical (rows h i);
  absent = λ h i k e. found_is h i k ∙ absent_is k (section_bits k (rows h i)) e;
  present = λ h i k l. (
    section_of k (section_bits k (rows h i)),
    found_is h i k ∙ present_is k (section_bits k (rows h i)) l,
    section_count k (top_of (section_bits k (rows h i))) (section_bits k (rows h i)),
    section_finest k (top_of (section_bits k (rows h i))) (section_bits k (rows h i)),
    kept_near k (section_bits k (rows h i)),
  );
  exact_kept = exact_here;
}
