-- Calls with removals: they step one after the other, every list of them can be carried out, and the tables are those of which Card 9 speaks. The idea: a removal changes
-- its table as an add does, so it is a step for the same reason; what a way of working answers and leaves is then what `accounts` computes, of which `card9` holds.
use Prim.Native.Nat.{ℕ, ◌-◌}
use mathlib.Core.Path.{◌≡◌, refl, sym, ap, subst, ◌∙◌}
use mathlib.Core.Bool.{Bool, true, false, cond}
use mathlib.Core.List.{List, [], ◌∷◌}
use mathlib.Core.Option.{Option}
use borrow.Author.Tests.{eq-eqb}
use lib.Ieee.Bits.{is_true}
use lib.ListN.{length, replicate, length-replicate}
use lib.Pow.{are_bytes}
use Rattle.lists.specs.Lists.{any_of}
use Rattle.refusal.specs.Outcome.{Outcome, accepted, is_refusal}
use Rattle.refusal.proofs.Outcomes.{not_given}
use Rattle.level.specs.Level.{exact_sum}
use Rattle.columns.specs.declared.Kind.{Kind}
use Rattle.columns.specs.declared.Kind.TheVariants.{Double}
use Rattle.columns.specs.Columns.{width}
use Rattle.table.specs.Calls.{cleared, column_grounds, add_outcome, add_leaves}
use Rattle.remove.specs.Remaining.{raises_top, lowers_finest}
use Rattle.remove.specs.Calls.{patch_sections, patch_grounds, remove_grounds, remove_sections, remove_outcome, remove_leaves}
use Rattle.exports.specs.Calls.{returns_count}
use Rattle.exports.specs.Width.{kind_of_width, remove_of_width, remove_of_width_leaves}
use Rattle.exports.proofs.Widths.{width_back, one_byte, unfit_removal, unfit_removal_leaves}
use Rattle.history.specs.Calls.{exactness, totals, add, ask}
use Rattle.history.specs.Run.{Store, State, no_groups, Answer, groups_are, exactness_is, totals_are, refuses, step, answer, ask_table, after, after_add, set_table}
use Rattle.history.specs.Demand3.{sections_in, used}
use Rattle.accounts.specs.AnyCalls.{AnyCall, other, remove, remove_answer, after_remove, step_any, state_after_any, answer_any, answers_any}
use Rattle.accounts.specs.Claim.{Way, table_of, account_of, remaining_bits}
use Rattle.accounts.proofs.Claim.{card9}
use Rattle.conformance.specs.WorkedRemovals.{CalledAny, by_other, by_remove, by_girth_remove, by_girth_remove_of_no_kind, WorkedAny, any_done, any_next, CarriedOutAny, WorkedRemovalsIs}
use Rattle.conformance.proofs.Steps.{kind-back, no_kind_not_0, changed, steps}
use Rattle.conformance.proofs.Possible.{ref, mut_ref}
use Rattle.conformance.proofs.Lists.{one_more, told_of}
use Rattle.conformance.proofs.WorkedOlder.{steps_older, one-older-possible}

-- no removal is refused with 0
remove_not_0 : (kind : Kind) (s : List ℕ) (g : ℕ) (ks vs : List ℕ) (work_len : ℕ) → is_refusal 0 (remove_outcome kind s g ks vs work_len) ≡ false
unfolding remove_grounds column_grounds patch_grounds
remove_not_0 kind s g ks vs work_len = not_given 0 (remove_grounds kind s g ks vs work_len) (length (remove_sections kind s g ks vs)) refl

-- a call by its contract is a step
steps_any : (s : State) (c : AnyCall) (x : Answer) (s' : State) → CalledAny s c x s' → (answer_any s c ≡ x) × (step_any s c ≡ s')
unfolding answer_any step_any
steps_any s c x s' (by_other {c = d} p) = steps_older s d x s' p
steps_any s c x s' (by_remove i κs a z e b p l) =
    let kind = a.1.1.1.1.0 in let ks = a.1.1.0.now in let vs = a.1.1.1.0.now in let len = length a.1.1.1.1.1.0.now in
    changed s i (λ t g. remove_outcome kind t g ks vs len) (λ t g. remove_leaves kind t g ks vs len) p l.0 l.1.0
steps_any s c x s' (by_girth_remove i kind κs a z e b k p l) =
    let t = a.0.now in let g = a.1.0 in let ks = a.1.1.0.now in let vs = a.1.1.1.0.now in let len = length a.1.1.1.1.1.0.now in
    changed s i (λ t g. remove_outcome kind t g ks vs len) (λ t g. remove_leaves kind t g ks vs len) p
    (kind-back (λ w. remove_of_width w t g ks vs len) k (remove_not_0 kind t g ks vs len) l.0) (l.1.0 ∙ ap (λ (w : Option Kind). remove_of_width_leaves w t g ks vs len) k)
steps_any s c x s' (by_girth_remove_of_no_kind i κs a z e k p l) =
    let t = a.0.now in let g = a.1.0 in let ks = a.1.1.0.now in let vs = a.1.1.1.0.now in let len = length a.1.1.1.1.1.0.now in
    changed s i (λ t g. remove_outcome Double t g one_byte one_byte len) (λ t g. remove_leaves Double t g one_byte one_byte len) p
    (kind-back (λ w. remove_of_width w t g ks vs len) k (no_kind_not_0 t g len) l.0 ∙ sym (unfit_removal t g len))
    (l.1.0 ∙ ap (λ (w : Option Kind). remove_of_width_leaves w t g ks vs len) k ∙ sym (unfit_removal_leaves t g len))

-- calls one after the other have the answers and leave the state that `accounts` computes
listed : (s : State) (cs : List AnyCall) (xs : List Answer) (s' : State) → WorkedAny s cs xs s' → (answers_any s cs ≡ xs) × (state_after_any s cs ≡ s')
unfolding answers_any state_after_any
listed s [] xs s' any_done = (refl, refl)
listed s (c ∷ cs) [] s'' x'' = elim x'' [ ]
listed s (c ∷ cs) (x ∷ xs) s'' (any_next {s' = s'} p w) = one_more (λ t. answers_any t cs) (λ t. state_after_any t cs) (steps_any s c x s' p) (listed s' cs xs s'' w)

-- so table i is the one of which Card 9 speaks
table_is : (w : Way) (xs : List Answer) (s : State) → CarriedOutAny w xs s → (i : ℕ) → s.tables i ≡ table_of w i
table_is w xs s p i = ap (λ (t : State). t.tables i) (sym (listed (no_groups w.initial) w.calls xs s p).1)

-- one call can be made by a contract
one_any_possible : (s : State) (c : AnyCall) → (x : Answer) × (s' : State) × CalledAny s c x s'
one_any_possible s (other c) = let p = one-older-possible s c in (p.0, p.1, by_other p.2)
one_any_possible s (remove i kind ks vs p n) =
    let b = (s.tables i).buffer in let g = (s.tables i).groups in let w : List ℕ = replicate {A = ℕ} n 0 in
    let told = width kind in
    subst (λ (m : ℕ). (x : Answer) × (s' : State) × CalledAny s (remove i kind ks vs p m) x s') (length-replicate n 0) (
      _,
      _,
      by_girth_remove i kind ([], ([], ([], ([], tt)))) (mut_ref b, (g, (ref ks, (ref vs, (told, (mut_ref w, tt)))))) (returns_count (remove_of_width (kind_of_width told) b g ks vs (length w)))
          (mut_ref (remove_of_width_leaves (kind_of_width told) b g ks vs (length w)), (g, (ref ks, (ref vs, (told, (mut_ref (cleared w), tt)))))) p (width_back kind) (refl, refl) (refl, (refl, refl)),
    )

-- and so can a list of them
all_any_possible : (s : State) (cs : List AnyCall) → (xs : List Answer) × (s' : State) × WorkedAny s cs xs s'
all_any_possible s [] = ([], s, any_done)
all_any_possible s (c ∷ cs) = let p = one_any_possible s c in let w = all_any_possible p.1 cs in (p.0 ∷ w.0, w.1, any_next p.2 w.2)

-- ---- undoing

-- table i of a state that has t for it
set_there : (i : ℕ) (t : Store) (s : State) → (set_table i t s).tables i ≡ t
set_there i t s = ap (λ (b : Bool). cond b t (s.tables i)) (eq-eqb i i refl)

-- an answer says its outcome
groups-given : {o p : Outcome ℕ} → groups_are o ≡ groups_are p → o ≡ p
groups-given e = cc

-- an add to the table t that is accepted, and the removal of the same columns
module _ (t : Store) (kind : Kind) (ks vs : List ℕ) (work_len n : ℕ) (e : add_outcome kind t.buffer t.groups ks vs work_len ≡ accepted n) where
  abbrev grown : Store
  grown = record { buffer = add_leaves kind t.buffer t.groups ks vs work_len; groups = n }

  added_is : after_add kind t ks vs work_len ≡ grown
  added_is = ap (λ (o : Outcome ℕ). after o (add_leaves kind t.buffer t.groups ks vs work_len) t.groups) e

  back : are_bytes t.buffer ≡ true → are_bytes ks ≡ true → raises_top (sections_in t) (patch_sections kind ks vs) ≡ false → lowers_finest (sections_in t) (patch_sections kind ks vs) ≡ false
      → (remove_answer kind grown ks vs work_len ≡ groups_are (accepted t.groups))
      × ((after_remove kind grown ks vs work_len).groups ≡ t.groups) × (used (after_remove kind grown ks vs work_len) ≡ used t)
  back bytes key-bytes no-higher no-finer =
      let u = card9.undone kind t.buffer t.groups ks vs work_len n bytes key-bytes e no-higher no-finer in
      let is = ap (λ (o : Outcome ℕ). after o (remove_leaves kind grown.buffer n ks vs work_len) n) u.0 in
      (ap groups_are u.0, ap (λ (y : Store). y.groups) is, ap used is ∙ u.1)

pub worked_removals_is : WorkedRemovalsIs
unfolding answer step answer_any step_any
worked_removals_is = record {
  called_any_is = steps_any;
  any_listed = listed;
  any_possible = all_any_possible;
  told_never_7 = λ w xs s p. ap (any_of (refuses 7)) (sym (listed (no_groups w.initial) w.calls xs s p).0) ∙ card9.any_never_7 w;
  totals_told = λ w xs s p i x t c.
      let is = table_is w xs s p i in
      let l = card9.totals_subtract w i in
      (l.0, sym (steps s (ask i totals) x t c).0 ∙ ap (λ (u : Store). ask_table u totals) is ∙ l.1 ∙ ap (λ (u : Store). totals_are (accepted (record { groups = u.groups; count = (account_of w i).brought - (account_of w i).removed }))) (sym is));
  remaining_told = λ w xs s p i k a t c.
      told_of (table_is w xs s p i) k (exact_sum (remaining_bits w i k)) (card9.exact_remaining w i k a) (steps s (ask i (exactness k)) (exactness_is (accepted true)) t c).0;
  undone_told = λ s s' s'' i kind ks vs b work_len n x c d bytes no-higher no-finer.
      let p = steps s (add i kind ks vs b work_len) (groups_are (accepted n)) s' c in
      let q = steps_any s' (remove i kind ks vs b work_len) x s'' d in
      let t = s.tables i in
      let e : add_outcome kind t.buffer t.groups ks vs work_len ≡ accepted n = groups-given p.0 in
      let is = ap (λ (u : State). u.tables i) (sym p.1) ∙ set_there i (after_add kind t ks vs work_len) s ∙ added_is t kind ks vs work_len n e in
      let left = ap (λ (u : State). u.tables i) (sym q.1) ∙ set_there i (after_remove kind (s'.tables i) ks vs work_len) s' ∙ ap (λ (y : Store). after_remove kind y ks vs work_len) is in
      let r = back t kind ks vs work_len n e bytes (is_true (are_bytes ks) b) no-higher no-finer in (
        sym q.0 ∙ ap (λ (y : Store). remove_answer kind y ks vs work_len) is ∙ r.0,
        ap (λ (y : Store). y.groups) left ∙ r.1,
        ap used left ∙ r.2,
      );
  removal_buffer_cleared = λ κs a z e l. l.1.1;
  girth_removal_buffer_cleared = λ κs a z e l. l.1.1;
}
