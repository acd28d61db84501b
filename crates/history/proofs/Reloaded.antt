-- A saved and reloaded table counts as the one it came from: its file stays on the shelf as it was, with the rows that were saved. The idea: two lists
-- of calls, one with the reloaded table for the other, are followed side by side (`RenamedCalls`), and the ledgers stay alike but for the name of that table.
use Prim.Native.Nat.{ℕ, ◌<◌}
use mathlib.Core.Path.{◌≡◌, refl, sym, ◌∙◌, ap, ap₂}
use mathlib.Core.Bool.{false}
use mathlib.Core.List.{List, [], ◌∷◌, ◌++◌}
use native.Mathlib.Omega.{arith}
use native.Mathlib.Decide.{ℕ_discrete}
use borrow.Author.Tests.{eq-eqb, ne_eqb, eqb-false}
use lib.Dec.{eqb}
use lib.ListN.{length, get_or, length-append, get_or-append}
use lib.Seq.{get_or-append_seam}
use Rattle.lists.specs.Lists.{any_of}
use Rattle.lists.proofs.Booleans.{both_false}
use Rattle.lists.proofs.All.{All, all_map, all_hold}
use Rattle.lists.proofs.Pairwise.{pairwise_length}
use Rattle.lists.proofs.Any.{any_false, any_false-append}
use Rattle.refusal.specs.Outcome.{Outcome, accepted, refused}
use Rattle.columns.specs.Columns.{Row}
use Rattle.history.specs.Calls.{Call, add, merge, ask, save, load, save_rows_outcome, load_rows_outcome, Ledger, no_rows, update, set_rows, replaced, shelved, step_rows, ledger_after}
use Rattle.history.specs.Beneath.{step_beneath, beneath_after}
use Rattle.history.specs.Run.{Answer, groups_are, sum_is, figure_is, line_is, exactness_is, totals_are, length_is, answer, answers, answer_rows, answers_rows}
use Rattle.history.specs.Demand3.{History, lengths, rows, beneath}
use Rattle.history.specs.Reloaded.{and_then, final_state, file_count, saving, reloading, SavedAndLoaded, named, uses, loads_into, exchange, Renamed, RenamedCalls, Reloaded}
use Rattle.history.proofs.Shelf.{FileHolds}
use Rattle.history.proofs.Calls.{answer_is, answers_by_rows}
use Rattle.history.proofs.Demand.{state_agrees}
use Rattle.history.proofs.Alike.{Alike, Names, after_alike, answers_alike}

-- ---- two lists of calls, one after the other
ledger_append : (len : ℕ → ℕ) (l : Ledger) (cs ds : List Call) → ledger_after len l (cs ++ ds) ≡ ledger_after len (ledger_after len l cs) ds
unfolding ledger_after
ledger_append len l [] ds = refl
ledger_append len l (c ∷ cs) ds = ledger_append len (step_rows len l c) cs ds

-- the ledger after a way of working
abbrev ledger : History → Ledger
ledger h = ledger_after (lengths h) no_rows h.calls

ledger_then : (h : History) (cs : List Call) → ledger (and_then h cs) ≡ ledger_after (lengths h) (ledger h) cs
ledger_then h cs = ledger_append (lengths h) no_rows h.calls cs

-- ---- the shelf
-- what is on the shelf stays there
module _ (n : ℕ) where
  record Stays (xs ys : List (List Row)) : Type 0 where
    still_there : n < length ys
    as_it_was : get_or ys n [] ≡ get_or xs n []

  shelved_stays : (o : Outcome ℕ) (x : List Row) (xs : List (List Row)) → n < length xs → Stays xs (shelved o x xs)
  shelved_stays (accepted k) x xs h = record { still_there = rw (length-append xs (x ∷ [])) (omega arith); as_it_was = get_or-append xs (x ∷ []) [] n h }
  shelved_stays (refused k) x xs h = record { still_there = h; as_it_was = refl }

  step_stays : (len : ℕ → ℕ) (l : Ledger) (c : Call) → n < length l.saved_rows → Stays l.saved_rows (step_rows len l c).saved_rows
  unfolding step_rows
  step_stays len l (add i kind ks vs b work_len) h = record { still_there = h; as_it_was = refl }
  step_stays len l (merge i j d) h = record { still_there = h; as_it_was = refl }
  step_stays len l (ask i q) h = record { still_there = h; as_it_was = refl }
  step_stays len l (save i out_len) h = shelved_stays (save_rows_outcome (l.rows i) out_len) (l.rows i) l.saved_rows h
  step_stays len l (load i k) h = record { still_there = h; as_it_was = refl }

  after_stays : (len : ℕ → ℕ) (l : Ledger) (cs : List Call) → n < length l.saved_rows → get_or (ledger_after len l cs).saved_rows n [] ≡ get_or l.saved_rows n []
  unfolding ledger_after
  after_stays len l [] h = refl
  after_stays len l (c ∷ cs) h = let s = step_stays len l c h in after_stays len (step_rows len l c) cs s.still_there ∙ s.as_it_was

-- ---- a table that no call names keeps its rows
module _ (i : ℕ) where
  not_named : (a : ℕ) → eqb i a ≡ false → (rs : List Row) (f : ℕ → List Row) → update a rs f i ≡ f i
  not_named a e rs f = rw e

  step_unused : (len : ℕ → ℕ) (l : Ledger) (c : Call) → All (λ (a : ℕ). eqb i a ≡ false) (named c) → (step_rows len l c).rows i ≡ l.rows i
  unfolding step_rows named
  step_unused len l (add a kind ks vs b work_len) u = not_named a u.0 _ l.rows
  step_unused len l (merge a b d) u = not_named a u.0 _ l.rows
  step_unused len l (ask a q) u = refl
  step_unused len l (save a out_len) u = refl
  step_unused len l (load a n) u = not_named a u.0 _ l.rows

  after_unused : (len : ℕ → ℕ) (l : Ledger) (cs : List Call) → any_of (uses i) cs ≡ false → (ledger_after len l cs).rows i ≡ l.rows i
  unfolding ledger_after any_of
  after_unused len l [] e = refl
  after_unused len l (c ∷ cs) e =
      let p = both_false (uses i c) (any_of (uses i) cs) e in
      after_unused len (step_rows len l c) cs p.1 ∙ step_unused len l c (any_false (eqb i) (named c) p.0)

-- ---- the outcome that an answer has
abbrev pub outcome_in : Answer → Outcome ℕ
outcome_in (groups_are o) = o
outcome_in (sum_is o) = refused 0
outcome_in (figure_is o) = refused 0
outcome_in (line_is o) = refused 0
outcome_in (exactness_is o) = refused 0
outcome_in (totals_are o) = refused 0
outcome_in (length_is o) = o

-- what a call answers after h, by the ledger
answer-after : (h : History) (c : Call) → answer (final_state h) c ≡ answer_rows (lengths h) (ledger h) c
answer-after h c = answer_is (lengths h) (beneath h) (final_state h) (ledger h) (state_agrees h) c

answers-after : (h : History) (cs : List Call) → answers (final_state h) cs ≡ answers_rows (lengths h) (ledger h) cs
answers-after h cs = answers_by_rows (lengths h) (beneath h) (final_state h) (ledger h) (state_agrees h) cs

-- ---- a table saved and loaded
module _ (h : History) (i out_len : ℕ) (between : List Call) (j : ℕ) (w : SavedAndLoaded h i out_len between j) where
  -- the ledgers right before the load, and right after it
  abbrev kept_ledger : Ledger
  kept_ledger = ledger (saving h i out_len between)

  abbrev new_ledger : Ledger
  new_ledger = ledger (reloading h i out_len between j)

  save_is : save_rows_outcome (rows h i) out_len ≡ accepted w.answered-length
  unfolding answer_rows
  save_is = ap outcome_in (sym (answer-after h (save i out_len)) ∙ w.save-accepted)

  load_is : load_rows_outcome (lengths h j) kept_ledger.saved_rows (file_count h) ≡ accepted w.answered-groups
  unfolding answer_rows
  load_is = ap outcome_in (sym (answer-after (saving h i out_len between) (load j (file_count h))) ∙ w.load-accepted)

  -- the file has the number of those before it, and the rows of the saved table
  on_shelf : get_or kept_ledger.saved_rows (file_count h) [] ≡ rows h i
  unfolding ledger_after step_rows
  on_shelf =
      let l = ledger h in
      let m = step_rows (lengths h) l (save i out_len) in
      let e : m.saved_rows ≡ l.saved_rows ++ rows h i ∷ [] = ap (λ (o : Outcome ℕ). shelved o (rows h i) l.saved_rows) save_is in
      let n : file_count h ≡ length l.saved_rows = pairwise_length FileHolds (final_state h).shelf l.saved_rows (state_agrees h).files in
      let room : length l.saved_rows < length m.saved_rows = rw (e, length-append l.saved_rows (rows h i ∷ [])) (omega arith) in
      ap₂ (λ (k : Ledger) (x : ℕ). get_or k.saved_rows x []) (ledger_then h (save i out_len ∷ between)) n
      ∙ after_stays (length l.saved_rows) (lengths h) m between room
      ∙ ap (λ (xs : List (List Row)). get_or xs (length l.saved_rows) []) e
      ∙ get_or-append_seam l.saved_rows (rows h i) [] []

  -- after the load table j has these rows, and nothing else changed
  new_is : new_ledger ≡ set_rows j (rows h i) kept_ledger
  unfolding ledger_after step_rows
  new_is =
      ledger_then (saving h i out_len between) (load j (file_count h) ∷ [])
      ∙ ap (λ (o : Outcome ℕ). set_rows j (replaced o (kept_ledger.rows j) (get_or kept_ledger.saved_rows (file_count h) [])) kept_ledger) load_is
      ∙ ap (λ (rs : List Row). set_rows j rs kept_ledger) on_shelf

  rows_back : rows (reloading h i out_len between j) j ≡ rows h i
  rows_back = ap (λ (l : Ledger). l.rows j) new_is ∙ rw (eq-eqb j j refl)

  -- the original has them too, where it was not used
  original_rows : any_of (uses i) between ≡ false → kept_ledger.rows i ≡ rows h i
  unfolding ledger_after step_rows
  original_rows u = ap (λ (l : Ledger). l.rows i) (ledger_then h (save i out_len ∷ between)) ∙ after_unused i (lengths h) (step_rows (lengths h) (ledger h) (save i out_len)) between u

-- ---- the numbers of two tables exchanged
module _ (i j : ℕ) where
  exchange_i : (k : ℕ) → k ≡ i → exchange i j k ≡ j
  unfolding exchange
  exchange_i k e = rw (eq-eqb k i e)

  exchange_j : (k : ℕ) → (k ≡ i → ⊥) → k ≡ j → exchange i j k ≡ i
  unfolding exchange
  exchange_j k n e = rw (ne_eqb k i n, eq-eqb k j e)

  exchange-other : (k : ℕ) → (k ≡ i → ⊥) → (k ≡ j → ⊥) → exchange i j k ≡ k
  unfolding exchange
  exchange-other k n m = rw (ne_eqb k i n, ne_eqb k j m)

  exchange-twice : (k : ℕ) → exchange i j (exchange i j k) ≡ k
  exchange-twice k = go (ℕ_discrete k i) (ℕ_discrete k j)
    where
      go : Dec (k ≡ i) → Dec (k ≡ j) → exchange i j (exchange i j k) ≡ k
      go (yes e) (yes f) = ap (exchange i j) (exchange_i k e ∙ sym f) ∙ exchange_i k e ∙ sym f
      go (yes e) (no f) = ap (exchange i j) (exchange_i k e) ∙ exchange_j j (λ q. f (e ∙ sym q)) refl ∙ sym e
      go (no e) (yes f) = ap (exchange i j) (exchange_j k e f) ∙ exchange_i i refl ∙ sym f
      go (no e) (no f) = ap (exchange i j) (exchange-other k e f) ∙ exchange-other k e f

  exchange_apart : (x y : ℕ) → exchange i j x ≡ exchange i j y → x ≡ y
  exchange_apart x y e = sym (exchange-twice x) ∙ ap (exchange i j) e ∙ exchange-twice y

-- ---- a list that does not name table i, and one that names any
flipped : (i a : ℕ) → eqb i a ≡ false → eqb a i ≡ false
flipped i a e = ne_eqb a i (λ q. eqb-false i a e (sym q))

others : (i : ℕ) (cs : List Call) → any_of (uses i) cs ≡ false → All (Names (λ (k : ℕ). eqb k i ≡ false)) cs
others i cs e =
    all_map _ _ (λ c u. all_map _ (λ (k : ℕ). eqb k i ≡ false) (flipped i) (named c) (any_false (eqb i) (named c) u)) cs (any_false (uses i) cs e)

renamed_self : (c : Call) → Renamed (λ (k : ℕ). k) c c
unfolding Renamed
renamed_self (add a kind ks vs b work_len) = refl
renamed_self (merge a b d) = (d, refl)
renamed_self (ask a q) = refl
renamed_self (save a out_len) = refl
renamed_self (load a n) = refl

all_self : (cs : List Call) → RenamedCalls (λ (k : ℕ). k) cs cs
unfolding RenamedCalls
all_self [] = tt
all_self (c ∷ cs) = (renamed_self c, all_self cs)

-- ---- two ways of working from the same start that go on alike
module _ (initial : ℕ → List ℕ) (before before' : List Call) where
  abbrev h : History
  h = record { initial = initial; calls = before }

  abbrev h' : History
  h' = record { initial = initial; calls = before' }

  follow : (σ : ℕ → ℕ) (Counts : ℕ → Type 0) → ((x y : ℕ) → σ x ≡ σ y → x ≡ y) → ((k : ℕ) → Counts k → lengths h k ≡ lengths h (σ k))
      → Alike σ Counts (ledger h) (ledger h') → (cs ds : List Call) → RenamedCalls σ cs ds → All (Names Counts) cs
      → ((k : ℕ) → Counts k → rows (and_then h cs) k ≡ rows (and_then h' ds) (σ k)) × (answers (final_state h) cs ≡ answers (final_state h') ds)
  follow σ Counts apart long a cs ds r p = (
    λ k q. ap (λ (x : Ledger). x.rows k) (ledger_then h cs)
        ∙ (after_alike (lengths h) σ Counts apart long (ledger h) (ledger h') a cs ds r p).same_rows k q
        ∙ sym (ap (λ (x : Ledger). x.rows (σ k)) (ledger_then h' ds)),
    answers-after h cs ∙ answers_alike (lengths h) σ Counts apart long (ledger h) (ledger h') a cs ds r p ∙ sym (answers-after h' ds),
  )

-- ---- the original not used further
same-lengths : (h : History) (i j : ℕ) → lengths h i ≡ lengths h j → (k : ℕ) → eqb k i ≡ false → lengths h k ≡ lengths h (exchange i j k)
same-lengths h i j same k p = go (ℕ_discrete k j)
  where
    go : Dec (k ≡ j) → lengths h k ≡ lengths h (exchange i j k)
    go (yes e) = ap (lengths h) e ∙ sym same ∙ ap (lengths h) (sym (exchange_j i j k (eqb-false k i p) e))
    go (no e) = ap (lengths h) (sym (exchange-other i j k (eqb-false k i p) e))

module _ (h : History) (i out_len : ℕ) (between : List Call) (j : ℕ) (w : SavedAndLoaded h i out_len between j) (u : any_of (uses i) between ≡ false) where
  alike : Alike (exchange i j) (λ (k : ℕ). eqb k i ≡ false) (ledger (reloading h i out_len between j)) (ledger (saving h i out_len between))
  alike = record { same_rows = λ k p. ap (λ (x : Ledger). x.rows k) (new_is h i out_len between j w) ∙ go k p (ℕ_discrete k j); same_saved = ap (λ (x : Ledger). x.saved_rows) (new_is h i out_len between j w) }
    where
      go : (k : ℕ) → eqb k i ≡ false → Dec (k ≡ j) → update j (rows h i) (rows (saving h i out_len between)) k ≡ rows (saving h i out_len between) (exchange i j k)
      go k p (yes e) = rw (eq-eqb k j e, exchange_j i j k (eqb-false k i p) e) (sym (original_rows h i out_len between j w u))
      go k p (no e) = rw (ne_eqb k j e, exchange-other i j k (eqb-false k i p) e)

-- ---- loaded over the original
module _ (h : History) (i out_len : ℕ) (between : List Call) (w : SavedAndLoaded h i out_len between i) (u : any_of (uses i) between ≡ false) where
  unchanged : Alike (λ (k : ℕ). k) (λ (k : ℕ). Unit {0}) (new_ledger h i out_len between i w) (kept_ledger h i out_len between i w)
  unchanged = record { same_rows = λ k p. ap (λ (x : Ledger). x.rows k) (new_is h i out_len between i w) ∙ go k (ℕ_discrete k i); same_saved = ap (λ (x : Ledger). x.saved_rows) (new_is h i out_len between i w) }
    where
      go : (k : ℕ) → Dec (k ≡ i) → update i (rows h i) (kept_ledger h i out_len between i w).rows k ≡ (kept_ledger h i out_len between i w).rows k
      go k (yes e) = rw (eq-eqb k i e, e) (sym (original_rows h i out_len between i w u))
      go k (no e) = rw (ne_eqb k i e)

-- ---- a table into which no file is loaded
beneath-kept : (i : ℕ) (len : ℕ → ℕ) (l : Ledger) (b : ℕ → List ℕ) (cs : List Call) → any_of (loads_into i) cs ≡ false → beneath_after len l b cs i ≡ b i
unfolding beneath_after step_beneath loads_into any_of
beneath-kept i len l b [] e = refl
beneath-kept i len l b (c ∷ cs) e =
    let p = both_false (loads_into i c) (any_of (loads_into i) cs) e in
    beneath-kept i len (step_rows len l c) (step_beneath len l b c) cs p.1 ∙ go c p.0
  where
    go : (c : Call) → loads_into i c ≡ false → step_beneath len l b c i ≡ b i
    go (add a kind ks vs d work_len) q = refl
    go (merge a d f) q = refl
    go (ask a x) q = refl
    go (save a out_len) q = refl
    go (load a n) q = rw q

pub reloaded : Reloaded
reloaded = record {
  rows_back = rows_back;
  counts_as = λ h i out_len between j w same further further' u r.
      let p = any_false-append (uses i) between further u in
      follow h.initial (reloading h i out_len between j).calls (saving h i out_len between).calls (exchange i j) (λ (k : ℕ). eqb k i ≡ false) (exchange_apart i j) (same-lengths h i j same)
      (alike h i out_len between j w p.0) further further' r (others i further p.1);
  over_original = λ h i out_len between w u further.
      let f =
      follow h.initial (reloading h i out_len between i).calls (saving h i out_len between).calls (λ (k : ℕ). k) (λ (k : ℕ). Unit {0}) (λ x y e. e) (λ k p. refl)
      (unchanged h i out_len between w u) further further (all_self further) (all_hold _ (λ c. all_hold _ (λ k. tt) (named c)) further) in
      (λ k. f.0 k tt, f.1);
  unloaded = λ h i e. beneath-kept i (lengths h) no_rows h.initial h.calls e;
}
