-- A way of working with older files goes along with the one in which all files are of this version: every call has the same outcome in both, and the tables are the
-- same but for finest powers that are 0, just in the sections that older files brought. So each claim is that of demand 3.
use Prim.Native.Nat.{ℕ, suc, ◌+◌, ◌≤◌, ◌<◌}
use mathlib.Core.Path.{◌≡◌, refl, sym, ap, ap₂, subst, ◌∙◌, fun_ext}
use mathlib.Core.Bool.{Bool, true, false, cond, ◌||◌}
use mathlib.Core.List.{List, [], ◌∷◌, ◌++◌, map}
use mathlib.Core.Option.{Option, none, some}
use native.Mathlib.Omega.{arith}
use native.Mathlib.Decide.{ℕ_discrete, dec_le, dec_lt}
use borrow.Author.Tests.{eq-eqb, ne_eqb, lt-ltb}
use lib.Dec.{ltb}
use lib.ListN.{length, length-append, get_or-eq_default, get_or-append, get_or}
use lib.Seq.{get_or-append_seam}
use Rattle.lists.specs.Lists.{any_of}
use Rattle.lists.proofs.Booleans.{never}
use Rattle.lists.proofs.Pairwise.{pairwise_length, pairwise_at}
use Rattle.codec.specs.Bytes.{number_at, number}
use Rattle.codec.specs.Cells.{cells, image}
use Rattle.refusal.specs.Outcome.{Outcome, accepted, refused, is_refusal}
use Rattle.columns.specs.Columns.{Row}
use Rattle.record.specs.Sound.{sound}
use Rattle.record.specs.Section.{Section, section_bytes, find, kept}
use Rattle.finish.specs.Exact.{answered_exact, exactness_of}
use Rattle.finish.proofs.Exact.{exact_power, power_exact}
use Rattle.checkpoint.specs.Saved.{saved_table}
use Rattle.checkpoint.specs.Calls.{save_outcome, load_outcome}
use Rattle.checkpoint.proofs.Saving.{save_only}
use Rattle.checkpoint.proofs.Loading.{load-2, load_untouched}
use Rattle.history.specs.Rows.{section_bits}
use Rattle.history.specs.Canonical.{section_if, canonical}
use Rattle.history.specs.Calls.{Question, sum, figure, line, exactness, totals, Call, add, merge, ask, save, load, save_rows_outcome, load_rows_outcome, Ledger, no_rows, update, replaced, shelved, step_rows}
use Rattle.history.specs.Run.{Store, State, no_groups, set_table, after_merge, after_load, shelf_after, file_on, step, state_after, Answer, groups_are, sum_is, figure_is, line_is, exactness_is, totals_are, length_is, ask_table, answer, answers, answer_rows, refuses}
use Rattle.history.specs.Beneath.{step_beneath}
use Rattle.history.specs.Demand3.{History, lengths, table, sections_in}
use Rattle.history.specs.Older.{with_finest, faded, Origins, none_older, set_older, brings, step_origins, origins_after, no_origins, from_older, older_file, OlderCall, ordinary, load-older, step_older, state_after_older, answer_older, answers_older, OlderHistory, renewed, renewed_history, older_table, older_rows, older_answers, but_exactness, OlderFiles}
use Rattle.history.proofs.Order.{canonical-same}
use Rattle.history.proofs.Canonical.{find-canonical}
use Rattle.history.proofs.Calls.{Agrees, step_agrees, answer_is}
use Rattle.history.proofs.Reloaded.{outcome_in}
use Rattle.history.proofs.Shelf.{FileHolds}
use Rattle.history.proofs.Demand.{start_agrees, holds_is, demand3}
use Rattle.history.proofs.Faded.{faded_if, blind_same, faded_option, Present}
use Rattle.history.proofs.Fades.{Fades, add_fades, add_same, ask-same, fades_none, found_here, merge_fades, merge-same, proper_sound, same_but_finest, same-totals}
use Rattle.history.proofs.FadedFiles.{FileFades, file-sections, load_fades, load_same, older_fades, save-same}

-- ---- two states

-- three shelves: what older files brought, and the files
record ShelfFades (ms : List (ℕ → Bool)) (fs fs' : List (List ℕ)) : Type 0 where
  count : length fs ≡ length fs'
  marks : length ms ≡ length fs'
  files : (n : ℕ) → n < length fs' → FileFades (get_or ms n none_older) (file_on fs n) (file_on fs' n)

-- one more on each, where a save is accepted
shelf_more : (ms : List (ℕ → Bool)) (fs fs' : List (List ℕ)) → ShelfFades ms fs fs' → (o : Outcome ℕ) (m : ℕ → Bool) (g g' : List ℕ) → ((n : ℕ) → o ≡ accepted n → FileFades m g g')
    → ShelfFades (shelved o m ms) (shelved o g fs) (shelved o g' fs')
shelf_more ms fs fs' a (accepted n) m g g' x =
    let c = a.count in
    let d = a.marks in
    record {
      count = rw (length-append fs (g ∷ []), length-append fs' (g' ∷ [])) (omega arith);
      marks = rw (length-append ms (m ∷ []), length-append fs' (g' ∷ [])) (omega arith);
      files = λ k l. go k (rw (length-append fs' (g' ∷ [])) at l) (dec_lt k (length fs'));
    }
  where
    go : (k : ℕ) → k < length fs' + 1 → Dec (k < length fs') → FileFades (get_or (ms ++ m ∷ []) k none_older) (get_or (fs ++ g ∷ []) k []) (get_or (fs' ++ g' ∷ []) k [])
    go k l (yes h) =
        let c = a.count in
        let d = a.marks in
        rw (get_or-append ms (m ∷ []) none_older k (omega arith), get_or-append fs (g ∷ []) [] k (omega arith), get_or-append fs' (g' ∷ []) [] k h) (a.files k h)
    go k l (no h) =
        let c = a.count in
        let d = a.marks in
        let e : k ≡ length fs' = omega arith in
        rw (
          ap (λ (x : ℕ). get_or (ms ++ m ∷ []) x none_older) (e ∙ sym d) ∙ get_or-append_seam ms m [] none_older,
          ap (λ (x : ℕ). get_or (fs ++ g ∷ []) x []) (e ∙ sym c) ∙ get_or-append_seam fs g [] [],
          ap (λ (x : ℕ). get_or (fs' ++ g' ∷ []) x []) e ∙ get_or-append_seam fs' g' [] [],
        )
        (x n refl)
shelf_more ms fs fs' a (refused n) m g g' x = a

-- each table of s holds what that of s' holds, but for the finest powers of the sections that older files brought, and so does each file
record StateFades (o : Origins) (s s' : State) : Type 0 where
  tables : (i : ℕ) → Fades (o.older i) (s.tables i) (s'.tables i)
  shelves : ShelfFades o.saved_older s.shelf s'.shelf

-- the load of an empty file changes nothing
pub empty-load : (t : Store) → after_load t [] ≡ t
empty-load t = let e = load-2 [] (length t.buffer) (omega arith) in rw (e, load_untouched [] t.buffer e)

pub older-empty : older_file [] ≡ []
unfolding cells image number_at number
older-empty = refl

-- a section stands in a file's table just where one of its rows has its number
brings-none : (rs : List Row) → Present (brings rs) (canonical rs)
unfolding section_if
brings-none rs k e = go (section_bits k rs) (sym (find-canonical k rs) ∙ e)
  where
    go : (bs : List ℕ) → section_if k bs ≡ none → ltb 0 (length bs) ≡ false
    go [] q = refl
    go (b ∷ bs) q = never cc

brings-some : (rs : List Row) (k : ℕ) (s : Section) → find k (canonical rs) ≡ some s → brings rs k ≡ true
unfolding section_if
brings-some rs k s e = go (section_bits k rs) (sym (find-canonical k rs) ∙ e)
  where
    go : (bs : List ℕ) → section_if k bs ≡ some s → ltb 0 (length bs) ≡ true
    go [] q = never cc
    go (b ∷ bs) q = lt-ltb 0 (suc (length bs)) (omega arith)

-- a step of both, where the state s' is that of the ledger l
module _ (len : ℕ → ℕ) (b : ℕ → List ℕ) (l : Ledger) (o : Origins) (s s' : State) (a : Agrees len b s' l) (w : StateFades o s s') where
  -- table i changed, and what older files brought of it
  put_fades : (p : ℕ → ℕ → Bool) (i : ℕ) (t u : Store) → Fades (p i) t u → ((j : ℕ) → (j ≡ i → ⊥) → p j ≡ o.older j)
      → StateFades (record { older = p; saved_older = o.saved_older }) (set_table i t s) (set_table i u s')
  put_fades p i t u x others = record { tables = λ j. go j (ℕ_discrete j i); shelves = w.shelves }
    where
      go : (j : ℕ) → Dec (j ≡ i) → Fades (p j) (update i t s.tables j) (update i u s'.tables j)
      go j (yes q) = rw (eq-eqb j i q, q) x
      go j (no q) = rw (ne_eqb j i q, others j q) (w.tables j)

  set_fades : (i : ℕ) (f : ℕ → Bool) (t u : Store) → Fades f t u → StateFades (set_older i f o) (set_table i t s) (set_table i u s')
  set_fades i f t u x = put_fades (update i f o.older) i t u (rw (eq-eqb i i refl) x) (λ j q. rw (ne_eqb j i q))

  -- the outcome of a load of file n by the ledger
  load_is : (i n : ℕ) → load_outcome (file_on s'.shelf n) (length (s'.tables i).buffer) ≡ load_rows_outcome (len i) l.saved_rows n
  unfolding answer answer_rows
  load_is i n = ap outcome_in (answer_is len b s' l a (load i n))

  -- a load into table i of file n, as it is or as an older version wrote it
  module _ (i n : ℕ) (g : List ℕ) (f : ℕ → Bool) (there : n < length s'.shelf → FileFades f g (file_on s'.shelf n)) (gone : length s'.shelf ≤ n → g ≡ []) where
    abbrev t : Store
    t = s.tables i

    abbrev u : Store
    u = s'.tables i

    gone_other : length s'.shelf ≤ n → file_on s'.shelf n ≡ []
    gone_other h = get_or-eq_default s'.shelf [] {n = n} h

    any_load_same : load_outcome g (length t.buffer) ≡ load_outcome (file_on s'.shelf n) (length u.buffer)
    any_load_same = go (dec_le (length s'.shelf) n)
      where
        go : Dec (length s'.shelf ≤ n) → load_outcome g (length t.buffer) ≡ load_outcome (file_on s'.shelf n) (length u.buffer)
        go (yes h) = rw (gone h, gone_other h, (w.tables i).same_length)
        go (no h) = load_same (o.older i) t u (w.tables i) f g (file_on s'.shelf n) (there (omega arith))

    any_load_fades : Fades (replaced (load_rows_outcome (len i) l.saved_rows n) (o.older i) f) (after_load t g) (after_load u (file_on s'.shelf n))
    any_load_fades = subst (λ (p : Outcome ℕ). Fades (replaced p (o.older i) f) (after_load t g) (after_load u (file_on s'.shelf n))) (load_is i n) (go (dec_le (length s'.shelf) n))
      where
        go : Dec (length s'.shelf ≤ n) → Fades (replaced (load_outcome (file_on s'.shelf n) (length u.buffer)) (o.older i) f) (after_load t g) (after_load u (file_on s'.shelf n))
        go (yes h) = rw (gone h, gone_other h, empty-load t, empty-load u, load-2 [] (length u.buffer) (omega arith)) (w.tables i)
        go (no h) = load_fades (o.older i) t u (w.tables i) f g (file_on s'.shelf n) (there (omega arith))

  gone_here : (n : ℕ) → length s'.shelf ≤ n → file_on s.shelf n ≡ []
  gone_here n h = let c = w.shelves.count in get_or-eq_default s.shelf [] {n = n} (omega arith)

  -- file n as an older version wrote it
  older_there : (n : ℕ) → n < length s'.shelf → FileFades (brings (get_or l.saved_rows n [])) (older_file (file_on s.shelf n)) (file_on s'.shelf n)
  older_there n h =
      let x = w.shelves.files n h in
      let rs = get_or l.saved_rows n [] in
      let y = pairwise_at FileHolds s'.shelf l.saved_rows n [] [] a.files (rw (sym (pairwise_length FileHolds s'.shelf l.saved_rows a.files)) h) in
      let same : sections_in x.other ≡ canonical rs =
      sym (file-sections x.other x.fades.other (rw (sym x.fades.groups) x.few) (file_on s'.shelf n) x.is_other)
      ∙ file-sections y.store y.holds.table y.few (file_on s'.shelf n) y.is_file ∙ y.holds.has-sections in
      older_fades _ (file_on s.shelf n) (file_on s'.shelf n) x (brings rs) (rw same (brings-none rs)) (rw same (brings-some rs))

  -- the older file of none is none
  older_gone : (n : ℕ) → length s'.shelf ≤ n → older_file (file_on s.shelf n) ≡ []
  older_gone n h = ap older_file (gone_here n h) ∙ older-empty

  step_fades : (c : OlderCall) → StateFades (step_origins len l o c) (step_older s c) (step s' (renewed c))
  unfolding step_older step step_origins answer answer_rows
  step_fades (ordinary (add i kind ks vs d work_len)) = put_fades o.older i _ _ (add_fades (o.older i) (s.tables i) (s'.tables i) (w.tables i) kind ks vs work_len d) (λ j q. refl)
  step_fades (ordinary (merge i j d)) =
      set_fades i _ _ _
      (subst (λ (p : Outcome ℕ). Fades (replaced p (o.older i) (λ k. o.older i k || o.older j k)) (after_merge (s.tables i) (s.tables j)) (after_merge (s'.tables i) (s'.tables j)))
      (ap outcome_in (answer_is len b s' l a (merge i j d)))
      (merge_fades (o.older i) (s.tables i) (s'.tables i) (w.tables i) (o.older j) (s.tables j) (s'.tables j) (w.tables j)))
  step_fades (ordinary (ask i q)) = w
  step_fades (ordinary (save i out_len)) =
      let t = s.tables i in
      let u = s'.tables i in
      let x = w.tables i in
      let p = save_outcome u.buffer u.groups out_len in
      let e : p ≡ save_rows_outcome (l.rows i) out_len = ap outcome_in (answer_is len b s' l a (save i out_len)) in
      record {
        tables = w.tables;
        shelves = subst (λ (q : Outcome ℕ). ShelfFades (shelved q (o.older i) o.saved_older) (shelf_after t out_len s.shelf) (shelf_after u out_len s'.shelf)) e
            (rw (save-same (o.older i) t u x out_len)
            (shelf_more o.saved_older s.shelf s'.shelf w.shelves p (o.older i) (saved_table t.buffer t.groups) (saved_table u.buffer u.groups)
            (λ n q. record { store = t; other = u; fades = x; few = (save_only t.buffer t.groups out_len (save-same (o.older i) t u x out_len ∙ q)).few_groups; is_file = refl; is_other = refl })));
      }
  step_fades (ordinary (load i n)) = set_fades i _ _ _ (any_load_fades i n (file_on s.shelf n) (get_or o.saved_older n none_older) (w.shelves.files n) (gone_here n))
  step_fades (load-older i n) = set_fades i _ _ _ (any_load_fades i n (older_file (file_on s.shelf n)) (brings (get_or l.saved_rows n [])) (older_there n) (older_gone n))

  answer-same : (c : OlderCall) → but_exactness (answer_older s c) ≡ but_exactness (answer s' (renewed c))
  unfolding answer_older answer
  answer-same (ordinary (add i kind ks vs d work_len)) = ap groups_are (add_same (o.older i) (s.tables i) (s'.tables i) (w.tables i) kind ks vs work_len)
  answer-same (ordinary (merge i j d)) = ap groups_are (merge-same (o.older i) (s.tables i) (s'.tables i) (w.tables i) (o.older j) (s.tables j) (s'.tables j) (w.tables j))
  answer-same (ordinary (ask i q)) = ask-same (o.older i) (s.tables i) (s'.tables i) (w.tables i) q
  answer-same (ordinary (save i out_len)) = ap length_is (save-same (o.older i) (s.tables i) (s'.tables i) (w.tables i) out_len)
  answer-same (ordinary (load i n)) = ap groups_are (any_load_same i n (file_on s.shelf n) (get_or o.saved_older n none_older) (w.shelves.files n) (gone_here n))
  answer-same (load-older i n) = ap groups_are (any_load_same i n (older_file (file_on s.shelf n)) (brings (get_or l.saved_rows n [])) (older_there n) (older_gone n))

-- ---- lists of calls
module _ (len : ℕ → ℕ) where
  state_fades : (b : ℕ → List ℕ) (l : Ledger) (o : Origins) (s s' : State) → Agrees len b s' l → StateFades o s s' → (cs : List OlderCall)
      → StateFades (origins_after len l o cs) (state_after_older s cs) (state_after s' (map renewed cs))
  unfolding origins_after state_after_older state_after
  state_fades b l o s s' a w [] = w
  state_fades b l o s s' a w (c ∷ cs) =
      state_fades (step_beneath len l b (renewed c)) (step_rows len l (renewed c)) (step_origins len l o c) (step_older s c) (step s' (renewed c))
      (step_agrees len b s' l a (renewed c)) (step_fades len b l o s s' a w c) cs

  answers-same : (b : ℕ → List ℕ) (l : Ledger) (o : Origins) (s s' : State) → Agrees len b s' l → StateFades o s s' → (cs : List OlderCall)
      → map but_exactness (answers_older s cs) ≡ map but_exactness (answers s' (map renewed cs))
  unfolding answers_older answers
  answers-same b l o s s' a w [] = refl
  answers-same b l o s s' a w (c ∷ cs) =
      ap₂ ◌∷◌ (answer-same len b l o s s' a w c)
      (answers-same (step_beneath len l b (renewed c)) (step_rows len l (renewed c)) (step_origins len l o c) (step_older s c) (step s' (renewed c))
      (step_agrees len b s' l a (renewed c)) (step_fades len b l o s s' a w c) cs)

-- without a load of an older file
without_older : (s : State) (cs : List Call) → (state_after_older s (map ordinary cs) ≡ state_after s cs) × (answers_older s (map ordinary cs) ≡ answers s cs)
unfolding state_after_older state_after answers_older answers step_older answer_older
without_older s [] = (refl, refl)
without_older s (c ∷ cs) = let w = without_older (step s c) cs in (w.0, ap (λ (xs : List Answer). answer s c ∷ xs) w.1)

-- 7 stays 7
refuses_but : (n : ℕ) (xs : List Answer) → any_of (refuses n) (map but_exactness xs) ≡ any_of (refuses n) xs
unfolding any_of is_refusal
refuses_but n [] = refl
refuses_but n (x ∷ xs) = ap₂ (λ (b c : Bool). b || c) (go x) (refuses_but n xs)
  where
    go : (x : Answer) → refuses n (but_exactness x) ≡ refuses n x
    go (groups_are o) = refl
    go (sum_is o) = refl
    go (figure_is o) = refl
    go (line_is o) = refl
    go (exactness_is (accepted b)) = refl
    go (exactness_is (refused m)) = refl
    go (totals_are o) = refl
    go (length_is o) = refl

-- tables with the same sections answer alike
ask_alike : (t u : Store) → sound t.buffer t.groups ≡ true → sound u.buffer u.groups ≡ true → sections_in t ≡ sections_in u → (q : Question) → ask_table t q ≡ ask_table u q
unfolding ask_table
ask_alike t u a b e (sum k) = rw (a, b, e)
ask_alike t u a b e (figure k) = rw (a, b, e)
ask_alike t u a b e (line k) = rw (a, b, e)
ask_alike t u a b e (exactness k) = rw (a, b, e)
ask_alike t u a b e totals = rw (a, b, e)

-- ---- after such a way of working, beside the one with files of this version
module _ (h : OlderHistory) where
  abbrev new : History
  new = renewed_history h

  start_fades : StateFades no_origins (no_groups h.initial) (no_groups h.initial)
  start_fades = record { tables = λ i. fades_none (h.initial i); shelves = record { count = refl; marks = refl; files = λ n l. absurd (omega arith) } }

  -- the answers, but for exactness
  answers_here : map but_exactness (older_answers h) ≡ map but_exactness (answers (no_groups h.initial) (map renewed h.calls))
  answers_here = answers-same (lengths new) h.initial no_rows no_origins (no_groups h.initial) (no_groups h.initial) (start_agrees new) start_fades h.calls

  module _ (i : ℕ) where
    fades_here : Fades (from_older h i) (older_table h i) (table new i)
    fades_here = (state_fades (lengths new) h.initial no_rows no_origins (no_groups h.initial) (no_groups h.initial) (start_agrees new) start_fades h.calls).tables i

    sections_here : sections_in (older_table h i) ≡ map (faded (from_older h i)) (canonical (older_rows h i))
    sections_here = fades_here.held ∙ ap (map (faded (from_older h i))) (holds_is new i).has-sections

    but_finest_here : map (with_finest 0) (sections_in (older_table h i)) ≡ map (with_finest 0) (canonical (older_rows h i))
    but_finest_here = same_but_finest (from_older h i) (sections_in (older_table h i)) (canonical (older_rows h i)) sections_here

    sound_here : sound (older_table h i).buffer (older_table h i).groups ≡ true
    sound_here = proper_sound (older_table h i) fades_here.table

    -- the section that is found is that of the other, faded
    section_here : (k : ℕ) (s : Section) → find k (sections_in (table new i)) ≡ some s → find k (sections_in (older_table h i)) ≡ some (faded_if (from_older h i k) s)
    section_here k s e = found_here (from_older h i) (older_table h i) (table new i) fades_here k ∙ ap (faded_option (from_older h i k)) e

    -- an answer of exact here is one there
    exact_there : (k : ℕ) → ask_table (older_table h i) (exactness k) ≡ exactness_is (accepted true) → ask_table (table new i) (exactness k) ≡ exactness_is (accepted true)
    unfolding ask_table
    exact_there k =
        rw (sound_here, proper_sound (table new i) fades_here.other, found_here (from_older h i) (older_table h i) (table new i) fades_here k)
        (go (from_older h i k) (find k (sections_in (table new i))))
      where
        go : (b : Bool) (o : Option Section) → exactness_is (exactness_of (faded_option b o)) ≡ exactness_is (accepted true) → exactness_is (exactness_of o) ≡ exactness_is (accepted true)
        go b none e = e
        go true (some s) e =
            let x : answered_exact (with_finest 0 s) ≡ true = cc in
            ap (λ (b : Bool). exactness_is (accepted b)) (power_exact s (omega (arith, exact_power (with_finest 0 s) x)))
        go false (some s) e = e

kept_same : (s : Section) (b : Bool) → kept (faded_if b s) ≡ kept s
unfolding kept
kept_same s b = blind_same kept s refl b

finest-faded : (s : Section) (b : Bool) → (faded_if b s).finest ≡ cond b 0 s.finest
finest-faded s true = refl
finest-faded s false = refl

pub older_files : OlderFiles
older_files = record {
  without_older = without_older;
  older-sound = sound_here;
  older-used = λ h i. (fades_here h i).used_are ∙ ap section_bytes (sections_here h i);
  older-groups = λ h i. (fades_here h i).groups ∙ (holds_is (renewed_history h) i).groups;
  older-answered = λ h. answers_here h ∙ ap (map but_exactness) (demand3.answered (renewed_history h));
  older_never_7 = λ h.
      sym (refuses_but 7 (older_answers h)) ∙ ap (any_of (refuses 7)) (answers_here h)
      ∙ refuses_but 7 (answers (no_groups h.initial) (map renewed h.calls)) ∙ demand3.never_7 (renewed_history h);
  older-bytes = λ h h' i j e.
      ap section_bytes (but_finest_here h i ∙ ap (map (with_finest 0)) (canonical-same (older_rows h i) (older_rows h' j) e) ∙ sym (but_finest_here h' j));
  older-answer = λ h h' i j q e.
      ask-same (from_older h i) (older_table h i) (table (renewed_history h) i) (fades_here h i) q
      ∙ ap but_exactness (demand3.same_answer (renewed_history h) (renewed_history h') i j q e)
      ∙ sym (ask-same (from_older h' j) (older_table h' j) (table (renewed_history h') j) (fades_here h' j) q);
  older-same = λ h h' i j e f.
      let same : sections_in (older_table h i) ≡ sections_in (older_table h' j) =
      sections_here h i ∙ ap₂ (λ (g : ℕ → Bool) (ts : List Section). map (faded g) ts) (fun_ext f) (canonical-same (older_rows h i) (older_rows h' j) e) ∙ sym (sections_here h' j) in
      ((fades_here h i).used_are ∙ ap section_bytes same ∙ sym (fades_here h' j).used_are, ask_alike (older_table h i) (older_table h' j) (sound_here h i) (sound_here h' j) same);
  older-counted = λ h i.
      same-totals (from_older h i) (sections_in (older_table h i)) (sections_in (table (renewed_history h) i)) (fades_here h i).held ∙ demand3.counted (renewed_history h) i;
  older-absent = λ h i k e.
      found_here (from_older h i) (older_table h i) (table (renewed_history h) i) (fades_here h i) k ∙ ap (faded_option (from_older h i k)) (demand3.absent (renewed_history h) i k e);
  older-present = λ h i k l.
      let w = demand3.present (renewed_history h) i k l in
      let b = from_older h i k in (
        faded_if b w.0,
        section_here h i k w.0 w.1,
        blind_same (λ (s : Section). s.count) w.0 refl b ∙ w.2,
        finest-faded w.0 b ∙ ap (cond b 0) w.3,
        rw (kept_same w.0 b) w.4,
      );
  older_exact = λ h i k e.
      let w = demand3.exact_kept (renewed_history h) i k (exact_there h i k e) in
      (faded_if (from_older h i k) w.0, section_here h i k w.0 w.1, kept_same w.0 (from_older h i k) ∙ w.2);
}
