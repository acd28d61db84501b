-- Two tables of which the one holds what the other holds, but for finest powers that are 0. The idea: adding, merging and asking have the same outcome on both, and
-- adding and merging leave two such tables.
use Prim.Native.Nat.{ℕ, ◌+◌, ◌*◌}
use mathlib.Core.Path.{◌≡◌, refl, sym, ap, ap₂, subst, ◌∙◌}
use mathlib.Core.Bool.{Bool, true, ◌||◌}
use mathlib.Core.List.{List, ◌∷◌, map}
use mathlib.Core.Option.{Option, some}
use lib.Dec.{T}
use lib.Ieee.Bits.{is_true}
use lib.ListN.{length, take, length-map}
use lib.Pow.{are_bytes}
use Rattle.lists.specs.Lists.{any_of}
use Rattle.codec.specs.Cells.{cells, image}
use Rattle.codec.proofs.Laws.{are_bytes_lem}
use Rattle.refusal.specs.Outcome.{Outcome, accepted, refused}
use Rattle.refusal.proofs.Outcomes.{accepted≢refused}
use Rattle.columns.specs.declared.Kind.{Kind}
use Rattle.columns.specs.Columns.{rows_of}
use Rattle.record.specs.Sound.{sound}
use Rattle.record.specs.Section.{Section, section_bytes, written, find, kept}
use Rattle.table.specs.Combine.{added, merged}
use Rattle.table.specs.Calls.{overflows, leaves, add_sections, column_grounds, add_grounds, add_outcome, merge_sections, merge_grounds, merge_outcome}
use Rattle.table.proofs.Lookup.{Rising, keys_in}
use Rattle.table.proofs.Bytes.{used-written}
use Rattle.table.proofs.State.{sound-rising}
use Rattle.table.proofs.Accepted.{ProperTable, proper_none, AcceptedTable, add_left, merge-left}
use Rattle.finish.specs.Finish.{sum_of, figure_of, line_of, finishing}
use Rattle.finish.specs.Exact.{exactness_of}
use Rattle.totals.specs.Totals.{row_total, table_totals}
use Rattle.history.specs.Calls.{Question, sum, figure, line, exactness, totals, replaced}
use Rattle.history.specs.Run.{Store, after, after_add, after_merge, sum_is, figure_is, line_is, exactness_is, ask_table}
use Rattle.history.specs.Demand3.{used, sections_in}
use Rattle.history.specs.Older.{with_finest, faded, none_older, but_exactness}
use Rattle.history.proofs.Faded.{faded_option, Present, find-faded, merged-faded, merged-present, added-faded, worked_same, found_same}

-- table t holds what table u holds, but for the finest powers of the sections that f has, which are 0
pub record Fades (f : ℕ → Bool) (t u : Store) : Type 0 where
  pub table : ProperTable t.buffer t.groups
  pub other : ProperTable u.buffer u.groups
  pub groups : t.groups ≡ u.groups
  pub same_length : length t.buffer ≡ length u.buffer
  pub held : sections_in t ≡ map (faded f) (sections_in u)
  pub present : Present f (sections_in u)
  pub used_are : used t ≡ section_bytes (sections_in t)

pub proper_sound : (t : Store) → ProperTable t.buffer t.groups → sound t.buffer t.groups ≡ true
proper_sound t p = is_true (sound t.buffer t.groups) p.is_sound_lem

pub proper_rising : (t : Store) → ProperTable t.buffer t.groups → Rising (keys_in (sections_in t))
proper_rising t p = sound-rising t.buffer t.groups p.is_sound_lem

pub fades_none : (s : List ℕ) → Fades none_older (record { buffer = s; groups = 0 }) (record { buffer = s; groups = 0 })
unfolding cells image
fades_none s = record { table = proper_none s; other = proper_none s; groups = refl; same_length = refl; held = refl; present = λ k e. refl; used_are = refl }

-- what their sections decide without finest powers
module _ (f : ℕ → Bool) (ts us : List Section) (e : ts ≡ map (faded f) us) where
  same_count : length ts ≡ length us
  same_count = ap length e ∙ length-map us (faded f)

  same-overflows : any_of overflows ts ≡ any_of overflows us
  unfolding any_of
  same-overflows = ap (any_of overflows) e ∙ worked_same (any_of overflows) (λ s b. overflows s || b) (λ s ss. refl) (λ s b. refl) f us

  pub same-totals : table_totals ts ≡ table_totals us
  unfolding row_total
  same-totals =
      let n = same_count in
      let r = ap row_total e ∙ worked_same row_total (λ s m. s.count + m) (λ s ss. refl) (λ s m. refl) f us in
      λ i. record { groups = n i; count = r i }

  pub same_but_finest : map (with_finest 0) ts ≡ map (with_finest 0) us
  same_but_finest = ap (map (with_finest 0)) e ∙ worked_same (map (with_finest 0)) (λ s l. with_finest 0 s ∷ l) (λ s ss. refl) (λ s l. refl) f us

module _ (f : ℕ → Bool) (t u : Store) (w : Fades f t u) where
  -- after calls with the same outcome that would give them the sections ts and us
  after_fades : (g : ℕ → Bool) (ts us : List Section) → ts ≡ map (faded g) us → Present g us → (o p : Outcome ℕ) → o ≡ p
      → ((n : ℕ) → o ≡ accepted n → AcceptedTable t.buffer ts (leaves o ts t.buffer) n)
      → ((n : ℕ) → p ≡ accepted n → AcceptedTable u.buffer us (leaves p us u.buffer) n)
      → Fades (replaced p f g) (after o (leaves o ts t.buffer) t.groups) (after p (leaves p us u.buffer) u.groups)
  after_fades g ts us h i (accepted n) (accepted m) e x y =
      let a = x n refl in
      let b = y m refl in
      let q : n ≡ m = cc in
      record {
        table = a.table;
        other = b.table;
        groups = q;
        same_length = a.same_length ∙ w.same_length ∙ sym b.same_length;
        held = a.has-sections ∙ h ∙ ap (map (faded g)) (sym b.has-sections);
        present = rw b.has-sections i;
        used_are = ap (λ (k : ℕ). take (64 * k) (written ts t.buffer)) (sym a.groups) ∙ used-written ts t.buffer ∙ ap section_bytes (sym a.has-sections);
      }
  after_fades g ts us h i (accepted n) (refused m) e x y = absurd (accepted≢refused (sym e))
  after_fades g ts us h i (refused n) (accepted m) e x y = absurd (accepted≢refused e)
  after_fades g ts us h i (refused n) (refused m) e x y = w

  module _ (kind : Kind) (ks vs : List ℕ) (work_len : ℕ) where
    abbrev new_here : List Section
    new_here = add_sections kind t.buffer t.groups ks vs

    abbrev new_there : List Section
    new_there = add_sections kind u.buffer u.groups ks vs

    add-sections : (new_here ≡ map (faded f) new_there) × Present f new_there
    add-sections =
        let a = added-faded f (sections_in u) (rows_of kind ks vs) (proper_rising u w.other) w.present in
        (ap (λ (ts : List Section). added ts (rows_of kind ks vs)) w.held ∙ a.0, a.1)

    pub add_same : add_outcome kind t.buffer t.groups ks vs work_len ≡ add_outcome kind u.buffer u.groups ks vs work_len
    unfolding add_grounds column_grounds
    add_same =
        rw (
          proper_sound t w.table,
          proper_sound u w.other,
          w.same_length,
          same-overflows f new_here new_there add-sections.0,
          same_count f new_here new_there add-sections.0,
        )

    pub add_fades : T (are_bytes ks) → Fades f (after_add kind t ks vs work_len) (after_add kind u ks vs work_len)
    add_fades b =
        subst (λ (x : ℕ → Bool). Fades x (after_add kind t ks vs work_len) (after_add kind u ks vs work_len)) (unchanged (add_outcome kind u.buffer u.groups ks vs work_len))
        (after_fades f new_here new_there add-sections.0 add-sections.1 _ _ add_same
        (λ n. add_left t.buffer t.groups w.table kind ks vs work_len (are_bytes_lem ks b)) (λ n. add_left u.buffer u.groups w.other kind ks vs work_len (are_bytes_lem ks b)))
      where
        unchanged : (o : Outcome ℕ) → replaced o f f ≡ f
        unchanged (accepted n) = refl
        unchanged (refused n) = refl

  module _ (f' : ℕ → Bool) (t' u' : Store) (w' : Fades f' t' u') where
    abbrev both : ℕ → Bool
    both k = f k || f' k

    abbrev all_here : List Section
    all_here = merge_sections t.buffer t.groups t'.buffer t'.groups

    abbrev all_there : List Section
    all_there = merge_sections u.buffer u.groups u'.buffer u'.groups

    merge-sections : all_here ≡ map (faded both) all_there
    merge-sections =
        ap₂ merged w.held w'.held
        ∙ merged-faded f f' (sections_in u) (sections_in u') (proper_rising u w.other) (proper_rising u' w'.other) w.present w'.present

    pub merge-same : merge_outcome t.buffer t.groups t'.buffer t'.groups ≡ merge_outcome u.buffer u.groups u'.buffer u'.groups
    unfolding merge_grounds
    merge-same =
        rw (
          proper_sound t w.table,
          proper_sound u w.other,
          proper_sound t' w'.table,
          proper_sound u' w'.other,
          w.same_length,
          same-overflows both all_here all_there merge-sections,
          same_count both all_here all_there merge-sections,
        )

    pub merge_fades : Fades (replaced (merge_outcome u.buffer u.groups u'.buffer u'.groups) f both) (after_merge t t') (after_merge u u')
    merge_fades =
        after_fades both all_here all_there merge-sections
        (merged-present f f' (sections_in u) (sections_in u') (proper_rising u w.other) (proper_rising u' w'.other) w.present w'.present) _ _ merge-same
        (λ n. merge-left t.buffer t.groups w.table t'.buffer t'.groups w'.table) (λ n. merge-left u.buffer u.groups w.other u'.buffer u'.groups w'.other)

  pub found_here : (k : ℕ) → find k (sections_in t) ≡ faded_option (f k) (find k (sections_in u))
  found_here k = ap (find k) w.held ∙ find-faded f k (sections_in u)

  -- every question is answered alike, but for exactness
  finishing-same : {A B : Type 0} (F : Option Section → Outcome A) (G : Outcome A → B) → ((s : Section) → G (F (some (with_finest 0 s))) ≡ G (F (some s))) → (k : ℕ)
      → G (finishing F t.buffer t.groups k) ≡ G (finishing F u.buffer u.groups k)
  finishing-same F G blind k =
      rw (proper_sound t w.table, proper_sound u w.other, found_here k) (found_same (λ (o : Option Section). G (F o)) blind (f k) (find k (sections_in u)))

  pub ask-same : (q : Question) → but_exactness (ask_table t q) ≡ but_exactness (ask_table u q)
  unfolding ask_table kept
  ask-same (sum k) = finishing-same sum_of sum_is (λ s. refl) k
  ask-same (figure k) = finishing-same figure_of figure_is (λ s. refl) k
  ask-same (line k) = finishing-same line_of line_is (λ s. refl) k
  ask-same (exactness k) = finishing-same exactness_of (λ o. but_exactness (exactness_is o)) (λ s. refl) k
  ask-same totals = rw (proper_sound t w.table, proper_sound u w.other, same-totals f (sections_in t) (sections_in u) w.held)
