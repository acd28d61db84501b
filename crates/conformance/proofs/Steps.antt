-- A call by its contract is a step of a list of calls. An exported call says its outcome by a number, from which it is read back: no refusal has the number 0, and
-- the bits of a sum are its own.
use Prim.Native.Nat.{ℕ, zero, suc}
use mathlib.Core.Path.{◌≡◌, refl, sym, ap, ap₂, subst, ◌∙◌}
use mathlib.Core.Bool.{Bool, true, false, cond}
use mathlib.Core.List.{List, []}
use mathlib.Core.Option.{Option}
use lib.IntN.{ℤ, pos}
use lib.Ieee.{Float, binary64, of_bits}
use lib.ListN.{length}
use Rattle.lists.proofs.Booleans.{never}
use Rattle.refusal.specs.Outcome.{Outcome, accepted, refused, Ground, is_refusal, is_ground}
use Rattle.refusal.proofs.Outcomes.{not_given}
use Rattle.columns.specs.declared.Kind.{Kind}
use Rattle.columns.specs.declared.Kind.TheVariants.{Double}
use Rattle.patch.specs.File.{row_count, read_grounds, read_outcome}
use Rattle.table.specs.Calls.{column_grounds, add_grounds, add_sections, add_outcome, add_leaves, merge_grounds, merge_sections, merge_outcome}
use Rattle.record.specs.Sound.{sound}
use Rattle.record.specs.Section.{Section, kept, sections, find}
use Rattle.record.proofs.Found.{find-key}
use Rattle.finish.specs.declared.FinishedLine.{FinishedLine}
use Rattle.limbs.specs.Side.{side_number, side_said}
use Rattle.limbs.proofs.Sides.{side-back}
use Rattle.finish.specs.declared.RoundedSum.{RoundedSum}
use Rattle.finish.specs.Finish.{sum_for, figure_for, line_for, sum_grounds, figure_grounds, finished_by, finishing, sum_outcome, figure_outcome, line_outcome}
use Rattle.finish.specs.Exact.{answered_exact, exactness_outcome}
use Rattle.finish.proofs.Outcomes.{section_given, finished_not, sum-given, line-given, double_back}
use Rattle.totals.specs.declared.TableTotals.{TableTotals}
use Rattle.totals.specs.Totals.{table_totals, totals_grounds, totals_outcome}
use Rattle.checkpoint.specs.Saved.{saved_length, saved_table, group_count}
use Rattle.checkpoint.specs.Calls.{save_grounds, save_outcome, save_leaves, load_grounds, load_outcome, load_leaves}
use Rattle.checkpoint.proofs.Saving.{file_saved}
use Rattle.exports.specs.Width.{no_kind_outcome, add_of_width, add_of_width_leaves}
use Rattle.exports.proofs.Widths.{one_byte, unfit_add, unfit_add_leaves}
use Rattle.exports.specs.Calls.{returns_count, returns_zero, returns_flag, writes, double_bits}
use Rattle.history.specs.Calls.{Call, shelved}
use Rattle.history.specs.Run.{State, Answer, set_table, after, after_load, file_on, step, groups_are, sum_is, figure_is, line_is, exactness_is, totals_are, length_is, ask_table, answer}
use Rattle.conformance.specs.Called.{Lent, state_left, file_left, count_said, values_said, flag_said, Called, by_add, by_girth_add, by_girth_add_of_no_kind, by_merge, by_girth_merge, by_sum, by_figure, by_line, by_exactness, by_girth_sum, by_girth_figure, by_girth_line, by_girth_exact, by_totals, by_girth_totals, by_save, by_girth_save, by_load, by_girth_load}

-- ---- outcomes read back

count_said_lem : (o : Outcome ℕ) → is_refusal 0 o ≡ false → count_said (returns_count o) ≡ o
unfolding is_refusal
count_said_lem (accepted n) e = refl
count_said_lem (refused zero) e = never (cc)
count_said_lem (refused (suc n)) e = refl

-- from a number z that a call returned for o
pub count-back : (o : Outcome ℕ) → is_refusal 0 o ≡ false → {z : ℤ} → z ≡ returns_count o → count_said z ≡ o
count-back o n q = ap count_said q ∙ count_said_lem o n

-- where f of a width's kind w was returned for, and w is k
pub kind-back : (f : Option Kind → Outcome ℕ) {w k : Option Kind} → w ≡ k → is_refusal 0 (f k) ≡ false → {z : ℤ} → z ≡ returns_count (f w) → count_said z ≡ f k
kind-back f {k = k} e n q = count-back (f k) n (q ∙ ap (λ (w : Option Kind). returns_count (f w)) e)

-- from a number z that a call returned for a yes or no
flag_back : (o : Outcome Bool) → is_refusal 0 o ≡ false → {z : ℤ} → z ≡ returns_flag o → flag_said z ≡ o
unfolding is_refusal
flag_back o n q = ap flag_said q ∙ by o n
  where
    by : (o : Outcome Bool) → is_refusal 0 o ≡ false → flag_said (returns_flag o) ≡ o
    by (accepted true) n = refl
    by (accepted false) n = refl
    by (refused zero) n = never (cc)
    by (refused (suc m)) n = refl

-- from z and the values y that it wrote out, which are those of an accepted o
given_out : {A : Type 0} (o : Outcome A) (y : A) {z : ℤ} → is_refusal 0 o ≡ false → ((x : A) → o ≡ accepted x → y ≡ x) → z ≡ returns_zero o → values_said y z ≡ o
unfolding is_refusal
given_out {A} o y n f q = ap (values_said y) q ∙ by o n f
  where
    by : (o : Outcome A) → is_refusal 0 o ≡ false → ((x : A) → o ≡ accepted x → y ≡ x) → values_said y (returns_zero o) ≡ o
    by (accepted x) n f = ap accepted (f x refl)
    by (refused zero) n f = never (cc)
    by (refused (suc m)) n f = refl

-- no call is refused with 0
add_not_0 : (kind : Kind) (s : List ℕ) (g : ℕ) (ks vs : List ℕ) (work_len : ℕ) → is_refusal 0 (add_outcome kind s g ks vs work_len) ≡ false
unfolding add_grounds column_grounds
add_not_0 kind s g ks vs work_len = not_given 0 (add_grounds kind s g ks vs work_len) (length (add_sections kind s g ks vs)) refl

pub no_kind_not_0 : (s : List ℕ) (g work_len : ℕ) → is_refusal 0 (no_kind_outcome s g work_len) ≡ false
no_kind_not_0 s g work_len = subst (λ (o : Outcome ℕ). is_refusal 0 o ≡ false) (unfit_add s g work_len) (add_not_0 Double s g one_byte one_byte work_len)

pub read_not_0 : (kind : Kind) (f : List ℕ) → is_refusal 0 (read_outcome kind f) ≡ false
unfolding read_outcome read_grounds
read_not_0 kind f = not_given 0 (read_grounds kind f) (row_count f) refl

merge_not_0 : (s : List ℕ) (g : ℕ) (s' : List ℕ) (g' : ℕ) → is_refusal 0 (merge_outcome s g s' g') ≡ false
unfolding merge_grounds
merge_not_0 s g s' g' = not_given 0 (merge_grounds s g s' g') (length (merge_sections s g s' g')) refl

pub save_not_0 : (s : List ℕ) (g out_len : ℕ) → is_refusal 0 (save_outcome s g out_len) ≡ false
unfolding save_outcome save_grounds
save_not_0 s g out_len = not_given 0 (save_grounds s g out_len) (saved_length g) refl

load_not_0 : (f : List ℕ) (table_len : ℕ) → is_refusal 0 (load_outcome f table_len) ≡ false
unfolding load_outcome load_grounds
load_not_0 f table_len = not_given 0 (load_grounds f table_len) (group_count f) refl

-- the number that a load returns says its outcome
pub load_said : (f : List ℕ) (table_len : ℕ) {z : ℤ} → z ≡ returns_count (load_outcome f table_len) → count_said z ≡ load_outcome f table_len
load_said f table_len q = count-back (load_outcome f table_len) (load_not_0 f table_len) q

finishing_not_0 : {A : Type 0} (gs : Section → List Ground) (v : Section → A) → ((t : Section) → is_ground 0 (gs t) ≡ false) → (s : List ℕ) (g k : ℕ) → is_refusal 0 (finishing (finished_by gs v) s g k) ≡ false
unfolding is_refusal
finishing_not_0 gs v h s g k = by (sound s g)
  where
    by : (b : Bool) → is_refusal 0 (cond b (finished_by gs v (find k (sections s g))) (refused 7)) ≡ false
    by true = finished_not 0 gs v refl h (find k (sections s g))
    by false = refl

-- ---- what is written out, read back
module _ (s : List ℕ) (g k : ℕ) where
  sum_back : (x : RoundedSum) → sum_outcome s g k ≡ accepted x → of_bits binary64 (double_bits x.sum) ≡ x.sum
  sum_back x e =
      let t = section_given sum_grounds sum_for s g k x (sym e) in
      subst (λ (y : Float). of_bits binary64 (double_bits y) ≡ y) (ap (λ (y : RoundedSum). y.sum) (sum-given t.0 x t.1).is) (double_back (kept t.0))

  sum-read : {z d : ℤ} {b : ℕ} → z ≡ returns_zero (sum_outcome s g k) → b ≡ writes 0 (λ (x : RoundedSum). double_bits x.sum) (sum_outcome s g k)
      → d ≡ writes (pos 0) (λ (x : RoundedSum). side_number x.side) (sum_outcome s g k)
      → values_said (record { sum = of_bits binary64 b; side = side_said d }) z ≡ sum_outcome s g k
  sum-read q wb wd =
      given_out (sum_outcome s g k) _ (finishing_not_0 sum_grounds sum_for (λ t. refl) s g k)
      (λ x e.
      let b = ap (of_bits binary64) (wb ∙ ap (writes 0 (λ (y : RoundedSum). double_bits y.sum)) e) ∙ sum_back x e in
      let d = ap side_said (wd ∙ ap (writes (pos 0) (λ (y : RoundedSum). side_number y.side)) e) ∙ side-back x.side in
      λ i. record { sum = b i; side = d i }) q

  figure-read : {z y : ℤ} → z ≡ returns_zero (figure_outcome s g k) → y ≡ writes (pos 0) (λ (f : ℤ). f) (figure_outcome s g k) → values_said y z ≡ figure_outcome s g k
  figure-read q w =
      given_out (figure_outcome s g k) _ (finishing_not_0 figure_grounds figure_for (λ t. refl) s g k) (λ x e. w ∙ ap (writes (pos 0) (λ (f : ℤ). f)) e) q

  exactness-read : {z : ℤ} → z ≡ returns_flag (exactness_outcome s g k) → flag_said z ≡ exactness_outcome s g k
  exactness-read q = flag_back (exactness_outcome s g k) (finishing_not_0 (λ (t : Section). []) answered_exact (λ t. refl) s g k) q

  -- the line is that of the section found: its number is k, its sum that section's
  line-back : (l : FinishedLine) → line_outcome s g k ≡ accepted l → (k ≡ l.key) × (of_bits binary64 (double_bits l.sum) ≡ l.sum)
  line-back l e =
      let t = section_given figure_grounds line_for s g k l (sym e) in
      let is = (line-given t.0 l t.1).is in (
        sym (find-key k (sections s g) t.2) ∙ ap (λ (x : FinishedLine). x.key) is,
        subst (λ (y : Float). of_bits binary64 (double_bits y) ≡ y) (ap (λ (x : FinishedLine). x.sum) is) (double_back (kept t.0)),
      )

  line_read : {z f d : ℤ} {n b : ℕ} → z ≡ returns_zero (line_outcome s g k) → n ≡ writes 0 (λ (l : FinishedLine). l.count) (line_outcome s g k)
      → b ≡ writes 0 (λ (l : FinishedLine). double_bits l.sum) (line_outcome s g k) → f ≡ writes (pos 0) (λ (l : FinishedLine). l.figure) (line_outcome s g k)
      → d ≡ writes (pos 0) (λ (l : FinishedLine). side_number l.side) (line_outcome s g k)
      → values_said (record { key = k; count = n; sum = of_bits binary64 b; figure = f; side = side_said d }) z ≡ line_outcome s g k
  line_read q wn wb wf wd =
      given_out (line_outcome s g k) _ (finishing_not_0 figure_grounds line_for (λ t. refl) s g k)
      (λ l e.
      let p = line-back l e in
      let n = wn ∙ ap (writes 0 (λ (l : FinishedLine). l.count)) e in
      let b = ap (of_bits binary64) (wb ∙ ap (writes 0 (λ (l : FinishedLine). double_bits l.sum)) e) ∙ p.1 in
      let f = wf ∙ ap (writes (pos 0) (λ (l : FinishedLine). l.figure)) e in
      let d = ap side_said (wd ∙ ap (writes (pos 0) (λ (l : FinishedLine). side_number l.side)) e) ∙ side-back l.side in
      λ i. record { key = p.0 i; count = n i; sum = b i; figure = f i; side = d i }) q

totals_not_0 : (s : List ℕ) (g : ℕ) → is_refusal 0 (totals_outcome s g) ≡ false
totals_not_0 s g = not_given 0 (totals_grounds s g) (table_totals (sections s g)) refl

totals-read : (s : List ℕ) (g : ℕ) {z : ℤ} {m n : ℕ} → z ≡ returns_zero (totals_outcome s g) → m ≡ writes 0 (λ (t : TableTotals). t.groups) (totals_outcome s g)
    → n ≡ writes 0 (λ (t : TableTotals). t.count) (totals_outcome s g) → values_said (record { groups = m; count = n }) z ≡ totals_outcome s g
totals-read s g q wm wn =
    given_out (totals_outcome s g) _ (totals_not_0 s g)
    (λ t e.
    let m = wm ∙ ap (writes 0 (λ (t : TableTotals). t.groups)) e in
    let n = wn ∙ ap (writes 0 (λ (t : TableTotals). t.count)) e in
    λ i. record { groups = m i; count = n i }) q

-- the shelf after a save that answered o and left the output b: the file stands at the output's front
saved_on : (s : List ℕ) (g : ℕ) (out : List ℕ) (files : List (List ℕ)) {o : Outcome ℕ} {b : List ℕ} → o ≡ save_outcome s g (length out) → b ≡ save_leaves s g out
    → shelved (save_outcome s g (length out)) (saved_table s g) files ≡ shelved o (file_left o b) files
saved_on s g out files p q = rw (p, q) (by (save_outcome s g (length out)) refl)
  where
    by : (o : Outcome ℕ) → save_outcome s g (length out) ≡ o → shelved o (saved_table s g) files ≡ shelved o (file_left o (save_leaves s g out)) files
    by (accepted n) e = ap (λ (f : List ℕ). shelved (accepted n) f files) (sym (file_saved s g out e))
    by (refused n) e = refl

-- a call that changes table i, by what it answered, o, and the bytes b that it left: f and h give them of the table's bytes and group count, which were lent as b₀ and g₀
pub changed : (s : State) (i : ℕ) (f : List ℕ → ℕ → Outcome ℕ) (h : List ℕ → ℕ → List ℕ) {b₀ b : List ℕ} {g₀ : ℕ} {o : Outcome ℕ} → Lent (s.tables i) b₀ g₀ → o ≡ f b₀ g₀ → b ≡ h b₀ g₀
    → let t = s.tables i in (groups_are (f t.buffer t.groups) ≡ groups_are o) × (set_table i (after (f t.buffer t.groups) (h t.buffer t.groups) t.groups) s ≡ state_left s i o b)
changed s i f h p eo eb =
    let q = ap₂ f p.0 p.1 ∙ sym eo in
    (ap groups_are q, ap₂ (λ (o : Outcome ℕ) (b : List ℕ). state_left s i o b) q (ap₂ h p.0 p.1 ∙ sym eb))

-- a load of any file f into table i, by what it answered, o, and the bytes b that it left: the file was lent as f₀, the table's bytes as b₀
pub loaded : (s : State) (i : ℕ) (f : List ℕ) {f₀ b₀ b : List ℕ} {o : Outcome ℕ} → f ≡ f₀ → (s.tables i).buffer ≡ b₀ → o ≡ load_outcome f₀ (length b₀) → b ≡ load_leaves f₀ b₀
    → (groups_are (load_outcome f (length (s.tables i).buffer)) ≡ groups_are o) × (set_table i (after_load (s.tables i) f) s ≡ state_left s i o b)
loaded s i f p q eo eb = (
  rw (p, q) (ap groups_are (sym eo)),
  rw (p, q) (ap₂ (λ (o : Outcome ℕ) (b : List ℕ). set_table i (after o b (s.tables i).groups) s) (sym eo) (sym eb)),
)

pub steps : (s : State) (c : Call) (x : Answer) (s' : State) → Called s c x s' → (answer s c ≡ x) × (step s c ≡ s')
unfolding answer step ask_table
steps s c x s' (by_add i κs a z e b p l) =
    let kind = a.1.1.1.1.0 in let ks = a.1.1.0.now in let vs = a.1.1.1.0.now in let len = length a.1.1.1.1.1.0.now in
    changed s i (λ t g. add_outcome kind t g ks vs len) (λ t g. add_leaves kind t g ks vs len) p l.0 l.1.0
steps s c x s' (by_girth_add i kind κs a z e b k p l) =
    let t = a.0.now in let g = a.1.0 in let ks = a.1.1.0.now in let vs = a.1.1.1.0.now in let len = length a.1.1.1.1.1.0.now in
    changed s i (λ t g. add_outcome kind t g ks vs len) (λ t g. add_leaves kind t g ks vs len) p
    (kind-back (λ w. add_of_width w t g ks vs len) k (add_not_0 kind t g ks vs len) l.0) (l.1.0 ∙ ap (λ (w : Option Kind). add_of_width_leaves w t g ks vs len) k)
steps s c x s' (by_girth_add_of_no_kind i κs a z e k p l) =
    let t = a.0.now in let g = a.1.0 in let ks = a.1.1.0.now in let vs = a.1.1.1.0.now in let len = length a.1.1.1.1.1.0.now in
    changed s i (λ t g. add_outcome Double t g one_byte one_byte len) (λ t g. add_leaves Double t g one_byte one_byte len) p
    (kind-back (λ w. add_of_width w t g ks vs len) k (no_kind_not_0 t g len) l.0 ∙ sym (unfit_add t g len))
    (l.1.0 ∙ ap (λ (w : Option Kind). add_of_width_leaves w t g ks vs len) k ∙ sym (unfit_add_leaves t g len))
steps s c x s' (by_merge i j apart κs a z e p q l) = (
  rw (p.0, p.1, q.0, q.1) (ap groups_are (sym l.0)),
  rw (p.0, p.1, q.0, q.1) (ap₂ (λ (o : Outcome ℕ) (b : List ℕ). set_table i (after o b a.1.0) s) (sym l.0) (sym l.1)),
)
steps s c x s' (by_girth_merge i j apart κs a z e p q l) =
    let r = count-back (merge_outcome a.0.now a.1.0 a.1.1.0.now a.1.1.1.0) (merge_not_0 _ _ _ _) l.0 in (
      rw (p.0, p.1, q.0, q.1) (ap groups_are (sym r)),
      rw (p.0, p.1, q.0, q.1) (ap₂ (λ (o : Outcome ℕ) (b : List ℕ). set_table i (after o b a.1.0) s) (sym r) (sym l.1)),
    )
steps s c x s' (by_sum i κs a z e p l) = (rw (p.0, p.1) (ap sum_is (sym l)), refl)
steps s c x s' (by_figure i κs a z e p l) = (rw (p.0, p.1) (ap figure_is (sym l)), refl)
steps s c x s' (by_line i κs a z e p l) = (rw (p.0, p.1) (ap line_is (sym l)), refl)
steps s c x s' (by_exactness i κs a z e p l) = (rw (p.0, p.1) (ap exactness_is (sym l)), refl)
steps s c x s' (by_girth_sum i κs a z e p l) = (rw (p.0, p.1) (ap sum_is (sym (sum-read _ _ _ l.0 l.1.0 l.1.1))), refl)
steps s c x s' (by_girth_figure i κs a z e p l) = (rw (p.0, p.1) (ap figure_is (sym (figure-read _ _ _ l.0 l.1))), refl)
steps s c x s' (by_girth_line i κs a z e p l) = (rw (p.0, p.1) (ap line_is (sym (line_read _ _ _ l.0 l.1.0 l.1.1.0 l.1.1.1.0 l.1.1.1.1))), refl)
steps s c x s' (by_girth_exact i κs a z e p l) = (rw (p.0, p.1) (ap exactness_is (sym (exactness-read _ _ _ l))), refl)
steps s c x s' (by_totals i κs a z e p l) = (rw (p.0, p.1) (ap totals_are (sym l)), refl)
steps s c x s' (by_girth_totals i κs a z e p l) = (rw (p.0, p.1) (ap totals_are (sym (totals-read _ _ l.0 l.1.0 l.1.1))), refl)
steps s c x s' (by_save i κs a z e p l) = (
  rw (p.0, p.1) (ap length_is (sym l.0)),
  rw (p.0, p.1) (ap (λ (files : List (List ℕ)). record { tables = s.tables; shelf = files }) (saved_on a.0.now a.1.0 a.1.1.0.now s.shelf l.0 l.1)),
)
steps s c x s' (by_girth_save i κs a z e p l) =
    let q = count-back (save_outcome a.0.now a.1.0 (length a.1.1.0.now)) (save_not_0 _ _ _) l.0 in (
      rw (p.0, p.1) (ap length_is (sym q)),
      rw (p.0, p.1) (ap (λ (files : List (List ℕ)). record { tables = s.tables; shelf = files }) (saved_on a.0.now a.1.0 a.1.1.0.now s.shelf q l.1)),
    )
steps s c x s' (by_load i n κs a z e f p l) = loaded s i (file_on s.shelf n) f p l.0 l.1
steps s c x s' (by_girth_load i n κs a z e f p l) = loaded s i (file_on s.shelf n) f p (load_said _ _ l.0) l.1
