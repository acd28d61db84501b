-- Two files of tables of which the one holds what the other holds but for finest powers that are 0: loading them has the same outcome and leaves two such tables, and so
-- it is with the first as an older version wrote it.
use Prim.Native.Nat.{ℕ, ◌*◌, ◌≤◌, zero-le}
use mathlib.Core.Path.{◌≡◌, refl, sym, ap, ap₂, ◌∙◌}
use mathlib.Core.Bool.{Bool, true, false}
use mathlib.Core.List.{List, [], ◌∷◌, ◌++◌, map}
use mathlib.Core.Option.{Option, none, some}
use native.Mathlib.Omega.{arith}
use lib.ListN.{length, take, drop, length-map}
use lib.Seq.{take_at, drop_at}
use Rattle.lists.proofs.All.{All}
use Rattle.refusal.specs.Outcome.{Outcome, accepted, refused}
use Rattle.refusal.proofs.Outcomes.{accepted≢refused}
use Rattle.trailer.specs.Trailer.{trailer_of}
use Rattle.record.specs.Section.{Section, meaning, sections, section_bytes, written, find}
use Rattle.record.proofs.Sound.{sound_parts}
use Rattle.table.proofs.Lookup.{Rising, keys_in, find_ext}
use Rattle.table.proofs.Bytes.{Storable, used-written}
use Rattle.table.proofs.State.{sound-rising, length-sections}
use Rattle.table.proofs.Accepted.{ProperTable, AcceptedTable, written-left}
use Rattle.checkpoint.specs.Saved.{table_mark, saved_length, saved_table, group_count}
use Rattle.checkpoint.specs.Calls.{most_file_groups, save_grounds, save_outcome, load_outcome, load_leaves}
use Rattle.checkpoint.proofs.Records.{length-records, same-records, still_sound}
use Rattle.checkpoint.proofs.Loading.{load_untouched}
use Rattle.checkpoint.proofs.Reloading.{saved_fields, saved_outcome}
use Rattle.history.specs.Calls.{replaced}
use Rattle.history.specs.Run.{Store, after, after_load}
use Rattle.history.specs.Demand3.{used, sections_in}
use Rattle.history.specs.Older.{with_finest, faded, older_file}
use Rattle.history.proofs.Faded.{faded_option, Present, faded-rising, find-faded}
use Rattle.history.proofs.Shelf.{loaded_is}
use Rattle.history.proofs.Fades.{Fades, proper_rising, proper_sound}

-- the file g is that of a table that holds what the one with the file g' holds, but for the finest powers of the sections that f has
pub record FileFades (f : ℕ → Bool) (g g' : List ℕ) : Type 0 where
  pub store : Store
  pub other : Store
  pub fades : Fades f store other
  pub few : store.groups ≤ most_file_groups
  pub is_file : g ≡ saved_table store.buffer store.groups
  pub is_other : g' ≡ saved_table other.buffer other.groups

pub save-same : (f : ℕ → Bool) (t u : Store) → Fades f t u → (out_len : ℕ) → save_outcome t.buffer t.groups out_len ≡ save_outcome u.buffer u.groups out_len
unfolding save_outcome save_grounds
save-same f t u w out_len = rw (proper_sound t w.table, proper_sound u w.other, w.groups)

-- the records of a proper table t, at the front of other bytes
module _ (t : Store) (p : ProperTable t.buffer t.groups) (rest : List ℕ) where
  pub copied_sections : sections (take (64 * t.groups) t.buffer ++ rest) t.groups ≡ sections_in t
  copied_sections = ap (map meaning) (same-records t.buffer t.groups (proper_sound t p) rest)

  pub copied_proper : ProperTable (take (64 * t.groups) t.buffer ++ rest) t.groups
  copied_proper = record { is_sound_lem = rw (still_sound t.buffer t.groups (proper_sound t p) rest) tt; storable = rw copied_sections p.storable }

  copied_used : take (64 * t.groups) (take (64 * t.groups) t.buffer ++ rest) ≡ used t
  copied_used = take_at (take (64 * t.groups) t.buffer) rest (64 * t.groups) (length-records t.buffer t.groups (proper_sound t p))

-- the sections that a file has are those of its table
pub file-sections : (t : Store) → ProperTable t.buffer t.groups → t.groups ≤ most_file_groups → (g : List ℕ) → g ≡ saved_table t.buffer t.groups → sections g (group_count g) ≡ sections_in t
unfolding saved_table
file-sections t p few g e =
    ap₂ (λ (b : List ℕ) (n : ℕ). sections b n) e (ap group_count e ∙ (saved_fields t.buffer t.groups (proper_sound t p) few).first_is)
    ∙ copied_sections t p (trailer_of t.groups (saved_length t.groups) 0 table_mark)

module _ (f : ℕ → Bool) (t u : Store) (w : Fades f t u) (f' : ℕ → Bool) (g g' : List ℕ) (x : FileFades f' g g') where
  few_other : x.other.groups ≤ most_file_groups
  few_other = rw (sym x.fades.groups) x.few

  -- only the room decides, and it is the same
  pub load_same : load_outcome g (length t.buffer) ≡ load_outcome g' (length u.buffer)
  load_same =
      let v = x.fades in
      rw (x.is_file, x.is_other)
      (saved_outcome x.store.buffer x.store.groups (proper_sound x.store v.table) x.few (length t.buffer)
      ∙ rw (v.groups, w.same_length)
      (sym (saved_outcome x.other.buffer x.other.groups (proper_sound x.other v.other) few_other (length u.buffer))))

  pub load_fades : Fades (replaced (load_outcome g' (length u.buffer)) f f') (after_load t g) (after_load u g')
  load_fades = go (load_outcome g (length t.buffer)) (load_outcome g' (length u.buffer)) refl refl load_same
    where
      go : (o p : Outcome ℕ) → load_outcome g (length t.buffer) ≡ o → load_outcome g' (length u.buffer) ≡ p → o ≡ p
          → Fades (replaced p f f') (after o (load_leaves g t.buffer) t.groups) (after p (load_leaves g' u.buffer) u.groups)
      go (accepted n) (accepted m) a b e =
          let v = x.fades in
          let l = loaded_is x.store (proper_sound x.store v.table) x.few g t.buffer n x.is_file a in
          let r = loaded_is x.other (proper_sound x.other v.other) few_other g' u.buffer m x.is_other b in
          let rest = drop (64 * x.store.groups) t.buffer in
          let rest' = drop (64 * x.other.groups) u.buffer in
          let same = l.same_length ∙ w.same_length ∙ sym r.same_length in
          rw (l.left, l.count, r.left, r.count)
          (record {
            table = copied_proper x.store v.table rest;
            other = copied_proper x.other v.other rest';
            groups = v.groups;
            same_length = rw (l.left, r.left) at same;
            held = copied_sections x.store v.table rest ∙ v.held ∙ ap (map (faded f')) (sym (copied_sections x.other v.other rest'));
            present = rw (copied_sections x.other v.other rest') v.present;
            used_are = copied_used x.store v.table rest ∙ v.used_are ∙ ap section_bytes (sym (copied_sections x.store v.table rest));
          })
      go (accepted n) (refused m) a b e = absurd (accepted≢refused (sym e))
      go (refused n) (accepted m) a b e = absurd (accepted≢refused e)
      go (refused n) (refused m) a b e = rw (load_untouched g t.buffer a, load_untouched g' u.buffer b) w

-- ---- a file as an older version wrote it
older_storable : (ts : List Section) → All Storable ts → All Storable (map (with_finest 0) ts)
older_storable [] a = tt
older_storable (t ∷ ts) a =
    let p = a.0.proper in (
      record {
        proper = record {
          key = p.key;
          count = p.count;
          top = p.top;
          finest = zero-le;
          high = p.high;
          middle = p.middle;
          low = p.low;
          no_middle = p.no_middle;
          no_low = p.no_low;
        };
        few = a.0.few;
      },
      older_storable ts a.1,
    )

-- where n has every section that is there, 0 for all of them is 0 for those that n has, whichever had it before
all_faded : (f n : ℕ → Bool) (ts : List Section) → Rising (keys_in ts) → ((k : ℕ) (s : Section) → find k ts ≡ some s → n k ≡ true)
    → map (with_finest 0) (map (faded f) ts) ≡ map (faded n) ts
all_faded f n ts r i =
    find_ext _ _ (faded-rising (λ k. true) (map (faded f) ts) (faded-rising f ts r)) (faded-rising n ts r)
    (λ k. find-faded (λ l. true) k (map (faded f) ts) ∙ ap (faded_option true) (find-faded f k ts) ∙ go (f k) (n k) (find k ts) (i k) ∙ sym (find-faded n k ts))
  where
    go : (a b : Bool) (o : Option Section) → ((s : Section) → o ≡ some s → b ≡ true) → faded_option true (faded_option a o) ≡ faded_option b o
    go a b none e = refl
    go true b (some s) e = rw (e s refl)
    go false b (some s) e = rw (e s refl)

-- of a table t with the file g
module _ (t : Store) (p : ProperTable t.buffer t.groups) (few : t.groups ≤ most_file_groups) (g : List ℕ) (is_file : g ≡ saved_table t.buffer t.groups) where
  -- its sections, as an older version wrote them
  abbrev older-sections : List Section
  older-sections = map (with_finest 0) (sections_in t)

  pub older-count : length older-sections ≡ t.groups
  older-count = length-map (sections_in t) (with_finest 0) ∙ length-sections t.buffer t.groups

  pub older-left : AcceptedTable t.buffer older-sections (written older-sections t.buffer) (length older-sections)
  older-left =
      let q = sound_parts t.buffer t.groups p.is_sound_lem in
      let n = older-count in
      written-left t.buffer older-sections (older_storable (sections_in t) p.storable)
      (faded-rising (λ k. true) (sections_in t) (sound-rising t.buffer t.groups p.is_sound_lem)) (omega (arith, q.0, q.1))

  pub older_is : older_file g ≡ saved_table (written older-sections t.buffer) (length older-sections)
  unfolding saved_table
  older_is =
      let ok = proper_sound t p in
      let trailer = trailer_of t.groups (saved_length t.groups) 0 table_mark in
      let long : length (take (64 * t.groups) t.buffer) ≡ 64 * length older-sections = length-records t.buffer t.groups ok ∙ ap (λ (n : ℕ). 64 * n) (sym older-count) in
      ap₂ (λ (ts : List Section) (b : List ℕ). written (map (with_finest 0) ts) b) (file-sections t p few g is_file) is_file
      ∙ ap (λ (b : List ℕ). section_bytes older-sections ++ b) (drop_at (take (64 * t.groups) t.buffer) trailer (64 * length older-sections) long)
      ∙ ap₂ (λ (b : List ℕ) (n : ℕ). b ++ trailer_of n (saved_length n) 0 table_mark) (sym (used-written older-sections t.buffer)) (sym older-count)

module _ (f : ℕ → Bool) (g g' : List ℕ) (x : FileFades f g g') where
  pub older_fades : (n : ℕ → Bool) → Present n (sections_in x.other) → ((k : ℕ) (s : Section) → find k (sections_in x.other) ≡ some s → n k ≡ true) → FileFades n (older_file g) g'
  older_fades n h i =
      let w = x.fades in
      let t = x.store in
      let ts = map (with_finest 0) (sections_in t) in
      let l = older-left t w.table x.few g x.is_file in
      let count = older-count t w.table x.few g x.is_file in
      record {
        store = record { buffer = written ts t.buffer; groups = length ts };
        other = x.other;
        fades = record {
          table = l.table;
          other = w.other;
          groups = count ∙ w.groups;
          same_length = l.same_length ∙ w.same_length;
          held = l.has-sections ∙ ap (map (with_finest 0)) w.held ∙ all_faded f n (sections_in x.other) (proper_rising x.other w.other) i;
          present = h;
          used_are = used-written ts t.buffer ∙ ap section_bytes (sym l.has-sections);
        };
        few = rw count x.few;
        is_file = older_is t w.table x.few g x.is_file;
        is_other = x.is_other;
      }
