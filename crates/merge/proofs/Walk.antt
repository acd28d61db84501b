-- One step back through two sound tables: whose record is the last, and what is left. The idea: the larger of the two last keys is the last of the union, and
-- equal ones are one section.
use Prim.Native.Nat.{ℕ, suc, ◌+◌, ◌-◌, ◌*◌, ◌≤◌, ◌<◌}
use mathlib.Core.Path.{◌≡◌, refl, sym, ◌∙◌, ap, ap₂, subst}
use mathlib.Core.Bool.{◌||◌}
use mathlib.Core.List.{List, [], ◌∷◌, ◌++◌}
use native.Mathlib.Omega.{arith}
use native.Mathlib.Nat.{le_refl}
use borrow.Author.Tests.{eq-eqb, ne_eqb}
use lib.Dec.{T}
use lib.ListN.{length, length-append}
use Rattle.codec.specs.Cells.{cells}
use Rattle.record.specs.Sound.{sound}
use Rattle.record.specs.Section.{Section, sections}
use Rattle.record.proofs.Sound.{sound_parts}
use Rattle.table.specs.Combine.{combine, merged}
use Rattle.table.specs.Calls.{overflows, merge_sections}
use Rattle.lists.specs.Lists.{any_of}
use Rattle.lists.proofs.Any.{any_append}
use Rattle.soundness.specs.declared.sound.SoundTable.{SoundTable}
use Rattle.merge.specs.declared.TablePair.{TablePair}
use Rattle.merge.specs.Steps.{key_at, section_in, last_section, LastTaken, WithoutLast, union, taken_section, StepBack}
use Rattle.merge.proofs.Merged.{KeysBelow, last_of_first, last_of_second, last_of_both}
use Rattle.merge.proofs.State.{sections_more, prior, below_all}

sections_last : (s : List ℕ) (i : ℕ) → 0 < i → i * 64 ≤ length s → sections s i ≡ sections s (i - 1) ++ section_in s (i - 1) ∷ []
sections_last s i l h =
    let e : i ≡ suc (i - 1) = omega arith in
    ap (λ (n : ℕ). sections s n) e ∙ sections_more s (i - 1) (omega arith)

-- the three cases of what is taken off
module _ (s s' : List ℕ) (i j i' j' : ℕ) where
  of_second : i' ≡ i → last_section s i s' j i' j' ≡ section_in s' j'
  unfolding last_section
  of_second p = rw (eq-eqb i' i p)

  of_first : (i' ≡ i → ⊥) → j' ≡ j → last_section s i s' j i' j' ≡ section_in s i'
  unfolding last_section
  of_first p q = rw (ne_eqb i' i p, eq-eqb j' j q)

  of_both : (i' ≡ i → ⊥) → (j' ≡ j → ⊥) → last_section s i s' j i' j' ≡ combine (section_in s i') (section_in s' j')
  unfolding last_section
  of_both p q = rw (ne_eqb i' i p, ne_eqb j' j q)

-- from the second table, from the first, and from both
module _ (s s' : List ℕ) (i j : ℕ) (h : T (sound s i)) (h' : T (sound s' j)) (l : 0 < j) where
  cut₂ : sections s' j ≡ sections s' (j - 1) ++ section_in s' (j - 1) ∷ []
  cut₂ = sections_last s' j l (sound_parts s' j h').0

  second_last : (0 < i → key_at s (i - 1) < key_at s' (j - 1)) → LastTaken s i s' j i (j - 1)
  second_last k = record {
    no_more₁ = le_refl i;
    no_more₂ = omega arith;
    fewer = omega arith;
    last_section_lem =
        ap (merged (sections s i)) cut₂
        ∙ last_of_second (section_in s' (j - 1)) (sections s i) (sections s' (j - 1)) (below_all s i (key_at s' (j - 1)) h k) (prior s' j h' l).keys_below
        ∙ ap (λ (x : Section). merge_sections s i s' (j - 1) ++ x ∷ []) (sym (of_second s s' i j i (j - 1) refl));
  }

  module _ (m : 0 < i) where
    cut₁ : sections s i ≡ sections s (i - 1) ++ section_in s (i - 1) ∷ []
    cut₁ = sections_last s i m (sound_parts s i h).0

    first_last : key_at s' (j - 1) < key_at s (i - 1) → LastTaken s i s' j (i - 1) j
    first_last k = record {
      no_more₁ = omega arith;
      no_more₂ = le_refl j;
      fewer = omega arith;
      last_section_lem =
          ap (λ (x : List Section). merged x (sections s' j)) cut₁
          ∙ last_of_first (section_in s (i - 1)) (sections s (i - 1)) (sections s' j) (below_all s' j (key_at s (i - 1)) h' (λ n. k))
          ∙ ap (λ (x : Section). merge_sections s (i - 1) s' j ++ x ∷ []) (sym (of_first s s' i j (i - 1) j (λ q. omega arith) refl));
    }

    both_last : key_at s (i - 1) ≡ key_at s' (j - 1) → LastTaken s i s' j (i - 1) (j - 1)
    both_last k = record {
      no_more₁ = omega arith;
      no_more₂ = omega arith;
      fewer = omega arith;
      last_section_lem =
          ap₂ merged cut₁ cut₂
          ∙ last_of_both (section_in s (i - 1)) (section_in s' (j - 1)) (sections s (i - 1)) (sections s' (j - 1)) (sym k)
          (subst (λ (n : ℕ). KeysBelow n (sections s (i - 1))) k (prior s i h m).keys_below) (prior s' j h' l).keys_below
          ∙ ap (λ (x : Section). merge_sections s (i - 1) s' (j - 1) ++ x ∷ []) (sym (of_both s s' i j (i - 1) (j - 1) (λ q. omega arith) (λ q. omega arith)));
    }

-- what is taken where r is left of t, and its row count
module _ (t r : TablePair) where
  abbrev of₁ : Section
  of₁ = section_in t.first.bytes.now r.first.groups

  abbrev of₂ : Section
  of₂ = section_in t.second.bytes.now r.second.groups

  module _ (p : r.first.groups ≡ t.first.groups) where
    pub second_taken : of₂ ≡ taken_section t r
    second_taken = sym (of_second t.first.bytes.now t.second.bytes.now _ t.second.groups _ r.second.groups p)

    pub second_count : of₂.count ≡ (taken_section t r).count
    second_count = ap (λ (x : Section). x.count) second_taken

  module _ (p : r.first.groups ≡ t.first.groups → ⊥) where
    module _ (q : r.second.groups ≡ t.second.groups) where
      pub first_taken : of₁ ≡ taken_section t r
      first_taken = sym (of_first t.first.bytes.now t.second.bytes.now _ _ _ _ p q)

      pub first_count : of₁.count ≡ (taken_section t r).count
      first_count = ap (λ (x : Section). x.count) first_taken

    module _ (q : r.second.groups ≡ t.second.groups → ⊥) where
      pub both_taken : combine of₁ of₂ ≡ taken_section t r
      both_taken = sym (of_both t.first.bytes.now t.second.bytes.now _ _ _ _ p q)

      pub both_count : of₁.count + of₂.count ≡ (taken_section t r).count
      unfolding combine
      both_count = ap (λ (x : Section). x.count) both_taken

-- the step back that the keys say; a and b are the tables without their last records
module _ (t : TablePair) (l : 0 < t.second.groups) where
  abbrev i : ℕ
  i = t.first.groups

  abbrev j : ℕ
  j = t.second.groups

  abbrev s : List ℕ
  s = t.first.bytes.now

  abbrev s' : List ℕ
  s' = t.second.bytes.now

  pub second_back : {b : SoundTable} → WithoutLast t.second b → (0 < i → key_at s (i - 1) < key_at s' (j - 1)) → StepBack t (record { first = t.first; second = b })
  second_back w k = record {
    shared_bytes₁ = refl;
    shared_bytes₂ = w.shared_bytes;
    last_taken = rw w.one_fewer (second_last s s' i j t.first.sound t.second.sound l k);
  }

  pub first_back : {a : SoundTable} → WithoutLast t.first a → 0 < i → key_at s' (j - 1) < key_at s (i - 1) → StepBack t (record { first = a; second = t.second })
  first_back v m k = record {
    shared_bytes₁ = v.shared_bytes;
    shared_bytes₂ = refl;
    last_taken = rw v.one_fewer (first_last s s' i j t.first.sound t.second.sound l m k);
  }

  pub both_back : {a b : SoundTable} → WithoutLast t.first a → WithoutLast t.second b → 0 < i → key_at s (i - 1) ≡ key_at s' (j - 1) → StepBack t (record { first = a; second = b })
  both_back v w m k = record {
    shared_bytes₁ = v.shared_bytes;
    shared_bytes₂ = w.shared_bytes;
    last_taken = rw (v.one_fewer, w.one_fewer) (both_last s s' i j t.first.sound t.second.sound l m k);
  }

-- ---- what one step back says of the whole union
module _ {t r : TablePair} (b : StepBack t r) where
  pub union_back : union t ≡ union r ++ taken_section t r ∷ []
  union_back = rw (b.shared_bytes₁, b.shared_bytes₂) b.last_taken.last_section_lem

  -- the bytes hold sound tables of what is left
  pub left_sound_first : T (sound t.first.bytes.now r.first.groups)
  left_sound_first = subst (λ (x : List ℕ). T (sound x r.first.groups)) b.shared_bytes₁ r.first.sound

  pub left_sound_second : T (sound t.second.bytes.now r.second.groups)
  left_sound_second = subst (λ (x : List ℕ). T (sound x r.second.groups)) b.shared_bytes₂ r.second.sound

-- one section more
module _ (ts : List Section) (x : Section) {us : List Section} (e : us ≡ ts ++ x ∷ []) where
  pub length_more : length us ≡ length ts + 1
  length_more = ap length e ∙ length-append ts (x ∷ [])

  pub any_more : any_of overflows us ≡ (any_of overflows ts || overflows x)
  any_more = ap (any_of overflows) e ∙ any_append overflows ts x

-- a merge of nothing
pub merge_none : (s s' : List ℕ) (i j : ℕ) → j ≤ 0 → merge_sections s i s' j ≡ sections s i
unfolding cells merged
merge_none s s' i j h = let e : j ≡ 0 = omega arith in ap (λ (n : ℕ). merge_sections s i s' n) e
