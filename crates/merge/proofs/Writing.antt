-- The bytes of the first table while the union is written from its end. The idea: what is still to be written, once written, gives what is to be (`Unwritten`),
-- and the place written never lies before the last record still to be read.
use Prim.Native.Nat.{ℕ, ◌+◌, ◌-◌, ◌*◌, ◌≤◌}
use mathlib.Core.Path.{◌≡◌, sym, ◌∙◌, ap, ap₂}
use mathlib.Core.Bool.{false}
use mathlib.Core.List.{List}
use native.Mathlib.Omega.{arith}
use lib.Dec.{T}
use lib.ListN.{length, take}
use lib.Seq.{sets, length-sets}
use Rattle.codec.proofs.Laws.{AreBytes, take-sets}
use Rattle.record.specs.declared.Record.{Record}
use Rattle.record.specs.Layout.{encode}
use Rattle.record.specs.Sound.{sound}
use Rattle.record.specs.Section.{Section, sections, record_of, written}
use Rattle.lists.proofs.Booleans.{both_false}
use Rattle.table.specs.Combine.{merged}
use Rattle.table.specs.Calls.{overflows, merge_sections}
use Rattle.lists.specs.Lists.{any_of}
use Rattle.table.proofs.Lookup.{merged-length}
use Rattle.merge.specs.Steps.{last_section, LastTaken}
use Rattle.table.proofs.State.{length-sections}
use Rattle.merge.proofs.State.{written_self, written_more}
use Rattle.table.proofs.State.{sections_agree, sound_agree}
use Rattle.merge.proofs.Walk.{length_more, any_more, merge_none}

-- the sections of i and j records are still to be written, at the first k places of s; then s₀ has become what it is to be
pub record Unwritten (s₀ : List ℕ) (g : ℕ) (s' : List ℕ) (g' : ℕ) (s : List ℕ) (i j k : ℕ) : Type 0 where
  pub sound₁ : T (sound s i)
  pub sound₂ : T (sound s' j)
  pub groups : k ≡ length (merge_sections s i s' j)
  pub fits : k * 64 ≤ length s
  pub no_overflow : any_of overflows (merge_sections s i s' j) ≡ false
  pub becomes : written (merge_sections s i s' j) s ≡ written (merge_sections s₀ g s' g') s₀
  pub same_length : length s ≡ length s₀
  pub in_bytes : AreBytes s

module _ {s₀ : List ℕ} {g : ℕ} {s' : List ℕ} {g' : ℕ} {s : List ℕ} {i j k : ℕ} (t : Unwritten s₀ g s' g' s i j k) where
  pub all_written : j ≤ 0 → s ≡ written (merge_sections s₀ g s' g') s₀
  all_written h =
      sym (written_self s i t.sound₁ t.in_bytes) ∙ ap (λ (x : List Section). written x s) (sym (merge_none s s' i j h)) ∙ t.becomes

  module _ {i' j' : ℕ} (b : LastTaken s i s' j i' j') where
    pub places_left : k ≡ length (merge_sections s i' s' j') + 1
    places_left = t.groups ∙ length_more _ _ b.last_section_lem

    pub no_overflow_last : overflows (last_section s i s' j i' j') ≡ false
    no_overflow_last = (both_false (any_of overflows (merge_sections s i' s' j')) (overflows (last_section s i s' j i' j')) (sym (any_more _ _ b.last_section_lem) ∙ t.no_overflow)).1

    -- one section more
    module _ {r : Record} {s₁ : List ℕ} (p : r ≡ record_of (last_section s i s' j i' j')) (q : s₁ ≡ sets s ((k - 1) * 64) (encode r)) where
      places_fewer : k - 1 ≡ length (merge_sections s i' s' j')
      places_fewer = omega (arith, places_left)

      under : i' ≤ k - 1
      under = omega (arith, places_fewer, merged-length (sections s i') (sections s' j'), length-sections s i')

      same-length₁ : length s₁ ≡ length s
      same-length₁ = ap length q ∙ length-sets s ((k - 1) * 64) (encode r)

      read_same : take (i' * 64) s₁ ≡ take (i' * 64) s
      read_same = ap (take (i' * 64)) q ∙ take-sets s (encode r) ((k - 1) * 64) (i' * 64) (omega (arith, under))

      read-within : i' * 64 ≤ length s₁
      read-within = omega (arith, under, same-length₁, t.fits)

      sections-same : merge_sections s₁ i' s' j' ≡ merge_sections s i' s' j'
      sections-same = ap (λ (x : List Section). merged x (sections s' j')) (sections_agree s₁ s i' read_same read-within (rw (← same-length₁) read-within))

      put_last : s₁ ≡ sets s (length (merge_sections s i' s' j') * 64) (encode (record_of (last_section s i s' j i' j')))
      put_last = q ∙ ap₂ (λ (m : ℕ) (x : Record). sets s (m * 64) (encode x)) places_fewer p

      pub left_less : T (sound s i') → T (sound s' j') → AreBytes s₁ → Unwritten s₀ g s' g' s₁ i' j' (k - 1)
      left_less h₁ h₂ h = record {
        sound₁ = sound_agree s₁ s i' read_same read-within (rw (← same-length₁) read-within) h₁;
        sound₂ = h₂;
        groups = places_fewer ∙ ap length (sym sections-same);
        fits = omega (arith, same-length₁, t.fits);
        no_overflow = ap (any_of overflows) sections-same ∙ (both_false (any_of overflows (merge_sections s i' s' j')) (overflows (last_section s i s' j i' j')) (sym (any_more _ _ b.last_section_lem) ∙ t.no_overflow)).0;
        becomes =
            ap₂ written sections-same put_last
            ∙ written_more (merge_sections s i' s' j') (last_section s i s' j i' j') s (omega (arith, places_left, t.fits))
            ∙ ap (λ (x : List Section). written x s) (sym b.last_section_lem)
            ∙ t.becomes;
        same_length = same-length₁ ∙ t.same_length;
        in_bytes = h;
      }
