-- What the steps of a merge promise each other: of two tables the first records are left, and the last ones are placed first.
use Rattle.std.specs.Prelude.{ℕ, ◌+◌, ◌-◌, ◌*◌, ◌≤◌, ◌<◌, ◌≡◌, cond, List, [], ◌∷◌, ◌++◌, eqb}
use Rattle.codec.specs.Bytes.{number_at}
use Rattle.record.specs.Layout.{record_at}
use Rattle.record.specs.Section.{Section, meaning}
use Rattle.table.specs.Combine.{combine}
use Rattle.table.specs.Calls.{merge_sections}
use Rattle.soundness.specs.declared.sound.SoundTable.{SoundTable}
use Rattle.merge.specs.declared.TablePair.{TablePair}

-- the key of record i
abbrev pub key_at : List ℕ → ℕ → ℕ
key_at s i = number_at 4 s (i * 64)

-- the row count of record i
abbrev pub count_at : List ℕ → ℕ → ℕ
count_at s i = number_at 4 s (i * 64 + 4)

-- the section of record i
abbrev pub section_in : List ℕ → ℕ → Section
section_in s i = meaning (record_at s (i * 64))

-- the section that is taken away where of i and j records i' and j' are left
unfoldable pub last_section : List ℕ → ℕ → List ℕ → ℕ → ℕ → ℕ → Section
last_section s i s' j i' j' = cond (eqb i' i) (section_in s' j') (cond (eqb j' j) (section_in s i') (combine (section_in s i') (section_in s' j')))

-- of neither table more records are left than there were, of both together fewer, and it is the last section of the union that is taken away
pub record LastTaken (s : List ℕ) (i : ℕ) (s' : List ℕ) (j i' j' : ℕ) : Type 0 where
  pub no_more₁ : i' ≤ i
  pub no_more₂ : j' ≤ j
  pub fewer : i' + j' < i + j
  pub last_section_lem : merge_sections s i s' j ≡ merge_sections s i' s' j' ++ last_section s i s' j i' j' ∷ []

-- r is t without its last record
pub record WithoutLast (t r : SoundTable) : Type 0 where
  pub shared_bytes : r.bytes.now ≡ t.bytes.now
  pub one_fewer : r.groups ≡ t.groups - 1

-- the sections of two tables together
abbrev pub union : TablePair → List Section
union t = merge_sections t.first.bytes.now t.first.groups t.second.bytes.now t.second.groups

-- the section that is taken away where r is left of t
abbrev pub taken_section : TablePair → TablePair → Section
taken_section t r = last_section t.first.bytes.now t.first.groups t.second.bytes.now t.second.groups r.first.groups r.second.groups

-- r is left of t in the same bytes, once the last section of the union is taken away
pub record StepBack (t r : TablePair) : Type 0 where
  pub shared_bytes₁ : r.first.bytes.now ≡ t.first.bytes.now
  pub shared_bytes₂ : r.second.bytes.now ≡ t.second.bytes.now
  pub last_taken : LastTaken t.first.bytes.now t.first.groups t.second.bytes.now t.second.groups r.first.groups r.second.groups
