-- What the steps of bringing a record in promise each other.
use Rattle.std.specs.Prelude.{Option, Some, None, ℕ, ◌≤◌, ◌<◌, ◌≡◌, List, T, length}
use Rattle.std.proofs.lemmas.List.Edits.{sets}
use Rattle.record.specs.declared.Record.{Record}
use Rattle.record.specs.Layout.{encode, decode}
use Rattle.record.specs.Sound.{sound}
use Rattle.record.specs.Section.{Section, sections}
use Rattle.table.specs.Combine.{absorb}
use Rattle.absorb.specs.declared.Absorbed.{Absorbed}

-- the bytes s with the record r written at a place, which is read back from it
abbrev pub PutAt : List ℕ → ℕ → Record → List ℕ → Type 0
PutAt s at r s' = (s' ≡ sets s at (encode r)) × (decode (encode r) ≡ r)

-- the bytes s hold a sound table of g records, the sections ts, at most `room` of them
pub record HoldsSections (ts : List Section) (room : ℕ) (s : List ℕ) (g : ℕ) : Type 0 where
  pub held : sections s g ≡ ts
  pub group_count_lem : g ≡ length ts
  pub bounded : g ≤ room
  pub sound-table : T (sound s g)

-- the section x brought into ts: the bytes s then hold it, or there is no room
abbrev pub Absorbs : Section → ℕ → List Section → List ℕ → Option Absorbed → Type 0
Absorbs x room ts s (Some a) = HoldsSections (absorb x ts) room s a.groups
Absorbs x room ts s None = room < length (absorb x ts)
