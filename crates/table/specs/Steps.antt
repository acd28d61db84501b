-- What the steps of combining records promise each other.
use Rattle.std.specs.Prelude.{ℕ, ◌+◌, cond, eqb, pos}
use Rattle.level.specs.declared.SplitTotal.{SplitTotal}
use Rattle.level.specs.Carry.{split_of}
use Rattle.record.specs.declared.Record.{Record}

-- what a record holds at level j, as residue and carry
abbrev pub split_in : Record → ℕ → SplitTotal
split_in r j =
    cond (eqb j r.top) r.high (cond (eqb (j + 1) r.top) r.middle (cond (eqb (j + 2) r.top) r.low (split_of (pos 0))))
