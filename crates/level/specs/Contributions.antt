-- A row's top, and what the row gives to it and to the two levels below.
use Rattle.std.specs.Prelude.{ℕ}
use Rattle.level.specs.Level.{top, contribution, below}
use Rattle.level.specs.declared.Contributions.{Contributions}

-- a row's top and its contributions to the levels top, top - 1 and top - 2; below level 0 it gives 0
abbrev pub contributions_of : ℕ → Contributions
contributions_of b =
    record {
      top = top b;
      high = below (contribution b) (top b) 0;
      middle = below (contribution b) (top b) 1;
      low = below (contribution b) (top b) 2;
    }
