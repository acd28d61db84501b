-- One claim over the whole list, by computing.
use mathlib.Core.Path.{◌≡◌, refl}
use mathlib.Core.List.{map}
use lib.Ieee.{add, of_bits, to_bits, round}
use Rattle.level.specs.Level.{top_from, top, given, contribution}
use Rattle.record.specs.Section.{find, kept}
use Rattle.table.specs.Combine.{of_row, level_of, combine, absorb, added}
use Rattle.finish.specs.Sum.{nearest_double, too_large}
use Rattle.finish.specs.Figure.{mill_figure, beyond}
use Rattle.cases.specs.BenchFigures.{Case, section_added, added_up, computed_figure, bench_figures}

pub figures : map computed_figure bench_figures ≡ map (λ (c : Case). c.bench_figure) bench_figures
unfolding section_added added_up find kept top top_from given contribution of_row level_of combine absorb added nearest_double too_large mill_figure beyond round of_bits to_bits add
figures = refl
