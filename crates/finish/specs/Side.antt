-- Which way a sum was rounded: the double's value beside the kept value.
use Rattle.std.specs.Prelude.{Bool, cond, ℤ, Float}
use Rattle.std.specs.Float.{binary64}
use Rattle.std.specs.Float.Ieee.{to_bits}
use Rattle.level.specs.Double.{value}
use Rattle.std.specs.declared.cmp.Ordering.{Ordering}
use Rattle.std.specs.Ordering.{ordering_reverse}
use Rattle.limbs.specs.Side.{side_of}

-- a double's value, in units of 2^-1074
abbrev pub double_value : Float → ℤ
double_value x = value (to_bits binary64 x)

-- Card 2's side: the value of the double x is below, equal to or above k units
unfoldable pub side : Float → ℤ → Ordering
side x k = side_of (double_value x) k

-- the side of two numbers with the sign s, d being that of their sizes
abbrev pub signed_side : Bool → Ordering → Ordering
signed_side s d = cond s (ordering_reverse d) d
