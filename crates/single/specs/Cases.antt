-- Worked examples, computed from the definitions: short floats, and the doubles of equal value.
use Rattle.std.specs.Prelude.{ℕ, ◌≡◌, refl, List, [], ◌∷◌, map}
use Rattle.std.specs.Float.Ieee.{of_bits, to_bits}
use Rattle.level.specs.Double.{value}
use Rattle.single.specs.Single.{single_value, widened}

-- a short float's bits, and those of its double
pub record WidenExample : Type 0 where
  pub short_bits : ℕ
  pub widened-bits : ℕ

infix 4 ◌becomes◌
-- an example in one line
abbrev ◌becomes◌ : ℕ → ℕ → WidenExample
x becomes y = record { short_bits = x; widened-bits = y }

widen_examples : List WidenExample
widen_examples =
    -- both zeros, three subnormals, the smallest and the largest among them, and the smallest normal
    (0x00000000 becomes 0x0000000000000000)
    ∷ (0x80000000 becomes 0x8000000000000000)
    ∷ (0x00000001 becomes 0x36A0000000000000)
    ∷ (0x80000003 becomes 0xB6B8000000000000)
    ∷ (0x007FFFFF becomes 0x380FFFFFC0000000)
    ∷ (0x00800000 becomes 0x3810000000000000)
    -- 1, -2.5, 31.5, and the largest
    ∷ (0x3F800000 becomes 0x3FF0000000000000)
    ∷ (0xC0200000 becomes 0xC004000000000000)
    ∷ (0x41FC0000 becomes 0x403F800000000000)
    ∷ (0x7F7FFFFF becomes 0x47EFFFFFE0000000)
    -- both infinities, and not a number with either sign
    ∷ (0x7F800000 becomes 0x7FF0000000000000)
    ∷ (0xFF800000 becomes 0xFFF0000000000000)
    ∷ (0x7F800001 becomes 0x7FF8000000000000)
    ∷ (0xFFFFFFFF becomes 0x7FF8000000000000)
    ∷ []

computed : map (λ (e : WidenExample). widened e.short_bits) widen_examples ≡ map (λ (e : WidenExample). e.widened-bits) widen_examples
unfolding widen_examples widened of_bits to_bits
computed = refl

-- the smallest subnormal, the smallest normal, and -2.5
values-computed : map single_value (1 ∷ 0x00800000 ∷ 0xC0200000 ∷ []) ≡ map value (0x36A0000000000000 ∷ 0x3810000000000000 ∷ 0xC004000000000000 ∷ [])
values-computed = refl
