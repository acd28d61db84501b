-- A whole number in decimal, by its sign.
use Rattle.std.proofs.Common.{◌≡◌, ◌∷◌, true, false, ℤ, pos, negsuc, nat_abs, refl, arith}
use borrow.Author.Tests.{ltb-true}
use lib.Signed.{lt_z}
use Rattle.numerals.specs.Numerals.{decimal, integer}

pub negative_text : (z : ℤ) → lt_z z (pos 0) ≡ true → integer z ≡ 0x2D ∷ decimal (nat_abs z)
unfolding integer
negative_text (pos n) e = absurd (omega (arith, ltb-true n 0 e))
negative_text (negsuc n) e = refl

pub unsigned_text : (z : ℤ) → lt_z z (pos 0) ≡ false → integer z ≡ decimal (nat_abs z)
unfolding integer
unsigned_text (pos n) e = refl
unsigned_text (negsuc n) e = cc
