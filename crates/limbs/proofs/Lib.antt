-- The laws behind the code's proofs: nearest numbers, limbs, shifts, and the bits of a double.
pub mod Nearest
pub mod Sides
pub mod Shift
pub mod Leading
pub mod Packed
pub mod Scaled
