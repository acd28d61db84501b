-- The definitions that the contracts cite.
pub mod Limbs
pub mod Nearest
pub mod Packed
pub mod Side
