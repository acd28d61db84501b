-- Laws that the proofs cite.
pub mod Digits
pub mod Edits
pub mod Signs
pub mod Size
