-- The bench book's figures are those of the definitions.
pub mod Figures
