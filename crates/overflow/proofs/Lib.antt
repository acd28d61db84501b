-- Laws of row counts.
pub mod Counts
