-- Laws of the patch file, of its columns, and of a file written from two columns.
pub mod File
pub mod Writing
pub mod Columns
pub mod Serialized
pub mod WriteOutcome
