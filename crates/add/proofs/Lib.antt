-- Laws of adding rows.
pub mod Rows
pub mod Work
pub mod Answers
