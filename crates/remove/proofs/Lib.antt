-- Laws of removal: what remains, what an accepted removal leaves, undoing, and the answers.
pub mod Found
pub mod Remaining
pub mod Sound
pub mod AsDoubles
pub mod Undo
pub mod Back
pub mod Reducing
pub mod Answers
pub mod Fewer
