-- Laws of short floats and their doubles.
pub mod Binary32
pub mod Widened
pub mod Pattern
