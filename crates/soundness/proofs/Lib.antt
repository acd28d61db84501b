-- Laws of the tests of soundness.
pub mod Tests
pub mod Tables
