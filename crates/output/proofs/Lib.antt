-- Laws of an output.
pub mod Outputs
