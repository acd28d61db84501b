-- Laws of IEEE 754's formats, each for a general format, over the toolchain's account of them.
pub mod Fields
pub mod Values
