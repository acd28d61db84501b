-- Laws of the trailer.
pub mod Laws
