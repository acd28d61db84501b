-- Laws of records, keys and soundness.
pub mod Laws
pub mod Order
pub mod Sound
pub mod Found
pub mod Parts
