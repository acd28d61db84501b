-- Laws of adding and merging.
pub mod Combine
pub mod Lookup
pub mod Proper
pub mod Bytes
pub mod Totals
pub mod State
pub mod Accepted
pub mod AsDoubles
