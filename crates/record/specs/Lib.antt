-- The definitions that the contracts cite.
pub mod Layout
pub mod Keys
pub mod Sound
pub mod Section
pub mod Cases
