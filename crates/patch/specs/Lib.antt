-- The definitions that the contracts cite.
pub mod File
pub mod Serializer
pub mod Cases
