-- The definitions that Card 9's claim is stated in.
pub mod Holds
pub mod AnyCalls
pub mod Accounts
pub mod Claim
pub mod Cases
