-- The laws of accounts, and Card 9.
pub mod Rows
pub mod Holds
pub mod Takes
pub mod Near
pub mod Counts
pub mod Balances
pub mod Kept
pub mod Files
pub mod Answered
pub mod Steps
pub mod Plain
pub mod Claim
