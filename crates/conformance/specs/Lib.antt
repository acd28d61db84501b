-- What contracts say to callers: that calls are steps of a way of working, what calls on a file say, what a report says of its rows, that none asks anything, and where returned parts stand.
pub mod Called
pub mod Worked
pub mod WorkedOlder
pub mod WorkedRemovals
pub mod Exported
pub mod Files
pub mod Checkpoints
pub mod Reported
pub mod Parts
pub mod AsksNothing
