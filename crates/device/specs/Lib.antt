-- The device as the rules see it: its numbers, its answers, its state; a message of a stream queue and the steps of a queue seen at one
-- line; a line's histories, and what is claimed of them.
pub mod Numbers
pub mod Answers
pub mod Device
pub mod Transfer
pub mod Counters
pub mod Histories
pub mod Claim
pub mod Account
