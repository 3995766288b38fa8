-- The rules run on small cases, by computation: calls, transfers, messages; the account once; a queue of several streams, and its calls.
pub mod Blocks
pub mod Calls
pub mod Transfers
pub mod Messages
pub mod Account
pub mod Lines
pub mod Several
