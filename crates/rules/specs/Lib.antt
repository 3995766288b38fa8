-- Document 01 as definitions, but for the stream queues: registers, control messages and events, the lifecycle of a stream, and the parts
-- that whole calls are made of in `line_calls`.
pub mod Lifecycle
pub mod Control
pub mod Parts
pub mod Calls
pub mod Account
pub mod Claim
pub mod Causes
pub mod Reached
pub mod Backlog
pub mod Table
