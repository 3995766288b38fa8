-- What calls are made of runs alike over any two ways of keeping the stream queues, and over any list; what the orders ask to be shown of
-- the rules; and the table of 01's cases.
pub mod Parts
pub mod Along
pub mod Calls
pub mod Anew
pub mod Answered
pub mod Lifecycle
pub mod Causes
pub mod Closed
pub mod Reached
pub mod Backlog
pub mod Table
