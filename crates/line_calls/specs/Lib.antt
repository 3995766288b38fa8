-- Order 8 as definitions: the calls on a card of several streams; the part that each has on a stream queue; what is claimed of any list of
-- calls, and demand 3 read per stream.
pub mod Streams
pub mod Calls
pub mod Account
pub mod Claim
pub mod Backlog
pub mod Causes
pub mod Demand3
pub mod Table
pub mod Cases
