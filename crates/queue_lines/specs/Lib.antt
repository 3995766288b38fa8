-- Order 8 as definitions: a stream queue with a line of waiting messages for each of its streams; the rules, once, for any way of
-- keeping the queue; the queue by counters, as the card keeps it, and by histories, as the account does; what is claimed of both, for
-- one call and for any list of them.
pub mod Chains
pub mod Rules
pub mod Counters
pub mod Histories
pub mod Claim
pub mod Turn
pub mod Writes
pub mod Shown
pub mod Parts
pub mod Table
pub mod Said
