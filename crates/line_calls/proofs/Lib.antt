-- The calls of the card and of the account run alike; what each does to the queues; the theorem; demand 3.
pub mod Calls
pub mod Theorem
pub mod Turns
pub mod Backlog
pub mod Causes
pub mod Demand3
pub mod Reached
pub mod Table
pub mod Cases
