-- Laws of the play and capture entries.
pub mod Laws
pub mod Host
pub mod Outcomes
pub mod Backlog
pub mod Lent
