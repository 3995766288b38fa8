-- Where a command leads.
pub mod Commands
