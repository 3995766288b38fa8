-- Laws of the register file.
pub mod Keeps
pub mod Queues
