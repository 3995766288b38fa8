-- Laws of messages.
pub mod Laws
