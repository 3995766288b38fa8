-- Laws of flows.
pub mod Laws
