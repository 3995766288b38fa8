-- Laws of control requests.
pub mod Laws
