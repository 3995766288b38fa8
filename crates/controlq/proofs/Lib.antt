-- Laws of the control call.
pub mod Laws
