-- Work on a line in the rules' terms.
pub mod Lift
pub mod Laws
