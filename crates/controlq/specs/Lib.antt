-- The control call in the rules' terms.
pub mod Control
