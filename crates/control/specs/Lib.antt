-- What a control request's code and first bytes tell.
pub mod Control
