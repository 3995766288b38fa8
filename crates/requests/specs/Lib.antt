-- The steps of reading a control request.
pub mod Requests
