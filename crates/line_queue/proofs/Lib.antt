-- A job on a stream queue with lines, in the rules' terms.
pub mod Lent
pub mod Counted
pub mod Fine
pub mod Between
pub mod Laws
