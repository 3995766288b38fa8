-- Laws of records and tallies.
pub mod Laws
pub mod Exact
pub mod Joined
