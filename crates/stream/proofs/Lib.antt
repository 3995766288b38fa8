-- Laws of a stream queue in the card, of a job on it, and of the emptying of a line.
pub mod Laws
pub mod Fits
pub mod Settled
pub mod Lent
pub mod Released
