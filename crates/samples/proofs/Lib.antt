-- Laws of samples: numbers of any width, the mu-law table, the buffer that a conversion leaves, and the promise.
pub mod Numbers
pub mod Machine
pub mod Table
pub mod Width
pub mod Samples
pub mod Going
pub mod Answers
pub mod Promise
pub mod Cases
