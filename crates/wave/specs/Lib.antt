-- WAVE files: the lists of formats and rates, the file as bytes, what writing and reading answer, and the promise.
pub mod Lists
pub mod File
pub mod Outcome
pub mod Promise
