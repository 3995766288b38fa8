-- Laws of WAVE files: the lists, bytes laid into a buffer, the parts of the header, reading back, and the promise.
pub mod Lists
pub mod Answers
pub mod Laid
pub mod Parts
pub mod Compared
pub mod Back
pub mod Reading
pub mod Inverse
pub mod Cases
