-- Below demand 3: cases and lists; what each change of a line's history keeps; that its counts and its message in work are the counters';
-- and what is good of it, in a reader's words.
pub mod Cases
pub mod Lists
pub mod Grown
pub mod Keeps
pub mod Histories
pub mod Found
pub mod Reading
