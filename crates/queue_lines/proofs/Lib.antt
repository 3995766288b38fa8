-- Below order 8's claims: lists and the one loop; what is left of the host's bytes; that the rules run alike over any two ways of keeping
-- a queue with lines; what the front of a line tells; what each change of a history keeps, and that histories and counters are two such
-- ways; that a call is its acts, and what follows from them; takings, readings and bytes as memory then showed them, by their numbers; the
-- theorem for a call and for any list of calls' parts; that calls drain the ring and their line, and that no more than N messages are in
-- line; what a history says in a reader's words; the P cases.
pub mod Lists
pub mod Host
pub mod Natural
pub mod Fronts
pub mod Keeps
pub mod Histories
pub mod Traced
pub mod Added
pub mod Shown
pub mod Read
pub mod Writes
pub mod Theorem
pub mod Drained
pub mod Within
pub mod Holds
pub mod Reading
pub mod Table
pub mod Said
