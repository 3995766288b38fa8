-- The replay program: its calls by the rules' step, what each line does and prints, and the session over all lines.
pub mod Calls
pub mod Session
