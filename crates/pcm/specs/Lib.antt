-- The play and capture entries in the rules' terms.
pub mod Entry
