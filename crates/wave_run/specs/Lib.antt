-- What the program answers.
pub mod Reports
