-- The card's state, what holds of it, and its rules for power-up and registers.
pub mod Card
pub mod Fit
pub mod Rules
pub mod Setters
