-- What a card stands for in the rules, and what holds of every card.
pub mod Card
pub mod Fit
pub mod Held
