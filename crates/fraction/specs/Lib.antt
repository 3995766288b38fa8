-- Fractions in lowest terms.
pub mod Fraction
