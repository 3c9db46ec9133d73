pub mod Years
pub mod YearsSemiringLemmas
