pub mod TwoSeats
pub mod SteadyLemmas
pub mod Steps
