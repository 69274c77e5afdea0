pub mod TwoCalls
