mod BookLemmas
mod FaultLemmas
mod ReadyLemmas
mod TakenLemmas
mod TextLemmas
