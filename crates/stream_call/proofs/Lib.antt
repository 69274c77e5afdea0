mod EndedLemmas
mod OpenedLemmas
mod StoppedLemmas
mod UnopenedLemmas
