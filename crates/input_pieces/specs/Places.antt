-- The state of the CSV machine, as it reads by default, that a place stands for.
use Rattle.csv.specs.declared.parser.State.{State}
use Rattle.csv.specs.declared.parser.State.TheVariants as st
use Rattle.input_pieces.specs.declared.place.Place.{Place}
use Rattle.input_pieces.specs.declared.place.Place.TheVariants as place

abbrev pub state_of : Place → State
state_of place.StartRecord = st.StartRecord
state_of place.StartField = st.StartField
state_of place.InField = st.InField
state_of place.InQuoted = st.InQuoted
state_of place.AfterQuote = st.AfterQuote
state_of place.AfterCr = st.AfterCr
