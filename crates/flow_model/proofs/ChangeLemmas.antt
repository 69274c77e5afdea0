-- The changes of accepted requests.
use Rattle.std.proofs.Common.{◌≡◌, ◌<◌, ◌==◌, ℕ, true, List, length, drop, get_or, Some, refl}
use Rattle.std.proofs.lemmas.List.{drop_more}
use Rattle.keyed_state.specs.Counts.{CanCarry}
use Rattle.versions.specs.declared.request.Change.{Change}
use Rattle.versions.specs.Judged.{AreAccepted}
use Rattle.versions.specs.Kept.{CarriesWell}
use Rattle.versions.proofs.CarryLemmas.{accepted-carry}
use Rattle.flow_model.specs.SetupView.{SetupView}
use Rattle.flow_model.specs.Requests.{change_among, change_by}
use Rattle.flow_model.proofs.ElementLemmas.{at_of_all}
use Rattle.flow_model.proofs.KindLemmas.{change_there}

-- a change of an accepted request can carry
pub change-carry : (setup : SetupView) (request node : ℕ) (change : Change) → AreAccepted setup.job setup.requests → change_by setup request node ≡ Some change → CanCarry change.carry
change-carry setup r node change are e =
    let (request, asked, among, at) = change_there setup r node change e in
    let all : CarriesWell request = at_of_all CarriesWell request setup.requests (accepted-carry setup.job setup.requests are) asked in
    at_of_all (λ (c : Change). CanCarry c.carry) change request.changes all among

-- the change of a node is the first of these that names it
pub change_here : (changes : List Change) (node i : ℕ) (d : Change) → i < length changes → (get_or changes i d).node == node ≡ true → change_among (drop i changes) node ≡ Some (get_or changes i d)
change_here changes node i d l e = rw (drop_more changes i d l, e) refl
