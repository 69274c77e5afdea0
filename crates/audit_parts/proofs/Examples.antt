-- Worked audits, cut record by record.
use Rattle.std.proofs.Common.{◌≡◌, ◌∷◌, [], ℕ, List, refl}
use Rattle.std.specs.Prelude.{codes}
use Rattle.audit_parts.specs.Cut.{cut_parts}

fed : List (List ℕ)
fed = codes "fed" ∷ [] ∷ [] ∷ [] ∷ codes "1" ∷ [] ∷ []

stopped : List (List ℕ)
stopped = codes "stopped" ∷ [] ∷ [] ∷ [] ∷ [] ∷ [] ∷ []

refused : List (List ℕ)
refused = codes "refused" ∷ [] ∷ [] ∷ [] ∷ codes "1" ∷ codes "Q4" ∷ []

issued : List (List ℕ)
issued = codes "issued" ∷ [] ∷ [] ∷ [] ∷ codes "1" ∷ [] ∷ []

met : List (List ℕ)
met = codes "met" ∷ codes "stopped" ∷ codes "0" ∷ codes "0" ∷ codes "1" ∷ [] ∷ []

ended : List (List ℕ)
ended = codes "ended" ∷ codes "fed" ∷ codes "0" ∷ codes "0" ∷ [] ∷ [] ∷ []

-- a part with workers, one without them, and one that begins with a refused request
three_parts : cut_parts (fed ∷ stopped ∷ met ∷ ended ∷ stopped ∷ refused ∷ issued ∷ fed ∷ stopped ∷ ended ∷ [])
    ≡ (fed ∷ stopped ∷ met ∷ ended ∷ []) ∷ (stopped ∷ []) ∷ (refused ∷ issued ∷ fed ∷ stopped ∷ ended ∷ []) ∷ []
unfolding fed stopped refused issued met ended
three_parts = refl
