-- The text of records that stand in parts.
use Rattle.std.proofs.Common.{◌≡◌, ◌++◌, ◌∷◌, ◌∙◌, [], ℕ, List, refl, sym, ap}
use Rattle.std.specs.List.{flat_map}
use Rattle.std.proofs.lemmas.Grind.{flat_map-append}
use Rattle.sink_journal.specs.Records.{record_text, records_text}

-- records in two parts
pub records-append : (first later : List (List (List ℕ))) → records_text (first ++ later) ≡ records_text first ++ records_text later
records-append first later = flat_map-append record_text first later

-- records in any number of parts
records-parts : (parts : List (List (List (List ℕ)))) → flat_map records_text parts ≡ records_text (flat_map (λ part. part) parts)
records-parts [] = refl
records-parts (part ∷ parts) =
    ap (λ (t : List ℕ). records_text part ++ t) (records-parts parts) ∙ sym (records-append part (flat_map (λ part. part) parts))

-- a header and then records in any number of parts
pub header-parts : (header : List (List ℕ)) (parts : List (List (List (List ℕ))))
    → record_text header ++ flat_map records_text parts ≡ records_text (header ∷ flat_map (λ part. part) parts)
header-parts header parts = ap (λ (t : List ℕ). record_text header ++ t) (records-parts parts)
