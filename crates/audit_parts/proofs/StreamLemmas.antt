-- What a stream writes is read as its parts.
use Rattle.std.proofs.Common.{◌≡◌, ◌∙◌, ◌∷◌, ◌++◌, [], ℕ, List, Some, refl, sym, ap, append_assoc}
use Rattle.std.specs.Prelude.{All}
use Rattle.std.specs.List.{flat_map}
use Rattle.csv.specs.Reading.{default_config, records, strip_bom}
use Rattle.jobs.specs.JobView.{JobView}
use Rattle.sink_journal.specs.Audit.{audit_header}
use Rattle.sink_journal.specs.Records.{record_text, records_text}
use Rattle.audit_parts.specs.Cut.{IsPartRecords, cut_parts, parts_of}
use Rattle.audit_parts.proofs.CutLemmas.{Fields}
use Rattle.audit_parts.proofs.PartLemmas.{parts_found, parts_have}
use Rattle.audit_parts.proofs.ReadLemmas.{reads_back}

text-append : (a b : List Fields) → records_text (a ++ b) ≡ records_text a ++ records_text b
text-append [] b = refl
text-append (x ∷ a) b = ap (λ (t : List ℕ). record_text x ++ t) (text-append a b) ∙ sym (append_assoc (record_text x) (records_text a) (records_text b))

texts-joined : (parts : List (List Fields)) → flat_map records_text parts ≡ records_text (flat_map (λ (p : List Fields). p) parts)
texts-joined [] = refl
texts-joined (part ∷ parts) =
    ap (λ (t : List ℕ). records_text part ++ t) (texts-joined parts) ∙ sym (text-append part (flat_map (λ (p : List Fields). p) parts))

header_leads : (later : List Fields) → parts_of (audit_header ∷ later) ≡ Some (cut_parts later)
header_leads later = refl

pub streams_read : (job : JobView) (parts : List (List Fields)) → All (IsPartRecords job) parts
    → parts_of (records default_config (strip_bom (record_text audit_header ++ flat_map records_text parts))) ≡ Some parts
streams_read job parts all =
    let later : List Fields = flat_map (λ (p : List Fields). p) parts in
    ap (λ (t : List ℕ). parts_of (records default_config (strip_bom (record_text audit_header ++ t)))) (texts-joined parts)
    ∙ ap parts_of (reads_back later (parts_have job parts all))
    ∙ header_leads later
    ∙ ap (λ (l : List (List Fields)). Some l) (parts_found job parts all)
