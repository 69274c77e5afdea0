-- Bytes have one verdict: the run whose audit they are, or one fault.
use Rattle.std.proofs.Common.{◌≡◌, ◌∙◌, ◌++◌, ◌∷◌, ℕ, List, [], Option, Some, ap, map, subst, sym}
use Rattle.std.specs.Prelude.{◌≢◌, All, IfSome}
use Rattle.std.proofs.lemmas.List.Elements.{All-map}
use Rattle.std.proofs.lemmas.Option.{same_Some}
use Rattle.audit_fault.specs.Noting.{IsNoted}
use Rattle.audit_fault.specs.declared.fault.AuditFault.{AuditFault}
use Rattle.audit_fault.specs.declared.fault.AuditFault.TheVariants as audit
use Rattle.flow_model.specs.Run.{Ran}
use Rattle.fries_lines.specs.Lines.{noted}
use Rattle.fries_lines.specs.declared.fault.Fault.{Fault}
use Rattle.fries_lines.specs.declared.fault.Fault.TheVariants as fault
use Rattle.versions.specs.declared.in_order.Refused.{Refused}
use Rattle.stream_replay.specs.InParts.{AreRunInParts, Records}
use Rattle.stream_replay.specs.Loose.{HasLoose}
use Rattle.stream_replay.proofs.LooseLemmas.{has_apart, has_sole}
use Rattle.fries_verify.specs.Audits.{HasLoosePart, HasRunParts, HaveOneVerdict, IsAudited}
use Rattle.fries_verify.specs.Audits.{IsFaultOn, IsToldBy, RefusesAudit, Subject, given_in}

-- the fault is one that these bytes have
abbrev pub IsFaultIn : (List ℕ → Subject) → List ℕ → AuditFault → Type 0
IsFaultIn subject text code = IsFaultOn (subject text) code

-- no bytes that such a run fits have a fault
abbrev pub HaveNoFault : (List ℕ → Subject) → Type 0
HaveNoFault subject =
    (ran : Ran) (text : List ℕ) (code : AuditFault) → IsToldBy (subject text) ran →
    code ≢ audit.NoMemory → IsFaultIn subject text code → ⊥

-- no bytes have two faults
abbrev pub HaveOneFault : (List ℕ → Subject) → Type 0
HaveOneFault subject =
    (text : List ℕ) (f g : AuditFault) → f ≢ audit.NoMemory → g ≢ audit.NoMemory →
    IsFaultIn subject text f → IsFaultIn subject text g → f ≡ g

-- ---- parts

-- the parts that there are, are runs one after another
parts_in : (subject : Subject) (parts : List Records) → subject.parts ≡ Some parts
    → HasRunParts subject → (earlier : List Records) (last : Records)
    → parts ≡ earlier ++ last ∷ [] → AreRunInParts (given_in subject) earlier last
parts_in subject parts are runs =
    subst (λ (o : Option (List Records)). IfSome o (λ all. (earlier : List Records)
    (last : Records) → all ≡ earlier ++ last ∷ [] → AreRunInParts (given_in subject) earlier last))
    are runs

one_part : (subject : Subject) (k j : ℕ) → HasLoosePart subject k → HasLoosePart subject j → k ≡ j
one_part subject k j x y =
    let same : y.parts ≡ x.parts = same_Some y.parts x.parts (sym y.parts_are ∙ x.parts_are) in
    has_sole (given_in subject) x.parts k j x.loose
    (subst (λ (all : List Records). HasLoose (given_in subject) all j) same y.loose)

-- ---- verdicts

pub one_verdict : (subject : List ℕ → Subject) → HaveNoFault subject → HaveOneFault subject →
    HaveOneVerdict subject
one_verdict subject none one = record { apart = apart; sole = sole }
  where
    apart : (ran : Ran) (why : Fault) (bytes : List ℕ) → IsAudited subject ran bytes →
        RefusesAudit subject why bytes → ⊥
    apart ran (fault.Audit code) bytes audited refused =
        none ran bytes code audited.told refused.0 refused.1
    apart ran (fault.Part part) bytes audited refused =
        has_apart (given_in (subject bytes)) refused.parts part
        (parts_in (subject bytes) refused.parts refused.parts_are audited.in_parts) refused.loose
    apart ran _ bytes audited refused = absurd refused

    sole : (f g : Fault) (bytes : List ℕ) → RefusesAudit subject f bytes →
        RefusesAudit subject g bytes → f ≡ g
    sole (fault.Audit f) (fault.Audit g) bytes x y =
        ap (λ (code : AuditFault). fault.Audit code) (one bytes f g x.0 y.0 x.1 y.1)
    sole (fault.Audit f) (fault.Part k) bytes x y =
        absurd (none y.ran bytes f y.told x.0 x.1)
    sole (fault.Part k) (fault.Audit g) bytes x y =
        absurd (none x.ran bytes g x.told y.0 y.1)
    sole (fault.Part k) (fault.Part j) bytes x y =
        ap (λ (part : ℕ). fault.Part part) (one_part (subject bytes) k j x y)
    sole (fault.Audit f) _ bytes x y = absurd y
    sole (fault.Part k) _ bytes x y = absurd y
    sole _ g bytes x y = absurd x

-- refused requests are noted as an audit may note them
pub all_noted : (refused : List Refused) → All (λ (r : Refused). IsNoted (noted r)) refused →
    All IsNoted (map noted refused)
all_noted refused all = All-map IsNoted noted refused all
