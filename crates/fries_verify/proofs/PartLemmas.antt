-- The parts of the audit of a stream, which are runs one after another, or not.
use Rattle.std.proofs.Common.{◌≡◌, ◌∙◌, ◌++◌, ◌∷◌, ℕ, List, [], None, Option, Some, ap, map, subst}
use Rattle.std.proofs.Common.{sym}
use Rattle.std.specs.Prelude.{IfSome}
use Rattle.std.proofs.lemmas.List.{same_from_push}
use Rattle.std.proofs.lemmas.Option.{same_Some}
use Rattle.audit_parts.specs.Cut.{parts_of}
use Rattle.flow_model.specs.Run.{Ran}
use Rattle.flow_model.specs.Setup.{setup_view}
use Rattle.flow_model.specs.SetupView.{SetupView}
use Rattle.flow_model.specs.declared.setup.Setup.{Setup}
use Rattle.payments.specs.Causes.{Faults}
use Rattle.payments.specs.Files.{Files}
use Rattle.fries_lines.specs.Lines.{noted}
use Rattle.fries_lines.specs.declared.fault.FileIs.TheVariants as file
use Rattle.tuple_trace.specs.declared.row.Row.{Row}
use Rattle.versions.specs.declared.in_order.Refused.{Refused}
use Rattle.fries_steps.specs.Reading.{IsRead}
use Rattle.stream_replay.specs.Faults.{part_fault}
use Rattle.stream_replay.specs.InParts.{AreRunInParts, Given, Records, given_in_parts}
use Rattle.stream_replay.specs.Loose.{HasLoose, IsLooseIn}
use Rattle.stream_replay.specs.declared.fault.PartFault.{PartFault}
use Rattle.stream_replay.specs.declared.fault.PartFault.TheVariants as part
use Rattle.fries_verify.specs.Audits.{HasLoosePart, HasRunParts, IsNoAudit, IsToldBy, Subject}
use Rattle.fries_verify.specs.Audits.{given_in, joined_subject, stream_subject}

if_some : (parts : Option (List Records)) (Are : List Records → Records → Type 0)
    → ((earlier : List Records) (last : Records) → parts ≡ Some (earlier ++ last ∷ [])
    → Are earlier last) → IfSome parts (λ all. (earlier : List Records) (last : Records)
    → all ≡ earlier ++ last ∷ [] → Are earlier last)
if_some None Are each = tt
if_some (Some all) Are each = λ earlier last same. each earlier last (ap Some same)

-- ---- what a stream's audit is of

-- what is told of the parts that are put together is told of the stream
pub told_stream : (setup : Setup) (rows : List Row) (bytes : List ℕ) (ran : Ran)
    → IsToldBy (joined_subject setup rows bytes) ran
    → IsToldBy (stream_subject setup rows bytes) ran
told_stream setup rows bytes ran told = record { run = told.run; fits = told.fits }

pub told_joined : (setup : Setup) (rows : List Row) (bytes : List ℕ) (ran : Ran)
    → IsToldBy (stream_subject setup rows bytes) ran
    → IsToldBy (joined_subject setup rows bytes) ran
told_joined setup rows bytes ran told = record { run = told.run; fits = told.fits }

abbrev given_as : SetupView → List Refused → List Row → Given
given_as view refused rows = record { setup = view; refused = map noted refused; rows = rows }

-- a setup that is the same to contracts gives the same
pub given_same : (made setup : Setup) (rows : List Row) (bytes : List ℕ)
    → setup_view made ≡ (stream_subject setup rows bytes).setup
    → made.judged.refused ≡ setup.judged.refused
    → given_in_parts made rows ≡ given_in (stream_subject setup rows bytes)
given_same made setup rows bytes view refused =
    ap (λ (v : SetupView). given_as v made.judged.refused rows) view
    ∙ ap (λ (r : List Refused). given_as (stream_subject setup rows bytes).setup r rows) refused

-- ---- parts

-- the subject is of these parts
module _ (subject : Subject) (given : Given) (records : Records)
    (given_is : given ≡ given_in subject) (parts_are : subject.parts ≡ parts_of records) where
  pub parts_for : ((earlier : List Records) (last : Records)
      → parts_of records ≡ Some (earlier ++ last ∷ []) → AreRunInParts given earlier last)
      → HasRunParts subject
  parts_for each =
      if_some subject.parts (AreRunInParts (given_in subject))
      (λ earlier last same.
      subst (λ (g : Given). AreRunInParts g earlier last) given_is
      (each earlier last (sym parts_are ∙ same)))

  pub loose_for : (ran : Ran) (number : ℕ) → IsToldBy subject ran
      → IsLooseIn given records (part.Loose number) → HasLoosePart subject number
  loose_for ran number told loose = record {
    ran = ran;
    told = told;
    parts = loose.0;
    parts_are = parts_are ∙ loose.1;
    loose = subst (λ (g : Given). HasLoose g loose.0 number) given_is loose.2;
  }

-- the parts of the subject are these, which are runs one after another
pub run_parts : (subject : Subject) (given : Given) (front : List Records) (end : Records)
    → subject.parts ≡ Some (front ++ end ∷ []) → given ≡ given_in subject
    → AreRunInParts given front end → HasRunParts subject
run_parts subject given front end parts_are given_is runs =
    if_some subject.parts (AreRunInParts (given_in subject))
    (λ earlier last same.
    let both = same_from_push front earlier end last
    (same_Some (front ++ end ∷ []) (earlier ++ last ∷ []) (sym parts_are ∙ same)) in
    subst (λ (g : Given). AreRunInParts g earlier last) given_is
    (subst (λ (e : List Records). AreRunInParts given e last) both.0
    (subst (λ (r : Records). AreRunInParts given front r) both.1 runs)))

-- bytes that were read are refused for the part that is no run
pub loose_refused : (subject : List ℕ → Subject) (given : Given) (records : Records)
    (files : Option Files) (name bytes : List ℕ) (old new : Faults) (ran : Ran) (why : PartFault)
    → given ≡ given_in (subject bytes) → (subject bytes).parts ≡ parts_of records
    → IsRead file.Audit files name bytes → IsToldBy (subject bytes) ran
    → IsLooseIn given records why → new ≡ old
    → IsNoAudit files name subject old new (part_fault why)
loose_refused subject given records files name bytes old new ran part.NoMemory given_is parts_are
    read told loose same = same
loose_refused subject given records files name bytes old new ran (part.Loose number) given_is
    parts_are read told loose same = (
      record {
        bytes = bytes;
        read = read;
        are_so = loose_for (subject bytes) given records given_is parts_are ran number told loose;
      },
      same,
    )
