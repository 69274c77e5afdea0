-- The texts of a part, and files that have grown by them.
use Rattle.std.specs.Prelude.{◌≡◌, ◌⊎◌, ◌++◌, ℕ, List, Option}
use Rattle.payments.specs.Files.{Files}
use Rattle.payments.specs.Growing.{with_text}
use Rattle.sink_journal.specs.Audit.{audit_records}
use Rattle.sink_journal.specs.Records.{records_text}
use Rattle.sink_journal.specs.declared.audit.Noted.{Noted}
use Rattle.flow_model.specs.Run.{Ran}
use Rattle.stream_law.specs.Stream.{alerts_in}

-- the text of what the sinks show of a part
abbrev pub alerts_text : Ran → List ℕ
alerts_text ran = records_text (alerts_in ran)

-- the text of the audit of a part, before whose end these requests were refused
abbrev pub audit_text : List Noted → Ran → List ℕ
audit_text refused ran =
    records_text (audit_records ran.setup.job refused ran.feeds ran.journals ran.states)

-- a file has the first bytes of a text at its end, maybe none or all; no other file has changed
pub record GrowsByPrefix (old new : Option Files) (name text : List ℕ) : Type 0 where
  pub done : List ℕ
  pub left : List ℕ
  pub text_is : text ≡ done ++ left
  pub holds : new ≡ with_text old name done

-- The first file has the first bytes of its text at its end, or all of them, and then the second
-- file the first bytes of its own. No other file has changed.
abbrev pub GrowInTurn : Option Files → Option Files → List ℕ → List ℕ → List ℕ → List ℕ → Type 0
GrowInTurn old new first text second more =
    GrowsByPrefix old new first text ⊎ GrowsByPrefix (with_text old first text) new second more
