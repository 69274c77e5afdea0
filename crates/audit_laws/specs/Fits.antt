-- Which records fit a text.
use Rattle.std.specs.Prelude.{◌≡◌, ◌∷◌, ℕ, All, List, map}
use Rattle.std.specs.FinMap.{entries}
use Rattle.csv.specs.Reading.{default_config, records, strip_bom}
use Rattle.sink_journal.specs.Audit.{audit_header, audit_records}
use Rattle.sink_journal.specs.declared.audit.Noted.{Noted}
use Rattle.flow_model.specs.Run.{Ran}
use Rattle.audit_laws.specs.declared.audit.Line.{Line}
use Rattle.audit_laws.specs.Lines.{IsLawfulLine, lines_of}
use Rattle.audit_laws.specs.Trimmed.{trimmed}

-- The CSV records of a text.
abbrev pub csv_records : List ℕ → List (List (List ℕ))
csv_records text = records default_config (strip_bom text)

-- The records of the text are those of the audit of what a run left.
abbrev pub Fits : List Noted → List ℕ → Ran → Type 0
Fits refused text ran =
    csv_records text
    ≡ audit_header ∷ audit_records ran.setup.job refused ran.feeds ran.journals ran.states

-- The lines of what an audit keeps of a run.
abbrev pub kept_lines : List Noted → Ran → List Line
kept_lines refused ran =
    lines_of refused ran.feeds (map trimmed ran.journals) (map entries ran.states)

-- Each of them has the form of a line: every number is in the range of its type, and every lane is
-- its worker's.
abbrev pub HasForm : List Noted → Ran → Type 0
HasForm refused ran = All (IsLawfulLine ran.setup.job) (kept_lines refused ran)
