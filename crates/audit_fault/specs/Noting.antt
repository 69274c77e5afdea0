-- What an audit notes of a refused request.
use Rattle.std.specs.Prelude.{◌<◌, ◌≤◌, ◌^◌}
use Rattle.sink_journal.specs.declared.audit.Noted.{Noted}
use Rattle.audit_fault.specs.declared.limits.TheConstants.{LAST_REFUSAL_CODE}

-- A refused request is noted by its place and by one of the codes.
abbrev pub IsNoted : Noted → Type 0
IsNoted noted = (noted.place < 2 ^ 32) × (1 ≤ noted.code) × (noted.code ≤ LAST_REFUSAL_CODE)
