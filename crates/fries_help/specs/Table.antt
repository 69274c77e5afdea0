-- The table of what is said of each code. Its sentences stand in src/table.rt.
use Rattle.std.specs.Prelude.{ℕ, List, [], ◌∷◌, Option, Some, None, map, if◌then◌else◌}
use Rattle.std.specs.Borrow.{Bor}
use Rattle.std.specs.Str.{bytes_eq}
use Rattle.fries_help.specs.declared.table.HelpIn.{HelpIn}
use Rattle.fries_help.specs.declared.table.TheConstants.{USAGE, J1, J2, J3, J4, J5, J6, J7, J8, J9}
use Rattle.fries_help.specs.declared.table.TheConstants.{J10, F1, F2, F3, P1, P2, P3, P4, P5, P6}
use Rattle.fries_help.specs.declared.table.TheConstants.{P7}
use Rattle.fries_help.specs.declared.table.TheConstants.{S1, S2, S3, S3_STREAM, S4, S5, S6}
use Rattle.fries_help.specs.declared.table.TheConstants.{V1, V2, V3, V4, V5, V6, V7, V8}
use Rattle.fries_help.specs.declared.table.TheConstants.{Q1, Q2, Q3, Q4, Q5, Q6, Q7, Q8, Q9, Q10}
use Rattle.fries_help.specs.declared.table.TheConstants.{READ, READ_ASKS, WRITE, OUT, MEMORY}
use Rattle.fries_help.specs.declared.table.TheConstants.{REFUSED}
use Rattle.fries_help.specs.declared.table.TheConstants.{LONG, LONG_PAYMENTS, LONG_SAVE, LONG_AUDIT}
use Rattle.fries_help.specs.declared.table.TheConstants.{LONG_ALERTS}

-- a row with the bytes of its texts
abbrev pub help_of_texts : List ℕ → List ℕ → List ℕ → HelpIn (List ℕ)
help_of_texts code cause cure = record { code = code; cause = cause; cure = cure }

-- a row as contracts see it
abbrev pub help_view : HelpIn (Bor (List ℕ)) → HelpIn (List ℕ)
help_view help = help_of_texts help.code.now help.cause.now help.cure.now

-- the first of these rows that has a code
abbrev pub help_among : List (HelpIn (List ℕ)) → List ℕ → Option (HelpIn (List ℕ))
help_among [] code = None
help_among (row ∷ rows) code = if bytes_eq row.code code then Some row else help_among rows code

-- the row of the table that has a code
unfoldable pub help_with : List ℕ → Option (HelpIn (List ℕ))
help_with = help_among (map (λ row. help_of_texts row.code.now row.cause.now row.cure.now) (
    USAGE ∷ J1 ∷ J2 ∷ J3 ∷ J4 ∷ J5 ∷ J6 ∷ J7 ∷ J8 ∷ J9 ∷ J10 ∷ F1 ∷ F2 ∷ F3 ∷ P1 ∷ P2 ∷ P3 ∷
    P4 ∷ P5 ∷ P6 ∷ P7 ∷ S1 ∷ S2 ∷ S3 ∷ S3_STREAM ∷ S4 ∷ S5 ∷ S6 ∷ V1 ∷ V2 ∷ V3 ∷ V4 ∷ V5 ∷ V6 ∷
    V7 ∷ V8 ∷ Q1 ∷ Q2 ∷ Q3 ∷ Q4 ∷ Q5 ∷ Q6 ∷ Q7 ∷ Q8 ∷ Q9 ∷ Q10 ∷ READ ∷ READ_ASKS ∷ WRITE ∷
    OUT ∷ MEMORY ∷ REFUSED ∷ LONG ∷ LONG_PAYMENTS ∷ LONG_SAVE ∷ LONG_AUDIT ∷ LONG_ALERTS ∷ []))
