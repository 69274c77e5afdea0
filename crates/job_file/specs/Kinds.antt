-- The kinds that tables name.
use Rattle.std.specs.Prelude.{codes, Result, ok_or}
use Rattle.toml.specs.Data.{Members}
use Rattle.jobs.specs.declared.kind.Kind.{Kind}
use Rattle.jobs.specs.Kinds.{kind_named}
use Rattle.job_file.specs.declared.fault.FormFault.{FormFault}
use Rattle.job_file.specs.declared.fault.FormFault.TheVariants as fault
use Rattle.job_file.specs.declared.fault.Part.TheVariants as part
use Rattle.job_file.specs.Document.{and_then, text_of_key}

-- the kind that a table names
abbrev pub kind_in : Members → Result Kind FormFault
kind_in ms =
    and_then (text_of_key (codes "kind") part.Kind ms)
    (λ word. ok_or (kind_named word) (fault.Shape part.Kind))
