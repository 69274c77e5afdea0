-- A job that is refused isn't lawful.
use Rattle.std.proofs.Common.{◌≢◌, refl, sym, ◌∙◌, length, arith}
use Rattle.std.proofs.lemmas.Bool.{both_ways}
use Rattle.std.proofs.lemmas.Option.{none-some}
use Rattle.jobs.specs.declared.fault.LawFault.{LawFault}
use Rattle.jobs.specs.declared.fault.LawFault.TheVariants as fault
use Rattle.jobs.specs.declared.fault.Named.TheVariants as named
use Rattle.jobs.specs.Law.{IsLawful, IsRefused}
use Rattle.jobs.specs.JobView.{JobView}
use Rattle.jobs.proofs.EdgeLemmas.{IsOutside-inside}
use Rattle.jobs.proofs.LimitLemmas.{first_oversize_of-none}

pub IsRefused-unlawful : (f : LawFault) (job : JobView) → f ≢ fault.NoMemory → IsLawful job → IsRefused f job → ⊥
IsRefused-unlawful (fault.Limit which number) job plain law size = none-some (which, number) (sym (first_oversize_of-none job law.limits) ∙ size)
IsRefused-unlawful (fault.NameTwice named.Column i) job plain law (limits, ((x, at, fails), before)) = both_ways _ fails (law.column_names i x at)
IsRefused-unlawful (fault.NameTwice named.Node i) job plain law (limits, columns, ((x, at, fails), before)) = both_ways _ fails (law.node_names i x at)
IsRefused-unlawful (fault.NoSuchEnd i) job plain law (limits, columns, nodes, outside, before) =
    IsOutside-inside (length job.nodes) job.edges i outside law.endpoints
IsRefused-unlawful (fault.Ports v) job plain law (limits, columns, nodes, ends, ((x, at, fails), before)) = both_ways _ fails (law.ports v x at)
IsRefused-unlawful (fault.Cycle v) job plain law (shape, path, least) = law.acyclic v path
IsRefused-unlawful (fault.Column v) job plain law (shape, acyclic, ((x, at, fails), before)) = both_ways _ fails (law.columns v x at)
IsRefused-unlawful (fault.NoTable v) job plain law (shape, acyclic, columns, ((x, at, fails), before)) = both_ways _ fails (law.tables v x at)
IsRefused-unlawful (fault.Weight number) job plain law (shape, acyclic, columns, tables, is, over) = omega (arith, is, over, law.weight)
IsRefused-unlawful fault.NoMemory job plain law r = plain refl
