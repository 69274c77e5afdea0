-- What the functions do to the counts of their nodes, so that nothing above goes through the functions.
use Rattle.std.proofs.Common.{◌≡◌, ℕ, ℤ, [], ◌⊎◌, inl, inr, refl, true, false, Some}
use Rattle.std.specs.FinMap.{insert}
use Rattle.tuple_trace.specs.declared.tuple.Tuple.{Tuple}
use Rattle.tuple_trace.specs.declared.tuple.Visit.{Visit}
use Rattle.keyed_state.specs.Counts.{Counts, clamp}
use Rattle.jobs.specs.declared.func.Func.{Func}
use Rattle.jobs.specs.declared.func.Func.TheVariants as func
use Rattle.jobs.specs.Kinds.{key_of}
use Rattle.jobs.specs.Nodes.{is_count, is_sink}
use Rattle.jobs.specs.JobView.{JobView}
use Rattle.operators.specs.Fields.{text_at}
use Rattle.operators.specs.Meaning.{counts_after, outputs}

-- a function sets one count, of the tuple's text in the column of its key, to a number of 64 bits
pub record SetsOne (job : JobView) (f : Func) (counts : Counts) (tuple : Tuple) : Type 0 where
  pub key : ℕ
  pub key_is : key_of f ≡ Some key
  pub sum : ℤ
  pub after : counts_after job f counts tuple ≡ insert counts (text_at job.columns tuple.fields key) (clamp sum)

-- every function keeps the counts or sets one
pub counts_cases : (job : JobView) (f : Func) (counts : Counts) (tuple : Tuple) → (counts_after job f counts tuple ≡ counts) ⊎ SetsOne job f counts tuple
counts_cases job (func.Count count) counts tuple = inr (record { key = count.key; key_is = refl; sum = _; after = refl })
counts_cases job (func.Dedupe dedupe) counts tuple = inr (record { key = dedupe.key; key_is = refl; sum = _; after = refl })
counts_cases job _ counts tuple = inl refl

-- one that doesn't count keeps them
pub counts_kept : (job : JobView) (f : Func) (counts : Counts) (tuple : Tuple) → is_count f ≡ false → counts_after job f counts tuple ≡ counts
counts_kept job (func.Count count) counts tuple e = absurd (cc)
counts_kept job (func.Dedupe dedupe) counts tuple e = absurd (cc)
counts_kept job _ counts tuple e = refl

-- and puts out the same whatever they are
pub outputs_same : (job : JobView) (visit : Visit) (f : Func) (counts other : Counts) (tuple : Tuple) → is_count f ≡ false
    → outputs job visit f counts tuple ≡ outputs job visit f other tuple
outputs_same job visit (func.Count count) counts other tuple e = absurd (cc)
outputs_same job visit (func.Dedupe dedupe) counts other tuple e = absurd (cc)
outputs_same job visit _ counts other tuple e = refl

-- a sink puts out nothing
pub sinks_end : (job : JobView) (visit : Visit) (f : Func) (counts : Counts) (tuple : Tuple) → is_sink f ≡ true → outputs job visit f counts tuple ≡ []
sinks_end job visit (func.Sink listed) counts tuple s = refl
sinks_end job visit _ counts tuple s = absurd (cc)
