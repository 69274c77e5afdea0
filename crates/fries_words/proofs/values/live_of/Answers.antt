use Rattle.clap.specs.Words.{first_value, found_of}
use Rattle.fries_words.specs.Words.{unordered_in}
use Rattle.fries_words.proofs.values.live_of.Goals as goal

pub returns-in_default-clause-usage : goal.returns-in_default-clause-usage
returns-in_default-clause-usage c =
    let none = rw c.in_default.is at c.run_size.ensures.none in
    λ other. none (unordered_in (first_value (found_of c.args.values.now)))
