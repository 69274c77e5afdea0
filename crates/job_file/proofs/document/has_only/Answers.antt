use Rattle.std.proofs.Common.{◌∙◌}
use Rattle.job_file.proofs.DocumentLemmas.{has_only-keys_of}
use Rattle.job_file.proofs.document.has_only.Goals as goal

pub returns : goal.returns
returns c = c.are_among.ensures ∙ has_only-keys_of c.args.these.now c.args.those.now c.args.table.now.entries
