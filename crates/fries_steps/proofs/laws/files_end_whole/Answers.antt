use Rattle.fries_steps.proofs.WholeLemmas.{files_whole}
use Rattle.fries_steps.proofs.laws.files_end_whole.Goals as goal

pub returns : goal.returns
returns c = files_whole
