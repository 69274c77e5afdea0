use Rattle.std.proofs.Common.{rules}
use Rattle.test_layers.proofs.RowLemmas.{one_row}
use Rattle.test_layers.proofs.tests.tuples.third_behind_two.Goals as goal

pub behind-fed-requires-clause-numbered : goal.behind-fed-requires-clause-numbered
behind-fed-requires-clause-numbered c = one_row 2 _ (search rules)
