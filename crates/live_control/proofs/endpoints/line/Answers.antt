use Rattle.std.proofs.Common.{rules, []}
use Rattle.live_control.proofs.Steps.{opening-IsLine, sides-Splits}
use Rattle.live_control.proofs.endpoints.line.Goals as goal

pub of_words-requires : goal.of_words-requires
of_words-requires c = opening-IsLine []

pub split_seat-other-requires : goal.split_seat-other-requires
split_seat-other-requires c = (search rules, search rules, sides-Splits _ _ (search rules) (search rules))
