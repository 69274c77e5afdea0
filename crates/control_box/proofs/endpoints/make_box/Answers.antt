use Rattle.std.proofs.Common.{rules, []}
use Rattle.control_box.proofs.Steps.{opening-IsBox, sides-Splits}
use Rattle.control_box.proofs.endpoints.make_box.Goals as goal

pub of_words-requires : goal.of_words-requires
of_words-requires c = opening-IsBox []

pub split_seat-other-requires : goal.split_seat-other-requires
split_seat-other-requires c = (search rules, search rules, sides-Splits _ _ (search rules) (search rules))
