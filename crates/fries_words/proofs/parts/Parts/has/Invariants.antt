use Rattle.std.proofs.Common.{◌≡◌, drop, map}
use Rattle.fries_words.specs.Form.{is_found}
use Rattle.fries_words.specs.Views.{pair_view}
use Rattle.fries_words.proofs.parts.Parts.has.Given as goal

abbrev pub invariant-loop-pair : goal.invariant-loop-pair
invariant-loop-pair l = is_found l.id (map pair_view (drop l.pair-index l.self.found.items)) ≡ is_found l.id (map pair_view l.self.found.items)
