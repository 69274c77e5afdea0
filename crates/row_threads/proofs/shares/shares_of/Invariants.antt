use Rattle.std.proofs.Common.{◌≡◌, ◌++◌, map}
use Rattle.std.specs.List.{concat}
use Rattle.std.specs.Prelude.{All}
use Rattle.csv.specs.Reading.{default_config}
use Rattle.input_pieces.specs.Cut.{IsCut}
use Rattle.row_threads.proofs.shares.shares_of.Given as goal

abbrev pub invariant-loop : goal.invariant-loop
invariant-loop l = record {
  cut : All (IsCut default_config) (map (λ share. share.now) l.shares.items);
  whole : concat (map (λ share. share.now) l.shares.items) ++ l.rest ≡ l.text;
}
