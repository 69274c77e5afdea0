-- What was run, with a setup that was made again.
use Rattle.std.specs.Prelude.{◌≡◌}
use Rattle.flow_model.specs.Setup.{setup_view}
use Rattle.fries_steps.specs.declared.running.Done.{Done}

-- the second is the first, with a setup that is the same to contracts
pub record IsAgain (done again : Done) : Type 0 where
  pub view : setup_view again.ran.setup ≡ setup_view done.ran.setup
  pub judged : again.ran.setup.judged.refused ≡ done.ran.setup.judged.refused
  pub feeds : again.ran.feeds ≡ done.ran.feeds
  pub journals : again.ran.journals ≡ done.ran.journals
  pub states : again.ran.states ≡ done.ran.states
  pub requests : again.requests ≡ done.requests
  pub refused : again.refused ≡ done.refused
  pub serial : again.serial ≡ done.serial
  pub row : again.row ≡ done.row
