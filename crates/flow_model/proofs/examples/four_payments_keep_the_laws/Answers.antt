use Rattle.flow_model.specs.FourPayments.{four_payments, four_ran}
use Rattle.flow_model.proofs.FreshLemmas.{is_fresh_before}
use Rattle.flow_model.proofs.OnceLemmas.{met_once}
use Rattle.flow_model.proofs.OneTableLemmas.{one_table}
use Rattle.flow_model.proofs.PremiseLemmas.{four-accepted, four-lawful, four-no_counts, four-planned, four-rows, four-running, four-sources}
use Rattle.flow_model.proofs.WholeLemmas.{whole}
use Rattle.flow_model.proofs.examples.four_payments_keep_the_laws.Goals as goal

pub returns-clause-lawful : goal.returns-clause-lawful
returns-clause-lawful c = four-lawful

pub returns-clause-no_counts : goal.returns-clause-no_counts
returns-clause-no_counts c = four-no_counts

pub returns-clause-accepted : goal.returns-clause-accepted
returns-clause-accepted c = four-accepted

pub returns-clause-planned : goal.returns-clause-planned
returns-clause-planned c = four-planned

pub returns-clause-rows : goal.returns-clause-rows
returns-clause-rows c = four-rows

pub returns-clause-sources : goal.returns-clause-sources
returns-clause-sources c = four-sources

pub returns-clause-whole : goal.returns-clause-whole
returns-clause-whole c = whole four_payments four_ran four-running

pub returns-clause-once : goal.returns-clause-once
returns-clause-once c = met_once four_payments four_ran four-running

pub returns-clause-fresh : goal.returns-clause-fresh
returns-clause-fresh c = is_fresh_before four_payments four_ran four-running

pub returns-clause-one_table : goal.returns-clause-one_table
returns-clause-one_table c = one_table four_payments four_ran four-running four-no_counts four-sources
