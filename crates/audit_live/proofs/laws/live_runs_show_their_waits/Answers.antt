use Rattle.audit_live.proofs.LiveLemmas.{live_shows, live_waits}
use Rattle.audit_live.proofs.laws.live_runs_show_their_waits.Goals as goal

pub returns-clause-waits : goal.returns-clause-waits
returns-clause-waits c setup rows refused text ran live fits = live_shows setup rows ran live refused text fits

pub returns-clause-run : goal.returns-clause-run
returns-clause-run c setup rows refused text ran live fits = live_waits setup rows ran live refused text fits
