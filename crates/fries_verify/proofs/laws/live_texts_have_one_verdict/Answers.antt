use Rattle.std.proofs.Common.{None}
use Rattle.audit_laws.specs.Fits.{csv_records}
use Rattle.fries_verify.proofs.laws.live_texts_have_one_verdict.Goals as goal

pub returns : goal.returns
returns c = c.shown_texts_have_one_verdict.ensures csv_records (λ bytes. None)
