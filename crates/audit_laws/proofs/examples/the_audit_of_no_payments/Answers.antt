use Rattle.std.proofs.Common.{arith, refl}
use Rattle.std.proofs.lemmas.Fmt.{decimal_digit}
use Rattle.audit_laws.proofs.RangeLemmas.{none_listed}
use Rattle.audit_laws.proofs.examples.the_audit_of_no_payments.Goals as goal

pub returns : goal.returns
returns c = rw (none_listed, decimal_digit 0 (omega arith), decimal_digit 1 (omega arith)) refl
