use Rattle.std.proofs.lemmas.Bool.{eq-eqb, ne_eqb}
use Rattle.sink_journal.proofs.FieldLemmas.{escaped-other, escaped-same}
use Rattle.audit_parts.proofs.writing.write_escaped.Goals as goal

pub returns-then-byte-eq34 : goal.returns-then-byte-eq34
returns-then-byte-eq34 c =
    rw (escaped-same c.args.byte (eq-eqb c.args.byte 34 c.if-byte-eq34.true), c.if-byte-eq34.true) c.extend_from_slice.ensures.ok

pub returns : goal.returns
returns c = rw (escaped-other c.args.byte (ne_eqb c.args.byte 34 c.if-byte-eq34.false)) c.push.ensures.ok
