use Rattle.std.proofs.Common.{inl, inr, refl}
use Rattle.fries_words.specs.Words.{asked_of}
use Rattle.payments.specs.World.{world}
use Rattle.fries_lines.specs.declared.fault.Fault.TheVariants as fault
use Rattle.fries_call.proofs.MemoryLemmas.{memory_ends, nothing_asked}
use Rattle.fries_call.proofs.top.answer_words.Goals as goal

pub returns-in-Ok-clause-ends : goal.returns-in-Ok-clause-ends
returns-in-Ok-clause-ends g c = rw c.in-Ok.ensures.asked c.answer_command.ensures.ends

pub returns-in-Err-Usage-clause-usage : goal.returns-in-Err-Usage-clause-usage
returns-in-Err-Usage-clause-usage g c =
    nothing_asked (asked_of c.args.words.now) (world (g.S.Shelf.state c.args.shelf.now) (g.O.Sink.state c.args.out.now)) _ fault.Usage (inl refl) c.stopped.ensures

pub returns-in-Err-Usage-clause-ends : goal.returns-in-Err-Usage-clause-ends
returns-in-Err-Usage-clause-ends g c = rw (c.in-Err-Usage.ensures.usage (λ e. absurd (cc e))) tt

pub returns-in-Err-NoMemory-clause-usage : goal.returns-in-Err-NoMemory-clause-usage
returns-in-Err-NoMemory-clause-usage g c =
    nothing_asked (asked_of c.args.words.now) (world (g.S.Shelf.state c.args.shelf.now) (g.O.Sink.state c.args.out.now)) _ fault.NoMemory (inr refl) c.stopped-in-Err-NoMemory.ensures

pub returns-in-Err-NoMemory-clause-ends : goal.returns-in-Err-NoMemory-clause-ends
returns-in-Err-NoMemory-clause-ends g c =
    memory_ends (asked_of c.args.words.now) (g.Q.Asks.state c.args.asks.now) (world (g.S.Shelf.state c.args.shelf.now) (g.O.Sink.state c.args.out.now)) _ c.stopped-in-Err-NoMemory.ensures
