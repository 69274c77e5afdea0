use Rattle.std.proofs.Common.{◌∙◌, Some, ap, inl, inr, refl}
use Rattle.fries_lines.specs.declared.fault.Fault.{Fault}
use Rattle.fries_steps.specs.declared.answer.Answer.{Answer}
use Rattle.fries_call.proofs.live.live_command.Goals as goal

pub returns-in-Ok : goal.returns-in-Ok
returns-in-Ok g c = inr (record {
  live = c.in-Ok.live;
  is_so = c.in-Ok.ensures.run;
  written = c.leave_live.ensures.outcome.0;
  outcome = rw (← c.in-Ok.ensures.kept) c.leave_live.ensures.outcome.1;
  fault_is = c.leave_live.ensures.outcome.2;
  refused = c.leave_live.ensures.refused;
  ran = c.leave_live.ensures.ran;
  start = c.leave_live.ensures.start;
})

pub returns-in-Err : goal.returns-in-Err
returns-in-Err g c = inl (record {
  stops = record {
    why = c.in-Err.fault;
    answer_is = c.stopped.ensures;
    cause = c.in-Err.ensures.cause;
    files = c.in-Err.ensures.files;
    draft = c.in-Err.ensures.draft;
    out = refl;
  };
  asks = elim c.in-Err.ensures.asks [
    | inl same ↦ inl same
    | inr memory ↦ inr (ap (λ (a : Answer). a.fault) c.stopped.ensures ∙ ap (λ (f : Fault). Some f) memory)
  ];
})
