use Rattle.std.proofs.Common.{◌≡◌, ◌+◌, List, [], ◌∷◌, ◌++◌, arith, ◌∙◌, ap, get_or, length, length-append}
use Rattle.std.proofs.lemmas.List.{length-set}
use Rattle.sink_journal.specs.declared.journal.Entry.{Entry}
use Rattle.sink_journal.specs.declared.journal.Entry.TheVariants.{Ended}
use Rattle.tuple_trace.specs.Reserved.{ReservedIs}
use Rattle.flow_worker.specs.Endpoints.{LaneInIs}
use Rattle.flow_worker.proofs.Noting.{ends_more, clears_more}
use Rattle.flow_worker.proofs.acts.note_ends.Goals as goal

pub loop-lane-preserved : goal.loop-lane-preserved
loop-lane-preserved g c =
    let i = c.loop-lane.lane-index in
    let items = c.loop-lane.lane-items in
    let d = c.lane-item.result in
    let z = c.clear.new.self in
    let old = c.loop-lane.journal in
    let pushed : c.push_reserved.new.self.items ≡ old.items ++ Ended c.number.result ∷ [] = ap (λ (j : ReservedIs Entry). j.items) c.push_reserved.ensures in
    let long : length c.push_reserved.new.self.items ≡ length old.items + 1 = ap (λ (es : List Entry). length es) pushed ∙ length-append old.items (Ended c.number.result ∷ []) in
    let room : c.push_reserved.new.self.memory ≡ old.memory = ap (λ (j : ReservedIs Entry). j.memory) c.push_reserved.ensures in
    let same : c.number.result ≡ (get_or items i d).number = c.number.ensures ∙ ap (λ (a : LaneInIs). a.number) c.clear.ensures in
    record {
      ins = c.loop-lane.invariant.ins ∙ clears_more i items d z (omega arith) c.clear.ensures;
      journal = ends_more i items d z c.loop-lane.journal.items c.push_reserved.new.self.items (omega arith)
          (pushed ∙ ap (λ n. c.loop-lane.journal.items ++ Ended n ∷ []) same) ∙ c.loop-lane.invariant.journal;
      memory = omega (arith, length-set items i z, long, room, c.loop-lane.invariant.memory);
    }
