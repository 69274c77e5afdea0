use Rattle.std.proofs.Common.{◌≡◌, ◌∙◌, ℕ, [], ◌∷◌, ◌++◌, sym, ap}
use Rattle.marker_align.specs.declared.held.Hand.TheVariants.{Holds}
use Rattle.sink_journal.specs.declared.journal.Entry.{Entry}
use Rattle.sink_journal.specs.declared.journal.Entry.TheVariants.{Met}
use Rattle.tuple_trace.specs.Reserved.{ReservedIs}
use Rattle.tuple_trace.specs.declared.tuple.Item.TheVariants.{Carry}
use Rattle.tuple_trace.specs.declared.tuple.Tuple.{Tuple}
use Rattle.flow_worker.specs.Endpoints.{LaneInIs}
use Rattle.flow_worker.proofs.Taking.{same_at, same_tuple, set_laid}
use Rattle.flow_worker.proofs.acts.note_tuple.Goals as goal

pub returns-clause-ins : goal.returns-clause-ins
returns-clause-ins g c = set_laid c.args.ins.now c.args.place c.index-ins-place.result c.empty.new.self c.requires.within c.empty.ensures.rest

pub returns-clause-journal : goal.returns-clause-journal
returns-clause-journal g c a t q h =
    let e = same_at c.args.ins.now c.args.place c.index-ins-place.result a q in
    let old = c.args.journal.now.items in
    let tuple : Tuple = c.in-Holds-Carry.tuple in
    let is = c.in-Holds-Carry.is in
    let item = c.in-Holds-Carry.field-0-is in
    let held : c.empty.result ≡ Holds (Carry tuple) = cc in
    let same : t ≡ tuple = same_tuple a t tuple h (sym (ap (λ (x : LaneInIs). x.hand) e) ∙ (sym c.empty.ensures.hand ∙ held)) in
    let number = c.number-number.ensures ∙ ap (λ (x : LaneInIs). x.number) e in
    ap (λ (j : ReservedIs Entry). j.items) c.push_reserved.ensures
    ∙ (ap (λ (n : ℕ). old ++ Met n tuple ∷ []) number ∙ ap (λ (u : Tuple). old ++ Met a.number u ∷ []) (sym same))
