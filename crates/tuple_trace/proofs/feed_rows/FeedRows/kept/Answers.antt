use Rattle.std.proofs.Common.{◌∙◌, ◌≤◌, ◌-◌, Bor, List, arith, ap, sym, slice_get}
use Rattle.std.proofs.lemmas.Option.{IfSome_then}
use Rattle.tuple_trace.specs.declared.row.Row.{Row}
use Rattle.tuple_trace.proofs.BlankLemmas.{found, kept_get}
use Rattle.tuple_trace.proofs.feed_rows.FeedRows.kept.Goals as goal

pub returns-clause-there : goal.returns-clause-there
returns-clause-there c =
    let le : c.self.inside.skipped ≤ c.args.place = omega (arith, c.if-place-self.false) in
    let here = kept_get c.self.inside.source c.self.inside.skipped c.self.inside.rows.now c.args.place le in
    let there = found (λ (row : Bor Row). row.now) c.get.result c.self.inside.rows.now (c.args.place - c.self.inside.skipped) c.get.ensures.lookup.3 in
    IfSome_then c.get.result there (λ row p. ap (λ (l : List Row). slice_get l c.args.place) (sym c.self.view_is) ∙ (here ∙ p))

pub returns-clause-row : goal.returns-clause-row
returns-clause-row c =
    let le : c.self.inside.skipped ≤ c.args.place = omega (arith, c.if-place-self.false) in
    let here = kept_get c.self.inside.source c.self.inside.skipped c.self.inside.rows.now c.args.place le in
    let there = found (λ (row : Bor Row). row.now) c.get.result c.self.inside.rows.now (c.args.place - c.self.inside.skipped) c.get.ensures.lookup.3 in
    IfSome_then c.get.result there (λ row p. c.self.invariant.0 c.args.place row.now (here ∙ p))
