use Rattle.std.proofs.Common.{◌∙◌, ◌==◌, ◌&&◌, ap, sym}
use Rattle.std.proofs.Math.Facts.{to_z-of_z}
use Rattle.jobs.specs.Job.{job_view}
use Rattle.tuple_trace.specs.Spread.{spread_of}
use Rattle.savepoint.specs.SaveReading.{is_place}
use Rattle.savepoint_file.proofs.NamedLemmas.{few-workers, led-by}
use Rattle.savepoint_file.proofs.placed.takes_key.Goals as goal

pub returns-then-not-is_node : goal.returns-then-not-is_node
returns-then-not-is_node c =
    let at = c.worker_at-at.ensures.at in
    sym (led-by (job_view c.args.who.setup.now.job) c.args.who.number c.args.name.now c.args.place c.args.key.now c.index-as_slice-at.result c.worker_at-at.result.node c.worker_at-at.result.place c.as_slice.result.now
    c.args.who.there (ap (λ w. w.node) at) (ap (λ w. w.place) at) c.worker_at-at.ensures.limit c.as_slice.ensures c.index-as_slice-at.is
    ∙ ap (λ b. b && (is_place c.args.place c.worker_at-at.result.place && (spread_of c.args.key.now c.index-as_slice-at.result.workers == c.worker_at-at.result.place))) (sym c.is_node.ensures ∙ c.if-not-is_node.true))

pub is_led-requires : goal.is_led-requires
is_led-requires c =
    let few = few-workers (job_view c.args.who.setup.now.job) c.args.who.setup.now.job.lawful c.args.name.now c.index-as_slice-at.result c.worker_at-at.result.node c.as_slice.result.now
    c.worker_at-at.ensures.limit c.as_slice.ensures c.index-as_slice-at.is (sym c.is_node.ensures ∙ c.if-not-is_node.false) in
    record { some = few.0; few = few.1 }

pub returns : goal.returns
returns c =
    let at = c.worker_at-at.ensures.at in
    c.is_led.ensures
    ∙ (ap (λ b. b && (spread_of c.args.key.now c.index-as_slice-at.result.workers == c.worker_at-at.result.place)) (simp (to_z-of_z c.ranges.place) at c.is_place.ensures)
    ∙ sym (led-by (job_view c.args.who.setup.now.job) c.args.who.number c.args.name.now c.args.place c.args.key.now c.index-as_slice-at.result c.worker_at-at.result.node c.worker_at-at.result.place c.as_slice.result.now
    c.args.who.there (ap (λ w. w.node) at) (ap (λ w. w.place) at) c.worker_at-at.ensures.limit c.as_slice.ensures c.index-as_slice-at.is
    ∙ ap (λ b. b && (is_place c.args.place c.worker_at-at.result.place && (spread_of c.args.key.now c.index-as_slice-at.result.workers == c.worker_at-at.result.place))) (sym c.is_node.ensures ∙ c.if-not-is_node.false)))
