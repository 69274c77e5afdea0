use Rattle.std.proofs.Common.{get_or}
use Rattle.std.proofs.lemmas.Option.{slice_get-get_or}
use Rattle.jobs.specs.Job.{job_view}
use Rattle.coordinator.proofs.PlaceLemmas.{no_lane, number_there, one_sender, place_found, row_number}
use Rattle.coordinator.proofs.place.place_of.Goals as goal

pub route-requires-clause-sender : goal.route-requires-clause-sender
route-requires-clause-sender c = one_sender (job_view c.args.setup.now.job) c.args.source c.requires.source

pub bounds-places-number : goal.bounds-places-number
bounds-places-number c =
    number_there (job_view c.args.setup.now.job) c.args.places.now _ c.in-Some.number c.requires.places
    (row_number (job_view c.args.setup.now.job) c.args.source c.in-Some.number c.args.tuple.now c.requires.source c.in-Some.ensures.some)

pub returns : goal.returns
returns c =
    let job = job_view c.args.setup.now.job in
    let number = row_number job c.args.source c.in-Some.number c.args.tuple.now c.requires.source c.in-Some.ensures.some in
    place_found job c.args.places.now c.args.source c.in-Some.number (get_or c.args.places.now c.in-Some.number 0) c.args.tuple.now c.requires.places number
    (slice_get-get_or c.args.places.now c.in-Some.number 0 (number_there job c.args.places.now _ c.in-Some.number c.requires.places number))

pub unreachable-requires : goal.unreachable-requires
unreachable-requires c = no_lane (job_view c.args.setup.now.job) c.args.source c.args.tuple.now c.args.setup.now.job.lawful c.requires.source c.in-None.ensures.none
