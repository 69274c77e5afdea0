-- The borders of requests in a run that goes on by a part.
use Rattle.std.proofs.Common.{◌≡◌, ◌∙◌, ◌<◌, ◌≤◌, ℕ, List, [], refl, sym, subst, ap, length, take}
use Rattle.tuple_trace.specs.declared.row.Row.{Row}
use Rattle.flow_model.specs.Begin.{Begin, at_first}
use Rattle.flow_model.specs.Run.{IsRun, IsRunFrom, Ran, ran_as}
use Rattle.flow_model.specs.Setup.{setup_view}
use Rattle.flow_model.specs.SetupView.{SetupView}
use Rattle.flow_model.specs.declared.setup.Setup.{Setup}
use Rattle.flow_model.proofs.RunLemmas.{Running}
use Rattle.savepoint.specs.Parts.{first_of, start_of}
use Rattle.savepoint.proofs.PartsLemmas.{first_part, first_running}
use Rattle.stream_law.specs.Stream.{IsNextPart, IsRunSoFar, RunPart, SoFar, with_part}
use Rattle.flow_laws.proofs.RunLemmas.{RunningFrom, running_from}
use Rattle.stream_law.specs.Border.{IsBorder}
use Rattle.stream_law.proofs.BorderLemmas.{anew_border, kept_border}
use Rattle.stream_law.proofs.EachLemmas.{first_border}
use Rattle.stream_law.proofs.PairLemmas.{second_part}

module _ (so_far : SoFar) (part : RunPart) (is : IsRunSoFar so_far) (next : IsNextPart so_far part)
  where
    abbrev setup : SetupView
    setup = setup_view part.setup

    abbrev m : ℕ
    m = length so_far.setup.requests

    abbrev n : ℕ
    n = length so_far.rows

    abbrev early : List Row
    early = take n part.rows

    abbrev begin : Begin
    begin = start_of n so_far.ran

    early_is : length early ≡ n
    early_is = ap length next.rows_begin

    first_runs : RunningFrom (at_first (first_of setup m)) early (first_part setup m so_far.ran)
    first_runs =
        let begins : IsRun (first_of setup m) early so_far.ran =
        subst (λ (o : SetupView). IsRun o early so_far.ran) (sym next.requests_begin)
        (subst (λ (r : List Row). IsRun so_far.setup r so_far.ran) (sym next.rows_begin) is) in
        let running : Running early (first_part setup m so_far.ran) =
        first_running part.setup part.rows n m so_far.ran next.numbered begins in
        record {
          connected = running.connected;
          kept = running.kept;
          kinds = running.kinds;
          rows_are =
              running.rows_are;
          run = running.run;
        }

    second_runs : RunningFrom begin part.rows (second_part setup part.left)
    second_runs =
        let left : Ran = part.left in
        running_from part.setup begin part.rows (ran_as setup left.feeds left.journals left.states)
        next.numbered (record {
          setup_is = refl;
          run = subst (λ (o : SetupView). IsRunFrom begin part.rows
              (ran_as o left.feeds left.journals left.states)) next.goes_on.setup_is
              next.goes_on.run;
        })

    pub border_anew : length part.rows ≡ n → (request : ℕ) → m < request
        → IsBorder (with_part so_far part).ran request n
    border_anew none request above =
        anew_border setup m begin early part.rows so_far.ran part.left first_runs second_runs
        request
        above early_is none

    pub border_stays : (request border : ℕ) → request ≤ m → border ≤ n
        → IsBorder so_far.ran request border → IsBorder (with_part so_far part).ran request border
    border_stays request border le under was =
        let old : Ran = so_far.ran in
        kept_border setup m begin early part.rows old part.left first_runs second_runs request
        border
        le under
        (subst (λ (o : SetupView). IsBorder (ran_as o old.feeds old.journals old.states) request
        border) (is.setup_is ∙ sym next.requests_begin) was)

pub border_first : (setup : Setup) (ran : Ran) → IsRun (setup_view setup) [] ran → (request : ℕ)
    → IsBorder ran request 0
border_first setup ran is request =
    first_border (at_first (setup_view setup)) ran
    (running_from setup (at_first (setup_view setup)) [] ran (λ i row e. absurd (cc)) is) request
