use Rattle.std.proofs.Common.{◌∙◌}
use Rattle.std.proofs.lemmas.Result.{on_err_weaker}
use Rattle.stream_call.specs.Unopened.{Made}
use Rattle.stream_call.proofs.begin.write_headers.Goals as goal

pub returns-clause-stopped : goal.returns-clause-stopped
returns-clause-stopped g c =
    on_err_weaker c.write_file-2.result (λ same. Made _ (same ∙ c.in_ok-write_file.ensures.files))
    c.write_file-2.ensures.as_before
