-- A call that begins behind no row.
use Rattle.std.proofs.Common.{◌≡◌, ℕ, [], Option, Some, refl, subst, sym}
use Rattle.payments.specs.Files.{Files}
use Rattle.stream_run.specs.Growing.{Names}
use Rattle.stream_run.specs.Standing.{Stands}
use Rattle.stream_step.specs.declared.stream.Stream.{Stream}
use Rattle.stream_run.proofs.GoesLemmas.{goes-same}

pub stands_first : (behind : Option ℕ) (names : Names) (stream : Stream) (files : Option Files)
    → behind ≡ Some 0 → stream.start.row ≡ 0 → Stands behind names stream files
stands_first behind names stream files at row =
    subst (λ (b : Option ℕ). Stands b names stream files) (sym at)
    (record {
      begin = stream;
      before = files;
      begins = row;
      rows = [];
      goes = goes-same names stream stream files files refl refl refl refl;
    })
