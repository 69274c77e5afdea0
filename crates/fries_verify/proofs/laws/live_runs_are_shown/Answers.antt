use Rattle.std.proofs.Common.{map}
use Rattle.flow_model.specs.Setup.{setup_view}
use Rattle.fries_lines.specs.Lines.{noted}
use Rattle.fries_verify.proofs.laws.live_runs_are_shown.Goals as goal

pub returns : goal.returns
returns c ran bytes audited =
    let setup = c.args.setup.now in
    record {
      told = record {
        run =
            c.live_runs_show_their_waits.ensures.run (setup_view setup) c.args.rows.now
            (map noted setup.judged.refused) bytes ran audited.live audited.fits;
        fits = audited.fits;
      };
      in_parts = tt;
    }
