-- A run of a part, as a checker of its text has it.
use Rattle.std.proofs.Common.{◌≡◌, ◌∙◌, ℕ, List, ◌∷◌, ap, drop, subst, sym, take}
use Rattle.keyed_state.specs.Counts.{Counts}
use Rattle.tuple_trace.specs.declared.row.Row.{Row}
use Rattle.sink_journal.specs.Audit.{audit_header, audit_records}
use Rattle.sink_journal.specs.declared.audit.Noted.{Noted}
use Rattle.flow_model.specs.Run.{IsRunSince, Ran}
use Rattle.flow_model.specs.SetupView.{SetupView}
use Rattle.savepoint.specs.Parts.{first_of}
use Rattle.audit_laws.specs.Fits.{Fits, csv_records}
use Rattle.audit_laws.specs.Part.{uncounted}
use Rattle.stream_replay.specs.InParts.{Given, IsLastReplay, IsPartReplay, PartStart, Records}
use Rattle.stream_replay.specs.InParts.{refused_told, row_in, turned_in}

-- what the text's records are after the header
told_is : (records others : Records) → audit_header ∷ records ≡ audit_header ∷ others
    → records ≡ others
told_is records others e = ap (drop 1) e

-- ---- a part that isn't the last

module _ (given : Given) (start : PartStart) (records : Records) (view : SetupView)
    (fed : List Row) (refused : List Noted) (text : List ℕ)
    (view_is : view ≡ first_of given.setup (turned_in given start records))
    (fed_is : fed ≡ take (row_in given start records) given.rows)
    (refused_is : refused ≡ refused_told given start records)
    (read : csv_records text ≡ audit_header ∷ records) where
  pub part_of : (left : Ran) → IsRunSince start.begin view fed left
      → Fits refused text (uncounted left) → IsPartReplay given start records left
  part_of left run fits = record {
    run =
        subst (λ (v : SetupView). IsRunSince start.begin v
        (take (row_in given start records) given.rows) left) view_is
        (subst (λ (l : List Row). IsRunSince start.begin view l left) fed_is run);
    told =
        subst (λ (r : List Noted). records ≡ audit_records left.setup.job r left.feeds
        left.journals (uncounted left).states) refused_is
        (told_is records (audit_records left.setup.job refused left.feeds left.journals
        (uncounted left).states) (sym read ∙ fits));
  }

  pub run_of_part : (left : Ran) → IsPartReplay given start records left
      → IsRunSince start.begin view fed left
  run_of_part left is =
      subst (λ (v : SetupView). IsRunSince start.begin v fed left) (sym view_is)
      (subst (λ (l : List Row). IsRunSince start.begin
      (first_of given.setup (turned_in given start records)) l left) (sym fed_is) is.run)

  pub fits_of_part : (left : Ran) → IsPartReplay given start records left
      → Fits refused text (uncounted left)
  fits_of_part left is =
      read
      ∙ ap (λ (r : Records). audit_header ∷ r)
      (subst (λ (r : List Noted). records ≡ audit_records left.setup.job r left.feeds
      left.journals (uncounted left).states) (sym refused_is) is.told)

-- ---- the last part

module _ (given : Given) (start : PartStart) (records : Records) (view : SetupView)
    (refused : List Noted) (text : List ℕ) (view_is : view ≡ given.setup)
    (refused_is : refused ≡ drop start.told given.refused)
    (read : csv_records text ≡ audit_header ∷ records) where
  pub last_of_run : (left : Ran) → IsRunSince start.begin view given.rows left
      → Fits refused text left → IsLastReplay given start records left
  last_of_run left run fits = record {
    run =
        subst (λ (v : SetupView). IsRunSince start.begin v given.rows left) view_is run;
    told =
        subst (λ (r : List Noted). records ≡ audit_records left.setup.job r left.feeds
        left.journals left.states) refused_is
        (told_is records (audit_records left.setup.job refused left.feeds left.journals
        left.states) (sym read ∙ fits));
  }

  pub run_of_last : (left : Ran) → IsLastReplay given start records left
      → IsRunSince start.begin view given.rows left
  run_of_last left is =
      subst (λ (v : SetupView). IsRunSince start.begin v given.rows left) (sym view_is) is.run

  pub fits_of_last : (left : Ran) → IsLastReplay given start records left → Fits refused text left
  fits_of_last left is =
      read
      ∙ ap (λ (r : Records). audit_header ∷ r)
      (subst (λ (r : List Noted). records ≡ audit_records left.setup.job r left.feeds
      left.journals left.states) (sym refused_is) is.told)

-- ---- where a part begins

abbrev start_as : ℕ → ℕ → List Counts → ℕ → PartStart
start_as row turned states told = record {
  begin = record { row = row; turned = turned; states = states };
  told = told;
}

pub starts : (row turned told : ℕ) (states : List Counts) (r t k : ℕ) → row ≡ r → turned ≡ t
    → told ≡ k → start_as row turned states told ≡ start_as r t states k
starts row turned told states r t k a b d =
    ap (λ n. start_as n turned states told) a
    ∙ (ap (λ n. start_as r n states told) b ∙ ap (λ n. start_as r t states n) d)
