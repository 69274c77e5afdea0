use Rattle.std.proofs.Common.{◌≡◌, ◌∙◌, List, not, sym, ap, arith, length, filter}
use Rattle.std.proofs.lemmas.List.{length-map}
use Rattle.std.proofs.lemmas.List.Sums.{length-filter}
use Rattle.std.specs.Prelude.{count_by}
use Rattle.jobs.specs.declared.column.Column.{Column}
use Rattle.payments.specs.Reading.{given_names}
use Rattle.stream_rows.proofs.row.header_width.Goals as goal

given_long : (columns : List Column) → length (given_names columns)
    ≡ count_by (λ (column : Column). not column.own) columns
given_long columns =
    length-map (filter (λ (column : Column). not column.own) columns)
    (λ (column : Column). column.name)
    ∙ length-filter (λ (column : Column). not column.own) columns

pub returns : goal.returns
returns c =
    let count =
    c.given_count.ensures.value ∙ ap (count_by (λ (column : Column). not column.own))
    c.as_slice.ensures ∙ sym (given_long c.args.job.now.columns) in
    omega (arith, count)
