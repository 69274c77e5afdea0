use Rattle.std.proofs.Common.{◌++◌, ◌∙◌, ap, sym, List, ℕ}
use Rattle.csv.specs.Records.{fields_of}
use Rattle.sink_journal.specs.Records.{record_text}
use Rattle.audit_stream.proofs.SortLemmas.{set_sorted}
use Rattle.audit_stream.proofs.groups.sort_record.Goals as goal

pub returns : goal.returns
returns c above same =
    let x = fields_of c.args.cells.now in
    let group = c.group_of-group in
    let part = c.index-texts-group in
    set_sorted c.args.workers.now above x c.args.texts.now group.result part.result c.write_record.new.text same group.ensures.group group.ensures.within part.is
    (c.in_ok-write_record.ensures ∙ ap (λ (t : List ℕ). t ++ record_text x) (sym part.is))
