use Rattle.std.proofs.Common.{◌≡◌, sym, ◌∙◌, true, false, rules}
use Rattle.std.specs.Prelude.{nat_eq}
use Rattle.std.specs.Cmp.Lexicographic.{pointwise}
use Rattle.payments.proofs.FileLemmas.{get-stored_found, get-stored_passed, get-stored_end}
use Rattle.payments.proofs.memory.newest.Goals as goal

pub returns-then-eq : goal.returns-then-eq
returns-then-eq c =
    let same : pointwise nat_eq c.args.name.now c.file-item.result.name ≡ true = search rules in
    sym (c.loop-file.invariant ∙ get-stored_found c.args.files.now c.loop-file.file-index c.file-item.result c.args.name.now c.loop-file-test.true c.file-item.is same)

pub loop-file-preserved : goal.loop-file-preserved
loop-file-preserved c =
    let other : pointwise nat_eq c.args.name.now c.file-item.result.name ≡ false = search rules in
    c.loop-file.invariant ∙ get-stored_passed c.args.files.now c.loop-file.file-index c.file-item.result c.args.name.now c.loop-file-test.true c.file-item.is other

pub returns : goal.returns
returns c = sym (c.loop-file.invariant ∙ get-stored_end c.args.files.now c.loop-file.file-index c.args.name.now c.loop-file-test.false)
