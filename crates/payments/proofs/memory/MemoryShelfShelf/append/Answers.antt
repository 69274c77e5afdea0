use Rattle.std.proofs.Common.{◌≡◌, ◌∙◌, Option, Some, subst, sym, take}
use Rattle.std.specs.Prelude.{option_map, IfSome}
use Rattle.payments.specs.Files.{draft_with, longer_draft}
use Rattle.payments.specs.Memory.{files_of}
use Rattle.payments.specs.declared.memory.File.{File}
use Rattle.payments.proofs.FileLemmas.{memory_grown}
use Rattle.payments.proofs.memory.MemoryShelfShelf.append.Goals as goal

pub returns-clause-more : goal.returns-clause-more
returns-clause-more c =
    let files = files_of c.args.self.now in
    let new = c.grow.new.self in
    let piece = take c.in_ok-count.count c.args.piece.now in
    let some : c.args.self.now.draft ≡ Some c.in-Some.draft = sym c.take.ensures.value ∙ c.in-Some.is in
    subst
    (λ (draft : Option File). IfSome (option_map (λ (file : File). draft_with (Some files) file.name file.bytes) draft) (λ draft. Some (draft_with (Some files) new.name new.bytes) ≡ Some (longer_draft draft piece)))
    (sym some)
    (memory_grown files c.in-Some.draft new piece c.in_ok-count.ensures.more)
