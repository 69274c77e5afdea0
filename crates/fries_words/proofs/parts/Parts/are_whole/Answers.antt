use Rattle.std.proofs.Common.{◌<◌, arith, length, rules}
use Rattle.std.proofs.lemmas.List.{drop_more}
use Rattle.fries_words.proofs.FormLemmas.{no_text}
use Rattle.fries_words.proofs.parts.Parts.are_whole.Goals as goal

pub returns-else-self : goal.returns-else-self
returns-else-self c =
    let less : c.args.self.now.next < length c.args.self.now.names.now = omega (arith, c.if-self.false) in
    rw (drop_more c.args.self.now.names.now c.args.self.now.next no_text less) (search rules)
