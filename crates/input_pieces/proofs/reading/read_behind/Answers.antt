use Rattle.std.proofs.Common.{◌≡◌, ◌∙◌, ◌+◌, ap, drop, length, rules, take}
use Rattle.std.proofs.lemmas.List.{places, with_items_is}
use Rattle.input_pieces.proofs.TapLemmas.{read_behind_text, extend_keeps}
use Rattle.input_pieces.proofs.reading.read_behind.Goals as goal

pub returns-in-Ok-clause-gathered : goal.returns-in-Ok-clause-gathered
returns-in-Ok-clause-gathered g c =
    let from = c.len-from.result in
    let room = c.read_from.new.room in
    let text = c.args.text.now.items in
    let long : from ≡ length text = search (rules, places) in
    let kept : take from c.extend_from_slice.new.self.items ≡ text = extend_keeps _ text _ c.extend_from_slice.new.self.items from c.extend_from_slice.ensures.items long in
    let front : take from room ≡ text = c.in-Ok.ensures.front ∙ ap (take from) c.as_mut_slice.ensures.value ∙ kept in
    let all = with_items_is c.extend_from_slice.new.self room (search (rules, places)) in (
      take c.in-Ok.count (drop from room),
      c.in-Ok.ensures.bytes,
      read_behind_text text room _ from c.in-Ok.count front (c.truncate.ensures.items ∙ ap (take (from + c.in-Ok.count)) all),
    )
