use Rattle.std.proofs.Common.{◌≡◌, ◌∙◌, ◌<◌, arith, sym, true}
use Rattle.std.proofs.lemmas.List.{length-take-le}
use Rattle.input_pieces.specs.Cut.{is_start}
use Rattle.input_pieces.specs.Places.{state_of}
use Rattle.input_pieces.proofs.PlainLemmas.{after_line, plain_start}
use Rattle.input_pieces.proofs.place.plain_lines.Goals as goal

pub returns-in-Some : goal.returns-in-Some
returns-in-Some c =
    let s = state_of c.args.from in
    let begins : is_start s ≡ true = sym c.is_start.ensures ∙ c.if-not-is_start.false in
    let found = c.in-Some.ensures in
    let long = length-take-le c.quoteless.result c.args.bytes.now c.quoteless.ensures.within in
    let lt : c.in-Some.end < c.quoteless.result = omega (arith, long, found.0.high) in record {
      within = omega (arith, lt, c.quoteless.ensures.within);
      start = λ _. after_line s c.args.bytes.now c.quoteless.result c.in-Some.end (plain_start s begins) c.quoteless.ensures.within c.quoteless.ensures.none lt found.1;
    }
