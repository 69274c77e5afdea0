use Rattle.std.proofs.Common.{◌≡◌, ◌∙◌, ◌+◌, ◌-◌, ◌<◌, ◌++◌, [], ◌∷◌, ap, sym, map, take, append_assoc, arith}
use Rattle.std.specs.List.{enumerate_from}
use Rattle.std.specs.Option.{option_copied}
use Rattle.tuple_trace.specs.declared.tuple.Tuple.{Tuple}
use Rattle.operators.specs.declared.output.Output.{Output}
use Rattle.operators.specs.Meaning.{piece_sent}
use Rattle.operators.specs.Pieces.{pieces_left}
use Rattle.operators.proofs.PieceLemmas.{numbered-next}
use Rattle.operators.proofs.split.send_pieces.Goals as goal

pub loop-number-preserved : goal.loop-number-preserved
loop-number-preserved c =
    let split = c.args.split.now in
    let visit = c.args.visit in
    let f = piece_sent c.args.columns.now visit split.on c.args.tuple.now in
    let n = c.loop-number.number in
    let out = c.loop-number.out in
    let below : n < split.most = omega arith in
    let piece = c.cut.result.0.now in
    let rest = pieces_left split.by (option_copied c.cut.result.1) in
    let by_port : Tuple → Output = λ t. record { port = 0; tuple = t } in
    let put : c.push.new.self ≡ out ++ f (n, piece) ∷ [] = c.in_ok-push.ensures.ok ∙ ap (λ t. out ++ by_port t ∷ []) c.in_ok-tuple.ensures in
    let (more, is) = c.loop-number.invariant.more in
    record {
      more = (more ++ f (n, piece) ∷ [], put ∙ ap (λ o. o ++ f (n, piece) ∷ []) is ∙ append_assoc c.args.out.now more (f (n, piece) ∷ []));
      left =
          ap (λ o. o ++ map f (enumerate_from (n + 1) (take (split.most - (n + 1)) rest))) put
          ∙ numbered-next f out n split.most piece rest below
          ∙ ap (λ ps. out ++ map f (enumerate_from n (take (split.most - n) ps))) (sym c.cut.ensures)
          ∙ ap (λ l. out ++ map f (enumerate_from n (take (split.most - n) (pieces_left split.by (option_copied l))))) (sym c.in-Some.is)
          ∙ c.loop-number.invariant.left;
    }
