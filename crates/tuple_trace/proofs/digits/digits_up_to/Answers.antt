use Rattle.std.proofs.Common.{◌≡◌, ◌<◌, ◌-◌, ◌+◌, ◌^◌, None, Some, Option, ℕ, List, sym, ◌∙◌, ap, get_or, drop, rules}
use Rattle.std.proofs.lemmas.List.{at_drop_more}
use Rattle.tuple_trace.specs.Digits.{at_most, digit_after, digits_after}
use Rattle.tuple_trace.proofs.DigitLemmas.{digits_after-full}
use Rattle.tuple_trace.proofs.digits.digits_up_to.Goals as goal

pub returns-in_err-number : goal.returns-in_err-number
returns-in_err-number c =
    let small : c.args.limit < 2 ^ 64 = search rules in
    let text = c.args.text.now in
    let i = c.loop-byte.byte-index in
    let full : at_most (2 ^ 64 - 1) (digit_after c.loop-byte.number (get_or text i 0)) ≡ None = sym c.in_err-number.ensures in
    let rest : List ℕ → Option ℕ = λ left. at_most c.args.limit (digits_after (Some c.loop-byte.number) left) in
    let gone : at_most c.args.limit (digits_after (Some c.loop-byte.number) (drop i text)) ≡ None =
    at_drop_more rest text i 0 c.loop-byte-test.true ∙ digits_after-full c.args.limit c.loop-byte.number (get_or text i 0) (drop (i + 1) text) small full in
    c.from_residual.ensures ∙ sym gone ∙ ap (λ d. at_most c.args.limit d) c.loop-byte.invariant
