use Rattle.std.proofs.Common.{append_assoc}
use Rattle.fries_help.specs.Table.{help_view}
use Rattle.fries_help.proofs.advice_text.message.Goals as goal

pub returns-clause-text : goal.returns-clause-text
returns-clause-text c = rw (c.in_ok-format.ensures.ok) (simp append_assoc)

pub returns-clause-tells : goal.returns-clause-tells
returns-clause-tells c = λ code is. record {
  head = c.args.head.now;
  detail = c.args.detail.now;
  help = help_view c.args.help;
  help_is = is;
  text_is = returns-clause-text c;
}
