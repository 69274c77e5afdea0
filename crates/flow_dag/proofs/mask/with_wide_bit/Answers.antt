use Rattle.std.proofs.Common.{arith, sym, ◌∙◌}
use Rattle.std.specs.Int.{w128}
use Rattle.std.proofs.lemmas.Nat.Bits.{bit_at_set_same, bit_at_set_other}
use Rattle.flow_dag.proofs.MaskLemmas.{Has-positive, bit_or-below}
use Rattle.flow_dag.proofs.mask.with_wide_bit.Goals as goal

pub returns-clause-set : goal.returns-clause-set
returns-clause-set c = bit_at_set_same w128 c.args.mask c.args.i c.requires

pub returns-clause-others : goal.returns-clause-others
returns-clause-others c k ne =
    let same = bit_at_set_other w128 c.args.mask c.args.i c.requires k ne in
    (λ h. sym same ∙ h, λ h. same ∙ h)

pub returns-clause-some : goal.returns-clause-some
returns-clause-some c = Has-positive _ c.args.i (bit_at_set_same w128 c.args.mask c.args.i c.requires)

pub returns-clause-below : goal.returns-clause-below
returns-clause-below c n lt fits = bit_or-below c.args.mask _ c.args.i n (omega arith) lt fits
