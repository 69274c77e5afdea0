use Rattle.std.proofs.Common.{◌≡◌, ◌∙◌, ◌<◌, ◌≤◌, ◌^◌, arith, false, nat_lt, refl, rules, sym}
use Rattle.std.specs.Int.{bit_at}
use Rattle.std.proofs.lemmas.Bool.Decides.{nat_tests}
use Rattle.std.proofs.lemmas.Nat.Bits.{bit_at_above}
use Rattle.flow_dag.specs.Masks.{has}
use Rattle.versions.proofs.judging.has.Goals as goal

-- a mask has no node past its bits
pub returns-else-node-lt-MAX_NODES : goal.returns-else-node-lt-MAX_NODES
returns-else-node-lt-MAX_NODES c =
    let above : 64 ≤ c.args.node = c.if-node-lt-MAX_NODES.false in
    let past : nat_lt c.args.node 64 ≡ false = grind (arith, nat_tests) in
    let below : c.args.mask < 2 ^ 64 = search rules in
    let none : bit_at c.args.mask c.args.node ≡ 0 = bit_at_above c.args.mask 64 c.args.node below above in
    let misses : has c.args.mask c.args.node ≡ false = rw none refl in
    past ∙ sym misses
