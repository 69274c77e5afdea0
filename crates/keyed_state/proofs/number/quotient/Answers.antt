use Rattle.std.proofs.Common.{rules, arith, ◌≤◌, ◌^◌}
use Rattle.std.specs.Prelude.{◌*ℤ◌, unsigned_abs}
use Rattle.std.specs.Int.{w128}
use mir.Val.{SFits}
use Rattle.std.proofs.lemmas.Int.{ints, to_z-of_z, fits_signed_mul}
use Rattle.keyed_state.proofs.number.quotient.Goals as goal

pub returns : goal.returns
returns c =
    let fits_count = c.ranges.count in
    let fits_by = c.ranges.by in
    let fits_over = c.ranges.over in
    let wide_count : SFits w128 c.args.count = search (rules, ints) in
    let wide_by : SFits w128 c.args.by = search (rules, ints) in
    let wide_over : SFits w128 c.args.over = search (rules, ints) in
    let small_count : unsigned_abs c.args.count ≤ 2 ^ 63 = search (rules, ints) in
    let small_by : unsigned_abs c.args.by ≤ 2 ^ 63 = search (rules, ints) in
    let wide : SFits w128 (c.args.count *ℤ c.args.by) = fits_signed_mul w128 c.args.count c.args.by (2 ^ 63) (2 ^ 63) small_count small_by (omega arith) in
    let result_fits : SFits w128 c.div_euclid.result = search rules in
    let d = simp to_z-of_z at c.div_euclid.ensures in
    simp to_z-of_z d
