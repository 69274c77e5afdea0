use Rattle.std.proofs.Common.{◌-◌, ◌<◌, ◌≤◌, ap, arith, drop, length}
use Rattle.csv.specs.Reading.{default_config}
use Rattle.input_pieces.specs.Places.{state_of}
use Rattle.input_pieces.proofs.PlainLemmas.{passed_over}
use Rattle.input_pieces.proofs.ScanLemmas.{scan_more, scan_place}
use Rattle.std.proofs.lemmas.List.{length-drop, take_all}
use Rattle.input_pieces.proofs.place.scan.Goals as goal

pub loop-i-preserved-then-plain-gt0 : goal.loop-i-preserved-then-plain-gt0
loop-i-preserved-then-plain-gt0 c =
    let long = length-drop c.loop-i.i c.args.bytes.now in
    let few : length (drop c.loop-i.i c.args.bytes.now) ≤ length c.args.bytes.now - c.loop-i.i = omega (arith, long) in
    let is = take_all (length c.args.bytes.now - c.loop-i.i) (drop c.loop-i.i c.args.bytes.now) few in
    let within = c.plain_lines-plain.ensures.within in
    let over = passed_over (state_of c.args.from) (state_of c.loop-i.scan.place) c.args.bytes.now _ c.loop-i.i c.plain_lines-plain.result is c.loop-i.invariant.0 within c.if-plain-gt0.true c.loop-i.invariant.1 (c.plain_lines-plain.ensures.start c.if-plain-gt0.true) in
    (omega (arith, long, ap length is, c.loop-i.invariant.0, within), over.0, over.1)

pub loop-i-preserved : goal.loop-i-preserved
loop-i-preserved c =
    let within : c.loop-i.i < length c.args.bytes.now = c.loop-i-test.true in
    let place = scan_place default_config (state_of c.args.from) _ _ c.args.bytes.now c.loop-i.i within c.loop-i.invariant.1 c.and_byte-scan.ensures.place in
    (omega (arith, within), place, scan_more default_config (state_of c.args.from) _ c.args.bytes.now c.loop-i.i _ _ within place c.and_byte-scan.ensures.cut c.loop-i.invariant.2)
