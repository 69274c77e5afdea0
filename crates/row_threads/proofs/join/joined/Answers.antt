use Rattle.std.proofs.Common.{◌≡◌, ◌++◌, ◌+◌, ◌∷◌, List, Result, ap, arith, length, rules, true}
use Rattle.std.specs.Vec.Iter.{into_iter_items}
use Rattle.stream_rows.specs.declared.sound.SoundRows.{SoundRows}
use Rattle.tuple_trace.specs.declared.items.NoMemory.{NoMemory}
use Rattle.row_threads.specs.inner.Joined.{is_sound, numbered_from, rows_in}
use Rattle.row_threads.proofs.JoinLemmas.{all_pushed, one_sound}
use Rattle.row_threads.proofs.join.joined.Goals as goal

pub loop-read-preserved : goal.loop-read-preserved
loop-read-preserved c =
    let old = c.loop-read.rows in
    let new = c.push_all.new.rows in
    let more = c.in_ok-more.more in
    let read = c.in-Some.read in
    let items = into_iter_items c.loop-read.read-iterator in
    let rest = into_iter_items c.next.new.self in
    let are : items ≡ read ∷ rest = c.in-Some.ensures.steps.0 in
    let ok : is_sound read ≡ true = search rules in
    let found : more ≡ rows_in read = search rules in
    let pushed : new ≡ old ++ numbered_from (length old + 1) more = search rules in
    let gone = c.in-Some.ensures.steps.1 in
    let short = ap (λ (l : List (Result SoundRows NoMemory)). length l) are in
    record {
      may = tt;
      finite = tt;
      counted = omega (arith, gone, short, c.loop-read.invariant.counted);
      sound = one_sound items rest c.args.reads.items read are ok c.loop-read.invariant.sound;
      whole = all_pushed old new more _ items rest read are found pushed
          c.loop-read.invariant.whole;
    }
