-- A stream's savepoint that is written is read again.
use Rattle.std.proofs.Common.{◌≡◌, ◌∙◌, ◌<◌, ◌≤◌, ◌^◌, ◌+◌, ◌++◌, ℕ, List, [], ◌∷◌, refl, sym, subst, ap, arith, drop, length, map, None, Some, Ok}
use Rattle.std.specs.List.{zip}
use Rattle.std.proofs.lemmas.Bool.{eq-eqb}
use Rattle.csv.specs.Reading.{default_config, records, strip_bom}
use Rattle.csv.specs.Writing.{fields_text, is_blank}
use Rattle.jobs.specs.Law.{IsLawful}
use Rattle.jobs.specs.JobView.{JobView}
use Rattle.flow_model.specs.Workers.{workers_in}
use Rattle.savepoint.specs.SaveReading.{begin_with, one_more, one_spelled, placed_from, spelled_from}
use Rattle.savepoint.proofs.NumberLemmas.{head-decimal}
use Rattle.savepoint.proofs.SaveLemmas.{counts-begin, counts-spelled}
use Rattle.savepoint.proofs.SaveReadLemmas.{Count, spelled_as}
use Rattle.savepoint.proofs.SaveTextLemmas.{HaveFields, all_counts, count-records, have_fields, reads-records, record_by}
use Rattle.stream_save.specs.StreamReading.{AreWaits, CanSaveStream, Head, stream_head_read, save_after, save_by, stream_save_in, save_unless, stream_save_with, stream_save_of, wait_read, waits_read}
use Rattle.stream_save.specs.StreamText.{StreamSave, stream_head, stream_records, stream_save_text, wait_record, wait_records}
use Rattle.stream_save.proofs.WaitLemmas.{waits-in-order}

-- ---- waits

one_wait : (number row : ℕ) → number < 2 ^ 63 → row < 2 ^ 63 → wait_read number (wait_record number row) ≡ Some row
one_wait number row few small = rw (head-decimal number few, head-decimal row small, eq-eqb number number refl) refl

waits_back : (number row before : ℕ) (waits : List ℕ) (later : List (List (List ℕ))) → AreWaits row before waits → row < 2 ^ 63 → number + length waits ≤ 2 ^ 63
    → waits_read (length waits) number (wait_records number waits ++ later) ≡ Ok waits
waits_back number row before [] later are small few = refl
waits_back number row before (wait ∷ more) later are small few =
    ap (λ o. one_spelled number o (waits_read (length more) (number + 1) (wait_records (number + 1) more ++ later))) (one_wait number wait (omega (arith, few)) (let le = are.1 in omega (arith, le, small)))
    ∙ ap (one_more wait) (waits_back (number + 1) row wait more later are.2 small (omega (arith, few)))

rest_back : (number : ℕ) (waits : List ℕ) (later : List (List (List ℕ))) → drop (length waits) (wait_records number waits ++ later) ≡ later
rest_back number [] later = refl
rest_back number (wait ∷ more) later = rest_back (number + 1) more later

waits_have_fields : (number : ℕ) (waits : List ℕ) (later : List (List (List ℕ))) → HaveFields later → HaveFields (wait_records number waits ++ later)
waits_have_fields number [] later have = have
waits_have_fields number (wait ∷ more) later have = waits_have_fields (number + 1) more later have

bare : (job : JobView) (save : StreamSave) → strip_bom (stream_save_text job save) ≡ stream_save_text job save
unfolding strip_bom is_blank fields_text
bare job save = refl

-- ---- the savepoint

module _ (job : JobView) (save : StreamSave) (lawful : IsLawful job) (can : CanSaveStream job save) where
  abbrev counted : List Count
  counted = all_counts (zip (workers_in job) save.start.states)

  abbrev later : List (List (List ℕ))
  later = wait_records 1 save.waits ++ map (record_by job) counted

  abbrev numbers : Head
  numbers = record { row = save.start.row; turned = save.start.turned; read = save.read; alerts = save.alerts; audit = save.audit }

  made_of : stream_records job save ≡ stream_head save ∷ later
  made_of = ap (λ (l : List (List (List ℕ))). stream_head save ∷ (wait_records 1 save.waits ++ l)) (count-records job (zip (workers_in job) save.start.states))

  have : HaveFields (stream_records job save)
  have = subst HaveFields (sym made_of) (waits_have_fields 1 save.waits (map (record_by job) counted) (have_fields job counted))

  reads : records default_config (strip_bom (stream_save_text job save)) ≡ stream_head save ∷ later
  reads = reads-records (stream_records job save) have (bare job save) ∙ made_of

  head : stream_head_read (stream_head save) ≡ Some numbers
  head =
      rw (
        head-decimal save.start.row can.row,
        head-decimal save.start.turned can.turned,
        head-decimal save.read can.read,
        head-decimal save.alerts can.alerts,
        head-decimal save.audit can.audit,
      ) refl

  waits : waits_read save.start.turned 1 later ≡ Ok save.waits
  waits =
      let one : save.start.turned ≡ length save.waits = can.one_each in
      let small : save.start.turned < 2 ^ 63 = can.turned in
      ap (λ n. waits_read n 1 later) one ∙ waits_back 1 save.start.row 0 save.waits (map (record_by job) counted) can.waits can.row (omega (arith, one, small))

  spelled : spelled_from (save.start.turned + 1) (drop save.start.turned later) ≡ Ok (map (spelled_as job) counted)
  spelled =
      ap (spelled_from (save.start.turned + 1)) (ap (λ n. drop n later) can.one_each ∙ rest_back 1 save.waits (map (record_by job) counted))
      ∙ counts-spelled job save.start.states (save.start.turned + 1) lawful can.states

  pub stream-reads : stream_save_of job (stream_save_text job save) ≡ Ok save
  stream-reads =
      ap (stream_save_in job) reads
      ∙ (ap (λ o. save_after job o later) head
      ∙ (ap (λ o. save_by job numbers o (spelled_from (save.start.turned + 1) (drop save.start.turned later))) waits
      ∙ (ap (save_by job numbers (Ok save.waits)) spelled
      ∙ (ap (λ o. save_unless o (stream_save_with numbers save.waits (begin_with job save.start.row save.start.turned (placed_from job (save.start.turned + 1) None (map (spelled_as job) counted)))))
      (waits-in-order save.start.row 1 0 save.waits can.waits)
      ∙ ap (stream_save_with numbers save.waits) (counts-begin job save.start.states (save.start.turned + 1) lawful can.states save.start.row save.start.turned)))))
