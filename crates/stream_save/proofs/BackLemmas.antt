-- A stream's savepoint that is read can be saved.
use Rattle.std.proofs.Common.{◌≡◌, ◌∙◌, ◌<◌, ◌≤◌, ◌+◌, ◌-◌, ◌^◌, ◌&&◌, ℕ, zero, suc, Bool, true, false, List, [], ◌∷◌, Option, Some, None, Result, Ok, Err, refl, subst, ap, arith, codes, drop, length, map, nat_le, if◌then◌else◌}
use Rattle.std.proofs.lemmas.Bool.{leb-true}
use Rattle.csv.specs.Reading.{default_config, records, strip_bom}
use Rattle.tuple_trace.specs.Digits.{at_most, digits_of}
use Rattle.jobs.specs.JobView.{JobView}
use Rattle.flow_model.specs.Begin.{Begin}
use Rattle.flow_model.specs.Workers.{workers_in}
use Rattle.savepoint.specs.SaveReading.{Placed, Spelled, begin_with, both, counts_at, head_number, is_exactly, one_spelled, placed_from, spelled_from}
use Rattle.savepoint.specs.declared.fault.SaveFault.{SaveFault}
use Rattle.stream_save.specs.StreamReading.{AreWaits, CanSaveStream, Head, stream_head_read, head_with, misplaced, save_after, save_by, stream_save_in, save_unless, stream_save_with, saved_at, stream_save_of, wait_read, waits_read}
use Rattle.stream_save.specs.StreamText.{StreamSave}
use Rattle.stream_save.proofs.CountLemmas.{all_fit, can-save, have_places}

-- ---- the first record

below : (size : Option ℕ) (n : ℕ) → at_most (2 ^ 63 - 1) size ≡ Some n → n < 2 ^ 63
below None n is = absurd (cc is)
below (Some size) n is = go (nat_le size (2 ^ 63 - 1)) refl is
  where
    go : (b : Bool) → nat_le size (2 ^ 63 - 1) ≡ b → (if b then Some size else None) ≡ Some n → n < 2 ^ 63
    go true le e =
        let same : size ≡ n = cc e in
        let less : size ≤ 2 ^ 63 - 1 = leb-true size (2 ^ 63 - 1) le in
        omega (arith, less, same)
    go false le e = absurd (cc e)

-- the numbers of a head are below 2^63
record IsSmallHead (head : Head) : Type 0 where
  row : head.row < 2 ^ 63
  turned : head.turned < 2 ^ 63
  read : head.read < 2 ^ 63
  alerts : head.alerts < 2 ^ 63
  audit : head.audit < 2 ^ 63

small_head : (row turned read alerts audit : List ℕ) (head : Head)
    → head_with (both (head_number row) (head_number turned)) (head_number read) (both (head_number alerts) (head_number audit)) ≡ Some head → IsSmallHead head
small_head row turned read alerts audit head is = go (head_number row) (head_number turned) (head_number read) (head_number alerts) (head_number audit) refl refl refl refl refl is
  where
    go : (a b c d e : Option ℕ) → head_number row ≡ a → head_number turned ≡ b → head_number read ≡ c → head_number alerts ≡ d → head_number audit ≡ e
        → head_with (both a b) c (both d e) ≡ Some head → IsSmallHead head
    go None b c d e pa pb pc pd pe h = absurd (cc h)
    go (Some a) None c d e pa pb pc pd pe h = absurd (cc h)
    go (Some a) (Some b) None d e pa pb pc pd pe h = absurd (cc h)
    go (Some a) (Some b) (Some c) None e pa pb pc pd pe h = absurd (cc h)
    go (Some a) (Some b) (Some c) (Some d) None pa pb pc pd pe h = absurd (cc h)
    go (Some a) (Some b) (Some c) (Some d) (Some e) pa pb pc pd pe h =
        let same : record { row = a; turned = b; read = c; alerts = d; audit = e } ≡ head = cc h in
        subst IsSmallHead same (record {
          row = below (digits_of row) a pa;
          turned = below (digits_of turned) b pb;
          read = below (digits_of read) c pc;
          alerts = below (digits_of alerts) d pd;
          audit = below (digits_of audit) e pe;
        })

head_is_small : (cells : List (List ℕ)) (head : Head) → stream_head_read cells ≡ Some head → IsSmallHead head
head_is_small [] head is = absurd (cc is)
head_is_small (a ∷ []) head is = absurd (cc is)
head_is_small (a ∷ b ∷ []) head is = absurd (cc is)
head_is_small (a ∷ b ∷ c ∷ []) head is = absurd (cc is)
head_is_small (a ∷ b ∷ c ∷ d ∷ []) head is = absurd (cc is)
head_is_small (a ∷ b ∷ c ∷ d ∷ e ∷ []) head is = absurd (cc is)
head_is_small (a ∷ b ∷ c ∷ d ∷ e ∷ f ∷ []) head is = absurd (cc is)
head_is_small (a ∷ b ∷ c ∷ d ∷ e ∷ f ∷ g ∷ []) head is = go (is_exactly (codes "fries") a && is_exactly (codes "stream") b) is
  where
    go : (t : Bool) → (if t then head_with (both (head_number c) (head_number d)) (head_number e) (both (head_number f) (head_number g)) else None) ≡ Some head → IsSmallHead head
    go true h = small_head c d e f g head h
    go false h = absurd (cc h)
head_is_small (a ∷ b ∷ c ∷ d ∷ e ∷ f ∷ g ∷ h ∷ more) head is = absurd (cc is)

-- ---- waits

as_many : (left number : ℕ) (records : List (List (List ℕ))) (waits : List ℕ) → waits_read left number records ≡ Ok waits → left ≡ length waits
as_many zero number records waits is = let none : [] ≡ waits = cc is in ap (length {A = ℕ}) none
as_many (suc left) number [] waits is = absurd (cc is)
as_many (suc left) number (first ∷ later) waits is = go (wait_read number first) (waits_read left (number + 1) later) refl is (λ more made. as_many left (number + 1) later more made)
  where
    go : (o : Option ℕ) (rest : Result (List ℕ) SaveFault) → waits_read left (number + 1) later ≡ rest → one_spelled number o rest ≡ Ok waits
        → ((more : List ℕ) → waits_read left (number + 1) later ≡ Ok more → left ≡ length more) → suc left ≡ length waits
    go None rest made e rec = absurd (cc e)
    go (Some wait) (Err f) made e rec = absurd (cc e)
    go (Some wait) (Ok more) made e rec =
        let same : wait ∷ more ≡ waits = cc e in
        ap (λ n. suc n) (rec more made) ∙ ap (length {A = ℕ}) same

are_waits : (row number before : ℕ) (waits : List ℕ) → misplaced row number before waits ≡ None → AreWaits row before waits
are_waits row number before [] is = tt
are_waits row number before (wait ∷ later) is = go (nat_le before wait) (nat_le wait row) refl refl is (λ e. are_waits row (number + 1) wait later e)
  where
    go : (a b : Bool) → nat_le before wait ≡ a → nat_le wait row ≡ b → (if a && b then misplaced row (number + 1) wait later else Some number) ≡ None
        → (misplaced row (number + 1) wait later ≡ None → AreWaits row wait later) → AreWaits row before (wait ∷ later)
    go true true pa pb e rec = (leb-true before wait pa, leb-true wait row pb, rec e)
    go true false pa pb e rec = absurd (cc e)
    go false b pa pb e rec = absurd (cc e)

-- ---- the savepoint

module _ (job : JobView) (save : StreamSave) where
  by_placed : (head : Head) (waits : List ℕ) (spelled : List Spelled) (records : List (List (List ℕ))) (made : Result (List Placed) SaveFault) → IsSmallHead head → head.turned ≡ length waits
      → misplaced head.row 1 0 waits ≡ None → spelled_from (head.turned + 1) records ≡ Ok spelled → placed_from job (head.turned + 1) None spelled ≡ made
      → stream_save_with head waits (begin_with job head.row head.turned made) ≡ Ok save → CanSaveStream job save
  by_placed head waits spelled records (Err f) small many none are made is = absurd (cc is)
  by_placed head waits spelled records (Ok placed) small many none are made is =
      let begin : Begin = record { row = head.row; turned = head.turned; states = map (counts_at placed) (workers_in job) } in
      let same : saved_at head waits begin ≡ save = cc is in
      subst (CanSaveStream job) same (record {
        row = small.row;
        turned = small.turned;
        read = small.read;
        alerts = small.alerts;
        audit = small.audit;
        one_each = many;
        waits = are_waits head.row 1 0 waits none;
        states = can-save job placed (have_places job (head.turned + 1) None spelled placed (all_fit (head.turned + 1) records spelled are) made);
      })

  by_order : (head : Head) (waits : List ℕ) (spelled : List Spelled) (records : List (List (List ℕ))) (o : Option ℕ) → IsSmallHead head → head.turned ≡ length waits
      → misplaced head.row 1 0 waits ≡ o → spelled_from (head.turned + 1) records ≡ Ok spelled
      → save_unless o (stream_save_with head waits (begin_with job head.row head.turned (placed_from job (head.turned + 1) None spelled))) ≡ Ok save → CanSaveStream job save
  by_order head waits spelled records (Some number) small many order are is = absurd (cc is)
  by_order head waits spelled records None small many order are is =
      by_placed head waits spelled records (placed_from job (head.turned + 1) None spelled) small many order are refl is

  by_parts : (head : Head) (later : List (List (List ℕ))) (waits : Result (List ℕ) SaveFault) (spelled : Result (List Spelled) SaveFault) → IsSmallHead head
      → waits_read head.turned 1 later ≡ waits → spelled_from (head.turned + 1) (drop head.turned later) ≡ spelled → save_by job head waits spelled ≡ Ok save → CanSaveStream job save
  by_parts head later (Err f) spelled small many are is = absurd (cc is)
  by_parts head later (Ok waits) (Err f) small many are is = absurd (cc is)
  by_parts head later (Ok waits) (Ok spelled) small many are is =
      by_order head waits spelled (drop head.turned later) (misplaced head.row 1 0 waits) small (as_many head.turned 1 later waits many) refl are is

  by_head : (first : List (List ℕ)) (later : List (List (List ℕ))) (o : Option Head) → stream_head_read first ≡ o → save_after job o later ≡ Ok save → CanSaveStream job save
  by_head first later None at is = absurd (cc is)
  by_head first later (Some head) at is =
      by_parts head later (waits_read head.turned 1 later) (spelled_from (head.turned + 1) (drop head.turned later)) (head_is_small first head at) refl refl is

  by_records : (all : List (List (List ℕ))) → stream_save_in job all ≡ Ok save → CanSaveStream job save
  by_records [] is = absurd (cc is)
  by_records (first ∷ later) is = by_head first later (stream_head_read first) refl is

  pub stream-can-save : (bytes : List ℕ) → stream_save_of job bytes ≡ Ok save → CanSaveStream job save
  stream-can-save bytes is = by_records (records default_config (strip_bom bytes)) is
