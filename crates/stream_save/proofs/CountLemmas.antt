-- Counts that are read can be saved.
use Rattle.std.proofs.Common.{FitsSigned, IsTrue, w64, ◌≡◌, ◌∙◌, ◌<◌, ◌≤◌, ◌+◌, ◌==◌, ◌&&◌, ◌^◌, ℕ, ℤ, zero, suc, pos, List, [], ◌∷◌, inl, inr, refl, sym, subst, ap, arith, true, false, Bool, All, length, map, filter, get_or, nat_le, nat_lt, option_map, Some, None, Option, Result, Ok, Err, slice_get, if◌then◌else◌}
use Rattle.std.specs.Prelude.{neg_ℤ, position}
use Rattle.std.specs.FinMap.{empty, entries}
use Rattle.std.proofs.lemmas.Bool.{and_parts, eqb-true, leb-true, ltb-true}
use Rattle.std.proofs.lemmas.List.{length-map}
use Rattle.std.proofs.lemmas.List.Quantifiers.{position-Some}
use Rattle.std.proofs.lemmas.Option.{same_Some, slice_get-get_or, slice_get-map}
use Rattle.tuple_trace.specs.Digits.{digits_of}
use Rattle.jobs.specs.Nodes.{is_count}
use Rattle.jobs.specs.JobView.{JobView}
use Rattle.keyed_state.specs.Counts.{Counts}
use Rattle.payments.specs.Spelling.{after_sign, is_negative, number_in_text, signed_of, with_sign}
use Rattle.flow_model.specs.SetupView.{Worker}
use Rattle.flow_model.specs.Workers.{nobody, workers_in}
use Rattle.flow_model.proofs.ElementLemmas.{IsIn, all_of_at, in_filter, in_map, place_of_in}
use Rattle.flow_model.proofs.WorkerLemmas.{worker_with}
use Rattle.savepoint.specs.SaveReading.{CanSaveCounts, Placed, Spelled, both, counts_at, is_led_to, is_place, is_exactly, is_worker_of, one_more, one_placed, one_spelled, placed_by, placed_from, placed_of, spelled_by, spelled_from, spelled_of, stands_behind}
use Rattle.savepoint.specs.SaveText.{name_of}
use Rattle.savepoint.specs.declared.fault.SaveFault.{SaveFault}
use Rattle.savepoint.specs.declared.fault.SaveFault.TheVariants as fault
use Rattle.savepoint.proofs.StateLemmas.{none_there}
use Rattle.stream_save.proofs.EntryLemmas.{fit_made, made}

-- ---- numbers

signed_fits : (negative : Bool) (size : ℕ) (z : ℤ) → signed_of negative size ≡ Some z → FitsSigned w64 z
signed_fits false size z is = go (nat_lt size (2 ^ 63)) refl is
  where
    go : (b : Bool) → nat_lt size (2 ^ 63) ≡ b → (if b then Some (pos size) else None) ≡ Some z → FitsSigned w64 z
    go true lt e =
        let same : pos size ≡ z = cc e in
        let less : size < 2 ^ 63 = ltb-true size (2 ^ 63) lt in
        subst (FitsSigned w64) same (record { sfits = less })
    go false lt e = absurd (cc e)
signed_fits true size z is = go (nat_le size (2 ^ 63)) refl is
  where
    small : (n : ℕ) → n ≤ 2 ^ 63 → FitsSigned w64 (neg_ℤ (pos n))
    small zero le = record { sfits = omega arith }
    small (suc n) le = record { sfits = omega (arith, le) }

    go : (b : Bool) → nat_le size (2 ^ 63) ≡ b → (if b then Some (neg_ℤ (pos size)) else None) ≡ Some z → FitsSigned w64 z
    go true le e =
        let same : neg_ℤ (pos size) ≡ z = cc e in
        subst (FitsSigned w64) same (small size (leb-true size (2 ^ 63) le))
    go false le e = absurd (cc e)

number_fits : (negative : Bool) (size : Option ℕ) (z : ℤ) → with_sign negative size ≡ Some z → FitsSigned w64 z
number_fits negative None z is = absurd (cc is)
number_fits negative (Some size) z is = signed_fits negative size z is

-- ---- what is spelled fits

spelled_fits : (cells : List (List ℕ)) (s : Spelled) → spelled_of cells ≡ Some s → FitsSigned w64 s.count
spelled_fits [] s is = absurd (cc is)
spelled_fits (a ∷ []) s is = absurd (cc is)
spelled_fits (a ∷ b ∷ []) s is = absurd (cc is)
spelled_fits (a ∷ b ∷ c ∷ []) s is = absurd (cc is)
spelled_fits (name ∷ place ∷ key ∷ count ∷ []) s is = go (number_in_text place) (number_in_text count) refl is
  where
    go : (p n : Option ℤ) → number_in_text count ≡ n → spelled_by name key (both p n) ≡ Some s → FitsSigned w64 s.count
    go None n made e = absurd (cc e)
    go (Some p) None made e = absurd (cc e)
    go (Some p) (Some n) made e =
        let same : record { name = name; place = p; key = key; count = n } ≡ s = cc e in
        subst (λ (t : Spelled). FitsSigned w64 t.count) same (number_fits (is_negative count) (digits_of (after_sign count)) n made)
spelled_fits (a ∷ b ∷ c ∷ d ∷ e ∷ more) s is = absurd (cc is)

abbrev pub AllFit : List Spelled → Type 0
AllFit spelled = (s : Spelled) → IsIn s spelled → FitsSigned w64 s.count

pub all_fit : (number : ℕ) (records : List (List (List ℕ))) (spelled : List Spelled) → spelled_from number records ≡ Ok spelled → AllFit spelled
all_fit number [] spelled is s i = let none : [] ≡ spelled = cc is in absurd (subst (IsIn s) (sym none) i)
all_fit number (first ∷ later) spelled is s i = go (spelled_of first) (spelled_from (number + 1) later) refl refl is (λ more made. all_fit (number + 1) later more made)
  where
    in_turn : (t : Spelled) (more : List Spelled) → spelled_of first ≡ Some t → AllFit more → IsIn s (t ∷ more) → FitsSigned w64 s.count
    in_turn t more at fit (inl j) = spelled_fits first s (at ∙ ap Some (sym j))
    in_turn t more at fit (inr j) = fit s j

    go : (o : Option Spelled) (rest : Result (List Spelled) SaveFault) → spelled_of first ≡ o → spelled_from (number + 1) later ≡ rest → one_spelled number o rest ≡ Ok spelled
        → ((more : List Spelled) → spelled_from (number + 1) later ≡ Ok more → AllFit more) → FitsSigned w64 s.count
    go None rest at made e rec = absurd (cc e)
    go (Some t) (Err f) at made e rec = absurd (cc e)
    go (Some t) (Ok more) at made e rec =
        let same : t ∷ more ≡ spelled = cc e in
        in_turn t more at (rec more made) (subst (IsIn s) (sym same) i)

-- ---- what is placed

-- a count that has a place: its key is short and led to a worker that counts, and its number fits
pub record HasPlace (job : JobView) (p : Placed) : Type 0 where
  pub short : length p.key ≤ 48
  pub fits : FitsSigned w64 p.count
  pub who : Worker
  pub there : slice_get (workers_in job) p.worker ≡ Some who
  pub counts : is_count who.func ≡ true
  pub led : is_led_to job p.key who ≡ true

has_place : (job : JobView) (s : Spelled) (p : Placed) → FitsSigned w64 s.count → placed_of job s ≡ Some p → HasPlace job p
has_place job s p fits is = go (nat_le (length s.key) 48) refl is
  where
    found : (o : Option ℕ) → position (is_worker_of job s) (workers_in job) ≡ o → length s.key ≤ 48 → option_map (placed_by s) o ≡ Some p → HasPlace job p
    found None at le e = absurd (cc e)
    found (Some w) at le e =
        let same : placed_by s w ≡ p = cc e in
        let here = position-Some (is_worker_of job s) (workers_in job) w nobody at in
        let who : Worker = get_or (workers_in job) w nobody in
        let parts = and_parts (is_count who.func) (is_exactly (name_of (slice_get job.nodes who.node)) s.name && (is_place s.place who.place && is_led_to job s.key who)) here.1 in
        let more = and_parts (is_exactly (name_of (slice_get job.nodes who.node)) s.name) (is_place s.place who.place && is_led_to job s.key who) parts.1 in
        let led = and_parts (is_place s.place who.place) (is_led_to job s.key who) more.1 in
        subst (HasPlace job) same (record {
          short = le;
          fits = fits;
          who = who;
          there = slice_get-get_or (workers_in job) w nobody here.0;
          counts = parts.0;
          led = led.1;
        })

    go : (b : Bool) → nat_le (length s.key) 48 ≡ b → (if b then option_map (placed_by s) (position (is_worker_of job s) (workers_in job)) else None) ≡ Some p → HasPlace job p
    go true le e = found (position (is_worker_of job s) (workers_in job)) refl (leb-true (length s.key) 48 le) e
    go false le e = absurd (cc e)

abbrev pub HavePlaces : JobView → List Placed → Type 0
HavePlaces job placed = (p : Placed) → IsIn p placed → HasPlace job p

-- the counts after one of these have places
abbrev LaterHave : JobView → ℕ → List Spelled → Type 0
LaterHave job number later = (q : Placed) (more : List Placed) → placed_from job (number + 1) (Some q) later ≡ Ok more → HavePlaces job more

pub have_places : (job : JobView) (number : ℕ) (before : Option Placed) (spelled : List Spelled) (placed : List Placed) → AllFit spelled → placed_from job number before spelled ≡ Ok placed → HavePlaces job placed
have_places job number before [] placed fit is p i = let none : [] ≡ placed = cc is in absurd (subst (IsIn p) (sym none) i)
have_places job number before (first ∷ later) placed fit is p i = go (placed_of job first) refl is (λ q more made. have_places job (number + 1) (Some q) later more (λ s k. fit s (inr k)) made)
  where
    here : (q : Placed) (more : List Placed) → placed_of job first ≡ Some q → HavePlaces job more → IsIn p (q ∷ more) → HasPlace job p
    here q more at have (inl j) = subst (HasPlace job) (sym j) (has_place job first q (fit first (inl refl)) at)
    here q more at have (inr j) = have p j

    rest_of : (q : Placed) (rest : Result (List Placed) SaveFault) → placed_of job first ≡ Some q → placed_from job (number + 1) (Some q) later ≡ rest → one_more q rest ≡ Ok placed → LaterHave job number later → HasPlace job p
    rest_of q (Err f) at made e rec = absurd (cc e)
    rest_of q (Ok more) at made e rec = let same : q ∷ more ≡ placed = cc e in here q more at (rec q more made) (subst (IsIn p) (sym same) i)

    in_turn : (q : Placed) (b : Bool) → placed_of job first ≡ Some q → (if b then one_more q (placed_from job (number + 1) (Some q) later) else Err (fault.State number)) ≡ Ok placed → LaterHave job number later → HasPlace job p
    in_turn q true at e rec = rest_of q (placed_from job (number + 1) (Some q) later) at refl e rec
    in_turn q false at e rec = absurd (cc e)

    go : (o : Option Placed) → placed_of job first ≡ o → one_placed number before o (λ q. placed_from job (number + 1) (Some q) later) ≡ Ok placed → LaterHave job number later → HasPlace job p
    go None at e rec = absurd (cc e)
    go (Some q) at e rec = in_turn q (stands_behind before q) at e rec

-- ---- the counts of a worker

module _ (job : JobView) (placed : List Placed) (have : HavePlaces job placed) where
  abbrev own : Worker → List (List ℕ × ℤ)
  own who = map (λ (p : Placed). (p.key, p.count)) (filter (λ (p : Placed). p.worker == who.number) placed)

  -- a count of the worker has its place there
  pub record IsOwn (who : Worker) (e : List ℕ × ℤ) : Type 0 where
    pub short : length e.0 ≤ 48
    pub fits : FitsSigned w64 e.1
    pub counts : is_count who.func ≡ true
    pub led : is_led_to job e.0 who ≡ true

  own_is : (w : ℕ) (who : Worker) → slice_get (workers_in job) w ≡ Some who → (e : List ℕ × ℤ) → IsIn e (own who) → IsOwn who e
  own_is w who at e i =
      let p = in_map (λ (p : Placed). (p.key, p.count)) e (filter (λ (p : Placed). p.worker == who.number) placed) i in
      let f = in_filter (λ (p : Placed). p.worker == who.number) p.0 placed p.1 in
      let h = have p.0 f.0 in
      let number : who.number ≡ w = (worker_with job w who at).0 in
      let here : p.0.worker ≡ w = eqb-true p.0.worker who.number f.1 ∙ number in
      let same : h.who ≡ who = same_Some h.who who (sym h.there ∙ (ap (slice_get (workers_in job)) here ∙ at)) in
      subst (IsOwn who) (sym p.2) (record {
        short = h.short;
        fits = h.fits;
        counts = sym (ap (λ (r : Worker). is_count r.func) same) ∙ h.counts;
        led = subst (λ (r : Worker). is_led_to job p.0.key r ≡ true) same h.led;
      })

  counts_are : (w : ℕ) (who : Worker) (counts : Counts) → slice_get (workers_in job) w ≡ Some who → slice_get (map (counts_at placed) (workers_in job)) w ≡ Some counts → counts ≡ made (own who)
  counts_are w who counts at is = same_Some counts (made (own who)) (sym is ∙ (slice_get-map (counts_at placed) (workers_in job) w ∙ ap (option_map (counts_at placed)) at))

  no_entries : (who : Worker) (es : List (List ℕ × ℤ)) → ((e : List ℕ × ℤ) → IsIn e es → IsOwn who e) → is_count who.func ≡ false → entries (made es) ≡ []
  no_entries who [] is none = none_there empty refl
  no_entries who (e ∷ es) is none = let yes = (is e (inl refl)).counts in absurd (cc (sym yes ∙ none))

  worker_of : (w : ℕ) (counts : Counts) → slice_get (map (counts_at placed) (workers_in job)) w ≡ Some counts → (who : Worker) × (slice_get (workers_in job) w ≡ Some who)
  worker_of w counts is = go (slice_get (workers_in job) w) refl (sym (slice_get-map (counts_at placed) (workers_in job) w) ∙ is)
    where
      go : (o : Option Worker) → slice_get (workers_in job) w ≡ o → option_map (counts_at placed) o ≡ Some counts → (who : Worker) × (slice_get (workers_in job) w ≡ Some who)
      go None at e = absurd (cc e)
      go (Some who) at e = (who, at)

  pub can-save : CanSaveCounts job (map (counts_at placed) (workers_in job))
  can-save = record {
    one_each = length-map (workers_in job) (counts_at placed);
    counts = λ w who counts at is none. ap entries (counts_are w who counts at is) ∙ no_entries who (own who) (own_is w who at) none;
    led = λ w who counts at is. all_of_at (λ (e : List ℕ × ℤ). IsTrue (is_led_to job e.0 who)) (entries counts) (λ e i.
        (fit_made (λ k. IsTrue (is_led_to job k who)) (λ v. Unit {0}) (own who) (λ f j. ((own_is w who at f j).led, tt)) e
        (subst (λ (c : Counts). IsIn e (entries c)) (counts_are w who counts at is) i)).0);
    short = all_of_at (λ (counts : Counts). All (λ (e : List ℕ × ℤ). (length e.0 ≤ 48) × FitsSigned w64 e.1) (entries counts)) (map (counts_at placed) (workers_in job)) (λ counts i.
        let k = place_of_in counts (map (counts_at placed) (workers_in job)) i in
        let who = worker_of k.0 counts k.1 in
        all_of_at (λ (e : List ℕ × ℤ). (length e.0 ≤ 48) × FitsSigned w64 e.1) (entries counts) (λ e j.
        fit_made (λ k. length k ≤ 48) (FitsSigned w64) (own who.0) (λ f m. let o = own_is k.0 who.0 who.1 f m in (o.short, o.fits)) e
        (subst (λ (c : Counts). IsIn e (entries c)) (counts_are k.0 who.0 counts who.1 k.1) j)));
  }
