-- The lanes into a worker, in the order of their numbers.
use Rattle.std.proofs.Common.{◌≡◌, ◌∙◌, ◌<◌, ◌≤◌, ◌+◌, ◌==◌, ℕ, zero, suc, List, [], ◌∷◌, inl, inr, sym, ap, subst, arith, true, false, Bool, cond, filter, get_or, length, map, take, Some, slice_get}
use Rattle.std.specs.List.{enumerate_from}
use Rattle.std.proofs.lemmas.Bool.{cases_lt, eq-eqb, eqb-true}
use Rattle.std.proofs.lemmas.List.{take_all, take_more}
use Rattle.std.proofs.lemmas.Option.{same_Some, slice_get-get_or, slice_get_within}
use Rattle.tuple_trace.specs.declared.tuple.Item.{Item}
use Rattle.flow_model.specs.Lanes.{lanes, lanes_in}
use Rattle.flow_model.specs.SetupView.{SetupView}
use Rattle.flow_model.specs.declared.topology.Lane.{Lane}
use Rattle.flow_model.proofs.ElementLemmas.{IsIn, in_cases, in_of_place, place_of_in}
use Rattle.flow_model.proofs.LaneLemmas.{in_lanes_that, lanes_that_in}
use Rattle.audit_laws.specs.declared.audit.AuditEntry.{AuditEntry}
use Rattle.audit_laws.specs.Faults.{AreItems}
use Rattle.audit_restore.specs.Restored.{AgreeBelow, IsBadLane}
use Rattle.audit_restore.specs.Standing.{left_on}

-- ---- numbers that rise

rise_from : (test : ℕ × Lane → Bool) (first : ℕ) (xs : List Lane) (j m : ℕ) → slice_get (map (λ (p : ℕ × Lane). p.0) (filter test (enumerate_from first xs))) j ≡ Some m → first ≤ m
rise_from test first [] j m g = absurd (cc)
rise_from test first (x ∷ xs) j m g = go (test (first, x)) j g (λ k h. rise_from test (first + 1) xs k m h)
  where
    go : (b : Bool) (j : ℕ) → slice_get (map (λ (p : ℕ × Lane). p.0) (cond b ((first, x) ∷ filter test (enumerate_from (first + 1) xs)) (filter test (enumerate_from (first + 1) xs)))) j ≡ Some m
        → ((k : ℕ) → slice_get (map (λ (p : ℕ × Lane). p.0) (filter test (enumerate_from (first + 1) xs))) k ≡ Some m → first + 1 ≤ m) → first ≤ m
    go true zero g rest = let e = same_Some first m g in omega (arith, e)
    go true (suc k) g rest = let le = rest k g in omega (arith, le)
    go false k g rest = let le = rest k g in omega (arith, le)

rise_on : (test : ℕ × Lane → Bool) (first : ℕ) (xs : List Lane) (i j a b : ℕ) → slice_get (map (λ (p : ℕ × Lane). p.0) (filter test (enumerate_from first xs))) i ≡ Some a
    → slice_get (map (λ (p : ℕ × Lane). p.0) (filter test (enumerate_from first xs))) j ≡ Some b → i < j → a < b
rise_on test first [] i j a b g h lt = absurd (cc)
rise_on test first (x ∷ xs) i j a b g h lt = go (test (first, x)) i j g h lt (λ k l p q less. rise_on test (first + 1) xs k l a b p q less) (λ k q. rise_from test (first + 1) xs k b q)
  where
    go : (t : Bool) (i j : ℕ) → slice_get (map (λ (p : ℕ × Lane). p.0) (cond t ((first, x) ∷ filter test (enumerate_from (first + 1) xs)) (filter test (enumerate_from (first + 1) xs)))) i ≡ Some a
        → slice_get (map (λ (p : ℕ × Lane). p.0) (cond t ((first, x) ∷ filter test (enumerate_from (first + 1) xs)) (filter test (enumerate_from (first + 1) xs)))) j ≡ Some b → i < j
        → ((k l : ℕ) → slice_get (map (λ (p : ℕ × Lane). p.0) (filter test (enumerate_from (first + 1) xs))) k ≡ Some a → slice_get (map (λ (p : ℕ × Lane). p.0) (filter test (enumerate_from (first + 1) xs))) l ≡ Some b → k < l → a < b)
        → ((k : ℕ) → slice_get (map (λ (p : ℕ × Lane). p.0) (filter test (enumerate_from (first + 1) xs))) k ≡ Some b → first + 1 ≤ b) → a < b
    go true i zero g h lt rest low = absurd (omega (arith, lt))
    go true zero (suc l) g h lt rest low = let e = same_Some first a g in let le = low l h in omega (arith, e, le)
    go true (suc k) (suc l) g h lt rest low = rest k l g h (omega (arith, lt))
    go false k l g h lt rest low = rest k l g h lt

-- ---- those that were looked at

abbrev pub AgreeOn : SetupView → List (List Item) → List AuditEntry → List ℕ → Type 0
AgreeOn setup standing journal numbers = (n : ℕ) → IsIn n numbers → AreItems n (left_on standing n) journal

pub agree_none : (setup : SetupView) (standing : List (List Item)) (journal : List AuditEntry) → AgreeOn setup standing journal []
agree_none setup standing journal n i = absurd i

pub agree_next : (setup : SetupView) (standing : List (List Item)) (journal : List AuditEntry) (numbers : List ℕ) (i d : ℕ) → AgreeOn setup standing journal (take i numbers) → i < length numbers
    → AreItems (get_or numbers i d) (left_on standing (get_or numbers i d)) journal → AgreeOn setup standing journal (take (i + 1) numbers)
agree_next setup standing journal numbers i d all lt here n j = elim (in_cases n (take i numbers) (get_or numbers i d ∷ []) (subst (λ (l : List ℕ). IsIn n l) (take_more numbers i d lt) j)) [
  | inl a ↦ all n a
  | inr (inl e) ↦ subst (λ k. AreItems k (left_on standing k) journal) (sym e) here
  | inr (inr none) ↦ absurd none
]

module _ (setup : SetupView) (w : ℕ) (numbers : List ℕ) (numbers_are : numbers ≡ lanes_in setup.job w)
  where
    lane_of : (n : ℕ) → IsIn n numbers → (lane : Lane) × (slice_get (lanes setup.job) n ≡ Some lane) × (lane.receiver ≡ w)
    lane_of n i =
        let l = in_lanes_that (λ (lane : Lane). lane.receiver == w) setup.job n (subst (λ (l : List ℕ). IsIn n l) numbers_are i) in
        (l.0, l.1, eqb-true l.0.receiver w l.2)

    pub lane_within : (i d : ℕ) → i < length numbers → get_or numbers i d < length (lanes setup.job)
    lane_within i d lt =
        let l = lane_of (get_or numbers i d) (in_of_place (get_or numbers i d) numbers i (slice_get-get_or numbers i d lt)) in
        slice_get_within (lanes setup.job) (get_or numbers i d) l.0 l.1

    pub agree_all : (standing : List (List Item)) (journal : List AuditEntry) (i : ℕ) → AgreeOn setup standing journal (take i numbers) → length numbers ≤ i → AgreeBelow setup standing w journal (length (lanes setup.job))
    agree_all standing journal i all past k lane lt g r =
        all k (subst (λ (l : List ℕ). IsIn k l) (sym (take_all i numbers past ∙ numbers_are)) (lanes_that_in (λ (lane : Lane). lane.receiver == w) setup.job k lane g (eq-eqb lane.receiver w r)))

    -- the first that differs is the least
    pub bad_lane : (standing : List (List Item)) (journal : List AuditEntry) (i d : ℕ) → AgreeOn setup standing journal (take i numbers) → i < length numbers
        → (AreItems (get_or numbers i d) (left_on standing (get_or numbers i d)) journal → ⊥) → IsBadLane setup standing w journal (get_or numbers i d)
    bad_lane standing journal i d all lt differ =
        let there = slice_get-get_or numbers i d lt in
        let l = lane_of (get_or numbers i d) (in_of_place (get_or numbers i d) numbers i there) in
        record {
          lane = l.0;
          lane_is = l.1;
          receives = l.2;
          differ = differ;
          least = λ k other less g r.
              let p = place_of_in k numbers (subst (λ (l : List ℕ). IsIn k l) (sym numbers_are) (lanes_that_in (λ (lane : Lane). lane.receiver == w) setup.job k other g (eq-eqb other.receiver w r))) in
              all k (early k p.0 p.1 less);
        }
      where
        taken : (xs : List ℕ) (p i k : ℕ) → slice_get xs p ≡ Some k → p < i → IsIn k (take i xs)
        taken [] p i k g less = absurd (cc)
        taken (x ∷ xs) p zero k g less = absurd (omega (arith, less))
        taken (x ∷ xs) zero (suc i) k g less = inl (sym (same_Some x k g))
        taken (x ∷ xs) (suc p) (suc i) k g less = inr (taken xs p i k g (omega (arith, less)))

        up : (p j a b : ℕ) → slice_get numbers p ≡ Some a → slice_get numbers j ≡ Some b → p < j → a < b
        up p j a b g h less =
            rise_on (λ (q : ℕ × Lane). q.1.receiver == w) 0 (lanes setup.job) p j a b (ap (λ (l : List ℕ). slice_get l p) (sym numbers_are) ∙ g) (ap (λ (l : List ℕ). slice_get l j) (sym numbers_are) ∙ h) less

        early : (k p : ℕ) → slice_get numbers p ≡ Some k → k < get_or numbers i d → IsIn k (take i numbers)
        early k p g less = elim (cases_lt p i) [
          | inl before ↦ taken numbers p i k g before
          | inr after ↦ elim (cases_lt i p) [
            | inl above ↦ let over = up i p (get_or numbers i d) k (slice_get-get_or numbers i d lt) g above in absurd (omega (arith, less, over))
            | inr below ↦
                let same : i ≡ p = omega (arith, after, below) in
                let e = same_Some (get_or numbers i d) k (sym (slice_get-get_or numbers i d lt) ∙ (ap (slice_get numbers) same ∙ g)) in
                absurd (omega (arith, less, e))
          ]
        ]
