-- What a worker sends on its lanes out.
use Rattle.std.proofs.Common.{◌≡◌, ◌≢◌, ◌∙◌, ◌<◌, ◌≤◌, ◌+◌, ◌==◌, ◌++◌, ℕ, zero, suc, List, [], ◌∷◌, inl, inr, refl, sym, ap, subst, arith, true, false, Bool, drop, get_or, length, map, take, Some, slice_get}
use Rattle.std.specs.Prelude.{slice_set}
use Rattle.std.proofs.lemmas.Bool.{eq-eqb, eqb-true}
use Rattle.std.proofs.lemmas.List.{drop_more, length-map, length-set, take_all, take_more}
use Rattle.std.proofs.lemmas.Option.{same_Some, slice_get_within}
use Rattle.jobs.specs.JobView.{JobView}
use Rattle.tuple_trace.specs.declared.tuple.Item.{Item}
use Rattle.flow_model.specs.declared.topology.Lane.{Lane}
use Rattle.flow_model.specs.Lanes.{is_sender, lanes, lanes_out, no_lane, out_numbers}
use Rattle.flow_model.proofs.ElementLemmas.{IsIn, in_cases, in_left, in_right}
use Rattle.flow_model.proofs.LaneLemmas.{in_lanes_that, lanes_that_in, sender_is}
use Rattle.flow_replay.specs.inner.Replays.{AreNumbersOf}
use Rattle.flow_replay.proofs.ListLemmas.{length-numbers, numbers-are}
use Rattle.audit_restore.specs.Standing.{HasSent, left_on}
use Rattle.audit_restore.proofs.StandingLemmas.{left_elsewhere, left_here}

-- the number at a place is that of the lane at this place
number_at : (job : JobView) (all : List Lane) (numbers : List ℕ) (i d : ℕ) (l : Lane) → AreNumbersOf job all numbers → i < length numbers → slice_get (lanes job) (get_or numbers i d) ≡ Some (get_or all i l)
number_at job [] [] i d l are lt = absurd (omega (arith, lt))
number_at job [] (n ∷ numbers) i d l are lt = absurd are
number_at job (x ∷ all) [] i d l are lt = absurd are
number_at job (x ∷ all) (n ∷ numbers) zero d l are lt = are.0
number_at job (x ∷ all) (n ∷ numbers) (suc i) d l are lt = number_at job all numbers i d l are.1 (omega (arith, lt))

-- so many lists stand on the first of these lanes
pub record AreSent (job : JobView) (on : Lane → List Item) (numbers : List ℕ) (old new : List (List Item)) : Type 0 where
  pub long : length new ≡ length old
  pub sent : (n : ℕ) (lane : Lane) → IsIn n numbers → slice_get (lanes job) n ≡ Some lane → left_on new n ≡ on lane
  pub others : (n : ℕ) → (IsIn n numbers → ⊥) → left_on new n ≡ left_on old n

pub nothing_sent : (job : JobView) (on : Lane → List Item) (old : List (List Item)) → AreSent job on [] old old
nothing_sent job on old = record { long = refl; sent = λ n lane i g. absurd i; others = λ n out. refl }

one_more_sent : (job : JobView) (on : Lane → List Item) (numbers : List ℕ) (n : ℕ) (lane : Lane) (list : List Item) (old mid : List (List Item)) → AreSent job on numbers old mid → n < length mid
    → slice_get (lanes job) n ≡ Some lane → list ≡ on lane → AreSent job on (numbers ++ n ∷ []) old (slice_set mid n list)
one_more_sent job on numbers n lane list old mid are lt g e = record {
  long = length-set mid n list ∙ are.long;
  sent = λ k other i h. go k other i h (n == k) refl;
  others = λ k out.
      left_elsewhere mid k n list (λ q. out (last k q)) ∙ are.others k (λ i. out (first k i));
}
  where
    first : (k : ℕ) → IsIn k numbers → IsIn k (numbers ++ n ∷ [])
    first k i = in_left k numbers (n ∷ []) i

    last : (k : ℕ) → k ≡ n → IsIn k (numbers ++ n ∷ [])
    last k q = in_right k numbers (n ∷ []) (inl q)

    go : (k : ℕ) (other : Lane) → IsIn k (numbers ++ n ∷ []) → slice_get (lanes job) k ≡ Some other → (b : Bool) → (n == k) ≡ b → left_on (slice_set mid n list) k ≡ on other
    go k other i h true t =
        let same : n ≡ k = eqb-true n k t in
        let lane_is : lane ≡ other = same_Some lane other (sym g ∙ (ap (slice_get (lanes job)) same ∙ h)) in
        ap (left_on (slice_set mid n list)) (sym same) ∙ (left_here mid n list lt ∙ (e ∙ ap on lane_is))
    go k other i h false f =
        let apart : k ≢ n = λ q. let t = eq-eqb n k (sym q) in absurd (cc) in
        left_elsewhere mid k n list apart
        ∙ elim (in_cases k numbers (n ∷ []) i) [
          | inl a ↦ are.sent k other a h
          | inr (inl q) ↦ absurd (apart q)
          | inr (inr none) ↦ absurd none
        ]

-- the next list is that of the next lane out
module _ (job : JobView) (w : ℕ) (on : Lane → List Item) (numbers : List ℕ) (numbers_are : numbers ≡ out_numbers job w) (i d : ℕ) (lt : i < length numbers)
  where
    there : slice_get (lanes job) (get_or numbers i d) ≡ Some (get_or (lanes_out job w) i no_lane)
    there = number_at job (lanes_out job w) numbers i d no_lane (subst (AreNumbersOf job (lanes_out job w)) (sym numbers_are) (numbers-are job w)) lt

    pub number_within : get_or numbers i d < length (lanes job)
    number_within = slice_get_within (lanes job) (get_or numbers i d) (get_or (lanes_out job w) i no_lane) there

    pub sent_next : (old mid : List (List Item)) (list : List Item) (later rest : List (List Item)) → AreSent job on (take i numbers) old mid → get_or numbers i d < length mid → rest ≡ drop i (map on (lanes_out job w))
        → rest ≡ list ∷ later → AreSent job on (take (i + 1) numbers) old (slice_set mid (get_or numbers i d) list) × (later ≡ drop (i + 1) (map on (lanes_out job w)))
    sent_next old mid list later rest are here is front =
        let long : i < length (map on (lanes_out job w)) =
        omega (arith, lt, length-map (lanes_out job w) on, length-numbers job (lanes_out job w) numbers (subst (AreNumbersOf job (lanes_out job w)) (sym numbers_are) (numbers-are job w))) in
        let both : list ∷ later ≡ get_or (map on (lanes_out job w)) i [] ∷ drop (i + 1) (map on (lanes_out job w)) = sym front ∙ (is ∙ drop_more (map on (lanes_out job w)) i [] long) in
        let first : list ≡ on (get_or (lanes_out job w) i no_lane) = heads list later (get_or (map on (lanes_out job w)) i []) (drop (i + 1) (map on (lanes_out job w))) both ∙ mapped (lanes_out job w) i (omega (arith, long, length-map (lanes_out job w) on)) in (
          subst (λ (l : List ℕ). AreSent job on l old (slice_set mid (get_or numbers i d) list)) (sym (take_more numbers i d lt))
              (one_more_sent job on (take i numbers) (get_or numbers i d) (get_or (lanes_out job w) i no_lane) list old mid are here there first),
          tails list later (get_or (map on (lanes_out job w)) i []) (drop (i + 1) (map on (lanes_out job w))) both,
        )
      where
        heads : (a : List Item) (xs : List (List Item)) (b : List Item) (ys : List (List Item)) → a ∷ xs ≡ b ∷ ys → a ≡ b
        heads a xs b ys e = cc

        tails : (a : List Item) (xs : List (List Item)) (b : List Item) (ys : List (List Item)) → a ∷ xs ≡ b ∷ ys → xs ≡ ys
        tails a xs b ys e = cc

        mapped : (xs : List Lane) (k : ℕ) → k < length xs → get_or (map on xs) k [] ≡ on (get_or xs k no_lane)
        mapped [] k less = absurd (omega (arith, less))
        mapped (x ∷ xs) zero less = refl
        mapped (x ∷ xs) (suc k) less = mapped xs k (omega (arith, less))

    -- there is a next list
    pub never_empty : (rest : List (List Item)) → rest ≡ drop i (map on (lanes_out job w)) → rest ≡ [] → ⊥
    never_empty rest is none =
        let long : i < length (map on (lanes_out job w)) =
        omega (arith, lt, length-map (lanes_out job w) on, length-numbers job (lanes_out job w) numbers (subst (AreNumbersOf job (lanes_out job w)) (sym numbers_are) (numbers-are job w))) in
        let e : [] ≡ get_or (map on (lanes_out job w)) i [] ∷ drop (i + 1) (map on (lanes_out job w)) = sym none ∙ (is ∙ drop_more (map on (lanes_out job w)) i [] long) in
        absurd (cc)

-- all lists stand there
pub all_sent_on : (job : JobView) (w : ℕ) (on : Lane → List Item) (numbers : List ℕ) (i : ℕ) (old new : List (List Item)) → numbers ≡ out_numbers job w → length numbers ≤ i → AreSent job on (take i numbers) old new
    → HasSent job w on old new
all_sent_on job w on numbers i old new e past are = record {
  long = are.long;
  out = λ n lane g s. are.sent n lane (whole n (lanes_that_in (λ (l : Lane). is_sender w l.sender) job n lane g (ap (is_sender w) s ∙ eq-eqb w w refl))) g;
  others = λ n lane g s. are.others n (λ i. s (back n lane g i));
}
  where
    whole : (n : ℕ) → IsIn n (out_numbers job w) → IsIn n (take i numbers)
    whole n j = subst (λ (l : List ℕ). IsIn n l) (sym (take_all i numbers past ∙ e)) j

    back : (n : ℕ) (lane : Lane) → slice_get (lanes job) n ≡ Some lane → IsIn n (take i numbers) → lane.sender ≡ Some w
    back n lane g j =
        let l = in_lanes_that (λ (l : Lane). is_sender w l.sender) job n (subst (λ (l : List ℕ). IsIn n l) (take_all i numbers past ∙ e) j) in
        ap (λ (x : Lane). x.sender) (same_Some lane l.0 (sym g ∙ l.1)) ∙ sender_is w l.0.sender l.2
