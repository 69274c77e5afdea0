-- All lanes are settled, from the last to the first.
use Rattle.std.proofs.Common.{◌≡◌, ◌∙◌, ◌+◌, ◌≤◌, ℕ, List, [], ◌∷◌, ◌++◌, inl, inr, refl, sym, ap, subst, arith, length, Option, Some, None, slice_get}
use Rattle.std.specs.Prelude.{IfNone, IfSome}
use Rattle.std.proofs.lemmas.Bool.{cases_lt}
use Rattle.std.proofs.lemmas.Option.{same_Some, slice_get_within}
use Rattle.jobs.specs.JobView.{JobView}
use Rattle.tuple_trace.specs.declared.tuple.Item.{Item}
use Rattle.flow_model.specs.Lanes.{lanes}
use Rattle.flow_model.specs.declared.topology.Lane.{Lane}
use Rattle.flow_model.proofs.LaneNumbers.{receiver_below}
use Rattle.lane_core.specs.Lane.{EndpointIs}
use Rattle.flow_crew.specs.Sides.{AreMatched, AreSettled, feeder_sends, HaveAllLanes, ins_at, IsAmong, IsSettled, outs_at, side_ins, side_outs, SideIs}
use Rattle.flow_crew.specs.Sorted.{HaveFirstLanes, changed_at, leads_to, leads_from, more_in, with_fed, with_out}
use Rattle.flow_crew.proofs.Numbers.{first_all}
use Rattle.flow_crew.proofs.Sorting.{each_placed, lane_sender, receiver_has, sender_has, unsort_in, unsort_out}

module _ (job : JobView) (all : List SideIs) (fed : List EndpointIs) where
  -- an endpoint of a sender, or of a receiver, at the beginning
  abbrev pub Sends : Option ℕ → EndpointIs → Type 0
  Sends sender end = IsAmong (outs_at sender all fed) end

  abbrev pub Takes : ℕ → EndpointIs → Type 0
  Takes receiver end = IsAmong (ins_at receiver all) end

  -- the endpoints of the first n lanes are left, and each other lane is settled
  pub record IsSettling (n : ℕ) (now : List SideIs) (left : List EndpointIs) : Type 0 where
    pub within : n ≤ length (lanes job)
    pub sorted : HaveFirstLanes job Sends Takes n n now left
    pub settled : (k : ℕ) (lane : Lane) → slice_get (lanes job) k ≡ Some lane → n ≤ k → IsSettled all fed k lane

  pub settling_first : (n : ℕ) → n ≡ length (lanes job) → HaveAllLanes job all fed → IsSettling n all fed
  settling_first n e have = record {
    within = omega (arith, e);
    sorted = record {
      many = have.many;
      outs = λ w side g. record {
        numbers = have.outs w side g ∙ sym (first_all (leads_from w) job n (omega (arith, e)));
        each = each_placed (Sends (Some w)) side.outs (λ k x h. (k, ap (λ (o : Option SideIs). slice_get (side_outs o) k) g ∙ h));
      };
      ins = λ w side g. record {
        numbers = have.ins w side g ∙ sym (first_all (leads_to w) job n (omega (arith, e)));
        each = each_placed (Takes w) side.ins (λ k x h. (k, ap (λ (o : Option SideIs). slice_get (side_ins o) k) g ∙ h));
      };
      feeder = record {
        numbers = have.feeder ∙ sym (first_all feeder_sends job n (omega (arith, e)));
        each = each_placed (Sends None) fed (λ k x h. (k, h));
      };
    };
    settled = λ k lane g le. let lt = slice_get_within (lanes job) k lane g in absurd (omega (arith, e, lt, le));
  }

  pub again : (n m : ℕ) (now : List SideIs) (left : List EndpointIs) → n ≡ m → IsSettling n now left → IsSettling m now left
  again n m now left e settling = subst (λ k. IsSettling k now left) e settling

  -- the two ends of the last lane have its endpoints
  pub tx_there : (n : ℕ) (lane : Lane) (now : List SideIs) (left : List EndpointIs) → slice_get (lanes job) n ≡ Some lane → IsSettling (n + 1) now left → outs_at lane.sender now left ≡ [] → ⊥
  tx_there n lane now left at settling none = sender_has job Sends Takes n lane at (n + 1) now left (lane_sender job n lane at) settling.sorted none

  pub rx_there : (n : ℕ) (lane : Lane) (tx : EndpointIs) (old middle : List SideIs) (before left : List EndpointIs) → slice_get (lanes job) n ≡ Some lane → IsSettling (n + 1) old before
      → old ≡ with_out lane.sender (tx ∷ []) middle → before ≡ with_fed lane.sender (tx ∷ []) left → ins_at lane.receiver middle ≡ [] → ⊥
  rx_there n lane tx old middle before left at settling a b none =
      let s : HaveFirstLanes job Sends Takes (n + 1) (n + 1) (with_out lane.sender (tx ∷ []) middle) (with_fed lane.sender (tx ∷ []) left) =
      subst (λ (xs : List SideIs). HaveFirstLanes job Sends Takes (n + 1) (n + 1) xs (with_fed lane.sender (tx ∷ []) left)) a
      (subst (HaveFirstLanes job Sends Takes (n + 1) (n + 1) old) b settling.sorted) in
      let (tx_number, sends, half) = unsort_out job Sends Takes n lane at (n + 1) tx middle left (lane_sender job n lane at) s in
      receiver_has job Sends Takes n lane at n middle left (receiver_below job n lane at) half none

  -- the two endpoints of the last lane that isn't settled
  pub record AreLast (n : ℕ) (lane : Lane) (tx rx : EndpointIs) (now : List SideIs) (left : List EndpointIs) : Type 0 where
    pub tx_number : tx.number ≡ n
    pub rx_number : rx.number ≡ n
    pub sends : Sends lane.sender tx
    pub takes : Takes lane.receiver rx
    pub sorted : HaveFirstLanes job Sends Takes n n now left

  pub last_two : (n : ℕ) (lane : Lane) (tx rx : EndpointIs) (old middle now : List SideIs) (before left : List EndpointIs) → slice_get (lanes job) n ≡ Some lane → IsSettling (n + 1) old before
      → old ≡ with_out lane.sender (tx ∷ []) middle → before ≡ with_fed lane.sender (tx ∷ []) left → middle ≡ changed_at (more_in (rx ∷ [])) lane.receiver now
      → AreLast n lane tx rx now left
  last_two n lane tx rx old middle now before left at settling a b d =
      let s : HaveFirstLanes job Sends Takes (n + 1) (n + 1) (with_out lane.sender (tx ∷ []) middle) (with_fed lane.sender (tx ∷ []) left) =
      subst (λ (xs : List SideIs). HaveFirstLanes job Sends Takes (n + 1) (n + 1) xs (with_fed lane.sender (tx ∷ []) left)) a
      (subst (HaveFirstLanes job Sends Takes (n + 1) (n + 1) old) b settling.sorted) in
      let (tx_number, sends, half) = unsort_out job Sends Takes n lane at (n + 1) tx middle left (lane_sender job n lane at) s in
      let (rx_number, takes, rest) = unsort_in job Sends Takes n lane at n rx now left (receiver_below job n lane at)
      (subst (λ (xs : List SideIs). HaveFirstLanes job Sends Takes n (n + 1) xs left) d half) in
      record { tx_number = tx_number; rx_number = rx_number; sends = sends; takes = takes; sorted = rest }

  pub one_lane : (n : ℕ) (lane : Lane) (tx rx : EndpointIs) (now : List SideIs) (left : List EndpointIs) → AreMatched all fed → AreLast n lane tx rx now left → tx.lane ≡ rx.lane
  one_lane n lane tx rx now left matched last = matched lane.sender lane.receiver tx rx last.sends last.takes (last.tx_number ∙ sym last.rx_number)

  pub settling_next : (n : ℕ) (lane : Lane) (tx rx : EndpointIs) (old now : List SideIs) (before left : List EndpointIs) (items : List Item) → slice_get (lanes job) n ≡ Some lane → IsSettling (n + 1) old before
      → AreLast n lane tx rx now left → tx.items ≡ rx.items ++ items → IsSettling n now left
  settling_next n lane tx rx old now before left items at settling last split = record {
    within = let lt = slice_get_within (lanes job) n lane at in omega (arith, lt);
    sorted = last.sorted;
    settled = λ k other g le. elim (cases_lt n k) [ inl lt ↦ settling.settled k other g (omega (arith, lt)) | inr ge ↦ here k other g (omega (arith, le, ge)) ];
  }
    where
      this : IsSettled all fed n lane
      this = record { tx = tx; rx = rx; left = items; sender = last.sends; receiver = last.takes; tx_number = last.tx_number; rx_number = last.rx_number; settled = split }

      here : (k : ℕ) (other : Lane) → slice_get (lanes job) k ≡ Some other → n ≡ k → IsSettled all fed k other
      here k other g e =
          let same : lane ≡ other = same_Some lane other (sym at ∙ (ap (slice_get (lanes job)) e ∙ g)) in
          subst (IsSettled all fed k) same (subst (λ j. IsSettled all fed j lane) e this)

  pub settling_last : (n : ℕ) (now : List SideIs) (left : List EndpointIs) → n ≡ 0 → IsSettling n now left → AreSettled job all fed
  settling_last n now left e settling = λ k lane g. settling.settled k lane g (omega (arith, e))

-- ---- what holds if there is an item, and if there is none

pub if_some : {A : Type 0} (P Q : A → Type 0) (o : Option A) → ((x : A) → P x → Q x) → IfSome o P → IfSome o Q
if_some P Q None f p = tt
if_some P Q (Some x) f p = f x p

pub none_of : {A P : Type 0} (o : Option A) → ((x : A) → o ≡ Some x → ⊥) → IfNone o P → P
none_of None isnt p = p
none_of (Some x) isnt p = absurd (isnt x refl)

pub if_none : {A P Q : Type 0} (o : Option A) → (P → Q) → IfNone o P → IfNone o Q
if_none None f p = f p
if_none (Some x) f p = tt
