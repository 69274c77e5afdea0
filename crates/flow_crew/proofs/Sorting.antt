-- The endpoints stay sorted as lane after lane is made, and as lane after lane is settled.
use Rattle.std.proofs.Common.{◌≡◌, ◌≢◌, ◌⊎◌, ◌∙◌, ◌==◌, ◌<◌, ◌+◌, ℕ, zero, suc, List, [], ◌∷◌, ◌++◌, Bool, true, false, inl, inr, refl, sym, ap, subst, arith, length, set, Option, Some, None, slice_get}
use Rattle.std.specs.Prelude.{IfSome}
use Rattle.std.proofs.lemmas.List.{map-append}
use Rattle.std.proofs.lemmas.Bool.{eq-eqb, eqb-true}
use Rattle.std.proofs.lemmas.Option.{slice_get_within}
use Rattle.jobs.specs.JobView.{JobView}
use Rattle.flow_model.specs.Lanes.{is_sender, lanes, senders}
use Rattle.flow_model.specs.declared.topology.Lane.{Lane}
use Rattle.flow_model.specs.Workers.{workers_in}
use Rattle.flow_model.proofs.ElementLemmas.{IsIn}
use Rattle.flow_model.proofs.LaneLemmas.{lane_is, sender_worker}
use Rattle.flow_model.proofs.WorkerLemmas.{item_at}
use Rattle.flow_worker.specs.Pairs.{EachOne}
use Rattle.lane_core.specs.Lane.{EndpointIs}
use Rattle.flow_worker.proofs.Pairs.{each_map}
use Rattle.flow_crew.specs.Sides.{SideIs, ins_at, side_ins, feeder_sends, numbers_of, outs_at, side_outs}
use Rattle.flow_crew.specs.Sorted.{HaveFirstLanes, HasLanes, changed_at, first_numbers, leads_to, leads_from, more_in, more_out, with_fed, with_out}
use Rattle.flow_crew.proofs.Numbers.{first_skipped, first_taken, last_same, not_empty}

-- ---- a list that is changed at a place

pub set-changed : {A : Type 0} (f : A → A) (xs : List A) (k : ℕ) (x y : A) → slice_get xs k ≡ Some x → y ≡ f x → set xs k y ≡ changed_at f k xs
set-changed f [] k x y g e = absurd (cc)
set-changed f (z ∷ xs) zero x y g e = let s : z ≡ x = cc in ap (λ a. a ∷ xs) (e ∙ ap f (sym s))
set-changed f (z ∷ xs) (suc k) x y g e = ap (λ l. z ∷ l) (set-changed f xs k x y g e)

-- the other way round: before the item was set, it was changed from what it is now
pub changed-set : {A : Type 0} (f : A → A) (xs : List A) (k : ℕ) (x y : A) → slice_get xs k ≡ Some x → x ≡ f y → xs ≡ changed_at f k (set xs k y)
changed-set f [] k x y g e = absurd (cc)
changed-set f (z ∷ xs) zero x y g e = let s : z ≡ x = cc in ap (λ a. a ∷ xs) (s ∙ e)
changed-set f (z ∷ xs) (suc k) x y g e = ap (λ l. z ∷ l) (changed-set f xs k x y g e)

pub length-changed : {A : Type 0} (f : A → A) (xs : List A) (k : ℕ) → length (changed_at f k xs) ≡ length xs
length-changed f [] zero = refl
length-changed f [] (suc k) = refl
length-changed f (x ∷ xs) zero = refl
length-changed f (x ∷ xs) (suc k) = ap suc (length-changed f xs k)

-- an item of a changed list: it was there, and it was changed exactly at the place
pub get-changed : {A : Type 0} (f : A → A) (xs : List A) (k i : ℕ) (y : A) → slice_get (changed_at f k xs) i ≡ Some y →
    (x : A) × (slice_get xs i ≡ Some x) × (((k ≡ i) × (y ≡ f x)) ⊎ ((k ≢ i) × (y ≡ x)))
get-changed f [] zero i y g = absurd (cc)
get-changed f [] (suc k) i y g = absurd (cc)
get-changed f (x ∷ xs) zero zero y g = let e : f x ≡ y = cc in (x, refl, inl (refl, sym e))
get-changed f (x ∷ xs) zero (suc i) y g = (y, g, inr ((λ e. let z : zero ≡ suc i = e in absurd (cc)), refl))
get-changed f (x ∷ xs) (suc k) zero y g = let e : x ≡ y = cc in (x, refl, inr ((λ e. absurd (cc)), sym e))
get-changed {A = A} f (x ∷ xs) (suc k) (suc i) y g = up (get-changed f xs k i y g)
  where
    up : (z : A) × (slice_get xs i ≡ Some z) × (((k ≡ i) × (y ≡ f z)) ⊎ ((k ≢ i) × (y ≡ z))) →
        (z : A) × (slice_get (x ∷ xs) (suc i) ≡ Some z) × (((suc k ≡ suc i) × (y ≡ f z)) ⊎ ((suc k ≢ suc i) × (y ≡ z)))
    up (z, h, inl (a, b)) = (z, h, inl (ap suc a, b))
    up (z, h, inr (a, b)) = (z, h, inr ((λ e. a (let n : k ≡ i = omega (arith, e) in n)), b))

-- an item of the list before the change
changed-get : {A : Type 0} (f : A → A) (xs : List A) (k i : ℕ) (x : A) → slice_get xs i ≡ Some x →
    ((k ≡ i) × (slice_get (changed_at f k xs) i ≡ Some (f x))) ⊎ ((k ≢ i) × (slice_get (changed_at f k xs) i ≡ Some x))
changed-get f [] k i x g = absurd (cc)
changed-get f (z ∷ xs) zero zero x g = let e : z ≡ x = cc in inl (refl, ap (λ a. Some (f a)) e)
changed-get f (z ∷ xs) zero (suc i) x g = inr ((λ e. let q : zero ≡ suc i = e in absurd (cc)), g)
changed-get f (z ∷ xs) (suc k) zero x g = inr ((λ e. absurd (cc)), g)
changed-get f (z ∷ xs) (suc k) (suc i) x g = elim (changed-get f xs k i x g) [ inl a ↦ inl (ap suc a.0, a.1) | inr b ↦ inr ((λ e. b.0 (let n : k ≡ i = omega (arith, e) in n)), b.1) ]

-- ---- what holds of each item

each_more : {A : Type 0} (P : A → Type 0) (xs : List A) (x : A) → EachOne P xs → P x → EachOne P (xs ++ x ∷ [])
each_more P [] x e p = (p, tt)
each_more P (y ∷ ys) x e p = (e.0, each_more P ys x e.1 p)

each_fewer : {A : Type 0} (P : A → Type 0) (xs : List A) (x : A) → EachOne P (xs ++ x ∷ []) → EachOne P xs × P x
each_fewer P [] x e = (tt, e.0)
each_fewer P (y ∷ ys) x e = let h = each_fewer P ys x e.1 in ((e.0, h.0), h.1)

pub each_placed : {A : Type 0} (P : A → Type 0) (xs : List A) → ((k : ℕ) (x : A) → slice_get xs k ≡ Some x → P x) → EachOne P xs
each_placed P [] f = tt
each_placed P (x ∷ xs) f = (f zero x refl, each_placed P xs (λ k y g. f (suc k) y g))

pub each_got : {A : Type 0} (P : A → Type 0) (xs : List A) (k : ℕ) (x : A) → EachOne P xs → slice_get xs k ≡ Some x → P x
each_got P [] k x e g = absurd (cc)
each_got P (y ∷ ys) zero x e g = let s : y ≡ x = cc in subst P s e.0
each_got P (y ∷ ys) (suc k) x e g = each_got P ys k x e.1 g

pub weaker : {test : Lane → Bool} {job : JobView} {i : ℕ} (P Q : EndpointIs → Type 0) (ends : List EndpointIs) → ((x : EndpointIs) → P x → Q x) → HasLanes test job P i ends → HasLanes test job Q i ends
weaker P Q ends f h = record { numbers = h.numbers; each = each_map P Q ends f h.each }

-- ---- tests of senders and receivers

unequal : (b : Bool) → b ≢ true → b ≡ false
unequal true e = absurd (e refl)
unequal false e = refl

not_leaves : (w : ℕ) (sender : Option ℕ) (s : ℕ) → sender ≡ Some s → s ≢ w → is_sender w sender ≡ false
not_leaves w sender s e n = rw e (unequal (s == w) (λ t. n (eqb-true s w t)))

not_leads : (w r : ℕ) → r ≢ w → (r == w) ≡ false
not_leads w r n = unequal (r == w) (λ t. n (eqb-true r w t))

-- ---- one lane more, or one lane less

module _ (job : JobView) (i : ℕ) (lane : Lane) (at : slice_get (lanes job) i ≡ Some lane) where
  take_lane : (test : Lane → Bool) (P : EndpointIs → Type 0) (ends : List EndpointIs) (end : EndpointIs) → test lane ≡ true → end.number ≡ i → P end → HasLanes test job P i ends → HasLanes test job P (i + 1) (ends ++ end ∷ [])
  take_lane test P ends end t number p h = record {
    numbers =
        map-append (λ (e : EndpointIs). e.number) ends (end ∷ [])
        ∙ (ap (λ n. numbers_of ends ++ n ∷ []) number ∙ (ap (λ l. l ++ i ∷ []) h.numbers ∙ sym (first_taken test job i lane at t)));
    each = each_more P ends end h.each p;
  }

  skip_lane : (test : Lane → Bool) (P : EndpointIs → Type 0) (ends : List EndpointIs) → test lane ≡ false → HasLanes test job P i ends → HasLanes test job P (i + 1) ends
  skip_lane test P ends t h = record { numbers = h.numbers ∙ sym (first_skipped test job i lane at t); each = h.each }

  give_lane : (test : Lane → Bool) (P : EndpointIs → Type 0) (ends : List EndpointIs) (end : EndpointIs) → test lane ≡ true → HasLanes test job P (i + 1) (ends ++ end ∷ []) → (end.number ≡ i) × P end × HasLanes test job P i ends
  give_lane test P ends end t h =
      let both = last_same (numbers_of ends) (first_numbers test job i) end.number i
      (sym (map-append (λ (e : EndpointIs). e.number) ends (end ∷ [])) ∙ (h.numbers ∙ first_taken test job i lane at t)) in
      let each = each_fewer P ends end h.each in
      (both.1, each.1, record { numbers = both.0; each = each.0 })

  pass_lane : (test : Lane → Bool) (P : EndpointIs → Type 0) (ends : List EndpointIs) → test lane ≡ false → HasLanes test job P (i + 1) ends → HasLanes test job P i ends
  pass_lane test P ends t h = record { numbers = h.numbers ∙ first_skipped test job i lane at t; each = h.each }

  some_end : (test : Lane → Bool) (P : EndpointIs → Type 0) (ends : List EndpointIs) → test lane ≡ true → HasLanes test job P (i + 1) ends → ends ≡ [] → ⊥
  some_end test P ends t h e = not_empty (first_numbers test job i) i (sym (first_taken test job i lane at t) ∙ (sym h.numbers ∙ ap numbers_of e))

module _ (job : JobView) (P : Option ℕ → EndpointIs → Type 0) (Q : ℕ → EndpointIs → Type 0) (i : ℕ) (lane : Lane) (at : slice_get (lanes job) i ≡ Some lane) where
  -- the sender's endpoint of the next lane
  pub sort_out : (j : ℕ) (end : EndpointIs) (sides : List SideIs) (fed : List EndpointIs) → end.number ≡ i → P lane.sender end → HaveFirstLanes job P Q i j sides fed
      → HaveFirstLanes job P Q (i + 1) j (with_out lane.sender (end ∷ []) sides) (with_fed lane.sender (end ∷ []) fed)
  sort_out j end sides fed number p h = go lane.sender refl p
    where
      go : (sender : Option ℕ) → lane.sender ≡ sender → P sender end → HaveFirstLanes job P Q (i + 1) j (with_out sender (end ∷ []) sides) (with_fed sender (end ∷ []) fed)
      go None e p = record {
        many = h.many;
        outs = λ w side g. skip_lane job i lane at (leads_from w) (P (Some w)) side.outs (rw e refl) (h.outs w side g);
        ins = h.ins;
        feeder = take_lane job i lane at feeder_sends (P None) fed end (rw e refl) number p h.feeder;
      }
      go (Some s) e p = record {
        many = length-changed (more_out (end ∷ [])) sides s ∙ h.many;
        outs = λ w side g. of_worker w side (get-changed (more_out (end ∷ [])) sides s w side g);
        ins = λ w side g. into_worker w side (get-changed (more_out (end ∷ [])) sides s w side g);
        feeder = skip_lane job i lane at feeder_sends (P None) fed (rw e refl) h.feeder;
      }
        where
          of_worker : (w : ℕ) (side : SideIs) → (was : SideIs) × (slice_get sides w ≡ Some was) × (((s ≡ w) × (side ≡ more_out (end ∷ []) was)) ⊎ ((s ≢ w) × (side ≡ was))) → HasLanes (leads_from w) job (P (Some w)) (i + 1) side.outs
          of_worker w side (was, g, inl (a, b)) =
              subst (λ (x : SideIs). HasLanes (leads_from w) job (P (Some w)) (i + 1) x.outs) (sym b)
              (take_lane job i lane at (leads_from w) (P (Some w)) was.outs end (ap (is_sender w) e ∙ eq-eqb s w a) number (subst (λ (n : ℕ). P (Some n) end) a p) (h.outs w was g))
          of_worker w side (was, g, inr (a, b)) =
              subst (λ (x : SideIs). HasLanes (leads_from w) job (P (Some w)) (i + 1) x.outs) (sym b)
              (skip_lane job i lane at (leads_from w) (P (Some w)) was.outs (not_leaves w lane.sender s e a) (h.outs w was g))

          into_worker : (w : ℕ) (side : SideIs) → (was : SideIs) × (slice_get sides w ≡ Some was) × (((s ≡ w) × (side ≡ more_out (end ∷ []) was)) ⊎ ((s ≢ w) × (side ≡ was))) → HasLanes (leads_to w) job (Q w) j side.ins
          into_worker w side (was, g, inl (a, b)) = subst (λ (x : SideIs). HasLanes (leads_to w) job (Q w) j x.ins) (sym b) (h.ins w was g)
          into_worker w side (was, g, inr (a, b)) = subst (λ (x : SideIs). HasLanes (leads_to w) job (Q w) j x.ins) (sym b) (h.ins w was g)

  -- the receiver's endpoint of the next lane
  pub sort_in : (j : ℕ) (end : EndpointIs) (sides : List SideIs) (fed : List EndpointIs) → end.number ≡ i → Q lane.receiver end → HaveFirstLanes job P Q j i sides fed
      → HaveFirstLanes job P Q j (i + 1) (changed_at (more_in (end ∷ [])) lane.receiver sides) fed
  sort_in j end sides fed number q h = record {
    many = length-changed (more_in (end ∷ [])) sides lane.receiver ∙ h.many;
    outs = λ w side g. of_worker w side (get-changed (more_in (end ∷ [])) sides lane.receiver w side g);
    ins = λ w side g. into_worker w side (get-changed (more_in (end ∷ [])) sides lane.receiver w side g);
    feeder = h.feeder;
  }
    where
      of_worker : (w : ℕ) (side : SideIs) → (was : SideIs) × (slice_get sides w ≡ Some was) × (((lane.receiver ≡ w) × (side ≡ more_in (end ∷ []) was)) ⊎ ((lane.receiver ≢ w) × (side ≡ was))) → HasLanes (leads_from w) job (P (Some w)) j side.outs
      of_worker w side (was, g, inl (a, b)) = subst (λ (x : SideIs). HasLanes (leads_from w) job (P (Some w)) j x.outs) (sym b) (h.outs w was g)
      of_worker w side (was, g, inr (a, b)) = subst (λ (x : SideIs). HasLanes (leads_from w) job (P (Some w)) j x.outs) (sym b) (h.outs w was g)

      into_worker : (w : ℕ) (side : SideIs) → (was : SideIs) × (slice_get sides w ≡ Some was) × (((lane.receiver ≡ w) × (side ≡ more_in (end ∷ []) was)) ⊎ ((lane.receiver ≢ w) × (side ≡ was))) → HasLanes (leads_to w) job (Q w) (i + 1) side.ins
      into_worker w side (was, g, inl (a, b)) =
          subst (λ (x : SideIs). HasLanes (leads_to w) job (Q w) (i + 1) x.ins) (sym b)
          (take_lane job i lane at (leads_to w) (Q w) was.ins end (eq-eqb lane.receiver w a) number (subst (λ (n : ℕ). Q n end) a q) (h.ins w was g))
      into_worker w side (was, g, inr (a, b)) =
          subst (λ (x : SideIs). HasLanes (leads_to w) job (Q w) (i + 1) x.ins) (sym b)
          (skip_lane job i lane at (leads_to w) (Q w) was.ins (not_leads w lane.receiver a) (h.ins w was g))

  -- the sender's endpoint of the last lane is taken away
  pub unsort_out : (j : ℕ) (end : EndpointIs) (sides : List SideIs) (fed : List EndpointIs) → IfSome lane.sender (λ w. w < length (workers_in job))
      → HaveFirstLanes job P Q (i + 1) j (with_out lane.sender (end ∷ []) sides) (with_fed lane.sender (end ∷ []) fed)
      → (end.number ≡ i) × P lane.sender end × HaveFirstLanes job P Q i j sides fed
  unsort_out j end sides fed within = go lane.sender refl within
    where
      go : (sender : Option ℕ) → lane.sender ≡ sender → IfSome sender (λ w. w < length (workers_in job)) → HaveFirstLanes job P Q (i + 1) j (with_out sender (end ∷ []) sides) (with_fed sender (end ∷ []) fed)
          → (end.number ≡ i) × P sender end × HaveFirstLanes job P Q i j sides fed
      go None e lt h =
          let u = give_lane job i lane at feeder_sends (P None) fed end (rw e refl) h.feeder in (
            u.0,
            u.1,
            record {
              many = h.many;
              outs = λ w side g. pass_lane job i lane at (leads_from w) (P (Some w)) side.outs (rw e refl) (h.outs w side g);
              ins = h.ins;
              feeder = u.2;
            },
          )
      go (Some s) e lt h = (
        of_sender.0,
        of_sender.1,
        record {
          many = many;
          outs = λ w side g. of_worker w side g (changed-get (more_out (end ∷ [])) sides s w side g);
          ins = λ w side g. into_worker w side (changed-get (more_out (end ∷ [])) sides s w side g);
          feeder = pass_lane job i lane at feeder_sends (P None) fed (rw e refl) h.feeder;
        },
      )
        where
          many : length sides ≡ length (workers_in job)
          many = sym (length-changed (more_out (end ∷ [])) sides s) ∙ h.many

          given : (w : ℕ) (side : SideIs) → s ≡ w → slice_get (changed_at (more_out (end ∷ [])) s sides) w ≡ Some (more_out (end ∷ []) side) → (end.number ≡ i) × P (Some w) end × HasLanes (leads_from w) job (P (Some w)) i side.outs
          given w side a g = give_lane job i lane at (leads_from w) (P (Some w)) side.outs end (ap (is_sender w) e ∙ eq-eqb s w a) (h.outs w (more_out (end ∷ []) side) g)

          of_sender : (end.number ≡ i) × P (Some s) end
          of_sender =
              let there = item_at sides s (let m = many in omega (arith, m, lt)) in
              elim (changed-get (more_out (end ∷ [])) sides s s there.0 there.1) [
                | inl a ↦ let u = given s there.0 refl a.1 in (u.0, u.1)
                | inr b ↦ absurd (b.0 refl)
              ]

          of_worker : (w : ℕ) (side : SideIs) → slice_get sides w ≡ Some side → ((s ≡ w) × (slice_get (changed_at (more_out (end ∷ [])) s sides) w ≡ Some (more_out (end ∷ []) side))) ⊎ ((s ≢ w) × (slice_get (changed_at (more_out (end ∷ [])) s sides) w ≡ Some side))
              → HasLanes (leads_from w) job (P (Some w)) i side.outs
          of_worker w side g (inl (a, b)) = (given w side a b).2
          of_worker w side g (inr (a, b)) = pass_lane job i lane at (leads_from w) (P (Some w)) side.outs (not_leaves w lane.sender s e a) (h.outs w side b)

          into_worker : (w : ℕ) (side : SideIs) → ((s ≡ w) × (slice_get (changed_at (more_out (end ∷ [])) s sides) w ≡ Some (more_out (end ∷ []) side))) ⊎ ((s ≢ w) × (slice_get (changed_at (more_out (end ∷ [])) s sides) w ≡ Some side))
              → HasLanes (leads_to w) job (Q w) j side.ins
          into_worker w side (inl (a, b)) = h.ins w (more_out (end ∷ []) side) b
          into_worker w side (inr (a, b)) = h.ins w side b

  -- the receiver's endpoint of the last lane is taken away
  pub unsort_in : (j : ℕ) (end : EndpointIs) (sides : List SideIs) (fed : List EndpointIs) → lane.receiver < length (workers_in job)
      → HaveFirstLanes job P Q j (i + 1) (changed_at (more_in (end ∷ [])) lane.receiver sides) fed → (end.number ≡ i) × Q lane.receiver end × HaveFirstLanes job P Q j i sides fed
  unsort_in j end sides fed lt h = (
    of_receiver.0,
    of_receiver.1,
    record {
      many = many;
      outs = λ w side g. of_worker w side (changed-get (more_in (end ∷ [])) sides r w side g);
      ins = λ w side g. into_worker w side (changed-get (more_in (end ∷ [])) sides r w side g);
      feeder = h.feeder;
    },
  )
    where
      r : ℕ
      r = lane.receiver

      many : length sides ≡ length (workers_in job)
      many = sym (length-changed (more_in (end ∷ [])) sides lane.receiver) ∙ h.many

      given : (w : ℕ) (side : SideIs) → lane.receiver ≡ w → slice_get (changed_at (more_in (end ∷ [])) lane.receiver sides) w ≡ Some (more_in (end ∷ []) side) → (end.number ≡ i) × Q w end × HasLanes (leads_to w) job (Q w) i side.ins
      given w side a g = give_lane job i lane at (leads_to w) (Q w) side.ins end (eq-eqb lane.receiver w a) (h.ins w (more_in (end ∷ []) side) g)

      of_receiver : (end.number ≡ i) × Q lane.receiver end
      of_receiver =
          let there = item_at sides lane.receiver (let m = many in omega (arith, m, lt)) in
          elim (changed-get (more_in (end ∷ [])) sides lane.receiver lane.receiver there.0 there.1) [
            | inl a ↦ let u = given lane.receiver there.0 refl a.1 in (u.0, u.1)
            | inr b ↦ absurd (b.0 refl)
          ]

      of_worker : (w : ℕ) (side : SideIs) → ((lane.receiver ≡ w) × (slice_get (changed_at (more_in (end ∷ [])) lane.receiver sides) w ≡ Some (more_in (end ∷ []) side))) ⊎ ((lane.receiver ≢ w) × (slice_get (changed_at (more_in (end ∷ [])) lane.receiver sides) w ≡ Some side))
          → HasLanes (leads_from w) job (P (Some w)) j side.outs
      of_worker w side (inl (a, b)) = h.outs w (more_in (end ∷ []) side) b
      of_worker w side (inr (a, b)) = h.outs w side b

      into_worker : (w : ℕ) (side : SideIs) → ((lane.receiver ≡ w) × (slice_get (changed_at (more_in (end ∷ [])) lane.receiver sides) w ≡ Some (more_in (end ∷ []) side))) ⊎ ((lane.receiver ≢ w) × (slice_get (changed_at (more_in (end ∷ [])) lane.receiver sides) w ≡ Some side))
          → HasLanes (leads_to w) job (Q w) i side.ins
      into_worker w side (inl (a, b)) = (given w side a b).2
      into_worker w side (inr (a, b)) = pass_lane job i lane at (leads_to w) (Q w) side.ins (not_leads w lane.receiver a) (h.ins w side b)

  -- as long as the lane isn't settled, its two ends have its endpoints
  pub sender_has : (j : ℕ) (sides : List SideIs) (fed : List EndpointIs) → IfSome lane.sender (λ w. w < length (workers_in job)) → HaveFirstLanes job P Q (i + 1) j sides fed → outs_at lane.sender sides fed ≡ [] → ⊥
  sender_has j sides fed within h = go lane.sender refl within
    where
      go : (sender : Option ℕ) → lane.sender ≡ sender → IfSome sender (λ w. w < length (workers_in job)) → outs_at sender sides fed ≡ [] → ⊥
      go None e lt none = some_end job i lane at feeder_sends (P None) fed (rw e refl) h.feeder none
      go (Some s) e lt none =
          let m = h.many in
          let there = item_at sides s (omega (arith, m, lt)) in
          some_end job i lane at (leads_from s) (P (Some s)) there.0.outs (ap (is_sender s) e ∙ eq-eqb s s refl) (h.outs s there.0 there.1) (ap side_outs (sym there.1) ∙ none)

  pub receiver_has : (j : ℕ) (sides : List SideIs) (fed : List EndpointIs) → lane.receiver < length (workers_in job) → HaveFirstLanes job P Q j (i + 1) sides fed → ins_at lane.receiver sides ≡ [] → ⊥
  receiver_has j sides fed lt h none =
      let m = h.many in
      let there = item_at sides lane.receiver (omega (arith, m, lt)) in
      some_end job i lane at (leads_to lane.receiver) (Q lane.receiver) there.0.ins (eq-eqb lane.receiver lane.receiver refl) (h.ins lane.receiver there.0 there.1) (ap side_ins (sym there.1) ∙ none)

-- ---- a lane's sender is a worker of the job

pub lane_sender : (job : JobView) (i : ℕ) (lane : Lane) → slice_get (lanes job) i ≡ Some lane → IfSome lane.sender (λ w. w < length (workers_in job))
lane_sender job i lane at = go lane.sender refl
  where
    go : (sender : Option ℕ) → lane.sender ≡ sender → IfSome sender (λ w. w < length (workers_in job))
    go None e = tt
    go (Some w) e =
        let is = lane_is job i lane at in
        let (who, there, number, node) = sender_worker job is.edge.from w (subst (λ (o : Option ℕ). IsIn o (senders job is.edge.from)) e is.sends) in
        slice_get_within (workers_in job) w who there
