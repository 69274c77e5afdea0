-- The rule of a ring lane, as it begins and as its seats change, part and join.
use Rattle.std.proofs.Common.{◌≡◌, ◌≢◌, ℕ, suc, ◌+◌, ◌*◌, ◌%◌, ◌≤◌, ◌<◌, true, true≢false, List, [], ◌∷◌, ◌++◌, length, set, replicate, Option, Some, None, sym, refl, ap, ◌∙◌, ⊎_elim, arith, length-append, length-set}
use Rattle.std.proofs.Math.Nat.{mod-lt, zero-mod}
use Rattle.std.proofs.lemmas.List.{length-map, length-replicate}
use mathlib.Core.Option.{some, none, some-injective}
use lib.ListN.{get_elem?}
use Rattle.atomic_table.specs.Table.{State, Splits, Joins, opening}
use Rattle.atomic_table.proofs.Lists.{at_set, at_snoc, set_else}
use Rattle.tuple_trace.specs.declared.tuple.Item.{Item}
use Rattle.lane_core.proofs.SteadyLemmas.{IsSteady-nil}
use Rattle.lane_ring.specs.declared.rule.Charter.{Charter}
use Rattle.lane_ring.specs.declared.rule.View.{View}
use Rattle.lane_ring.specs.Rule.{unparted, words_of, sending, receiving, joined, spent, SenderKnows, ReceiverKnows, IsRing}
use Rattle.lane_ring.proofs.RingLemmas.{apart, apart_up, at_end, at_seam, blank, Each, each-one, each-set, vacant_at}

abbrev pub Senders : Charter → ℕ → List Item → ℕ → ℕ → View → Type 0
Senders k sender sent spare seat v = v.puts ≡ true → SenderKnows k sender sent spare seat v

abbrev pub Receivers : Charter → ℕ → List Item → List Item → ℕ → View → Type 0
Receivers k receiver taken ahead seat v = v.takes ≡ true → ReceiverKnows k receiver taken ahead seat v

pub unparted-IsRing : (k : Charter) → 0 < k.capacity → IsRing k (opening (words_of 0 0) (replicate k.capacity None) (unparted k))
unparted-IsRing k has = record {
  sender = 0;
  receiver = 0;
  sent = [];
  taken = [];
  ahead = [];
  later = [];
  spare = 0;
  some_capacity = has;
  in_order = refl;
  within = omega arith;
  steady = IsSteady-nil k.origin;
  words_are = λ i. words_of (sym (zero-mod (2 * k.capacity)) i) (sym (zero-mod (2 * k.capacity)) i);
  slots_are = length-map (replicate k.capacity blank) some ∙ length-replicate k.capacity None;
  full_slots = λ p le lt other. absurd (omega arith);
  free_slots = λ p le lt other. vacant_at k.capacity (p % k.capacity) (mod-lt p has);
  senders = each-one (Senders k 0 [] 0) (unparted k) (λ _. record { alone = refl; sent_is = refl; spare_is = refl; capacity_is = refl; origin_is = refl });
  receivers = each-one (Receivers k 0 [] []) (unparted k) (λ _. record { alone = refl; taken_is = refl; ahead_is = refl; capacity_is = refl; origin_is = refl });
}

module _ (k : Charter) where
  pub lengths : (s : State (Option Item) View) (h : IsRing k s) → length h.sent ≡ length h.taken + (length h.ahead + length h.later)
  lengths s h = ap length h.in_order ∙ length-append h.taken (h.ahead ++ h.later) ∙ ap (λ n. length h.taken + n) (length-append h.ahead h.later)

  -- a seat's view changes, and no more than counts in it
  pub view-set : (s : State (Option Item) View) (h : IsRing k s) (seat : ℕ) (w : View) (words : List ℕ) → words ≡ s.words → (w.puts ≡ true → SenderKnows k h.sender h.sent h.spare seat w) → (w.takes ≡ true → ReceiverKnows k h.receiver h.taken h.ahead seat w)
      → IsRing k record { words = words; homes = s.homes; views = set s.views seat w }
  view-set s h seat w words same sender receiver = record {
    sender = h.sender;
    receiver = h.receiver;
    sent = h.sent;
    taken = h.taken;
    ahead = h.ahead;
    later = h.later;
    spare = h.spare;
    some_capacity = h.some_capacity;
    in_order = h.in_order;
    within = h.within;
    steady = h.steady;
    words_are = same ∙ h.words_are;
    slots_are = h.slots_are;
    full_slots = h.full_slots;
    free_slots = h.free_slots;
    senders = each-set (Senders k h.sender h.sent h.spare) s.views seat w sender (λ j u other e. h.senders j u e);
    receivers = each-set (Receivers k h.receiver h.taken h.ahead) s.views seat w receiver (λ j u other e. h.receivers j u e);
  }

  -- the sender knows of free slots, and the first goes out with it
  pub free-out : (s : State (Option Item) View) (h : IsRing k s) (seat slot spare : ℕ) (w : View) (words : List ℕ) → 0 < spare → length h.sent + spare ≤ length h.taken + k.capacity → slot ≡ length h.sent % k.capacity → words ≡ s.words
      → SenderKnows k h.sender h.sent spare seat w → (w.takes ≡ true → ReceiverKnows k h.receiver h.taken h.ahead seat w) → IsRing k record { words = words; homes = set s.homes slot none; views = set s.views seat w }
  free-out s h seat slot spare w words has room at same sender receiver =
      let long = lengths s h in
      let r = k.capacity in record {
        sender = h.sender;
        receiver = h.receiver;
        sent = h.sent;
        taken = h.taken;
        ahead = h.ahead;
        later = h.later;
        spare = spare;
        some_capacity = h.some_capacity;
        in_order = h.in_order;
        within = room;
        steady = h.steady;
        words_are = same ∙ h.words_are;
        slots_are = length-set s.homes slot none ∙ h.slots_are;
        full_slots = λ p le lt other. let f = h.full_slots p le lt other in (f.0, f.1, set_else s.homes slot (p % r) none (λ e. apart r p (length h.sent) lt (omega (arith, has, room, le)) (e ∙ at)) ∙ f.2);
        free_slots = λ p le lt other. let ne : p ≢ length h.sent = other has in set_else s.homes slot (p % r) none (λ e. apart_up r (length h.sent) p (omega (arith, ne, le)) (omega (arith, long, lt)) (e ∙ at)) ∙ h.free_slots p le lt (λ _. ne);
        senders = each-set (Senders k h.sender h.sent spare) s.views seat w (λ _. sender) (λ j u other e p. absurd (other ((h.senders j u e p).alone ∙ sym sender.alone)));
        receivers = each-set (Receivers k h.receiver h.taken h.ahead) s.views seat w receiver (λ j u other e. h.receivers j u e);
      }

  -- the receiver knows of items, and the slot of the first goes out with it
  pub full-out : (s : State (Option Item) View) (h : IsRing k s) (seat slot : ℕ) (ahead later : List Item) (w : View) (words : List ℕ) → h.ahead ≡ [] → 0 < length ahead → h.later ≡ ahead ++ later → slot ≡ length h.taken % k.capacity → words ≡ s.words
      → ReceiverKnows k h.receiver h.taken ahead seat w → (w.puts ≡ true → SenderKnows k h.sender h.sent h.spare seat w) → IsRing k record { words = words; homes = set s.homes slot none; views = set s.views seat w }
  full-out s h seat slot ahead later w words empty has split at same receiver sender =
      let long = lengths s h in
      let parts : length h.later ≡ length ahead + length later = ap length split ∙ length-append ahead later in
      let within = h.within in
      let r = k.capacity in record {
        sender = h.sender;
        receiver = h.receiver;
        sent = h.sent;
        taken = h.taken;
        ahead = ahead;
        later = later;
        spare = h.spare;
        some_capacity = h.some_capacity;
        in_order = h.in_order ∙ (λ i. h.taken ++ (empty i ++ split i));
        within = h.within;
        steady = h.steady;
        words_are = same ∙ h.words_are;
        slots_are = length-set s.homes slot none ∙ h.slots_are;
        full_slots = λ p le lt other. let ne : p ≢ length h.taken = other has in let f = h.full_slots p le lt (λ _. ne) in (f.0, f.1, set_else s.homes slot (p % r) none (λ e. apart_up r (length h.taken) p (omega (arith, ne, le)) (omega (arith, lt, within)) (e ∙ at)) ∙ f.2);
        free_slots = λ p le lt other. set_else s.homes slot (p % r) none (λ e. apart_up r (length h.taken) p (omega (arith, le, long, parts, has)) lt (e ∙ at)) ∙ h.free_slots p le lt other;
        senders = each-set (Senders k h.sender h.sent h.spare) s.views seat w sender (λ j u other e. h.senders j u e);
        receivers = each-set (Receivers k h.receiver h.taken ahead) s.views seat w (λ _. receiver) (λ j u other e p. absurd (other ((h.receivers j u e p).alone ∙ sym receiver.alone)));
      }

  -- the item that lies first is in its slot
  pub full-at : (s : State (Option Item) View) (h : IsRing k s) (x : Item) (more : List Item) → h.ahead ≡ [] → h.later ≡ x ∷ more → get_elem? s.homes (length h.taken % k.capacity) ≡ some (some (Some x))
  full-at s h x more empty split =
      let long = lengths s h in
      let parts : length h.later ≡ suc (length more) = ap length split in
      let f = h.full_slots (length h.taken) (omega arith) (omega (arith, long, parts)) (λ e. absurd (let none : length h.ahead ≡ 0 = ap length empty in omega (arith, e, none))) in
      let there : get_elem? h.sent (length h.taken) ≡ some x = ap (λ (l : List Item). get_elem? l (length h.taken)) (h.in_order ∙ (λ i. h.taken ++ (empty i ++ split i))) ∙ at_seam h.taken more x in
      let same : f.0 ≡ x = some-injective f.0 x (sym f.1 ∙ there) in
      f.2 ∙ ap (λ (y : Item). some (some (Some y))) same

  pub parts : (id : ℕ) (v : View) → v.puts ≡ true → v.takes ≡ true → Splits (IsRing k) id v (sending v) (receiving v)
  parts id v puts receives s h at =
      let left : View = sending v in
      let right : View = receiving v in
      let sender = h.senders id v at puts in
      let receiver = h.receivers id v at receives in
      let parted : List View = set s.views id left in
      let old_senders : Each (Senders k h.sender h.sent h.spare) parted = each-set (Senders k h.sender h.sent h.spare) s.views id left (λ _. record { alone = sender.alone; sent_is = sender.sent_is; spare_is = sender.spare_is; capacity_is = sender.capacity_is; origin_is = sender.origin_is })
      (λ j u other e. h.senders j u e) in
      let NoReceiver : ℕ → View → Type 0 = λ j u. u.takes ≢ true in
      let no_receiver : Each NoReceiver parted = each-set NoReceiver s.views id left (λ p. true≢false (sym p)) (λ j u other e p. other ((h.receivers j u e p).alone ∙ sym receiver.alone)) in
      record {
        sender = h.sender;
        receiver = length parted;
        sent = h.sent;
        taken = h.taken;
        ahead = h.ahead;
        later = h.later;
        spare = h.spare;
        some_capacity = h.some_capacity;
        in_order = h.in_order;
        within = h.within;
        steady = h.steady;
        words_are = h.words_are;
        slots_are = h.slots_are;
        full_slots = h.full_slots;
        free_slots = h.free_slots;
        senders = λ j u e p. ⊎_elim (λ there. old_senders j u there p) (λ (same : right ≡ u). absurd (true≢false (sym (ap (λ (y : View). y.puts) same ∙ p)))) (at_snoc parted right u j e);
        receivers = λ j u e p. ⊎_elim (λ there. absurd (no_receiver j u there p))
            (λ (same : right ≡ u). record {
              alone = at_end parted right u j (λ there. no_receiver j u there p) e;
              taken_is = ap (λ (y : View). y.taken) (sym same) ∙ receiver.taken_is;
              ahead_is = ap (λ (y : View). y.ahead) (sym same) ∙ receiver.ahead_is;
              capacity_is = ap (λ (y : View). y.capacity) (sym same) ∙ receiver.capacity_is;
              origin_is = ap (λ (y : View). y.origin) (sym same) ∙ receiver.origin_is;
            }) (at_snoc parted right u j e);
      }

  pub joins : (id : ℕ) (v : View) (other : ℕ) (u : View) → v.takes ≡ true → u.puts ≡ true → Joins (IsRing k) id v other u (joined v u) spent
  joins id v other u receives puts s h at two at' =
      let both : View = joined v u in
      let receiver = h.receivers id v at receives in
      let views' : List View = set s.views id both in
      let was : get_elem? s.views other ≡ some u = ⊎_elim (λ x. absurd (two x.0)) (λ x. x.1) (at_set s.views id other both u at') in
      let sender = h.senders other u was puts in
      let Now : ℕ → View → Type 0 = λ j y. j ≢ other → Senders k id h.sent h.spare j y in
      let now : Each Now views' = each-set Now s.views id both (λ _ _. record { alone = refl; sent_is = sender.sent_is; spare_is = sender.spare_is; capacity_is = receiver.capacity_is; origin_is = receiver.origin_is })
      (λ j y _ e apart p. absurd (apart ((h.senders j y e p).alone ∙ sym sender.alone))) in
      let old_receivers : Each (Receivers k h.receiver h.taken h.ahead) views' = each-set (Receivers k h.receiver h.taken h.ahead) s.views id both
      (λ _. record { alone = receiver.alone; taken_is = receiver.taken_is; ahead_is = receiver.ahead_is; capacity_is = receiver.capacity_is; origin_is = receiver.origin_is }) (λ j y _ e. h.receivers j y e) in
      record {
        sender = id;
        receiver = h.receiver;
        sent = h.sent;
        taken = h.taken;
        ahead = h.ahead;
        later = h.later;
        spare = h.spare;
        some_capacity = h.some_capacity;
        in_order = h.in_order;
        within = h.within;
        steady = h.steady;
        words_are = h.words_are;
        slots_are = h.slots_are;
        full_slots = h.full_slots;
        free_slots = h.free_slots;
        senders = each-set (Senders k id h.sent h.spare) views' other spent (λ p. absurd (true≢false (sym p))) (λ j y apart e. now j y e apart);
        receivers = each-set (Receivers k h.receiver h.taken h.ahead) views' other spent (λ p. absurd (true≢false (sym p))) (λ j y apart e. old_receivers j y e);
      }
