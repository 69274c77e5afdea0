-- Each step keeps the rule of a queue lane.
use Rattle.std.proofs.Common.{◌≡◌, ◌≢◌, ℕ, zero, suc, true, true≢false, List, [], ◌∷◌, ◌++◌, length, set, sym, refl, ap, ◌∙◌, subst, ⊎_elim, append_assoc, arith, length-append}
use mathlib.Core.Option.{some, some-ne-none, some-injective}
use lib.ListN.{get_elem?}
use Rattle.crossbeam_queue.specs.Fifo.{Pushes, Pops, Forks, Merges, Learns}
use Rattle.crossbeam_queue.proofs.Lists.{at_set, at_snoc}
use Rattle.tuple_trace.specs.declared.tuple.Item.{Item}
use Rattle.lane_core.specs.declared.form.Origin.{Origin}
use Rattle.lane_core.specs.declared.queue.rule.View.{View}
use Rattle.lane_core.specs.Lane.{LayLast}
use Rattle.lane_core.specs.Steady.{IsSteady, MayFollow}
use Rattle.lane_core.specs.Rule.{HasLeft, IsLane, ReceiverKnows, SenderKnows, after_put, after_take, joined, nowhere, receiving, sending, spent, unparted}
use Rattle.lane_core.proofs.SteadyLemmas.{IsSteady-front, IsSteady-nil, IsSteady-push}

-- what holds of each pass and its view
abbrev Each : (ℕ → View → Type 0) → List View → Type 0
Each F views = (pass : ℕ) (v : View) → get_elem? views pass ≡ some v → F pass v

-- one pass steps
each-set : (F : ℕ → View → Type 0) (views : List View) (pass : ℕ) (w : View) → F pass w → ((other : ℕ) (v : View) → other ≢ pass → get_elem? views other ≡ some v → F other v)
    → Each F (set views pass w)
each-set F views pass w mine others other v at = ⊎_elim (λ (x : (other ≡ pass) × (w ≡ v)). subst (λ (y : ℕ × View). F y.0 y.1) (λ i. (sym x.0 i, x.1 i)) mine)
    (λ (x : (other ≢ pass) × (get_elem? views other ≡ some v)). others other v x.0 x.1) (at_set views pass other w v at)

-- the only pass
each-one : (F : ℕ → View → Type 0) (w : View) → F 0 w → Each F (w ∷ [])
each-one F w mine zero v at = subst (λ (y : View). F 0 y) (some-injective w v at) mine
each-one F w mine (suc pass) v at = absurd (some-ne-none v (sym at))

-- the pass that was not there before is the last
at_end : (views : List View) (a b : View) (pass : ℕ) → get_elem? views pass ≢ some b → get_elem? (views ++ a ∷ []) pass ≡ some b → pass ≡ length views
at_end [] a b zero other at = refl
at_end [] a b (suc pass) other at = absurd (some-ne-none b (sym at))
at_end (v ∷ views) a b zero other at = absurd (other at)
at_end (v ∷ views) a b (suc pass) other at = ap suc (at_end views a b pass other at)

nil-append : (xs ys : List Item) → [] ≡ xs ++ ys → ys ≡ []
nil-append [] ys same = sym same
nil-append (x ∷ xs) ys same = cc

abbrev Senders : ℕ → List Item → ℕ → Origin → ℕ → View → Type 0
Senders sender sent capacity origin pass v = v.puts ≡ true → SenderKnows sender sent capacity origin pass v

abbrev Receivers : ℕ → List Item → ℕ → Origin → ℕ → View → Type 0
Receivers receiver taken capacity origin pass v = v.takes ≡ true → ReceiverKnows receiver taken capacity origin pass v

pub unparted-IsLane : IsLane [] (unparted ∷ [])
unparted-IsLane = record {
  sender = 0;
  receiver = 0;
  sent = [];
  taken = [];
  capacity = 0;
  origin = nowhere;
  in_order = refl;
  within = omega arith;
  steady = IsSteady-nil nowhere;
  senders = each-one (Senders 0 [] 0 nowhere) unparted (λ _. record { alone = refl; sent_is = refl; capacity_is = refl; origin_is = refl });
  receivers = each-one (Receivers 0 [] 0 nowhere) unparted (λ _. record { alone = refl; taken_is = refl; capacity_is = refl; origin_is = refl });
}

pub put-Pushes : (n pass : ℕ) (v : View) (item : Item) → v.puts ≡ true → n ≡ v.capacity → MayFollow v.origin v.sent item → Pushes IsLane n pass v item (λ w. w ≡ after_put v item)
put-Pushes n pass v item may room follows items views short h at =
    let w : View = after_put v item in
    let mine = h.senders pass v at may in
    let size : v.capacity ≡ h.capacity = mine.capacity_is in
    let sent = h.sent ++ item ∷ [] in
    let follows' : MayFollow h.origin h.sent item = subst (λ (y : Origin × List Item). MayFollow y.0 y.1 item) (λ i. (mine.origin_is i, mine.sent_is i)) follows in (
      w,
      record {
        sender = h.sender;
        receiver = h.receiver;
        sent = sent;
        taken = h.taken;
        capacity = h.capacity;
        origin = h.origin;
        in_order = ap (λ l. l ++ item ∷ []) h.in_order ∙ append_assoc h.taken items (item ∷ []);
        within = omega (arith, size, room, short, length-append items (item ∷ []));
        steady = IsSteady-push h.origin h.sent item h.steady follows';
        senders = each-set (Senders h.sender sent h.capacity h.origin) views pass w (λ _. record { alone = mine.alone; sent_is = ap (λ l. l ++ item ∷ []) mine.sent_is; capacity_is = mine.capacity_is; origin_is = mine.origin_is })
            (λ j u other e p. absurd (other ((h.senders j u e p).alone ∙ sym mine.alone)));
        receivers = each-set (Receivers h.receiver h.taken h.capacity h.origin) views pass w (λ p. let r = h.receivers pass v at p in record { alone = r.alone; taken_is = r.taken_is; capacity_is = r.capacity_is; origin_is = r.origin_is })
            (λ j u other e. h.receivers j u e);
      },
      refl,
    )

pub take-Pops : (pass : ℕ) (v : View) → v.takes ≡ true → Pops IsLane pass v (λ item w. (w ≡ after_take v item) × IsSteady v.origin (v.taken ++ item ∷ []))
take-Pops pass v may item items views h at =
    let w : View = after_take v item in
    let mine = h.receivers pass v at may in
    let taken = h.taken ++ item ∷ [] in
    let in_order : h.sent ≡ taken ++ items = h.in_order ∙ sym (append_assoc h.taken (item ∷ []) items) in
    let whole : IsSteady h.origin (taken ++ items) = subst (IsSteady h.origin) in_order h.steady in
    let shown : IsSteady v.origin (v.taken ++ item ∷ []) = subst (λ (y : Origin × List Item). IsSteady y.0 y.1) (λ i. (sym mine.origin_is i, ap (λ l. l ++ item ∷ []) (sym mine.taken_is) i)) (IsSteady-front h.origin taken items whole) in (
      w,
      record {
        sender = h.sender;
        receiver = h.receiver;
        sent = h.sent;
        taken = taken;
        capacity = h.capacity;
        origin = h.origin;
        in_order = in_order;
        within = let r = h.within in omega (arith, r);
        steady = h.steady;
        senders = each-set (Senders h.sender h.sent h.capacity h.origin) views pass w (λ p. let s = h.senders pass v at p in record { alone = s.alone; sent_is = s.sent_is; capacity_is = s.capacity_is; origin_is = s.origin_is })
            (λ j u other e. h.senders j u e);
        receivers = each-set (Receivers h.receiver taken h.capacity h.origin) views pass w (λ _. record { alone = mine.alone; taken_is = ap (λ l. l ++ item ∷ []) mine.taken_is; capacity_is = mine.capacity_is; origin_is = mine.origin_is })
            (λ j u other e p. absurd (other ((h.receivers j u e p).alone ∙ sym mine.alone)));
      },
      (refl, shown),
    )

pub drain-Pops : (pass : ℕ) (v : View) → v.takes ≡ true → Pops IsLane pass v (λ item w. w ≡ after_take v item)
drain-Pops pass v may item items views h at = let t = take-Pops pass v may item items views h at in (t.0, t.1, t.2.0)

pub HasLeft-Learns : (pass : ℕ) (v : View) → v.puts ≡ true → v.takes ≡ true → Learns IsLane pass v (HasLeft v)
HasLeft-Learns pass v puts takes items views h at =
    (h.senders pass v at puts).sent_is ∙ h.in_order ∙ ap (λ l. l ++ items) (sym (h.receivers pass v at takes).taken_is)

pub LayLast-Learns : (pass : ℕ) (v : View) → v.puts ≡ true → Learns IsLane pass v (LayLast v.sent)
LayLast-Learns pass v puts items views h at = (h.taken, (h.senders pass v at puts).sent_is ∙ h.in_order)

pub part-Forks : (pass capacity : ℕ) (origin : Origin) (v : View) → v ≡ unparted → Forks IsLane pass v (sending v.sent capacity origin) (receiving v.taken capacity origin)
part-Forks pass capacity origin v is items views h at =
    let puts : v.puts ≡ true = ap (λ (y : View). y.puts) is in
    let takes : v.takes ≡ true = ap (λ (y : View). y.takes) is in
    let no_sent : v.sent ≡ [] = ap (λ (y : View). y.sent) is in
    let sender = h.senders pass v at puts in
    let receiver = h.receivers pass v at takes in
    let left : View = sending v.sent capacity origin in
    let right : View = receiving v.taken capacity origin in
    let parted : List View = set views pass left in
    let none : h.sent ≡ [] = sym sender.sent_is ∙ no_sent in
    let empty : items ≡ [] = nil-append h.taken items (sym none ∙ h.in_order) in
    let old_senders : Each (Senders h.sender h.sent capacity origin) parted = each-set (Senders h.sender h.sent capacity origin) views pass left (λ _. record { alone = sender.alone; sent_is = sender.sent_is; capacity_is = refl; origin_is = refl })
    (λ j u other e p. absurd (other ((h.senders j u e p).alone ∙ sym sender.alone))) in
    let NoReceiver : ℕ → View → Type 0 = λ j u. u.takes ≢ true in
    let no_receiver : Each NoReceiver parted = each-set NoReceiver views pass left (λ p. true≢false (sym p)) (λ j u other e p. other ((h.receivers j u e p).alone ∙ sym receiver.alone)) in
    record {
      sender = h.sender;
      receiver = length parted;
      sent = h.sent;
      taken = h.taken;
      capacity = capacity;
      origin = origin;
      in_order = h.in_order;
      within = rw empty (omega arith);
      steady = subst (IsSteady origin) (sym none) (IsSteady-nil origin);
      senders = λ j u e p. ⊎_elim (λ there. old_senders j u there p) (λ (same : right ≡ u). absurd (true≢false (sym (ap (λ (y : View). y.puts) same ∙ p)))) (at_snoc parted right u j e);
      receivers = λ j u e p. ⊎_elim (λ there. absurd (no_receiver j u there p))
          (λ (same : right ≡ u). record {
            alone = at_end parted right u j (λ there. no_receiver j u there p) e;
            taken_is = ap (λ (y : View). y.taken) (sym same) ∙ receiver.taken_is;
            capacity_is = ap (λ (y : View). y.capacity) (sym same);
            origin_is = ap (λ (y : View). y.origin) (sym same);
          }) (at_snoc parted right u j e);
    }

pub joined-Merges : (pass : ℕ) (v : View) (other : ℕ) (u : View) → v.takes ≡ true → u.puts ≡ true → Merges IsLane pass v other u (joined v u) spent
joined-Merges pass v other u takes puts items views h at two at' =
    let both : View = joined v u in
    let receiver = h.receivers pass v at takes in
    let views' : List View = set views pass both in
    let was : get_elem? views other ≡ some u = ⊎_elim (λ x. absurd (two x.0)) (λ x. x.1) (at_set views pass other both u at') in
    let sender = h.senders other u was puts in
    let Now : ℕ → View → Type 0 = λ j y. j ≢ other → Senders pass h.sent h.capacity h.origin j y in
    let now : Each Now views' = each-set Now views pass both (λ _ _. record { alone = refl; sent_is = sender.sent_is; capacity_is = receiver.capacity_is; origin_is = receiver.origin_is })
    (λ j y _ e apart p. absurd (apart ((h.senders j y e p).alone ∙ sym sender.alone))) in
    let old_receivers : Each (Receivers h.receiver h.taken h.capacity h.origin) views' = each-set (Receivers h.receiver h.taken h.capacity h.origin) views pass both
    (λ _. record { alone = receiver.alone; taken_is = receiver.taken_is; capacity_is = receiver.capacity_is; origin_is = receiver.origin_is }) (λ j y _ e. h.receivers j y e) in
    record {
      sender = pass;
      receiver = h.receiver;
      sent = h.sent;
      taken = h.taken;
      capacity = h.capacity;
      origin = h.origin;
      in_order = h.in_order;
      within = h.within;
      steady = h.steady;
      senders = each-set (Senders pass h.sent h.capacity h.origin) views' other spent (λ p. absurd (true≢false (sym p))) (λ j y apart e. now j y e apart);
      receivers = each-set (Receivers h.receiver h.taken h.capacity h.origin) views' other spent (λ p. absurd (true≢false (sym p))) (λ j y apart e. old_receivers j y e);
    }
