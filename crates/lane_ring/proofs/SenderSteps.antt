-- Each step of a sender keeps the rule of a ring lane.
use Rattle.std.proofs.Common.{◌≡◌, ◌≢◌, ℕ, zero, suc, ◌+◌, ◌-◌, ◌*◌, ◌%◌, ◌≤◌, ◌<◌, true, List, [], ◌∷◌, ◌++◌, length, set, slice_set, slice_index, Option, Some, None, sym, refl, ap, ◌∙◌, subst, arith, length-append, length-set, append_assoc}
use Rattle.std.proofs.Math.Nat.{mod-add-mod, mod-lt}
use native.Mathlib.Decide.{ℕ_discrete}
use mathlib.Core.Logic.{dite}
use mathlib.Core.Option.{some, none}
use lib.ListN.{get_elem?}
use Rattle.atomic_table.specs.Table.{State, Me, keeps, takes, gives, chain, put_back, Allows, rest}
use Rattle.atomic_table.proofs.Lists.{at_longer, at_last, set_here, set_else, one_turn}
use Rattle.tuple_trace.specs.declared.tuple.Item.{Item}
use Rattle.lane_core.specs.declared.form.Origin.{Origin}
use Rattle.lane_core.specs.Steady.{MayFollow}
use Rattle.lane_core.proofs.SteadyLemmas.{IsSteady-push}
use Rattle.lane_ring.specs.declared.rule.Charter.{Charter}
use Rattle.lane_ring.specs.declared.rule.View.{View}
use Rattle.lane_ring.specs.declared.rule.TheConstants.{SENT}
use Rattle.lane_ring.specs.Rule.{word_at, words_of, Slots, sender_slots, IsRing, LoadedTaken, StoredSent, GaveBack}
use Rattle.lane_ring.proofs.RingLemmas.{apart, apart_up, blank, each-set, free_slot-some, set-at, set-twice, value_of}
use Rattle.lane_ring.proofs.Seats.{free-out, lengths, Receivers, Senders, view-set}

module _ (k : Charter) where
  pub loads_taken : (slots id : ℕ) (me : Me (Option Item) View) → me.0.puts ≡ true → me.0.spare ≡ 0 → me.1 ≡ [] → Allows (IsRing k) slots id me 0 (λ n. n) (LoadedTaken me)
  loads_taken slots id me may none_spare own s h _ at small =
      let v = me.0 in
      let r = k.capacity in
      let n = slice_index s.words 0 in
      let found : n ≡ word_at r (length h.taken) = ap (λ ws. slice_index ws 0) h.words_are in
      let mine = h.senders id v at may in
      let size : v.capacity ≡ r = mine.capacity_is in
      let sent : v.sent ≡ h.sent = mine.sent_is in
      let long = lengths k s h in
      let within = h.within in
      let has : 0 < r = h.some_capacity in
      let idle : h.spare ≡ 0 = sym mine.spare_is ∙ none_spare in
      let same : slice_set s.words 0 n ≡ s.words = ap (λ ws. slice_set ws 0 (slice_index ws 0)) h.words_are ∙ sym h.words_are in
      let opposite : (n + v.capacity) % (2 * v.capacity) ≡ word_at r (length h.taken + r) = (λ i. (found i + size i) % (2 * size i)) ∙ mod-add-mod (length h.taken) (2 * r) r in
      let low : n < 2 * v.capacity = (let a : word_at r (length h.taken) < 2 * r = mod-lt (length h.taken) (omega arith) in omega (arith, a, found, size)) in
      dite (ℕ_discrete ((n + v.capacity) % (2 * v.capacity)) (word_at v.capacity (length v.sent)))
      (λ is. let w : View = record v { full = v.full + 1 } in
      let turn : word_at r (length h.sent) ≡ word_at r (length h.taken + r) = (λ i. word_at (sym size i) (length (sym sent i))) ∙ sym is ∙ opposite in
      let all : length h.sent ≡ length h.taken + r = one_turn (length h.sent) (length h.taken + r) (2 * r) (omega (arith, within)) (omega (arith, long, has)) turn in (
        w,
        keeps,
        tt,
        view-set k s h id w (slice_set s.words 0 n) same (λ _. record { alone = mine.alone; sent_is = sent; spare_is = mine.spare_is; capacity_is = size; origin_is = mine.origin_is })
            (λ p. let t = h.receivers id v at p in record { alone = t.alone; taken_is = t.taken_is; ahead_is = t.ahead_is; capacity_is = t.capacity_is; origin_is = t.origin_is }),
        (low, (λ _. record { slots = refl; view = refl; full = (h.ahead ++ h.later, (let a = length-append h.ahead h.later in omega (arith, a, long, all, size)), (h.taken, sent ∙ h.in_order)) }), (λ no. absurd (no is))),
      ))
      (λ no.
      let spare : ℕ = length h.taken + r - length h.sent in
      let not : length h.sent ≢ length h.taken + r = (λ e. no (opposite ∙ ap (word_at r) (sym e) ∙ (λ i. word_at (sym size i) (length (sym sent i))))) in
      let pos : 0 < spare = omega (arith, within, not) in
      let fit : length h.sent + spare ≡ length h.taken + r = omega (arith, within) in
      let w : View = record v { spare = spare } in
      let j = length v.sent % v.capacity in
      let slot : j ≡ length h.sent % r = (λ i. length (sent i) % size i) in (
        w,
        takes j None,
        ap (λ (y : ℕ). get_elem? s.homes y) slot ∙ h.free_slots (length h.sent) (omega arith) (omega (arith, within, not)) (λ p. absurd (omega (arith, p, idle))),
        free-out k s h id j spare w (slice_set s.words 0 n) pos (omega (arith, fit)) slot same (record { alone = mine.alone; sent_is = sent; spare_is = refl; capacity_is = size; origin_is = mine.origin_is })
            (λ p. let t = h.receivers id v at p in record { alone = t.alone; taken_is = t.taken_is; ahead_is = t.ahead_is; capacity_is = t.capacity_is; origin_is = t.origin_is }),
        (
          low,
          (λ is. absurd (no is)),
          (λ _. record {
            spare = spare;
            some_spare = pos;
            few = omega (arith, fit, long, size);
            view = refl;
            slots = ap (λ (l : Slots). (j, None) ∷ l) own ∙ sym (free_slot-some j spare pos);
            limit_is = opposite ∙ ap (word_at r) (sym fit) ∙ (λ i. word_at (sym size i) (length (sym sent i) + spare));
          }),
        ),
      ))

  pub gives_back : (slots id : ℕ) (me : Me (Option Item) View) → me.0.puts ≡ true → 0 < me.0.spare → me.1 ≡ (length me.0.sent % me.0.capacity, None) ∷ [] → Allows (IsRing k) slots id me SENT (λ n. n) (GaveBack me)
  gives_back slots id me may has own s h _ at small =
      let v = me.0 in
      let r = k.capacity in
      let mine = h.senders id v at may in
      let size : v.capacity ≡ r = mine.capacity_is in
      let sent : v.sent ≡ h.sent = mine.sent_is in
      let long = lengths k s h in
      let within = h.within in
      let busy : 0 < h.spare = (let a = mine.spare_is in omega (arith, a, has)) in
      let pos : 0 < r = h.some_capacity in
      let n = slice_index s.words SENT in
      let same : slice_set s.words SENT n ≡ s.words = ap (λ ws. slice_set ws SENT (slice_index ws SENT)) h.words_are ∙ sym h.words_are in
      let j = length v.sent % v.capacity in
      let slot : j ≡ length h.sent % r = (λ i. length (sent i) % size i) in
      let there : j < length s.homes = (let a : length h.sent % r < r = mod-lt (length h.sent) pos in let b = h.slots_are in omega (arith, a, slot, b)) in
      let w : View = record v { spare = 0 } in
      let homes = slice_set s.homes j (some blank) in
      let P : Slots → Type 0 = λ l. IsRing k record { words = slice_set s.words SENT n; homes = put_back s.homes l; views = slice_set s.views id w } in
      let kept : P ((j, None) ∷ []) = record {
        sender = h.sender;
        receiver = h.receiver;
        sent = h.sent;
        taken = h.taken;
        ahead = h.ahead;
        later = h.later;
        spare = 0;
        some_capacity = pos;
        in_order = h.in_order;
        within = omega (arith, within);
        steady = h.steady;
        words_are = same ∙ h.words_are;
        slots_are = length-set s.homes j (some blank) ∙ h.slots_are;
        full_slots = λ p le lt other. let f = h.full_slots p le lt other in (f.0, f.1, set_else s.homes j (p % r) (some blank) (λ e. apart r p (length h.sent) lt (omega (arith, busy, within, le)) (e ∙ slot)) ∙ f.2);
        free_slots = λ p le lt other. dite (ℕ_discrete p (length h.sent))
            (λ is. ap (λ (y : ℕ). get_elem? homes y) (ap (λ (y : ℕ). y % r) is ∙ sym slot) ∙ set_here s.homes j (some blank) there)
            (λ ne. set_else s.homes j (p % r) (some blank) (λ e. apart_up r (length h.sent) p (omega (arith, ne, le)) (omega (arith, long, lt)) (e ∙ slot)) ∙ h.free_slots p le lt (λ _. ne));
        senders = each-set (Senders k h.sender h.sent 0) s.views id w (λ _. record { alone = mine.alone; sent_is = sent; spare_is = refl; capacity_is = size; origin_is = mine.origin_is })
            (λ i u other e p. absurd (other ((h.senders i u e p).alone ∙ sym mine.alone)));
        receivers = each-set (Receivers k h.receiver h.taken h.ahead) s.views id w (λ p. let t = h.receivers id v at p in record { alone = t.alone; taken_is = t.taken_is; ahead_is = t.ahead_is; capacity_is = t.capacity_is; origin_is = t.origin_is })
            (λ i u other e. h.receivers i u e);
      } in (w, gives, tt, subst P (sym own) kept, (refl, ap rest own))

  -- the slot's turn ends, and no other begins
  sent-kept : (slots id : ℕ) (me : Me (Option Item) View) (x : Item) (spare new : ℕ) → me.0.puts ≡ true → me.0.spare ≡ suc spare → me.1 ≡ (length me.0.sent % me.0.capacity, Some x) ∷ [] → MayFollow me.0.origin me.0.sent x
      → new ≡ word_at me.0.capacity (length me.0.sent + 1)
      → (s : State (Option Item) View) (h : IsRing k s) → get_elem? s.views id ≡ some me.0
      → (h' : IsRing k record { words = slice_set s.words SENT new; homes = put_back s.homes me.1; views = set s.views id (record me.0 { sent = me.0.sent ++ x ∷ []; spare = 0 }) }) × (h'.taken ≡ h.taken)
  sent-kept slots id me x spare new may has own follows up s h at =
      let v = me.0 in
      let r = k.capacity in
      let mine = h.senders id v at may in
      let size : v.capacity ≡ r = mine.capacity_is in
      let was : v.sent ≡ h.sent = mine.sent_is in
      let long = lengths k s h in
      let within = h.within in
      let busy : h.spare ≡ suc spare = sym mine.spare_is ∙ has in
      let pos : 0 < r = h.some_capacity in
      let j = length v.sent % v.capacity in
      let slot : j ≡ length h.sent % r = (λ i. length (was i) % size i) in
      let there : j < length s.homes = (let a : length h.sent % r < r = mod-lt (length h.sent) pos in let b = h.slots_are in omega (arith, a, slot, b)) in
      let sent = h.sent ++ x ∷ [] in
      let longer : length sent ≡ length h.sent + 1 = length-append h.sent (x ∷ []) in
      let w : View = record v { sent = v.sent ++ x ∷ []; spare = 0 } in
      let follows' : MayFollow k.origin h.sent x = subst (λ (y : Origin × List Item). MayFollow y.0 y.1 x) (λ i. (mine.origin_is i, was i)) follows in
      let homes = slice_set s.homes j (some (Some x)) in
      let P : Slots → Type 0 = λ l. (h' : IsRing k record { words = slice_set s.words SENT new; homes = put_back s.homes l; views = set s.views id w }) × (h'.taken ≡ h.taken) in
      let kept : P ((j, Some x) ∷ []) = (
        record {
          sender = h.sender;
          receiver = h.receiver;
          sent = sent;
          taken = h.taken;
          ahead = h.ahead;
          later = h.later ++ x ∷ [];
          spare = 0;
          some_capacity = pos;
          in_order = ap (λ l. l ++ x ∷ []) h.in_order ∙ append_assoc h.taken (h.ahead ++ h.later) (x ∷ []) ∙ ap (λ l. h.taken ++ l) (append_assoc h.ahead h.later (x ∷ []));
          within = omega (arith, longer, within, busy);
          steady = IsSteady-push k.origin h.sent x h.steady follows';
          words_are = ap (λ ws. slice_set ws SENT new) h.words_are ∙ (λ i. words_of (word_at r (length h.taken)) ((up ∙ (λ i. word_at (size i) (length (was i) + 1)) ∙ ap (word_at r) (sym longer)) i));
          slots_are = length-set s.homes j (some (Some x)) ∙ h.slots_are;
          full_slots = λ p le lt other. dite (ℕ_discrete p (length h.sent))
              (λ is. (x, at_last h.sent x p (sym is), ap (λ (y : ℕ). get_elem? homes y) (ap (λ (y : ℕ). y % r) is ∙ sym slot) ∙ set_here s.homes j (some (Some x)) there))
              (λ ne. let less : p < length h.sent = omega (arith, longer, lt, ne) in let f = h.full_slots p le less other in (f.0, at_longer h.sent (x ∷ []) p f.0 f.1, set_else s.homes j (p % r) (some (Some x)) (λ e. apart r p (length h.sent) less (omega (arith, busy, within, le)) (e ∙ slot)) ∙ f.2));
          free_slots = λ p le lt other. let more : length h.sent < p = omega (arith, longer, le) in set_else s.homes j (p % r) (some (Some x)) (λ e. apart_up r (length h.sent) p more (omega (arith, long, lt)) (e ∙ slot)) ∙ h.free_slots p (omega (arith, more)) lt (λ _ e. omega (arith, e, more));
          senders = each-set (Senders k h.sender sent 0) s.views id w (λ _. record { alone = mine.alone; sent_is = ap (λ l. l ++ x ∷ []) was; spare_is = refl; capacity_is = size; origin_is = mine.origin_is })
              (λ i u other e p. absurd (other ((h.senders i u e p).alone ∙ sym mine.alone)));
          receivers = each-set (Receivers k h.receiver h.taken h.ahead) s.views id w (λ p. let t = h.receivers id v at p in record { alone = t.alone; taken_is = t.taken_is; ahead_is = t.ahead_is; capacity_is = t.capacity_is; origin_is = t.origin_is })
              (λ i u other e. h.receivers i u e);
        },
        refl,
      ) in subst P (sym own) kept

  pub stores_sent : (slots id : ℕ) (me : Me (Option Item) View) (x : Item) (spare new : ℕ) → me.0.puts ≡ true → me.0.spare ≡ suc spare → me.1 ≡ (length me.0.sent % me.0.capacity, Some x) ∷ [] → MayFollow me.0.origin me.0.sent x
      → new ≡ word_at me.0.capacity (length me.0.sent + 1) → Allows (IsRing k) slots id me SENT (λ _. new) (λ _. StoredSent me new)
  stores_sent slots id me x zero new may has own follows up s h _ at small =
      let v = me.0 in
      let w : View = record v { sent = v.sent ++ x ∷ []; spare = 0 } in
      let q = sent-kept slots id me x zero new may has own follows up s h at in (
        w,
        gives,
        tt,
        q.0,
        (λ y left is own'.
            let same : x ≡ y = ap (λ (l : Slots). value_of l x) (sym own ∙ own') in
            let none_left : zero ≡ left = omega (arith, is, has) in
            let views : w ≡ record v { sent = v.sent ++ y ∷ []; spare = left } = (λ i. record v { sent = v.sent ++ same i ∷ []; spare = none_left i }) in
            (views, ap rest own ∙ ap sender_slots views)),
      )
  stores_sent slots id me x (suc more) new may has own follows up s h _ at small =
      let v = me.0 in
      let w0 : View = record v { sent = v.sent ++ x ∷ []; spare = 0 } in
      let w : View = record v { sent = v.sent ++ x ∷ []; spare = suc more } in
      let q = sent-kept slots id me x (suc more) new may has own follows up s h at in
      let h' = q.0 in
      let s' : State (Option Item) View = record { words = slice_set s.words SENT new; homes = put_back s.homes me.1; views = set s.views id w0 } in
      let mine' = h'.senders id w0 (set-at s.views id v w0 at) may in
      let mine = h.senders id v at may in
      let was : length h.sent ≡ length v.sent = ap length (sym mine.sent_is) in
      let longer : length h'.sent ≡ length v.sent + 1 = ap length (sym mine'.sent_is) ∙ length-append v.sent (x ∷ []) in
      let spare : h.spare ≡ suc (suc more) = sym mine.spare_is ∙ has in
      let idle : 0 ≡ h'.spare = mine'.spare_is in
      let taken : length h'.taken ≡ length h.taken = ap length q.1 in
      let within = h.within in
      let room : length h'.sent + suc more ≤ length h'.taken + k.capacity = omega (arith, was, longer, spare, taken, within) in
      let j = length (v.sent ++ x ∷ []) % v.capacity in
      let slot : j ≡ length h'.sent % k.capacity = (λ i. length (mine'.sent_is i) % mine'.capacity_is i) in
      let out : IsRing k record { words = slice_set s.words SENT new; homes = set (put_back s.homes me.1) j none; views = set (set s.views id w0) id w } =
      free-out k s' h' id j (suc more) w (slice_set s.words SENT new) (omega arith) room slot refl (record { alone = mine'.alone; sent_is = mine'.sent_is; spare_is = refl; capacity_is = mine'.capacity_is; origin_is = mine'.origin_is })
      (λ p. let t = h'.receivers id w0 (set-at s.views id v w0 at) p in record { alone = t.alone; taken_is = t.taken_is; ahead_is = t.ahead_is; capacity_is = t.capacity_is; origin_is = t.origin_is }) in
      let Q : List View → Type 0 = λ vs. IsRing k record { words = slice_set s.words SENT new; homes = set (put_back s.homes me.1) j none; views = vs } in (
        w,
        chain gives (takes j None),
        (tt, ap (λ (y : ℕ). get_elem? (put_back s.homes me.1) y) slot ∙ h'.free_slots (length h'.sent) (omega arith) (omega (arith, room)) (λ p. absurd (omega (arith, p, idle)))),
        subst Q (set-twice s.views id w0 w) out,
        (λ y left is own'.
            let same : x ≡ y = ap (λ (l : Slots). value_of l x) (sym own ∙ own') in
            let all_left : suc more ≡ left = omega (arith, is, has) in
            let views : w ≡ record v { sent = v.sent ++ y ∷ []; spare = left } = (λ i. record v { sent = v.sent ++ same i ∷ []; spare = all_left i }) in
            (views, ap (λ (l : Slots). (j, None) ∷ l) (ap rest own) ∙ ap sender_slots views)),
      )
