-- Each step of a receiver keeps the rule of a ring lane.
use Rattle.std.proofs.Common.{◌≡◌, ◌≢◌, ℕ, suc, ◌+◌, ◌*◌, ◌%◌, ◌<◌, true, List, [], ◌∷◌, ◌++◌, length, set, slice_set, slice_index, Option, Some, None, sym, refl, ap, ◌∙◌, subst, arith, length-append, length-set, append_assoc, append-nil}
use Rattle.std.proofs.Math.Nat.{add-mod_right, mod-lt}
use native.Mathlib.Decide.{ℕ_discrete}
use mathlib.Core.Logic.{dite}
use mathlib.Core.Option.{some, none}
use lib.ListN.{get_elem?}
use Rattle.atomic_table.specs.Table.{State, Me, keeps, takes, gives, chain, put_back, Allows, rest}
use Rattle.atomic_table.proofs.Lists.{set_here, set_else, one_turn}
use Rattle.tuple_trace.specs.declared.tuple.Item.{Item}
use Rattle.lane_core.specs.declared.form.Origin.{Origin}
use Rattle.lane_core.specs.Steady.{IsSteady}
use Rattle.lane_core.proofs.SteadyLemmas.{IsSteady-front}
use Rattle.lane_ring.specs.declared.rule.Charter.{Charter}
use Rattle.lane_ring.specs.declared.rule.View.{View}
use Rattle.lane_ring.specs.declared.rule.TheConstants.{SENT}
use Rattle.lane_ring.specs.Rule.{word_at, words_of, Slots, IsRing, LoadedSent, TookOne, StoredTaken}
use Rattle.lane_ring.proofs.RingLemmas.{apart_up, blank, each-set, full_slot-first, head_of, none_long, set-at, set-twice, some_long, tail_of}
use Rattle.lane_ring.proofs.Seats.{full-at, full-out, lengths, Receivers, Senders, view-set}

module _ (k : Charter) where
  pub loads_sent : (slots id : ℕ) (me : Me (Option Item) View) → me.0.takes ≡ true → length me.0.ahead ≡ 0 → me.1 ≡ [] → Allows (IsRing k) slots id me SENT (λ n. n) (LoadedSent me)
  loads_sent slots id me may no_ahead own s h _ at small =
      let v = me.0 in
      let r = k.capacity in
      let n = slice_index s.words SENT in
      let found : n ≡ word_at r (length h.sent) = ap (λ ws. slice_index ws SENT) h.words_are in
      let mine = h.receivers id v at may in
      let size : v.capacity ≡ r = mine.capacity_is in
      let was : v.taken ≡ h.taken = mine.taken_is in
      let empty : h.ahead ≡ [] = sym mine.ahead_is ∙ none_long v.ahead no_ahead in
      let long : length h.sent ≡ length h.taken + length h.later = (let a = lengths k s h in let b : length h.ahead ≡ 0 = ap length empty in omega (arith, a, b)) in
      let within = h.within in
      let pos : 0 < r = h.some_capacity in
      let same : slice_set s.words SENT n ≡ s.words = ap (λ ws. slice_set ws SENT (slice_index ws SENT)) h.words_are ∙ sym h.words_are in
      let here : word_at v.capacity (length v.taken) ≡ word_at r (length h.taken) = (λ i. word_at (size i) (length (was i))) in
      dite (ℕ_discrete n (word_at v.capacity (length v.taken)))
      (λ is. let w : View = record v { dry = v.dry + 1 } in
      let all : length h.taken ≡ length h.sent = one_turn (length h.taken) (length h.sent) (2 * r) (omega (arith, long)) (omega (arith, within, pos)) (sym here ∙ sym is ∙ found) in
      let none_later : h.later ≡ [] = none_long h.later (omega (arith, long, all)) in (
        w,
        keeps,
        tt,
        view-set k s h id w (slice_set s.words SENT n) same (λ p. let t = h.senders id v at p in record { alone = t.alone; sent_is = t.sent_is; spare_is = t.spare_is; capacity_is = t.capacity_is; origin_is = t.origin_is })
            (λ _. record { alone = mine.alone; taken_is = was; ahead_is = mine.ahead_is; capacity_is = size; origin_is = mine.origin_is }),
        ((λ _. record { slots = refl; view = refl; all_taken = λ p. (h.senders id v at p).sent_is ∙ h.in_order ∙ (λ i. h.taken ++ (empty i ++ none_later i)) ∙ append-nil h.taken ∙ sym was }), (λ no. absurd (no is))),
      ))
      (λ no.
      let differ : length h.later ≢ 0 = (λ e. no (found ∙ ap (word_at r) (let same_length : length h.sent ≡ length h.taken = omega (arith, long, e) in same_length) ∙ sym here)) in
      let has : 0 < length h.later = omega (arith, differ) in
      let split = some_long h.later has in
      let w : View = record v { ahead = h.later } in
      let j = length v.taken % v.capacity in
      let slot : j ≡ length h.taken % r = (λ i. length (was i) % size i) in (
        w,
        takes j (Some split.0),
        ap (λ (y : ℕ). get_elem? s.homes y) slot ∙ full-at k s h split.0 split.1 empty split.2,
        full-out k s h id j h.later [] w (slice_set s.words SENT n) empty has (sym (append-nil h.later)) slot same (record { alone = mine.alone; taken_is = was; ahead_is = refl; capacity_is = size; origin_is = mine.origin_is })
            (λ p. let t = h.senders id v at p in record { alone = t.alone; sent_is = t.sent_is; spare_is = t.spare_is; capacity_is = t.capacity_is; origin_is = t.origin_is }),
        (
          (λ is. absurd (no is)),
          (λ _. record {
            ahead = h.later;
            some_ahead = has;
            few = omega (arith, long, within, size);
            view = refl;
            slots = ap (λ (l : Slots). (j, Some split.0) ∷ l) own ∙ sym (full_slot-first j h.later split.0 split.1 split.2);
            end_is = found ∙ ap (word_at r) long ∙ (λ i. word_at (sym size i) (length (sym was i) + length h.later));
          }),
        ),
      ))

  -- the slot's turn ends, and no other begins
  taken-kept : (slots id : ℕ) (me : Me (Option Item) View) (x : Item) (more : List Item) (new : ℕ) → me.0.takes ≡ true → me.0.ahead ≡ x ∷ more → me.1 ≡ (length me.0.taken % me.0.capacity, None) ∷ [] → new ≡ word_at me.0.capacity (length me.0.taken + 1)
      → (s : State (Option Item) View) (h : IsRing k s) → get_elem? s.views id ≡ some me.0
      → (h' : IsRing k record { words = slice_set s.words 0 new; homes = put_back s.homes me.1; views = set s.views id (record me.0 { taken = me.0.taken ++ x ∷ []; ahead = [] }) }) × (h'.later ≡ more ++ h.later)
  taken-kept slots id me x more new may has own up s h at =
      let v = me.0 in
      let r = k.capacity in
      let mine = h.receivers id v at may in
      let size : v.capacity ≡ r = mine.capacity_is in
      let was : v.taken ≡ h.taken = mine.taken_is in
      let split : h.ahead ≡ x ∷ more = sym mine.ahead_is ∙ has in
      let long = lengths k s h in
      let one_more : length h.ahead ≡ suc (length more) = ap length split in
      let within = h.within in
      let pos : 0 < r = h.some_capacity in
      let j = length v.taken % v.capacity in
      let slot : j ≡ length h.taken % r = (λ i. length (was i) % size i) in
      let there : j < length s.homes = (let a : length h.taken % r < r = mod-lt (length h.taken) pos in let b = h.slots_are in omega (arith, a, slot, b)) in
      let taken = h.taken ++ x ∷ [] in
      let longer : length taken ≡ length h.taken + 1 = length-append h.taken (x ∷ []) in
      let w : View = record v { taken = v.taken ++ x ∷ []; ahead = [] } in
      let homes = slice_set s.homes j (some blank) in
      let P : Slots → Type 0 = λ l. (h' : IsRing k record { words = slice_set s.words 0 new; homes = put_back s.homes l; views = set s.views id w }) × (h'.later ≡ more ++ h.later) in
      let kept : P ((j, None) ∷ []) = (
        record {
          sender = h.sender;
          receiver = h.receiver;
          sent = h.sent;
          taken = taken;
          ahead = [];
          later = more ++ h.later;
          spare = h.spare;
          some_capacity = pos;
          in_order = h.in_order ∙ ap (λ l. h.taken ++ (l ++ h.later)) split ∙ sym (append_assoc h.taken (x ∷ []) (more ++ h.later));
          within = omega (arith, longer, within);
          steady = h.steady;
          words_are = ap (λ ws. slice_set ws 0 new) h.words_are ∙ (λ i. words_of ((up ∙ (λ i. word_at (size i) (length (was i) + 1)) ∙ ap (word_at r) (sym longer)) i) (word_at r (length h.sent)));
          slots_are = length-set s.homes j (some blank) ∙ h.slots_are;
          full_slots = λ p le lt other. let more : length h.taken < p = omega (arith, longer, le) in let f = h.full_slots p (omega (arith, more)) lt (λ _ e. omega (arith, e, more)) in (f.0, f.1, set_else s.homes j (p % r) (some blank) (λ e. apart_up r (length h.taken) p more (omega (arith, lt, within)) (e ∙ slot)) ∙ f.2);
          free_slots = λ p le lt other. dite (ℕ_discrete p (length h.taken + r))
              (λ is. ap (λ (y : ℕ). get_elem? homes y) (ap (λ (y : ℕ). y % r) is ∙ add-mod_right (length h.taken) r ∙ sym slot) ∙ set_here s.homes j (some blank) there)
              (λ ne. let near : p < length h.taken + r = omega (arith, longer, lt, ne) in set_else s.homes j (p % r) (some blank) (λ e. apart_up r (length h.taken) p (omega (arith, long, one_more, le)) near (e ∙ slot)) ∙ h.free_slots p le near other);
          senders = each-set (Senders k h.sender h.sent h.spare) s.views id w (λ p. let t = h.senders id v at p in record { alone = t.alone; sent_is = t.sent_is; spare_is = t.spare_is; capacity_is = t.capacity_is; origin_is = t.origin_is })
              (λ i u other e. h.senders i u e);
          receivers = each-set (Receivers k h.receiver taken []) s.views id w (λ _. record { alone = mine.alone; taken_is = ap (λ l. l ++ x ∷ []) was; ahead_is = refl; capacity_is = size; origin_is = mine.origin_is })
              (λ i u other e p. absurd (other ((h.receivers i u e p).alone ∙ sym mine.alone)));
        },
        refl,
      ) in subst P (sym own) kept

  -- what a receiver learns of the item that it takes
  took_steady : (s : State (Option Item) View) (h : IsRing k s) (id : ℕ) (v : View) (x : Item) (more : List Item) → get_elem? s.views id ≡ some v → v.takes ≡ true → v.ahead ≡ x ∷ more → IsSteady v.origin (v.taken ++ x ∷ [])
  took_steady s h id v x more at may has =
      let mine = h.receivers id v at may in
      let order : h.sent ≡ (h.taken ++ x ∷ []) ++ (more ++ h.later) = h.in_order ∙ ap (λ l. h.taken ++ (l ++ h.later)) (sym mine.ahead_is ∙ has) ∙ sym (append_assoc h.taken (x ∷ []) (more ++ h.later)) in
      let whole : IsSteady k.origin ((h.taken ++ x ∷ []) ++ (more ++ h.later)) = subst (IsSteady k.origin) order h.steady in
      let front : IsSteady k.origin (h.taken ++ x ∷ []) = IsSteady-front k.origin (h.taken ++ x ∷ []) (more ++ h.later) whole in
      subst (λ (y : Origin × List Item). IsSteady y.0 (y.1 ++ x ∷ [])) (λ i. (sym mine.origin_is i, sym mine.taken_is i)) front

  took_sent : (s : State (Option Item) View) (h : IsRing k s) (id : ℕ) (v : View) (x : Item) (more : List Item) → get_elem? s.views id ≡ some v → v.takes ≡ true → v.ahead ≡ x ∷ more → v.puts ≡ true → length v.taken < length v.sent
  took_sent s h id v x more at may has puts =
      let mine = h.receivers id v at may in
      let long = lengths k s h in
      let a : length h.ahead ≡ suc (length more) = ap length (sym mine.ahead_is ∙ has) in
      let b : length v.taken ≡ length h.taken = ap length mine.taken_is in
      let c : length v.sent ≡ length h.sent = ap length (h.senders id v at puts).sent_is in
      omega (arith, long, a, b, c)

  pub stores_taken : (slots id : ℕ) (me : Me (Option Item) View) (x : Item) (more : List Item) (new : ℕ) → me.0.takes ≡ true → me.0.ahead ≡ x ∷ more → me.1 ≡ (length me.0.taken % me.0.capacity, None) ∷ [] → new ≡ word_at me.0.capacity (length me.0.taken + 1)
      → Allows (IsRing k) slots id me 0 (λ _. new) (λ _. StoredTaken me new)
  stores_taken slots id me x [] new may has own up s h _ at small =
      let v = me.0 in
      let w : View = record v { taken = v.taken ++ x ∷ []; ahead = [] } in
      let q = taken-kept slots id me x [] new may has own up s h at in
      let told : TookOne me x [] (w, rest me.1) = record { view = refl; slots = ap rest own; steady = took_steady s h id v x [] at may has; was_sent = took_sent s h id v x [] at may has } in (
        w,
        gives,
        tt,
        q.0,
        (λ y left is. subst (λ (z : Item × List Item). TookOne me z.0 z.1 (w, rest me.1)) (λ i. (ap (λ (l : List Item). head_of l x) (sym has ∙ is) i, ap tail_of (sym has ∙ is) i)) told),
      )
  stores_taken slots id me x (next ∷ more) new may has own up s h _ at small =
      let v = me.0 in
      let w0 : View = record v { taken = v.taken ++ x ∷ []; ahead = [] } in
      let w : View = record v { taken = v.taken ++ x ∷ []; ahead = next ∷ more } in
      let q = taken-kept slots id me x (next ∷ more) new may has own up s h at in
      let h' = q.0 in
      let s' : State (Option Item) View = record { words = slice_set s.words 0 new; homes = put_back s.homes me.1; views = set s.views id w0 } in
      let mine' = h'.receivers id w0 (set-at s.views id v w0 at) may in
      let empty : h'.ahead ≡ [] = sym mine'.ahead_is in
      let j = length (v.taken ++ x ∷ []) % v.capacity in
      let slot : j ≡ length h'.taken % k.capacity = (λ i. length (mine'.taken_is i) % mine'.capacity_is i) in
      let out : IsRing k record { words = slice_set s.words 0 new; homes = set (put_back s.homes me.1) j none; views = set (set s.views id w0) id w } =
      full-out k s' h' id j (next ∷ more) h.later w (slice_set s.words 0 new) empty (omega arith) q.1 slot refl (record { alone = mine'.alone; taken_is = mine'.taken_is; ahead_is = refl; capacity_is = mine'.capacity_is; origin_is = mine'.origin_is })
      (λ p. let t = h'.senders id w0 (set-at s.views id v w0 at) p in record { alone = t.alone; sent_is = t.sent_is; spare_is = t.spare_is; capacity_is = t.capacity_is; origin_is = t.origin_is }) in
      let Q : List View → Type 0 = λ vs. IsRing k record { words = slice_set s.words 0 new; homes = set (put_back s.homes me.1) j none; views = vs } in
      let after : Me (Option Item) View = (w, (j, Some next) ∷ rest me.1) in
      let told : TookOne me x (next ∷ more) after = record { view = refl; slots = ap (λ (l : Slots). (j, Some next) ∷ l) (ap rest own); steady = took_steady s h id v x (next ∷ more) at may has; was_sent = took_sent s h id v x (next ∷ more) at may has } in (
        w,
        chain gives (takes j (Some next)),
        (tt, ap (λ (y : ℕ). get_elem? (put_back s.homes me.1) y) slot ∙ full-at k s' h' next (more ++ h.later) empty q.1),
        subst Q (set-twice s.views id w0 w) out,
        (λ y left is. subst (λ (z : Item × List Item). TookOne me z.0 z.1 after) (λ i. (ap (λ (l : List Item). head_of l x) (sym has ∙ is) i, ap tail_of (sym has ∙ is) i)) told),
      )
