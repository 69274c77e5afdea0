-- Each step keeps the rule of a line.
use Rattle.std.proofs.Common.{◌≡◌, ◌≢◌, ℕ, zero, suc, ◌≤◌, true, true≢false, List, [], ◌∷◌, ◌++◌, length, set, slice_set, slice_index, sym, refl, ap, ◌∙◌, subst, ⊎_elim, arith}
use Rattle.std.specs.Prelude.{All}
use Rattle.std.proofs.lemmas.List.Elements.{All-nil, All-push, All-weaker}
use mathlib.Core.Option.{some, some-ne-none, some-injective}
use lib.ListN.{get_elem?}
use Rattle.atomic_table.specs.Table.{Me, keeps, Allows, Joins, Splits, opening}
use Rattle.atomic_table.proofs.Lists.{at_set, at_snoc}
use Rattle.live_control.specs.declared.rule.View.{View}
use Rattle.live_control.specs.Rule.{InboxKnows, IsLine, LoadedReleased, NeverFalls, StoredReleased, TellerKnows, fresh, inbox_side, met, spent, teller_side}

-- the first of numbers that are at most n
All-le-first : (x : ℕ) (xs : List ℕ) (n : ℕ) → All (λ y. y ≤ n) (x ∷ xs) → x ≤ n
All-le-first x xs n all = all 0 0 (omega arith)

All-le-later : (x : ℕ) (xs : List ℕ) (n : ℕ) → All (λ y. y ≤ n) (x ∷ xs) → All (λ y. y ≤ n) xs
All-le-later x xs n all i d within = all (suc i) d (omega (arith, within))

-- a number that is at least each of them keeps them from falling
never_falls-push : (xs : List ℕ) (n : ℕ) → NeverFalls xs → All (λ x. x ≤ n) xs → NeverFalls (xs ++ n ∷ [])
never_falls-push [] n rises all = (All-nil (λ y. n ≤ y), tt)
never_falls-push (x ∷ xs) n rises all =
    (All-push (λ y. x ≤ y) xs n rises.0 (All-le-first x xs n all), never_falls-push xs n rises.1 (All-le-later x xs n all))

-- what holds of each seat and its view
abbrev Each : (ℕ → View → Type 0) → List View → Type 0
Each F views = (seat : ℕ) (v : View) → get_elem? views seat ≡ some v → F seat v

-- one seat steps
each-set : (F : ℕ → View → Type 0) (views : List View) (id : ℕ) (w : View) → F id w → ((seat : ℕ) (v : View) → seat ≢ id → get_elem? views seat ≡ some v → F seat v)
    → Each F (set views id w)
each-set F views id w mine others seat v at = ⊎_elim (λ (x : (seat ≡ id) × (w ≡ v)). subst (λ (y : ℕ × View). F y.0 y.1) (λ i. (sym x.0 i, x.1 i)) mine)
    (λ (x : (seat ≢ id) × (get_elem? views seat ≡ some v)). others seat v x.0 x.1) (at_set views id seat w v at)

-- the only seat
each-one : (F : ℕ → View → Type 0) (w : View) → F 0 w → Each F (w ∷ [])
each-one F w mine zero v at = subst (λ (y : View). F 0 y) (some-injective w v at) mine
each-one F w mine (suc seat) v at = absurd (some-ne-none v (sym at))

-- the seat that was not there before is the last
at_end : (views : List View) (a b : View) (seat : ℕ) → get_elem? views seat ≢ some b → get_elem? (views ++ a ∷ []) seat ≡ some b → seat ≡ length views
at_end [] a b zero other at = refl
at_end [] a b (suc seat) other at = absurd (some-ne-none b (sym at))
at_end (v ∷ views) a b zero other at = absurd (other at)
at_end (v ∷ views) a b (suc seat) other at = ap suc (at_end views a b seat other at)

abbrev Tellers : ℕ → ℕ → ℕ → View → Type 0
Tellers teller released seat v = v.may_tell ≡ true → TellerKnows teller released seat v

abbrev Inboxes : ℕ → ℕ → ℕ → View → Type 0
Inboxes inbox released seat v = v.may_hear ≡ true → InboxKnows inbox released seat v

module _ {S : Type 0} where
  pub opening-IsLine : (xs : List S) → IsLine (opening (0 ∷ []) xs fresh)
  opening-IsLine xs = record {
    teller = 0;
    inbox = 0;
    released = 0;
    words_are = refl;
    tellers = each-one (Tellers 0 0) fresh (λ _. record { alone = refl; told_is = refl });
    inboxes = each-one (Inboxes 0 0) fresh (λ _. record { alone = refl; rises = tt; loads = All-nil (λ load. load ≤ 0) });
  }

  pub load_released : (slots id : ℕ) (me : Me S View) → me.0.may_hear ≡ true → Allows IsLine slots id me 0 (λ n. n) (LoadedReleased me)
  load_released slots id me may s h _ at small =
      let v = me.0 in
      let n = slice_index s.words 0 in
      let found : n ≡ h.released = ap (λ ws. slice_index ws 0) h.words_are in
      let known = h.inboxes id v at may in
      let below : All (λ load. load ≤ n) v.loads = All-weaker (λ x. x ≤ h.released) (λ x. x ≤ n) (λ x le. omega (arith, found, le)) v.loads known.loads in
      let w : View = record v { loads = v.loads ++ n ∷ [] } in (
        w,
        keeps,
        tt,
        record {
          teller = h.teller;
          inbox = h.inbox;
          released = h.released;
          words_are = ap (λ ws. slice_set ws 0 (slice_index ws 0)) h.words_are;
          tellers = each-set (Tellers h.teller h.released) s.views id w (λ p. let k = h.tellers id v at p in record { alone = k.alone; told_is = k.told_is }) (λ seat u other e. h.tellers seat u e);
          inboxes = each-set (Inboxes h.inbox h.released) s.views id w (λ _. record { alone = known.alone; rises = never_falls-push v.loads n known.rises below; loads = All-push (λ load. load ≤ h.released) v.loads n known.loads (omega (arith, found)) }) (λ seat u other e. h.inboxes seat u e);
        },
        record { seat = refl; rises = below; told = λ p. found ∙ sym (h.tellers id v at p).told_is },
      )

  pub store_released : (slots id k : ℕ) (me : Me S View) → me.0.may_tell ≡ true → me.0.told ≤ k → Allows IsLine slots id me 0 (λ _. k) (λ _. StoredReleased me k)
  store_released slots id k me may above s h _ at small =
      let v = me.0 in
      let known = h.tellers id v at may in
      let last : v.told ≡ h.released = known.told_is in
      let w : View = record v { told = k } in
      let loaded : (u : View) → All (λ load. load ≤ h.released) u.loads → All (λ load. load ≤ k) u.loads = λ u. All-weaker (λ x. x ≤ h.released) (λ x. x ≤ k) (λ x le. omega (arith, last, above, le)) u.loads in (
        w,
        keeps,
        tt,
        record {
          teller = h.teller;
          inbox = h.inbox;
          released = k;
          words_are = ap (λ ws. slice_set ws 0 k) h.words_are;
          tellers = each-set (Tellers h.teller k) s.views id w (λ _. record { alone = known.alone; told_is = refl }) (λ seat u other e p. absurd (other ((h.tellers seat u e p).alone ∙ sym known.alone)));
          inboxes = each-set (Inboxes h.inbox k) s.views id w (λ p. let o = h.inboxes id v at p in record { alone = o.alone; rises = o.rises; loads = loaded v o.loads })
              (λ seat u other e p. let o = h.inboxes seat u e p in record { alone = o.alone; rises = o.rises; loads = loaded u o.loads });
        },
        refl,
      )

  pub sides-Splits : (id : ℕ) (v : View) → v.may_tell ≡ true → v.may_hear ≡ true → Splits {S = S} IsLine id v (teller_side v) (inbox_side v)
  sides-Splits id v may_tell may_hear s h at =
      let teller = h.tellers id v at may_tell in
      let inbox = h.inboxes id v at may_hear in
      let views : List View = set s.views id (teller_side v) in
      let old_tellers : Each (Tellers h.teller h.released) views = each-set (Tellers h.teller h.released) s.views id (teller_side v) (λ _. record { alone = teller.alone; told_is = teller.told_is }) (λ seat u other e. h.tellers seat u e) in
      let NoInbox : ℕ → View → Type 0 = λ seat u. u.may_hear ≢ true in
      let no_inbox : Each NoInbox views = each-set NoInbox s.views id (teller_side v) (λ p. true≢false (sym p)) (λ seat u other e p. other ((h.inboxes seat u e p).alone ∙ sym inbox.alone)) in
      record {
        teller = h.teller;
        inbox = length views;
        released = h.released;
        words_are = h.words_are;
        tellers = λ seat u e p. ⊎_elim (λ there. old_tellers seat u there p) (λ (is : inbox_side v ≡ u). absurd (true≢false (sym (ap (λ (y : View). y.may_tell) is ∙ p)))) (at_snoc views (inbox_side v) u seat e);
        inboxes = λ seat u e p. ⊎_elim (λ there. absurd (no_inbox seat u there p))
            (λ (is : inbox_side v ≡ u). record {
              alone = at_end views (inbox_side v) u seat (λ there. no_inbox seat u there p) e;
              rises = subst (λ (y : View). NeverFalls y.loads) is inbox.rises;
              loads = subst (λ (y : View). All (λ load. load ≤ h.released) y.loads) is inbox.loads;
            }) (at_snoc views (inbox_side v) u seat e);
      }

  pub meets-Joins : (id : ℕ) (v : View) (other : ℕ) (w : View) → v.may_tell ≡ true → w.may_hear ≡ true → Joins {S = S} IsLine id v other w (met v w) spent
  meets-Joins id v other w may_tell may_hear s h at apart there =
      let teller = h.tellers id v at may_tell in
      let was : get_elem? s.views other ≡ some w = ⊎_elim (λ (x : (other ≡ id) × (met v w ≡ w)). absurd (apart x.0)) (λ (x : (other ≢ id) × (get_elem? s.views other ≡ some w)). x.1) (at_set s.views id other (met v w) w there) in
      let inbox = h.inboxes other w was may_hear in
      let views : List View = set s.views id (met v w) in
      let tellers : Each (Tellers h.teller h.released) views = each-set (Tellers h.teller h.released) s.views id (met v w) (λ _. record { alone = teller.alone; told_is = teller.told_is }) (λ seat u else e. h.tellers seat u e) in
      let Heard : ℕ → View → Type 0 = λ seat u. seat ≢ other → Inboxes id h.released seat u in
      let inboxes : Each Heard views = each-set Heard s.views id (met v w) (λ _ _. record { alone = refl; rises = inbox.rises; loads = inbox.loads }) (λ seat u else e apart p. absurd (apart ((h.inboxes seat u e p).alone ∙ sym inbox.alone))) in
      record {
        teller = h.teller;
        inbox = id;
        released = h.released;
        words_are = h.words_are;
        tellers = each-set (Tellers h.teller h.released) views other spent (λ p. absurd (true≢false (sym p))) (λ seat u else e. tellers seat u e);
        inboxes = each-set (Inboxes id h.released) views other spent (λ p. absurd (true≢false (sym p))) (λ seat u else e. inboxes seat u e else);
      }
