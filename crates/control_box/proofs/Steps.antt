-- Each step keeps the rule of a box.
use Rattle.std.proofs.Common.{◌≡◌, ◌≢◌, ℕ, zero, suc, ◌+◌, ◌≤◌, ◌<◌, true, true≢false, List, [], ◌∷◌, ◌++◌, length, set, slice_set, slice_index, sym, refl, ap, ◌∙◌, subst, ⊎_elim, get_or, arith}
use Rattle.std.specs.Prelude.{All}
use Rattle.std.proofs.lemmas.List.Elements.{All-nil, All-push, All-weaker}
use mathlib.Core.Option.{some, some-ne-none, some-injective}
use lib.ListN.{get_elem?}
use Rattle.atomic_table.specs.Table.{Me, keeps, Allows, Splits, opening}
use Rattle.atomic_table.proofs.Lists.{at_set, at_snoc}
use Rattle.control_box.specs.declared.rule.View.{View}
use Rattle.control_box.specs.Endpoints.{HasShownReady}
use Rattle.control_box.specs.Rule.{IsBox, LoadedPosted, LoadedTurned, OwnerKnows, PosterKnows, StoredPosted, StoredTurned, fresh, owner_side, poster_side}

-- a load that shows k ready is of a turned that has come so far
ready-reached : (k : ℕ) (loads : List ℕ) (turned : ℕ) → HasShownReady k loads → All (λ load. load ≤ turned) loads → k ≤ turned + 1
ready-reached k loads turned (i, load, within, same, near) all =
    let at : get_or loads i load ≤ turned = all i load within in
    let is : get_or loads i load ≡ load = same in
    let close : k ≤ load + 1 = near in omega (arith, at, is, close)

-- what holds of each seat and its view
abbrev Each : (ℕ → View → Type 0) → List View → Type 0
Each F views = (seat : ℕ) (v : View) → get_elem? views seat ≡ some v → F seat v

-- one seat steps
each-set : (F : ℕ → View → Type 0) (views : List View) (id : ℕ) (w : View) → F id w → ((seat : ℕ) (v : View) → seat ≢ id → get_elem? views seat ≡ some v → F seat v)
    → Each F (set views id w)
each-set F views id w mine others seat v at = ⊎_elim (λ (x : (seat ≡ id) × (w ≡ v)). subst (λ (y : ℕ × View). F y.0 y.1) (λ i. (sym x.0 i, x.1 i)) mine)
    (λ (x : (seat ≢ id) × (get_elem? views seat ≡ some v)). others seat v x.0 x.1) (at_set views id seat w v at)

-- the only seat
each-one : (F : ℕ → View → Type 0) (w : View) → F 0 w → Each F (w ∷ [])
each-one F w mine zero v at = subst (λ (y : View). F 0 y) (some-injective w v at) mine
each-one F w mine (suc seat) v at = absurd (some-ne-none v (sym at))

-- the seat that was not there before is the last
at_end : (views : List View) (a b : View) (seat : ℕ) → get_elem? views seat ≢ some b → get_elem? (views ++ a ∷ []) seat ≡ some b → seat ≡ length views
at_end [] a b zero other at = refl
at_end [] a b (suc seat) other at = absurd (some-ne-none b (sym at))
at_end (v ∷ views) a b zero other at = absurd (other at)
at_end (v ∷ views) a b (suc seat) other at = ap suc (at_end views a b seat other at)

abbrev Posters : ℕ → ℕ → ℕ → ℕ → View → Type 0
Posters poster posted turned seat v = v.may_post ≡ true → PosterKnows poster posted turned seat v

abbrev Owners : ℕ → ℕ → ℕ → ℕ → View → Type 0
Owners owner posted turned seat v = v.may_turn ≡ true → OwnerKnows owner posted turned seat v

module _ {S : Type 0} where
  pub opening-IsBox : (xs : List S) → IsBox (opening (0 ∷ 0 ∷ []) xs fresh)
  opening-IsBox xs = record {
    poster = 0;
    owner = 0;
    posted = 0;
    turned = 0;
    words_are = refl;
    at_most_one_ahead = omega arith;
    posters = each-one (Posters 0 0 0) fresh (λ _. record { alone = refl; posted_is = refl; loads = All-nil (λ load. load ≤ 0) });
    owners = each-one (Owners 0 0 0) fresh (λ _. record { alone = refl; turned_is = refl; polls = All-nil (λ poll. poll ≤ 0) });
  }

  pub load_turned : (slots id : ℕ) (me : Me S View) → me.0.may_post ≡ true → Allows IsBox slots id me 1 (λ n. n) (LoadedTurned me)
  load_turned slots id me may s h _ at small =
      let v = me.0 in
      let n = slice_index s.words 1 in
      let found : n ≡ h.turned = ap (λ ws. slice_index ws 1) h.words_are in
      let known = h.posters id v at may in
      let near : h.posted ≤ h.turned + 1 = h.at_most_one_ahead in
      let last : v.posted ≡ h.posted = known.posted_is in
      let w : View = record v { loads = v.loads ++ n ∷ [] } in (
        w,
        keeps,
        tt,
        record {
          poster = h.poster;
          owner = h.owner;
          posted = h.posted;
          turned = h.turned;
          words_are = ap (λ ws. slice_set ws 1 (slice_index ws 1)) h.words_are;
          at_most_one_ahead = h.at_most_one_ahead;
          posters = each-set (Posters h.poster h.posted h.turned) s.views id w (λ _. record { alone = known.alone; posted_is = known.posted_is; loads = All-push (λ load. load ≤ h.turned) v.loads n known.loads (omega (arith, found)) }) (λ seat u other e. h.posters seat u e);
          owners = each-set (Owners h.owner h.posted h.turned) s.views id w (λ p. let k = h.owners id v at p in record { alone = k.alone; turned_is = k.turned_is; polls = k.polls }) (λ seat u other e. h.owners seat u e);
        },
        record { seat = refl; rises = All-weaker (λ x. x ≤ h.turned) (λ x. x ≤ n) (λ x le. omega (arith, found, le)) v.loads known.loads; near = omega (arith, near, last, found) },
      )

  pub load_posted : (slots id : ℕ) (me : Me S View) → me.0.may_turn ≡ true → Allows IsBox slots id me 0 (λ n. n) (LoadedPosted me)
  load_posted slots id me may s h _ at small =
      let v = me.0 in
      let n = slice_index s.words 0 in
      let found : n ≡ h.posted = ap (λ ws. slice_index ws 0) h.words_are in
      let known = h.owners id v at may in
      let near : h.posted ≤ h.turned + 1 = h.at_most_one_ahead in
      let last : v.turned ≡ h.turned = known.turned_is in
      let w : View = record v { polls = v.polls ++ n ∷ [] } in (
        w,
        keeps,
        tt,
        record {
          poster = h.poster;
          owner = h.owner;
          posted = h.posted;
          turned = h.turned;
          words_are = ap (λ ws. slice_set ws 0 (slice_index ws 0)) h.words_are;
          at_most_one_ahead = h.at_most_one_ahead;
          posters = each-set (Posters h.poster h.posted h.turned) s.views id w (λ p. let k = h.posters id v at p in record { alone = k.alone; posted_is = k.posted_is; loads = k.loads }) (λ seat u other e. h.posters seat u e);
          owners = each-set (Owners h.owner h.posted h.turned) s.views id w (λ _. record { alone = known.alone; turned_is = known.turned_is; polls = All-push (λ poll. poll ≤ h.posted) v.polls n known.polls (omega (arith, found)) }) (λ seat u other e. h.owners seat u e);
        },
        record { seat = refl; rises = All-weaker (λ x. x ≤ h.posted) (λ x. x ≤ n) (λ x le. omega (arith, found, le)) v.polls known.polls; near = omega (arith, near, last, found) },
      )

  pub store_posted : (slots id k : ℕ) (me : Me S View) → me.0.may_post ≡ true → me.0.posted < k → HasShownReady k me.0.loads
      → Allows IsBox slots id me 0 (λ _. k) (λ _. StoredPosted me k)
  store_posted slots id k me may above ready s h _ at small =
      let v = me.0 in
      let known = h.posters id v at may in
      let last : v.posted ≡ h.posted = known.posted_is in
      let w : View = record v { posted = k } in
      let polled : (u : View) → All (λ poll. poll ≤ h.posted) u.polls → All (λ poll. poll ≤ k) u.polls = λ u. All-weaker (λ x. x ≤ h.posted) (λ x. x ≤ k) (λ x le. omega (arith, last, above, le)) u.polls in (
        w,
        keeps,
        tt,
        record {
          poster = h.poster;
          owner = h.owner;
          posted = k;
          turned = h.turned;
          words_are = ap (λ ws. slice_set ws 0 k) h.words_are;
          at_most_one_ahead = ready-reached k v.loads h.turned ready known.loads;
          posters = each-set (Posters h.poster k h.turned) s.views id w (λ _. record { alone = known.alone; posted_is = refl; loads = known.loads }) (λ seat u other e p. absurd (other ((h.posters seat u e p).alone ∙ sym known.alone)));
          owners = each-set (Owners h.owner k h.turned) s.views id w (λ p. let o = h.owners id v at p in record { alone = o.alone; turned_is = o.turned_is; polls = polled v o.polls })
              (λ seat u other e p. let o = h.owners seat u e p in record { alone = o.alone; turned_is = o.turned_is; polls = polled u o.polls });
        },
        record { seat = refl; rises = above },
      )

  pub store_turned : (slots id k : ℕ) (me : Me S View) → me.0.may_turn ≡ true → k ≡ me.0.turned + 1 → Allows IsBox slots id me 1 (λ _. k) (λ _. StoredTurned me k)
  store_turned slots id k me may next s h _ at small =
      let v = me.0 in
      let known = h.owners id v at may in
      let last : v.turned ≡ h.turned = known.turned_is in
      let near : h.posted ≤ h.turned + 1 = h.at_most_one_ahead in
      let w : View = record v { turned = k } in
      let loaded : (u : View) → All (λ load. load ≤ h.turned) u.loads → All (λ load. load ≤ k) u.loads = λ u. All-weaker (λ x. x ≤ h.turned) (λ x. x ≤ k) (λ x le. omega (arith, last, next, le)) u.loads in (
        w,
        keeps,
        tt,
        record {
          poster = h.poster;
          owner = h.owner;
          posted = h.posted;
          turned = k;
          words_are = ap (λ ws. slice_set ws 1 k) h.words_are;
          at_most_one_ahead = omega (arith, last, near, next);
          posters = each-set (Posters h.poster h.posted k) s.views id w (λ p. let o = h.posters id v at p in record { alone = o.alone; posted_is = o.posted_is; loads = loaded v o.loads })
              (λ seat u other e p. let o = h.posters seat u e p in record { alone = o.alone; posted_is = o.posted_is; loads = loaded u o.loads });
          owners = each-set (Owners h.owner h.posted k) s.views id w (λ _. record { alone = known.alone; turned_is = refl; polls = known.polls }) (λ seat u other e p. absurd (other ((h.owners seat u e p).alone ∙ sym known.alone)));
        },
        record { seat = refl; rises = omega (arith, next) },
      )

  pub sides-Splits : (id : ℕ) (v : View) → v.may_post ≡ true → v.may_turn ≡ true → Splits {S = S} IsBox id v (poster_side v) (owner_side v)
  sides-Splits id v may_post may_turn s h at =
      let poster = h.posters id v at may_post in
      let owner = h.owners id v at may_turn in
      let views : List View = set s.views id (poster_side v) in
      let old_posters : Each (Posters h.poster h.posted h.turned) views = each-set (Posters h.poster h.posted h.turned) s.views id (poster_side v) (λ _. record { alone = poster.alone; posted_is = poster.posted_is; loads = poster.loads }) (λ seat u other e. h.posters seat u e) in
      let NoOwner : ℕ → View → Type 0 = λ seat u. u.may_turn ≢ true in
      let no_owner : Each NoOwner views = each-set NoOwner s.views id (poster_side v) (λ p. true≢false (sym p)) (λ seat u other e p. other ((h.owners seat u e p).alone ∙ sym owner.alone)) in
      record {
        poster = h.poster;
        owner = length views;
        posted = h.posted;
        turned = h.turned;
        words_are = h.words_are;
        at_most_one_ahead = h.at_most_one_ahead;
        posters = λ seat u e p. ⊎_elim (λ there. old_posters seat u there p) (λ (is : owner_side v ≡ u). absurd (true≢false (sym (ap (λ (y : View). y.may_post) is ∙ p)))) (at_snoc views (owner_side v) u seat e);
        owners = λ seat u e p. ⊎_elim (λ there. absurd (no_owner seat u there p))
            (λ (is : owner_side v ≡ u). record {
              alone = at_end views (owner_side v) u seat (λ there. no_owner seat u there p) e;
              turned_is = ap (λ (y : View). y.turned) (sym is) ∙ owner.turned_is;
              polls = subst (λ (y : View). All (λ poll. poll ≤ h.posted) y.polls) is owner.polls;
            }) (at_snoc views (owner_side v) u seat e);
      }
