-- Memory first, then the items.
use Rattle.std.proofs.Common.{◌≡◌, ℕ, ◌+◌, ◌≤◌, List, [], ◌∷◌, ◌++◌, length, refl, sym, ap, subst, ◌∙◌}
use Rattle.tuple_trace.specs.declared.tuple.Item.{Item}
use Rattle.flow_worker.specs.Pairs.{EachOne, EachPair}
use Rattle.flow_worker.specs.Endpoints.{Appended, Gains, LaneOutIs, Reserved}
use Rattle.flow_worker.proofs.Pairs.{pairs_then, pairs_each, each_true}

pub gains : (f : LaneOutIs → List Item) (more : ℕ) (xs ys zs : List LaneOutIs) → ((a : LaneOutIs) (m : ℕ) → f (record a { memory = m }) ≡ f a) →
    EachPair (Reserved more) xs ys → EachPair (Appended f) ys zs → EachPair (Gains f) xs zs
gains f more xs ys zs same r q = pairs_then (Reserved more) (Appended f) (Gains f) xs ys zs one r q
  where
    go : (a : LaneOutIs) (m : ℕ) (c : LaneOutIs) → c ≡ record (record a { memory = m }) { waiting = a.waiting ++ f (record a { memory = m }) } → Gains f a c
    go a m c h =
        let k : c.memory ≡ m = ap (λ (o : LaneOutIs). o.memory) h in
        h ∙ (ap (λ items. record a { waiting = a.waiting ++ items; memory = m }) (same a m) ∙ ap (λ n. record a { waiting = a.waiting ++ f a; memory = n }) (sym k))

    one : (a b c : LaneOutIs) → Reserved more a b → Appended f b c → Gains f a c
    one a b c r q = go a b.memory c (q ∙ ap (λ (o : LaneOutIs). record o { waiting = o.waiting ++ f o }) r.0)

pub room : (more : ℕ) (xs ys : List LaneOutIs) → EachPair (Reserved more) xs ys → EachOne (λ (o : LaneOutIs). length o.waiting + more ≤ o.memory) ys
room more xs ys r = pairs_each (Reserved more) (λ o. ◌≡◌ {A = ℕ} 0 0) (λ o. length o.waiting + more ≤ o.memory) xs ys (λ x y r h. r.1) r (each_true (λ o. ◌≡◌ {A = ℕ} 0 0) xs (λ x. refl))

-- the same items by another name
pub appended_by : (f h : LaneOutIs → List Item) (xs ys : List LaneOutIs) → ((a : LaneOutIs) → f a ≡ h a) → EachPair (Appended f) xs ys → EachPair (Appended h) xs ys
appended_by f h [] [] same p = tt
appended_by f h [] (y ∷ ys) same p = absurd p
appended_by f h (x ∷ xs) [] same p = absurd p
appended_by f h (x ∷ xs) (y ∷ ys) same p = (subst (λ items. y ≡ record x { waiting = x.waiting ++ items }) (same x) p.0, appended_by f h xs ys same p.1)
