-- An end at its place among the others.
use Rattle.std.proofs.Common.{◌≡◌, ℕ, List, [], ◌∷◌, ◌++◌, ◌<◌, refl, sym, subst, ap, ◌∙◌, length, map, set, get_or, Some, slice_get}
use Rattle.std.specs.Prelude.{Result, Ok, Err, OnOk, IfErr}
use Rattle.std.specs.Option.{option_map}
use Rattle.std.proofs.lemmas.Option.{slice_get_read, slice_get-map}
use Rattle.std.proofs.lemmas.List.{map-set, length-map}
use Rattle.lane_core.specs.Lane.{EndpointIs, HasStalled, after_item}
use Rattle.tuple_trace.specs.Counts.{Rose}
use Rattle.tuple_trace.specs.declared.tuple.Item.{Item}

pub on_ok : {A E : Type 0} (P Q : Type 0) (r : Result A E) → OnOk r P → (P → Q) → OnOk r Q
on_ok P Q (Ok x) p f = f p
on_ok P Q (Err x) p f = tt

pub on_err : {A E : Type 0} (P Q : E → Type 0) (r : Result A E) → IfErr r P → ((x : E) → P x → Q x) → IfErr r Q
on_err P Q (Ok x) p f = tt
on_err P Q (Err x) p f = f x p

module _ {T : Type 0} (state : T → EndpointIs) where
  pub here : (xs : List T) (k : ℕ) (t : T) (now : List EndpointIs) → map state xs ≡ now → k < length now → t ≡ get_or xs k t → slice_get now k ≡ Some (state t)
  here xs k t now e lt r =
      let within : k < length xs = subst (λ n. k < n) (length-map xs state) (subst (λ (l : List EndpointIs). k < length l) (sym e) lt) in
      subst (λ l. slice_get l k ≡ Some (state t)) e (slice_get-map state xs k ∙ ap (option_map state) (slice_get_read xs (length xs) k t refl within r))

  changed : (xs : List T) (k : ℕ) (t : T) (now : List EndpointIs) (o : EndpointIs) → map state xs ≡ now → state t ≡ o → map state (set xs k t) ≡ set now k o
  changed xs k t now o e p = map-set state xs k t ∙ (ap (λ l. set l k (state t)) e ∙ ap (set now k) p)

  pub put_ok : (xs : List T) (k : ℕ) (t u : T) (now : List EndpointIs) (item : Item) → map state xs ≡ now → k < length now → u ≡ get_or xs k u → state t ≡ after_item item (state u) →
      (o : EndpointIs) × (slice_get now k ≡ Some o) × (map state (set xs k t) ≡ set now k (after_item item o))
  put_ok xs k t u now item e lt r p = (state u, here xs k u now e lt r, changed xs k t now (after_item item (state u)) e p)

  pub put_full : (xs : List T) (k : ℕ) (t u : T) (now : List EndpointIs) → map state xs ≡ now → k < length now → u ≡ get_or xs k u → HasStalled (state u) (state t) →
      (o : EndpointIs) × (n : ℕ) × (slice_get now k ≡ Some o) × (map state (set xs k t) ≡ set now k (record o { stalls = n })) × Rose o.stalls n
  put_full xs k t u now e lt r p = (state u, (state t).stalls, here xs k u now e lt r, changed xs k t now (record (state u) { stalls = (state t).stalls }) e p.0, p.1)
