-- The mask beside a worker's lanes out.
use Rattle.std.proofs.Common.{◌≡◌, ◌∙◌, ◌⊎◌, inl, inr, ℕ, zero, suc, ◌+◌, ◌<◌, ◌≤◌, ◌==◌, ◌||◌, nat_lt, List, [], ◌∷◌, Bool, true, false, cond, get_or, set, length, refl, sym, ap, subst, arith}
use Rattle.std.specs.Prelude.{◌↔◌, IsTrue}
use Rattle.std.specs.List.{list_any}
use Rattle.std.proofs.lemmas.Bool.Decides.{eqb_tells, nat_tests}
use Rattle.std.proofs.lemmas.List.{length-append, length-set, nil_from_length}
use Rattle.flow_dag.specs.Masks.{has}
use Rattle.flow_worker.specs.Endpoints.{Flushed, IsSteadyOut, sent_in_all, LaneOutIs, Reserved, SameButMemory, is_waiting}
use Rattle.flow_worker.specs.Masks.{AreMarked, FlushedAt, IsMarkOf, IsMaskWith, passes}
use Rattle.flow_worker.specs.Pairs.{EachOne, EachPair}
use Rattle.flow_worker.proofs.HandMasks.{each_set, passes_get, passes_set, passes_within}
use Rattle.flow_worker.proofs.MaskLemmas.{has_zero}
use Rattle.flow_worker.proofs.Pairs.{each_get, each_true, pairs_each, sum_grows, sum_moved}

no_item : (o : LaneOutIs) → o.waiting ≡ [] → is_waiting o ≡ false
no_item o e = let n : length o.waiting ≡ 0 = ap length e in grind (arith, nat_tests)

pub idle_item : (o : LaneOutIs) → is_waiting o ≡ false → o.waiting ≡ []
idle_item o e = nil_from_length o.waiting (go (length o.waiting) e)
  where
    go : (n : ℕ) → nat_lt 0 n ≡ false → n ≡ 0
    go zero e = refl
    go (suc n) e = absurd (let t : nat_lt 0 (suc n) ≡ true = grind (arith, nat_tests) in cc)

none_waits : (outs : List LaneOutIs) → EachOne (λ (o : LaneOutIs). o.waiting ≡ []) outs → (k : ℕ) → passes is_waiting outs k ≡ false
none_waits [] e k = refl
none_waits (o ∷ more) e zero = no_item o e.0
none_waits (o ∷ more) e (suc k) = none_waits more e.1 k

pub no_room : (outs : List LaneOutIs) → EachOne (λ (o : LaneOutIs). 0 ≤ o.memory) outs
no_room outs = each_true (λ (o : LaneOutIs). 0 ≤ o.memory) outs (λ o. omega arith)

pub new_marks : (outs : List LaneOutIs) → EachOne (λ (o : LaneOutIs). o.waiting ≡ []) outs → AreMarked 0 0 outs
new_marks outs e = record {
  waiting_is = λ k l w. let n = none_waits outs e k in absurd (cc);
  room_is = no_room outs;
}

none_any : {A : Type 0} (p : A → Bool) (xs : List A) → ((k : ℕ) → passes p xs k ≡ false) → list_any p xs ≡ false
none_any p [] h = refl
none_any p (x ∷ xs) h = let e : p x ≡ false = h 0 in rw (e, none_any p xs (λ k. h (suc k))) refl

pub unmarked : (mask : ℕ) (outs : List LaneOutIs) → mask ≡ 0 → length outs ≤ 128 → IsMarkOf mask outs → list_any is_waiting outs ≡ false
unmarked mask outs zero_is few is = none_any is_waiting outs (λ k. go k (passes is_waiting outs k) refl)
  where
    go : (k : ℕ) (b : Bool) → passes is_waiting outs k ≡ b → b ≡ false
    go k false e = refl
    go k true e =
        let l = passes_within is_waiting outs k e in
        let a : has mask k ≡ true = is k (omega (arith, l, few)) e in
        let b : has mask k ≡ false = ap (λ m. has m k) zero_is ∙ has_zero k in
        absurd (cc)

any_none : {A : Type 0} (p : A → Bool) (xs : List A) → list_any p xs ≡ false → EachOne (λ x. p x ≡ false) xs
any_none p [] e = tt
any_none p (x ∷ xs) e = let s = or_parts_false (p x) (list_any p xs) e in (s.0, any_none p xs s.1)
  where
    or_parts_false : (a b : Bool) → (a || b) ≡ false → (a ≡ false) × (b ≡ false)
    or_parts_false true b h = absurd (cc)
    or_parts_false false b h = (refl, h)

pub has_room : (more room mask : ℕ) (outs : List LaneOutIs) → more ≤ room → list_any is_waiting outs ≡ false → AreMarked mask room outs → EachPair (Reserved more) outs outs
has_room more room mask outs l e are = go outs (any_none is_waiting outs e) are.room_is
  where
    go : (xs : List LaneOutIs) → EachOne (λ (o : LaneOutIs). is_waiting o ≡ false) xs → EachOne (λ (o : LaneOutIs). room ≤ o.memory) xs → EachPair (Reserved more) xs xs
    go [] h r = tt
    go (o ∷ xs) h r =
        let n : length o.waiting ≡ 0 = ap length (idle_item o h.0) in
        let w = r.0 in
        ((refl, omega (arith, n, w, l)), go xs h.1 r.1)

-- ---- what pairs keep

kept_waits : (R : LaneOutIs → LaneOutIs → Type 0) (xs ys : List LaneOutIs) → ((a b : LaneOutIs) → R a b → is_waiting b ≡ is_waiting a) → EachPair R xs ys → (k : ℕ) → passes is_waiting ys k ≡ passes is_waiting xs k
kept_waits R [] [] h p k = refl
kept_waits R [] (y ∷ ys) h p k = absurd p
kept_waits R (x ∷ xs) [] h p k = absurd p
kept_waits R (x ∷ xs) (y ∷ ys) h p zero = h x y p.0
kept_waits R (x ∷ xs) (y ∷ ys) h p (suc k) = kept_waits R xs ys h p.1 k

pub reserved_marks : (more mask : ℕ) (xs ys : List LaneOutIs) → EachPair (Reserved more) xs ys → IsMarkOf mask xs → AreMarked mask more ys
reserved_marks more mask xs ys p is = record {
  waiting_is = λ k l w. is k l (sym (kept_waits (Reserved more) xs ys (λ a b r. ap is_waiting r.0) p k) ∙ w);
  room_is = pairs_each (Reserved more) (λ o. ◌≡◌ {A = ℕ} 0 0) (λ (o : LaneOutIs). more ≤ o.memory) xs ys (λ a b r h. let w = r.1 in omega (arith, w)) p (each_true (λ o. ◌≡◌ {A = ℕ} 0 0) xs (λ x. refl));
}

pub starved_marks : (mask : ℕ) (xs ys : List LaneOutIs) → EachPair SameButMemory xs ys → IsMarkOf mask xs → AreMarked mask 0 ys
starved_marks mask xs ys p is = record {
  waiting_is = λ k l w. is k l (sym (kept_waits SameButMemory xs ys (λ a b r. ap is_waiting r) p k) ∙ w);
  room_is = no_room ys;
}

pub all_marks : (mask : ℕ) (xs : List LaneOutIs) → ((k : ℕ) → k < 128 → k < length xs → has mask k ≡ true) → AreMarked mask 0 xs
all_marks mask xs is = record {
  waiting_is = λ k l w. is k l (passes_within is_waiting xs k w);
  room_is = no_room xs;
}

-- ---- one lane

-- nothing waits where nothing did
still_waits : (a b : LaneOutIs) → Flushed a b → is_waiting b ≡ true → is_waiting a ≡ true
still_waits a b f w = go (is_waiting a) refl
  where
    go : (c : Bool) → is_waiting a ≡ c → c ≡ true
    go true e = refl
    go false e =
        let none : a.waiting ≡ [] = idle_item a e in
        let long : length b.sent + length b.waiting ≡ length a.sent + length a.waiting = sym (length-append b.sent b.waiting) ∙ (ap length f.planned_is ∙ length-append a.sent a.waiting) in
        let grew = f.grew in
        let n : length a.waiting ≡ 0 = ap length none in
        let m : length b.waiting ≡ 0 = omega (arith, long, grew, n) in
        let x : is_waiting b ≡ false = no_item b (nil_from_length b.waiting m) in
        absurd (cc)

set_marks : (mask after room place : ℕ) (outs : List LaneOutIs) (z d : LaneOutIs) → place < length outs → room ≤ z.memory → ((k : ℕ) → (k ≡ place → ⊥) → has mask k ≡ true → has after k ≡ true) → (place < 128 → is_waiting z ≡ true → has after place ≡ true) → AreMarked mask room outs → AreMarked after room (set outs place z)
set_marks mask after room place outs z d l mem others at are = record {
  waiting_is = λ k few w. go k few (eqb_tells k place) (sym (passes_set is_waiting outs place k z l) ∙ w);
  room_is = each_set (λ (o : LaneOutIs). room ≤ o.memory) outs place z are.room_is mem;
}
  where
    go : (k : ℕ) → k < 128 → ((k == place) ≡ true) × (k ≡ place) ⊎ ((k == place) ≡ false) × (k ≡ place → ⊥) → cond (k == place) (is_waiting z) (passes is_waiting outs k) ≡ true → has after k ≡ true
    go k few (inl s) w = subst (λ j. has after j ≡ true) (sym s.1) (at (subst (λ j. j < 128) s.1 few) (sym (ap (λ b. cond b (is_waiting z) (passes is_waiting outs k)) s.0) ∙ w))
    go k few (inr s) w = others k s.1 (are.waiting_is k few (sym (ap (λ b. cond b (is_waiting z) (passes is_waiting outs k)) s.0) ∙ w))

other_place : (place k : ℕ) (b : Bool) (before after : ℕ) → IsMaskWith place b before after → (k ≡ place → ⊥) → has before k ≡ true → has after k ≡ true
other_place place k b before after with_ ne e = go (eqb_tells k place)
  where
    go : ((k == place) ≡ true) × (k ≡ place) ⊎ ((k == place) ≡ false) × (k ≡ place → ⊥) → has after k ≡ true
    go (inl s) = absurd (ne s.1)
    go (inr s) = with_ k ∙ (ap (λ c. cond c b (has before k)) s.0 ∙ e)

this_place : (place : ℕ) (before after : ℕ) → IsMaskWith place true before after → has after place ≡ true
this_place place before after with_ = go (eqb_tells place place)
  where
    go : ((place == place) ≡ true) × (place ≡ place) ⊎ ((place == place) ≡ false) × (place ≡ place → ⊥) → has after place ≡ true
    go (inl s) = with_ place ∙ ap (λ c. cond c true (has before place)) s.0
    go (inr s) = absurd (s.1 refl)

pub flushed_marks : (mask room place : ℕ) (outs : List LaneOutIs) (z d : LaneOutIs) → place < length outs → Flushed (get_or outs place d) z → z.memory ≡ (get_or outs place d).memory → AreMarked mask room outs → AreMarked mask room (set outs place z)
flushed_marks mask room place outs z d l f mem are =
    set_marks mask mask room place outs z d l (room_at mem) (λ k ne e. e) (λ few w. are.waiting_is place few (passes_get is_waiting outs place d l ∙ still_waits (get_or outs place d) z f w)) are
  where
    room_at : z.memory ≡ (get_or outs place d).memory → room ≤ z.memory
    room_at e = let r = each_get (λ (o : LaneOutIs). room ≤ o.memory) outs place d are.room_is l in omega (arith, r, e)

pub cleared_marks : (mask after room place : ℕ) (outs : List LaneOutIs) (z d : LaneOutIs) → place < length outs → is_waiting z ≡ false → z.memory ≡ (get_or outs place d).memory → IsMaskWith place false mask after → AreMarked mask room outs → AreMarked after room (set outs place z)
cleared_marks mask after room place outs z d l idle mem with_ are =
    set_marks mask after room place outs z d l (let r = each_get (λ (o : LaneOutIs). room ≤ o.memory) outs place d are.room_is l in omega (arith, r, mem)) (λ k ne e. other_place place k false mask after with_ ne e) (λ few w. absurd (cc)) are

pub pushed_marks : (mask after room place : ℕ) (outs : List LaneOutIs) (z d : LaneOutIs) → place < length outs → z.memory ≡ (get_or outs place d).memory → IsMaskWith place true mask after → AreMarked mask room outs → AreMarked after room (set outs place z)
pushed_marks mask after room place outs z d l mem with_ are =
    set_marks mask after room place outs z d l (let r = each_get (λ (o : LaneOutIs). room ≤ o.memory) outs place d are.room_is l in omega (arith, r, mem)) (λ k ne e. other_place place k true mask after with_ ne e) (λ few w. this_place place mask after with_) are

pub one_marked : (mask room place : ℕ) (outs : List LaneOutIs) (z d : LaneOutIs) → length outs ≡ 1 → place < length outs → z.memory ≡ (get_or outs place d).memory → AreMarked mask room outs → AreMarked 1 room (set outs place z)
one_marked mask room place outs z d one l mem are = record {
  waiting_is = λ k few w. first k (let p = passes_within is_waiting (set outs place z) k w in let n = length-set outs place z in omega (arith, p, n, one));
  room_is = each_set (λ (o : LaneOutIs). room ≤ o.memory) outs place z are.room_is (let r = each_get (λ (o : LaneOutIs). room ≤ o.memory) outs place d are.room_is l in omega (arith, r, mem));
}
  where
    first : (k : ℕ) → k ≡ 0 → has 1 k ≡ true
    first k e = subst (λ j. has 1 j ≡ true) (sym e) refl

pub far_marks : (mask room place : ℕ) (outs : List LaneOutIs) (z d : LaneOutIs) → place < length outs → (place < 128 → ⊥) → z.memory ≡ (get_or outs place d).memory → AreMarked mask room outs → AreMarked mask room (set outs place z)
far_marks mask room place outs z d l far mem are =
    set_marks mask mask room place outs z d l (let r = each_get (λ (o : LaneOutIs). room ≤ o.memory) outs place d are.room_is l in omega (arith, r, mem)) (λ k ne e. e) (λ few w. absurd (far few)) are

-- ---- the loop

pub first_flushed : (mask : ℕ) (outs : List LaneOutIs) → length outs ≤ 128 → IsMarkOf mask outs → (k : ℕ) (d : LaneOutIs) → k < length outs → has mask k ≡ false → Flushed (get_or outs k d) (get_or outs k d)
first_flushed mask outs few is k d l e = still (get_or outs k d) (go (is_waiting (get_or outs k d)) refl)
  where
    go : (b : Bool) → is_waiting (get_or outs k d) ≡ b → b ≡ false
    go false q = refl
    go true q = let h : has mask k ≡ true = is k (omega (arith, l, few)) (passes_get is_waiting outs k d l ∙ q) in absurd (cc)

    still : (o : LaneOutIs) → is_waiting o ≡ false → Flushed o o
    still o idle = record {
      same = (refl, refl, refl, refl);
      planned_is = refl;
      grew = omega arith;
      full = inl (idle_item o idle);
    }

pub steady_set : (outs : List LaneOutIs) (place : ℕ) (z : LaneOutIs) → place < length outs → Flushed (get_or outs place z) z → EachOne IsSteadyOut outs → EachOne IsSteadyOut (set outs place z)
steady_set outs place z l f e =
    each_set IsSteadyOut outs place z e (go (get_or outs place z) f (each_get IsSteadyOut outs place z e l))
  where
    go : (a : LaneOutIs) → Flushed a z → IsSteadyOut a → IsSteadyOut z
    go a f h = rw (f.same.2, f.planned_is) h

pub moved_at : (outs items : List LaneOutIs) (place : ℕ) (d lane z : LaneOutIs) (moved : Bool) → items ≡ outs → place < length items → lane ≡ get_or items place d → (IsTrue moved ↔ (length lane.sent < length z.sent))
    → IsTrue moved ↔ (sent_in_all outs < sent_in_all (set items place z))
moved_at outs items place d lane z moved same l at h =
    subst (λ (xs : List LaneOutIs). IsTrue moved ↔ (sent_in_all xs < sent_in_all (set items place z))) same
    (sum_moved (λ (o : LaneOutIs). length o.sent) items place d z moved l (subst (λ (o : LaneOutIs). IsTrue moved ↔ (length o.sent < length z.sent)) at h))

pub flushed_grows : (place : ℕ) (xs ys : List LaneOutIs) → FlushedAt place xs ys → place < length xs → sent_in_all xs ≤ sent_in_all ys
flushed_grows place xs ys f l = rw f.set_is (sum_grows (λ (o : LaneOutIs). length o.sent) xs place f.at f.at l f.flushed.grew)
