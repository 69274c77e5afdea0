-- The boxes, one after another.
use Rattle.std.proofs.Common.{◌≡◌, ◌≢◌, ◌⊎◌, ◌∙◌, ◌↔◌, ◌+◌, ◌<◌, ◌≤◌, ℕ, zero, suc, List, [], ◌∷◌, ◌++◌, inl, inr, refl, sym, subst, ap, true, false, Bool, cond, arith, length, set, IsTrue, Option, Some, None, slice_get}
use Rattle.std.specs.Prelude.{option_map}
use Rattle.std.proofs.lemmas.Bool.{cases_lt}
use Rattle.std.proofs.lemmas.List.Quantifiers.{Any-push}
use Rattle.std.proofs.lemmas.Option.{same_Some, slice_get_within}
use Rattle.std.proofs.Math.Logic.{∥∥₁_elim}
use Rattle.std.proofs.Math.Bool.{Bool-set}
use Rattle.control_box.specs.Endpoints.{HasShownReady, PosterIs}
use Rattle.flow_model.specs.Covers.{covers, is_head}
use Rattle.flow_model.specs.SetupView.{SetupView, Worker}
use Rattle.flow_model.specs.Planned.{IsPlanned}
use Rattle.flow_model.specs.Workers.{workers_in}
use Rattle.flow_model.proofs.PlannedLemmas.{heads_covered}
use Rattle.coordinator.specs.Boxes.{AreCountedWith, ArePosted, AreReady, IsUnready, LastAtLeast, MayPost, SameBoxes, SameLoads, SamePosts}
use Rattle.coordinator.specs.Numbers.{covered_to, node_at, node_in, covering_count, posted_number}
use Rattle.coordinator.proofs.ListLemmas.{Pairs, also_there, get_set_other, get_set_same, here_or_not, pairs_map, pairs_set}

-- ---- numbers

pub covers_here : (setup : SetupView) (w request : ℕ) (b : Bool) → option_map (λ (post : Worker). covers setup request post.node) (slice_get (workers_in setup.job) w) ≡ Some b → covers setup request (node_at setup w) ≡ b
covers_here setup w request b = go (slice_get (workers_in setup.job) w)
  where
    go : (o : Option Worker) → option_map (λ (post : Worker). covers setup request post.node) o ≡ Some b → covers setup request (node_in o) ≡ b
    go None e = absurd (cc)
    go (Some post) e = same_Some (covers setup request post.node) b e

pub heads_here : (setup : SetupView) (w request : ℕ) (b : Bool) → option_map (λ (post : Worker). is_head setup request post.node) (slice_get (workers_in setup.job) w) ≡ Some b → is_head setup request (node_at setup w) ≡ b
heads_here setup w request b = go (slice_get (workers_in setup.job) w)
  where
    go : (o : Option Worker) → option_map (λ (post : Worker). is_head setup request post.node) o ≡ Some b → is_head setup request (node_in o) ≡ b
    go None e = absurd (cc)
    go (Some post) e = same_Some (is_head setup request post.node) b e

pub covered_rises : (setup : SetupView) (node r : ℕ) → covered_to setup node r ≤ covered_to setup node (suc r)
covered_rises setup node r = go (covers setup (suc r) node)
  where
    go : (b : Bool) → covered_to setup node r ≤ cond b (suc (covered_to setup node r)) (covered_to setup node r)
    go true = omega arith
    go false = omega arith

pub covered_grows : (setup : SetupView) (node a b : ℕ) → a ≤ b → covered_to setup node a ≤ covered_to setup node b
covered_grows setup node a zero le = let e : a ≡ 0 = omega (arith, le) in subst (λ n. covered_to setup node a ≤ covered_to setup node n) e (omega arith)
covered_grows setup node a (suc b) le = elim (cases_lt b a) [
  | inl lt ↦ (let e : a ≡ suc b = omega (arith, le, lt) in subst (λ n. covered_to setup node a ≤ covered_to setup node n) e (omega arith))
  | inr ge ↦ (let r = covered_grows setup node a b ge in let s = covered_rises setup node b in omega (arith, r, s))
]

-- the numbers go on by one where a worker is covered
pub number_covered : (setup : SetupView) (from w r n : ℕ) → from ≤ r → covers setup (suc r) (node_at setup w) ≡ true → n ≡ covering_count setup from w r → n + 1 ≡ covering_count setup from w (suc r)
number_covered setup from w r n le e is =
    let grows = covered_grows setup (node_at setup w) from r le in
    let next : covered_to setup (node_at setup w) (suc r) ≡ suc (covered_to setup (node_at setup w) r) =
    ap (λ b. cond b (suc (covered_to setup (node_at setup w) r)) (covered_to setup (node_at setup w) r)) e in
    omega (arith, grows, next, is)

pub number_uncovered : (setup : SetupView) (from w r n : ℕ) → covers setup (suc r) (node_at setup w) ≡ false → n ≡ covering_count setup from w r → n ≡ covering_count setup from w (suc r)
number_uncovered setup from w r n e is =
    let next : covered_to setup (node_at setup w) (suc r) ≡ covered_to setup (node_at setup w) r =
    ap (λ b. cond b (suc (covered_to setup (node_at setup w) r)) (covered_to setup (node_at setup w) r)) e in
    omega (arith, next, is)

pub number_grows : (setup : SetupView) (from w r : ℕ) → covering_count setup from w r ≤ covering_count setup from w (suc r)
number_grows setup from w r = let s = covered_rises setup (node_at setup w) r in omega (arith, s)

-- ---- the last post

-- a request that was turned before the beginning has no number
pub none_posted : (setup : SetupView) (turned w r : ℕ) → r ≤ turned → posted_number setup turned w r ≡ 0
none_posted setup turned w zero le = refl
none_posted setup turned w (suc r) le = go (is_head setup (suc r) (node_at setup w)) (none_posted setup turned w r (omega (arith, le)))
  where
    go : (b : Bool) → posted_number setup turned w r ≡ 0 → cond b (covering_count setup turned w (suc r)) (posted_number setup turned w r) ≡ 0
    go true h = let grows = covered_grows setup (node_at setup w) (suc r) turned le in omega (arith, grows)
    go false h = h

pub posted_within : (setup : SetupView) (turned w r : ℕ) → posted_number setup turned w r ≤ covering_count setup turned w r
posted_within setup turned w zero = omega arith
posted_within setup turned w (suc r) = go (is_head setup (suc r) (node_at setup w)) (posted_within setup turned w r)
  where
    go : (b : Bool) → posted_number setup turned w r ≤ covering_count setup turned w r → cond b (covering_count setup turned w (suc r)) (posted_number setup turned w r) ≤ covering_count setup turned w (suc r)
    go true h = omega arith
    go false h = let grows = number_grows setup turned w r in omega (arith, h, grows)

-- ---- heads

pub head_covered : (setup : SetupView) → ∥ IsPlanned setup ∥₁ → (r node : ℕ) → is_head setup r node ≡ true → covers setup r node ≡ true
head_covered setup planned r node h = ∥∥₁_elim planned (Bool-set _ _) (λ is. heads_covered setup is r node h)

covered_within : (setup : SetupView) (node r : ℕ) → covered_to setup node r ≤ r
covered_within setup node zero = omega arith
covered_within setup node (suc r) = go (covers setup (suc r) node) (covered_within setup node r)
  where
    go : (b : Bool) → covered_to setup node r ≤ r → cond b (suc (covered_to setup node r)) (covered_to setup node r) ≤ suc r
    go true h = omega (arith, h)
    go false h = omega (arith, h)

pub number_within : (setup : SetupView) (from w r : ℕ) → covering_count setup from w r ≤ r
number_within setup from w r = let h = covered_within setup (node_at setup w) r in omega (arith, h)

-- ---- asking

-- the first k boxes were asked, or had shown that they are ready, and the others are as they were
abbrev pub AskedAt : ℕ → ℕ → PosterIs → PosterIs → Type 0
AskedAt k i p q = (q.within ≡ p.within) × (q.posted ≡ p.posted) × (k ≤ i → q ≡ p)

abbrev pub Asked : ℕ → List PosterIs → List PosterIs → Type 0
Asked k old now = Pairs (AskedAt k) old now

pub asked_none : (k : ℕ) (old : List PosterIs) → Asked k old old
asked_none k old = (refl, λ i p q a b. let e : q ≡ p = same_Some q p (sym b ∙ a) in (ap (λ z. z.within) e, ap (λ z. z.posted) e, (λ le. e)))

pub ask_next : (k : ℕ) (old now : List PosterIs) (x y : PosterIs) → Asked k old now → slice_get now k ≡ Some x → y.within ≡ x.within → y.posted ≡ x.posted → Asked (k + 1) old (set now k y)
ask_next k old now x y h g w e =
    pairs_set (AskedAt k) (AskedAt (k + 1)) old now k x y h g
    (λ i p q n a r. (r.0, r.1, (λ le. r.2 (omega (arith, le)))))
    (λ p a r. (w ∙ r.0, e ∙ r.1, (λ le. absurd (omega (arith, le)))))

-- a box of a later place changes
pub ready_kept : (covered : List ℕ) (k : ℕ) (now : List PosterIs) (y : PosterIs) → AreReady covered k now → AreReady covered k (set now k y)
ready_kept covered k now y h = λ w n p lt c g. h w n p lt c (sym (get_set_other now k w y (λ e. absurd (omega (arith, e, lt)))) ∙ g)

pub ready_next : (covered : List ℕ) (k n t : ℕ) (now : List PosterIs) (x y : PosterIs) → AreReady covered k now → slice_get now k ≡ Some x → slice_get covered k ≡ Some n → y.loads ≡ x.loads ++ t ∷ [] → n ≤ t
    → AreReady covered (k + 1) (set now k y)
ready_next covered k n t now x y h g c l le = λ w m p lt d a. go w m p lt d a (here_or_not k w)
  where
    go : (w m : ℕ) (p : PosterIs) → w < k + 1 → slice_get covered w ≡ Some m → slice_get (set now k y) w ≡ Some p → (k ≡ w) ⊎ (k ≢ w) → LastAtLeast m p.loads
    go w m p lt d a (inl e) =
        let a' : slice_get (set now k y) k ≡ Some p = subst (λ j. slice_get (set now k y) j ≡ Some p) (sym e) a in
        let d' : slice_get covered k ≡ Some m = subst (λ j. slice_get covered j ≡ Some m) (sym e) d in
        let same : y ≡ p = same_Some y p (sym (get_set_same now k x y g) ∙ a') in
        let number : n ≡ m = same_Some n m (sym c ∙ d') in
        subst (λ z. LastAtLeast m z.loads) same (x.loads, t, l, omega (arith, number, le))
    go w m p lt d a (inr ne) = h w m p (omega (arith, lt, ne)) d (sym (get_set_other now k w y ne) ∙ a)

pub asked_boxes : (k : ℕ) (old now : List PosterIs) → Asked k old now → SameBoxes old now
asked_boxes k old now h = (h.0, λ w p q a b. (h.1 w p q a b).0)

pub asked_posts : (k : ℕ) (old now : List PosterIs) → Asked k old now → SamePosts old now
asked_posts k old now h = λ w p q a b. (h.1 w p q a b).1

pub ask_stops : (covered : List ℕ) (k n t : ℕ) (old now : List PosterIs) (x y : PosterIs) → Asked k old now → slice_get now k ≡ Some x → slice_get covered k ≡ Some n → y.loads ≡ x.loads ++ t ∷ [] → t < n
    → IsUnready covered k old (set now k y)
ask_stops covered k n t old now x y h g c l lt =
    let r = also_there now old k (sym h.0) (slice_get_within now k x g) in
    let p : PosterIs = r.0 in
    let a : slice_get old k ≡ Some p = r.1 in
    let same : x ≡ p = (h.1 k p x a g).2 (omega arith) in
    (n, p, y, c, a, get_set_same now k x y g, (t, l ∙ ap (λ z. z.loads ++ t ∷ []) same, lt))

pub loaded_ready : (k c n : ℕ) (answer : Bool) → (IsTrue answer ↔ (k ≤ n + 1)) → k ≡ c + 1 → answer ≡ true → c ≤ n
loaded_ready k c n answer is e t = let le = is.0 t in omega (arith, le, e)

pub loaded_below : (k c n : ℕ) (answer : Bool) → (IsTrue answer ↔ (k ≤ n + 1)) → k ≡ c + 1 → answer ≡ false → n < c
loaded_below k c n answer is e t = go (cases_lt (n + 1) k)
  where
    go : (n + 1 < k) ⊎ (k ≤ n + 1) → n < c
    go (inl lt) = omega (arith, lt, e)
    go (inr le) = let t' : answer ≡ true = is.1 le in absurd (cc)

pub shown_ready : (n : ℕ) (loads : List ℕ) → LastAtLeast n loads → HasShownReady (n + 1) loads
shown_ready n loads (earlier, load, e, le) =
    subst (HasShownReady (n + 1)) (sym e) (Any-push (λ turned. n + 1 ≤ turned + 1) earlier load (omega (arith, le)))

-- ---- counting

abbrev pub CountedAt : SetupView → ℕ → ℕ → ℕ → ℕ → ℕ → Type 0
CountedAt setup request k i m n = (i < k → n ≡ cond (covers setup request (node_at setup i)) (m + 1) m) × (k ≤ i → n ≡ m)

abbrev pub Counted : SetupView → ℕ → ℕ → List ℕ → List ℕ → Type 0
Counted setup request k old now = Pairs (CountedAt setup request k) old now

pub counted_none : (setup : SetupView) (request : ℕ) (old : List ℕ) → Counted setup request 0 old old
counted_none setup request old = (refl, λ i m n a b. ((λ lt. absurd (omega (arith, lt))), (λ le. same_Some n m (sym b ∙ a))))

pub count_skips : (setup : SetupView) (request k : ℕ) (old now : List ℕ) → Counted setup request k old now → covers setup request (node_at setup k) ≡ false → Counted setup request (k + 1) old now
count_skips setup request k old now h e =
    pairs_map (CountedAt setup request k) (CountedAt setup request (k + 1)) old now h (λ i m n r. ((λ lt. go i m n r lt (here_or_not k i)), (λ le. r.1 (omega (arith, le)))))
  where
    go : (i m n : ℕ) → CountedAt setup request k i m n → i < k + 1 → (k ≡ i) ⊎ (k ≢ i) → n ≡ cond (covers setup request (node_at setup i)) (m + 1) m
    go i m n r lt (inl s) =
        let f : covers setup request (node_at setup i) ≡ false = subst (λ j. covers setup request (node_at setup j) ≡ false) s e in
        rw f (r.1 (omega (arith, s)))
    go i m n r lt (inr ne) = r.0 (omega (arith, lt, ne))

pub count_next : (setup : SetupView) (request k : ℕ) (old now : List ℕ) (x y : ℕ) → Counted setup request k old now → slice_get now k ≡ Some x → covers setup request (node_at setup k) ≡ true → y ≡ x + 1
    → Counted setup request (k + 1) old (set now k y)
count_next setup request k old now x y h g e s =
    pairs_set (CountedAt setup request k) (CountedAt setup request (k + 1)) old now k x y h g
    (λ i m n ne a r. ((λ lt. r.0 (omega (arith, lt, ne))), (λ le. r.1 (omega (arith, le)))))
    (λ m a r. ((λ lt. rw e (s ∙ ap (λ z. z + 1) (r.1 (omega arith)))), (λ le. absurd (omega (arith, le)))))

pub uncounted : (setup : SetupView) (request k : ℕ) (old now : List ℕ) (x : ℕ) → Counted setup request k old now → slice_get now k ≡ Some x → slice_get old k ≡ Some x
uncounted setup request k old now x h g =
    let r = also_there now old k (sym h.0) (slice_get_within now k x g) in
    let same : x ≡ r.0 = (h.1 k r.0 x r.1 g).1 (omega arith) in
    r.1 ∙ ap Some (sym same)

pub counted_all : (setup : SetupView) (request k : ℕ) (old now : List ℕ) → Counted setup request k old now → length old ≤ k → AreCountedWith setup request old now
counted_all setup request k old now h e = (h.0, λ w m n a b. let lt = slice_get_within old w m a in (h.1 w m n a b).0 (omega (arith, lt, e)))

-- ---- posting

abbrev pub PostedAt : SetupView → ℕ → List ℕ → ℕ → ℕ → PosterIs → PosterIs → Type 0
PostedAt setup request covered k i p q =
    (q.within ≡ p.within) × (q.loads ≡ p.loads)
    × (i < k → (n : ℕ) → slice_get covered i ≡ Some n → q.posted ≡ cond (is_head setup request (node_at setup i)) n p.posted) × (k ≤ i → q ≡ p)

abbrev pub Posted : SetupView → ℕ → List ℕ → ℕ → List PosterIs → List PosterIs → Type 0
Posted setup request covered k old now = Pairs (PostedAt setup request covered k) old now

pub posted_none : (setup : SetupView) (request : ℕ) (covered : List ℕ) (old : List PosterIs) → Posted setup request covered 0 old old
posted_none setup request covered old = (refl, λ i p q a b. let e : q ≡ p = same_Some q p (sym b ∙ a) in (ap (λ z. z.within) e, ap (λ z. z.loads) e, (λ lt. absurd (omega (arith, lt))), (λ le. e)))

-- a worker that isn't of a head
pub post_skips : (setup : SetupView) (request : ℕ) (covered : List ℕ) (k : ℕ) (old now : List PosterIs) → Posted setup request covered k old now → is_head setup request (node_at setup k) ≡ false → Posted setup request covered (k + 1) old now
post_skips setup request covered k old now h e =
    pairs_map (PostedAt setup request covered k) (PostedAt setup request covered (k + 1)) old now h
    (λ i p q r. (r.0, r.1, (λ lt n c. go i p q r lt n c (here_or_not k i)), (λ le. r.3 (omega (arith, le)))))
  where
    go : (i : ℕ) (p q : PosterIs) → PostedAt setup request covered k i p q → i < k + 1 → (n : ℕ) → slice_get covered i ≡ Some n → (k ≡ i) ⊎ (k ≢ i) → q.posted ≡ cond (is_head setup request (node_at setup i)) n p.posted
    go i p q r lt n c (inl s) =
        let f : is_head setup request (node_at setup i) ≡ false = subst (λ j. is_head setup request (node_at setup j) ≡ false) s e in
        rw f (ap (λ z. z.posted) (r.3 (omega (arith, s))))
    go i p q r lt n c (inr ne) = r.2 (omega (arith, lt, ne)) n c

pub post_next : (setup : SetupView) (request : ℕ) (covered : List ℕ) (k m : ℕ) (old now : List PosterIs) (x y : PosterIs) → Posted setup request covered k old now → slice_get now k ≡ Some x → slice_get covered k ≡ Some m
    → is_head setup request (node_at setup k) ≡ true → y.within ≡ x.within → y.loads ≡ x.loads → y.posted ≡ m → Posted setup request covered (k + 1) old (set now k y)
post_next setup request covered k m old now x y h g c e w l t =
    pairs_set (PostedAt setup request covered k) (PostedAt setup request covered (k + 1)) old now k x y h g
    (λ i p q ne a r. (r.0, r.1, (λ lt n d. r.2 (omega (arith, lt, ne)) n d), (λ le. r.3 (omega (arith, le)))))
    (λ p a r. (w ∙ r.0, l ∙ r.1, (λ lt n d. rw e (t ∙ same_Some m n (sym c ∙ d))), (λ le. absurd (omega (arith, le)))))

pub unposted : (setup : SetupView) (request : ℕ) (covered : List ℕ) (k : ℕ) (old now : List PosterIs) (x : PosterIs) → Posted setup request covered k old now → slice_get now k ≡ Some x → slice_get old k ≡ Some x
unposted setup request covered k old now x h g =
    let r = also_there now old k (sym h.0) (slice_get_within now k x g) in
    let same : x ≡ r.0 = (h.1 k r.0 x r.1 g).3 (omega arith) in
    r.1 ∙ ap Some (sym same)

pub posted_boxes : (setup : SetupView) (request : ℕ) (covered : List ℕ) (k : ℕ) (old now : List PosterIs) → Posted setup request covered k old now → SameBoxes old now
posted_boxes setup request covered k old now h = (h.0, λ w p q a b. (h.1 w p q a b).0)

pub posted_loads : (setup : SetupView) (request : ℕ) (covered : List ℕ) (k : ℕ) (old now : List PosterIs) → Posted setup request covered k old now → SameLoads old now
posted_loads setup request covered k old now h = λ w p q a b. (h.1 w p q a b).1

pub posted_all : (setup : SetupView) (request : ℕ) (covered : List ℕ) (k : ℕ) (old now : List PosterIs) → Posted setup request covered k old now → length old ≤ k → ArePosted setup request covered old now
posted_all setup request covered k old now h e = λ w n p q c a b. let lt = slice_get_within old w p a in (h.1 w p q a b).2 (omega (arith, lt, e)) n c

pub stepped : (setup : SetupView) (request : ℕ) (covered : List ℕ) (k : ℕ) (old now then : List PosterIs) → then ≡ now → Posted setup request covered k old now → Posted setup request covered k old then
stepped setup request covered k old now then e h = subst (Posted setup request covered k old) (sym e) h

pub counted_step : (setup : SetupView) (request k : ℕ) (old now then : List ℕ) → then ≡ now → Counted setup request k old now → Counted setup request k old then
counted_step setup request k old now then e h = subst (Counted setup request k old) (sym e) h

-- once the request is counted, it may be posted to the workers of its heads
pub may_post_all : (setup : SetupView) → ∥ IsPlanned setup ∥₁ → (request : ℕ) (old new : List ℕ) (ps : List PosterIs) → AreCountedWith setup request old new
    → ((w m : ℕ) (p : PosterIs) → slice_get old w ≡ Some m → slice_get ps w ≡ Some p → HasShownReady (m + 1) p.loads × (p.posted ≤ m)) → MayPost setup request new ps
may_post_all setup planned request old new ps h ready = λ w n p e c g.
    let r = also_there new old w (sym h.0) (slice_get_within new w n c) in
    let one : n ≡ r.0 + 1 = h.1 w r.0 n r.1 c ∙ ap (λ b. cond b (r.0 + 1) r.0) (head_covered setup planned request (node_at setup w) e) in
    let may = ready w r.0 p r.1 g in
    (subst (λ k. HasShownReady k p.loads) (sym one) may.0, (let le = may.1 in omega (arith, one, le)))
