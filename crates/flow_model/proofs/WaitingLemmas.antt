-- Requests that wait for other rows are accepted and planned as they are.
use Rattle.std.proofs.Common.{◌≡◌, ◌∙◌, ◌||◌, ℕ, zero, suc, List, [], ◌∷◌, Bool, Option, Some, None, refl, sym, subst, ap, length, set, slice_get, take}
use Rattle.std.specs.Prelude.{IsTrue}
use Rattle.std.specs.List.{list_any}
use Rattle.std.specs.Option.{option_map}
use Rattle.std.proofs.lemmas.List.{length-map}
use Rattle.std.proofs.lemmas.Option.{same_Some, slice_get-map}
use Rattle.jobs.specs.JobView.{JobView}
use Rattle.versions.specs.Book.{first_book, is_named}
use Rattle.versions.specs.Judged.{AreAccepted}
use Rattle.versions.specs.Kept.{AreInOrder}
use Rattle.versions.specs.declared.request.Change.{Change}
use Rattle.versions.specs.declared.request.Request.{Request}
use Rattle.versions.proofs.WaitingLemmas.{accepted_like, head_same, tail_same}
use Rattle.flow_model.specs.SetupView.{SetupView}
use Rattle.flow_model.specs.Planned.{IsPlanned, is_split_node, makes_split, splits_at}
use Rattle.versions.specs.Waiting.{changes_of}
use Rattle.flow_model.specs.Waiting.{waiting_for, with_afters}

pub changes-with_afters : (afters : List ℕ) (requests : List Request) → changes_of (with_afters afters requests) ≡ changes_of requests
changes-with_afters [] requests = refl
changes-with_afters (a ∷ bs) [] = refl
changes-with_afters (a ∷ bs) (q ∷ qs) = ap (λ l. q.changes ∷ l) (changes-with_afters bs qs)

-- ---- judging

pub accepted_waiting : (job : JobView) (afters : List ℕ) (requests : List Request) → AreAccepted job requests → AreInOrder 0 (with_afters afters requests) → AreAccepted job (with_afters afters requests)
accepted_waiting job afters requests e o = accepted_like job (first_book job.nodes) 0 0 1 requests (with_afters afters requests) (changes-with_afters afters requests) e o

-- ---- plans

-- the request at a place changes what it changed
request_like : (qs rs : List Request) (k : ℕ) (r : Request) → changes_of rs ≡ changes_of qs → slice_get rs k ≡ Some r → (q : Request) × (slice_get qs k ≡ Some q) × (r.changes ≡ q.changes)
request_like qs rs k r same g = go (slice_get qs k) refl
    (sym (slice_get-map (λ (request : Request). request.changes) qs k) ∙ (ap (λ (l : List (List Change)). slice_get l k) (sym same) ∙ (slice_get-map (λ (request : Request). request.changes) rs k ∙ ap (option_map (λ (request : Request). request.changes)) g)))
  where
    go : (o : Option Request) → slice_get qs k ≡ o → option_map (λ (request : Request). request.changes) (slice_get qs k) ≡ Some r.changes → (q : Request) × (slice_get qs k ≡ Some q) × (r.changes ≡ q.changes)
    go None e f = (let h = sym (ap (option_map (λ (request : Request). request.changes)) e) ∙ f in absurd (cc))
    go (Some q) e f = (q, e, sym (same_Some q.changes r.changes (sym (ap (option_map (λ (request : Request). request.changes)) e) ∙ f)))

any_like : (test : List Change → Bool) (qs rs : List Request) → changes_of rs ≡ changes_of qs → list_any (λ (q : Request). test q.changes) rs ≡ list_any (λ (q : Request). test q.changes) qs
any_like test [] [] same = refl
any_like test [] (r ∷ rs) same = absurd (cc)
any_like test (q ∷ qs) [] same = absurd (cc)
any_like test (q ∷ qs) (r ∷ rs) same =
    let head : r.changes ≡ q.changes = head_same r.changes q.changes (changes_of rs) (changes_of qs) same in
    let tail : changes_of rs ≡ changes_of qs = tail_same r.changes q.changes (changes_of rs) (changes_of qs) same in
    ap (λ cs. test cs || list_any (λ (q : Request). test q.changes) rs) head ∙ ap (λ b. test q.changes || b) (any_like test qs rs tail)

pub planned_waiting : (setup : SetupView) (afters : List ℕ) → IsPlanned setup → IsPlanned (waiting_for afters setup)
planned_waiting setup afters h =
    let rs : List Request = with_afters afters setup.requests in
    let same : changes_of rs ≡ changes_of setup.requests = changes-with_afters afters setup.requests in
    record {
      splits = λ node s. h.splits node (subst IsTrue (splits_like node same) s);
      sources = h.sources;
      inside = h.inside;
      one_each = h.one_each ∙ (sym (length-map setup.requests (λ (q : Request). q.changes)) ∙ (ap (λ (l : List (List Change)). length l) (sym same) ∙ length-map rs (λ (q : Request). q.changes)));
      plans = λ k r plan g p.
          let q = request_like setup.requests rs k r same g in
          let f = h.plans k q.0 plan q.1 p in
          record { planned = f.planned; asked = λ node n. f.asked node (subst (λ (cs : List Change). IsTrue (is_named cs node)) q.2 n) };
      no_source = h.no_source;
      ordered = λ o s k r plan le g p node n.
          let q = request_like setup.requests rs s r same g in
          h.ordered o s k q.0 plan le q.1 p node (subst (λ (cs : List Change). IsTrue (is_named cs node)) q.2 n);
    }
  where
    splits_like : (node : ℕ) → changes_of (with_afters afters setup.requests) ≡ changes_of setup.requests → splits_at setup.job.nodes (with_afters afters setup.requests) node ≡ splits_at setup.job.nodes setup.requests node
    splits_like node same = ap (λ b. is_split_node (slice_get setup.job.nodes node) || b) (any_like (λ cs. list_any (makes_split node) cs) setup.requests (with_afters afters setup.requests) same)

-- ---- one row after another

-- one row more
pub with_next : (bs : List ℕ) (k a : ℕ) (qs : List Request) (q : Request) → slice_get bs k ≡ Some a → slice_get (with_afters (take k bs) qs) k ≡ Some q
    → set (with_afters (take k bs) qs) k (record q { after = a }) ≡ with_afters (take (suc k) bs) qs
with_next [] k a qs q g h = absurd (cc)
with_next (b ∷ bs) zero a [] q g h = absurd (cc)
with_next (b ∷ bs) zero a (r ∷ qs) q g h =
    let e : a ≡ b = sym (same_Some b a g) in
    let f : q ≡ r = sym (same_Some r q h) in
    λ i. record (f i) { after = e i } ∷ qs
with_next (b ∷ bs) (suc k) a [] q g h = absurd (cc)
with_next (b ∷ bs) (suc k) a (r ∷ qs) q g h = ap (λ l. record r { after = b } ∷ l) (with_next bs k a qs q g h)

pub length_waiting : (bs : List ℕ) (qs : List Request) → length (with_afters bs qs) ≡ length qs
length_waiting [] qs = refl
length_waiting (a ∷ bs) [] = refl
length_waiting (a ∷ bs) (q ∷ qs) = ap suc (length_waiting bs qs)
