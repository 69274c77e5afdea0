-- Requests that wait for more rows than there are.
use Rattle.std.proofs.Common.{◌≡◌, ◌∙◌, ◌≤◌, ◌+◌, ◌-◌, ◌++◌, ◌==◌, ℕ, zero, suc, Bool, List, []}
use Rattle.std.proofs.Common.{◌∷◌, All}
use Rattle.std.proofs.Common.{ap, arith, cond, drop, length, min, nat_le, refl}
use Rattle.std.proofs.Common.{take}
use Rattle.std.proofs.lemmas.List.{drop-map, take-take}
use Rattle.std.proofs.lemmas.List.Elements.{All-head, All-tail}
use Rattle.sink_journal.specs.declared.journal.Feed.{Feed}
use Rattle.sink_journal.specs.declared.journal.Feed.TheVariants as feed
use Rattle.versions.specs.declared.request.Request.{Request}
use Rattle.flow_model.specs.Feeding.{feed_after, feed_from, issued_after, issued_at_first}
use Rattle.flow_model.specs.Feeding.{issued_where}
use Rattle.flow_model.specs.Requests.{afters}
use Rattle.flow_model.specs.SetupView.{SetupView}
use Rattle.flow_model.specs.Waiting.{with_afters}
use Rattle.savepoint.specs.Parts.{first_of}
use Rattle.audit_live.proofs.FeedLemmas.{of_those as capped}

min_twice : (a n : ℕ) → min (min a n) n ≡ min a n
min_twice a n = omega arith

cap_where : (test : ℕ → Bool) (rows r : ℕ) (waits : List ℕ)
    → issued_where test rows r (capped rows waits) ≡ issued_where test rows r waits
cap_where test rows r [] = refl
cap_where test rows r (x ∷ waits) =
    ap (λ k. cond (test k) (feed.Issued r ∷ issued_where test rows (r + 1) (capped rows waits))
    (issued_where test rows (r + 1) (capped rows waits))) (min_twice x rows)
    ∙ ap (λ (l : List Feed). cond (test (min x rows)) (feed.Issued r ∷ l) l)
    (cap_where test rows (r + 1) waits)

cap_after : (waits : List ℕ) (r row rows left : ℕ)
    → feed_after (capped rows waits) r row rows left ≡ feed_after waits r row rows left
cap_after waits r row rows zero = refl
cap_after waits r row rows (suc left) =
    ap (λ (l : List Feed). feed.Fed (row + 1)
    ∷ (l ++ feed_after (capped rows waits) r (row + 1) rows left))
    (cap_where (λ after. after == row + 1) rows r waits)
    ∙ ap (λ (l : List Feed). feed.Fed (row + 1) ∷ (issued_after (row + 1) rows r waits ++ l))
    (cap_after waits r (row + 1) rows left)

-- the feeder does the same
pub cap_from : (row issued : ℕ) (waits : List ℕ) (rows : ℕ)
    → feed_from row issued (capped rows waits) rows ≡ feed_from row issued waits rows
cap_from row issued waits rows =
    ap (λ (l : List ℕ). issued_at_first row rows (issued + 1) l
    ++ feed_after l (issued + 1) row rows (rows - row))
    (drop-map (λ (after : ℕ). min after rows) issued waits)
    ∙ (ap (λ (l : List Feed). l
    ++ feed_after (capped rows (drop issued waits)) (issued + 1) row rows (rows - row))
    (cap_where (λ after. nat_le after row) rows (issued + 1) (drop issued waits))
    ∙ ap (λ (l : List Feed). issued_at_first row rows (issued + 1) (drop issued waits) ++ l)
    (cap_after (drop issued waits) (issued + 1) row rows (rows - row)))

-- requests that are due by then wait for just their rows
pub due_capped : (row rows : ℕ) (waits : List ℕ) → row ≤ rows → All (λ after. after ≤ row) waits
    → capped rows waits ≡ waits
due_capped row rows [] le due = refl
due_capped row rows (x ∷ waits) le due =
    let here : x ≤ row = All-head (λ after. after ≤ row) x waits due in
    let same : min x rows ≡ x = omega arith in
    ap (λ k. k ∷ capped rows waits) same
    ∙ ap (λ (l : List ℕ). x ∷ l)
    (due_capped row rows waits le (All-tail (λ after. after ≤ row) x waits due))

-- ---- requests with other waits

pub own_waits : (requests : List Request) → with_afters (afters requests) requests ≡ requests
own_waits [] = refl
own_waits (q ∷ qs) = ap (λ (l : List Request). q ∷ l) (own_waits qs)

pub waits_again : (ws vs : List ℕ) (qs : List Request) → length ws ≡ length qs
    → length vs ≡ length qs → with_afters ws (with_afters vs qs) ≡ with_afters ws qs
waits_again [] [] [] a b = refl
waits_again [] (v ∷ vs) [] a b = absurd (omega (arith, b))
waits_again (w ∷ ws) vs [] a b = absurd (omega (arith, a))
waits_again [] vs (q ∷ qs) a b = absurd (omega (arith, a))
waits_again (w ∷ ws) [] (q ∷ qs) a b = absurd (omega (arith, b))
waits_again (w ∷ ws) (v ∷ vs) (q ∷ qs) a b =
    ap (λ (l : List Request). record q { after = w } ∷ l)
    (waits_again ws vs qs (omega (arith, a)) (omega (arith, b)))

pub take_waits : (k : ℕ) (ws : List ℕ) (qs : List Request)
    → take k (with_afters ws qs) ≡ with_afters (take k ws) (take k qs)
take_waits zero ws qs = refl
take_waits (suc k) [] qs = refl
take_waits (suc k) (w ∷ ws) [] = refl
take_waits (suc k) (w ∷ ws) (q ∷ qs) =
    ap (λ (l : List Request). record q { after = w } ∷ l) (take_waits k ws qs)

-- ---- the first requests of a setup

pub first_first : (setup : SetupView) (few many : ℕ) → few ≤ many
    → first_of (first_of setup many) few ≡ first_of setup few
first_first setup few many le =
    ap (λ (l : List Request). record setup {
      requests = l;
      plans = take few (take many setup.plans);
    }) (take-take few many setup.requests le)
    ∙ ap (λ l. record setup { requests = take few setup.requests; plans = l })
    (take-take few many setup.plans le)
