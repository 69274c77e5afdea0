-- How many requests are issued up to a row.
use Rattle.std.proofs.Common.{◌≡◌, ℕ, suc, Bool, true, false, List, [], ◌∷◌, refl, ap, filter, length, min, nat_le}
use Rattle.flow_model.specs.Requests.{afters}
use Rattle.versions.specs.declared.request.Request.{Request}
use Rattle.savepoint.specs.Parts.{issued_up_to}

pub issued_count : (row rows : ℕ) (requests : List Request) → length (filter (λ (r : Request). nat_le (min r.after rows) row) requests) ≡ issued_up_to row rows (afters requests)
issued_count row rows [] = refl
issued_count row rows (first ∷ later) = go (nat_le (min first.after rows) row) refl (issued_count row rows later)
  where
    go : (b : Bool) → nat_le (min first.after rows) row ≡ b
        → length (filter (λ (r : Request). nat_le (min r.after rows) row) later) ≡ issued_up_to row rows (afters later)
        → length (filter (λ (r : Request). nat_le (min r.after rows) row) (first ∷ later)) ≡ issued_up_to row rows (afters (first ∷ later))
    go true is more = rw is (ap (λ n. suc n) more)
    go false is more = rw is more
