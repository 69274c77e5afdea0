-- The entries of a journal by their lanes.
use Rattle.std.proofs.Common.{◌≡◌, ◌≢◌, ◌∙◌, ◌<◌, ◌≤◌, ◌+◌, ◌==◌, ◌++◌, ℕ, zero, suc, List, [], ◌∷◌, refl, sym, ap, ap₂, subst, arith, true, false, Bool, cond, filter, get_or, length, map, replicate, take}
use Rattle.std.specs.Prelude.{slice_set}
use Rattle.std.proofs.lemmas.Bool.{eq-eqb, eqb-true}
use Rattle.std.proofs.lemmas.List.{append-nil, length-map, length-set, map-append, take_all, take_more}
use Rattle.std.proofs.lemmas.List.Elements.{filter-append}
use Rattle.audit_laws.specs.declared.audit.AuditEntry.{AuditEntry}
use Rattle.audit_laws.specs.declared.audit.AuditEntry.TheVariants as kept
use Rattle.audit_laws.specs.Faults.{comes_by}
use Rattle.audit_restore.specs.ByLane.{AreOnLanes, added_to, lane_came_by}

get_set_here : {A : Type 0} (xs : List A) (i : ℕ) (a d : A) → i < length xs → get_or (slice_set xs i a) i d ≡ a
get_set_here [] i a d lt = absurd (omega (arith, lt))
get_set_here (x ∷ xs) zero a d lt = refl
get_set_here (x ∷ xs) (suc i) a d lt = get_set_here xs i a d (omega (arith, lt))

get_set_elsewhere : {A : Type 0} (xs : List A) (k i : ℕ) (a d : A) → k ≢ i → get_or (slice_set xs i a) k d ≡ get_or xs k d
get_set_elsewhere [] k i a d ne = refl
get_set_elsewhere (x ∷ xs) zero zero a d ne = absurd (ne refl)
get_set_elsewhere (x ∷ xs) (suc k) zero a d ne = refl
get_set_elsewhere (x ∷ xs) zero (suc i) a d ne = refl
get_set_elsewhere (x ∷ xs) (suc k) (suc i) a d ne = get_set_elsewhere xs k i a d (λ e. ne (ap suc e))

get_empty : (n k : ℕ) → get_or (replicate {A = List AuditEntry} n []) k [] ≡ []
get_empty zero k = refl
get_empty (suc n) zero = refl
get_empty (suc n) (suc k) = get_empty n k

length_empty : (n : ℕ) → length (replicate {A = List AuditEntry} n []) ≡ n
length_empty zero = refl
length_empty (suc n) = ap suc (length_empty n)

pub none_on : (n : ℕ) (lists : List (List AuditEntry)) → lists ≡ replicate n [] → AreOnLanes n [] lists
none_on n lists e = record {
  long = ap length e ∙ length_empty n;
  each = λ k lt. ap (λ (l : List (List AuditEntry)). get_or l k []) e ∙ get_empty n k;
}

-- an entry that comes by a lane
by : (n lane : ℕ) (xs : List AuditEntry) (x : AuditEntry) (lists : List (List AuditEntry)) → ((k : ℕ) → comes_by k x ≡ (lane == k)) → AreOnLanes n xs lists
    → AreOnLanes n (xs ++ x ∷ []) (slice_set lists lane (get_or lists lane [] ++ x ∷ []))
by n lane xs x lists comes on = record {
  long = length-set lists lane (get_or lists lane [] ++ x ∷ []) ∙ on.long;
  each = λ k lt. go k lt (lane == k) refl ∙ sym (filter-append (comes_by k) xs (x ∷ []) ∙ ap (λ (b : Bool). filter (comes_by k) xs ++ cond b (x ∷ []) []) (comes k));
}
  where
    go : (k : ℕ) → k < n → (b : Bool) → (lane == k) ≡ b → get_or (slice_set lists lane (get_or lists lane [] ++ x ∷ [])) k [] ≡ filter (comes_by k) xs ++ cond b (x ∷ []) []
    go k lt true t =
        let same : lane ≡ k = eqb-true lane k t in
        let there : lane < length lists = omega (arith, lt, same, on.long) in
        subst (λ j. get_or (slice_set lists lane (get_or lists lane [] ++ x ∷ [])) j [] ≡ filter (comes_by j) xs ++ x ∷ []) same
        (get_set_here lists lane (get_or lists lane [] ++ x ∷ []) [] there
        ∙ ap (λ (l : List AuditEntry). l ++ x ∷ []) (on.each lane (omega (arith, lt, same))))
    go k lt false f =
        get_set_elsewhere lists k lane (get_or lists lane [] ++ x ∷ []) [] (λ q. let t = eq-eqb lane k (sym q) in absurd (cc))
        ∙ (on.each k lt ∙ sym (append-nil (filter (comes_by k) xs)))

pub one_more_on : (n : ℕ) (xs : List AuditEntry) (x : AuditEntry) (lists : List (List AuditEntry)) → AreOnLanes n xs lists → AreOnLanes n (xs ++ x ∷ []) (added_to lists x (lane_came_by x))
one_more_on n xs (kept.Met lane row birth) lists on = by n lane xs (kept.Met lane row birth) lists (λ k. refl) on
one_more_on n xs (kept.Marked lane request) lists on = by n lane xs (kept.Marked lane request) lists (λ k. refl) on
one_more_on n xs (kept.Turned request) lists on = record {
  long = on.long;
  each = λ k lt. on.each k lt ∙ sym (filter-append (comes_by k) xs (kept.Turned request ∷ []) ∙ append-nil (filter (comes_by k) xs));
}
one_more_on n xs (kept.Ended lane) lists on = by n lane xs (kept.Ended lane) lists (λ k. refl) on

-- ---- two lists, place by place

pub agree_more : {X Y Z : Type 0} (f : X → Z) (g : Y → Z) (xs : List X) (ys : List Y) (i : ℕ) (x : X) (y : Y) → map f (take i xs) ≡ map g (take i ys) → i < length xs → i < length ys
    → f (get_or xs i x) ≡ g (get_or ys i y) → map f (take (i + 1) xs) ≡ map g (take (i + 1) ys)
agree_more {X} {Y} {Z} f g xs ys i x y e lx ly same =
    ap (map f) (take_more xs i x lx) ∙ (map-append f (take i xs) (get_or xs i x ∷ []) ∙ (ap₂ (λ (a : List Z) (b : Z). a ++ b ∷ []) e same
    ∙ sym (ap (map g) (take_more ys i y ly) ∙ map-append g (take i ys) (get_or ys i y ∷ []))))

pub agree_at : {X Y Z : Type 0} (f : X → Z) (g : Y → Z) (xs : List X) (ys : List Y) (i : ℕ) (x : X) (y : Y) → map f xs ≡ map g ys → i < length xs → f (get_or xs i x) ≡ g (get_or ys i y)
agree_at f g [] ys i x y e lt = absurd (omega (arith, lt))
agree_at f g (a ∷ xs) [] i x y e lt = absurd (cc)
agree_at f g (a ∷ xs) (b ∷ ys) zero x y e lt = cc
agree_at {X} {Y} {Z} f g (a ∷ xs) (b ∷ ys) (suc i) x y e lt = let rest : map f xs ≡ map g ys = cc in agree_at f g xs ys i x y rest (omega (arith, lt))

pub agree_all : {X Y Z : Type 0} (f : X → Z) (g : Y → Z) (xs : List X) (ys : List Y) (i : ℕ) → map f (take i xs) ≡ map g (take i ys) → length xs ≤ i → length ys ≤ i → map f xs ≡ map g ys
agree_all f g xs ys i e lx ly = sym (ap (map f) (take_all i xs lx)) ∙ (e ∙ ap (map g) (take_all i ys ly))

pub agree_length : {X Y Z : Type 0} (f : X → Z) (g : Y → Z) (xs : List X) (ys : List Y) → map f xs ≡ map g ys → length xs ≡ length ys
agree_length f g xs ys e = sym (length-map xs f) ∙ (ap length e ∙ length-map ys g)
