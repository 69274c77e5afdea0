-- The bytes that a reader takes.
use Rattle.std.proofs.Common.{◌≡◌, ℕ, ◌+◌, ◌≤◌, ◌<◌, true, false, true≢false, List, [], ◌∷◌, ◌++◌, length, inl, inr, refl, sym, subst, ap, ◌∙◌, append_assoc, arith, Option, None, Some}
use Rattle.std.proofs.lemmas.List.{length-append}
use Rattle.std.specs.Io.KnownBytes.{Consumes, IsAtEnd, Keeps}
use Rattle.tuple_trace.specs.Counts.{Rose}
use Rattle.live_control.specs.Asking.{AsksIs, IsFirstByteTaken}
use Rattle.live_control.specs.Hearing.{IsHeard, line_feeds, most_bytes, releases_of}
use Rattle.live_control.specs.declared.hearing.Heard.{Heard}

-- known bytes stay over two calls
pub keeps-keeps : (a b c : Option (List ℕ)) → Keeps a b → Keeps b c → Keeps a c
keeps-keeps None b c p q = tt
keeps-keeps (Some x) None c p q = absurd p
keeps-keeps (Some x) (Some y) None p q = absurd q
keeps-keeps (Some x) (Some y) (Some z) p q = q ∙ p

pub keeps-self : (a : Option (List ℕ)) → Keeps a a
keeps-self None = tt
keeps-self (Some x) = refl

-- known bytes that stay first are consumed afterwards
pub keeps-consumes : (a b c : Option (List ℕ)) (bytes : List ℕ) → Keeps a b → Consumes b c bytes → Consumes a c bytes
keeps-consumes None b c bytes p q = tt
keeps-consumes (Some x) None c bytes p q = absurd p
keeps-consumes (Some x) (Some y) None bytes p q = absurd q
keeps-consumes (Some x) (Some y) (Some z) bytes p q = sym p ∙ q

pub consumes-keeps : (a b c : Option (List ℕ)) (bytes : List ℕ) → Consumes a b bytes → Keeps b c → Consumes a c bytes
consumes-keeps None b c bytes p q = tt
consumes-keeps (Some x) None c bytes p q = absurd p
consumes-keeps (Some x) (Some y) None bytes p q = absurd q
consumes-keeps (Some x) (Some y) (Some z) bytes p q = p ∙ ap (λ l. bytes ++ l) (sym q)

consumes-consumes : (a b c : Option (List ℕ)) (xs ys : List ℕ) → Consumes a b xs → Consumes b c ys → Consumes a c (xs ++ ys)
consumes-consumes None b c xs ys p q = tt
consumes-consumes (Some x) None c xs ys p q = absurd p
consumes-consumes (Some x) (Some y) None xs ys p q = absurd q
consumes-consumes (Some x) (Some y) (Some z) xs ys p q = p ∙ (ap (λ l. xs ++ l) q ∙ sym (append_assoc xs ys z))

consumes-none : (a : Option (List ℕ)) → Consumes a a []
consumes-none None = tt
consumes-none (Some x) = refl

pub line_feeds-append : (xs ys : List ℕ) → line_feeds (xs ++ ys) ≡ line_feeds xs + line_feeds ys
line_feeds-append [] ys = omega arith
line_feeds-append (x ∷ xs) ys = let h = line_feeds-append xs ys in omega (arith, h)

-- a list without its last
front : List ℕ → List ℕ
front [] = []
front (x ∷ []) = []
front (x ∷ (y ∷ xs)) = x ∷ front (y ∷ xs)

front-snoc : (xs : List ℕ) (a : ℕ) → front (xs ++ a ∷ []) ≡ xs
unfolding front
front-snoc [] a = refl
front-snoc (x ∷ []) a = refl
front-snoc (x ∷ (y ∷ xs)) a = ap (λ l. x ∷ l) (front-snoc (y ∷ xs) a)

-- a list whose last is known has one front
front_same : (xs ys : List ℕ) (a b : ℕ) → xs ++ a ∷ [] ≡ ys ++ b ∷ [] → xs ≡ ys
front_same xs ys a b e = sym (front-snoc xs a) ∙ (ap front e ∙ front-snoc ys b)

-- what a call takes that gives a byte, and one that gives none
pub taken_some : (answer : Option ℕ) (byte : ℕ) (old new : AsksIs) → answer ≡ Some byte → IsFirstByteTaken answer old new → Consumes old.left new.left (byte ∷ [])
taken_some answer byte old new is taken = subst (λ a. IsFirstByteTaken a old new) is taken

pub taken_none : (answer : Option ℕ) (old new : AsksIs) → answer ≡ None → IsFirstByteTaken answer old new → Keeps old.left new.left × IsAtEnd new.left
taken_none answer old new is taken = subst (λ a. IsFirstByteTaken a old new) is taken

-- a reader that has taken so many bytes, and none in vain
pub record IsHearing (most count : ℕ) (old new : AsksIs) (releases : ℕ) : Type 0 where
  pub taken : List ℕ
  pub took : Consumes old.left new.left taken
  pub count_is : length taken ≡ count
  pub releases_are : releases ≡ line_feeds taken
  pub enough : releases ≤ most
  pub no_more : (earlier : List ℕ) (last : ℕ) → taken ≡ earlier ++ last ∷ [] → line_feeds earlier < most
  pub faults : new.faults ≡ old.faults

no_bytes : (xs : List ℕ) (a : ℕ) → [] ≡ xs ++ a ∷ [] → ⊥
no_bytes xs a e = let n = ap length e in let m = length-append xs (a ∷ []) in omega (arith, n, m)

pub hears_none : (most : ℕ) (old : AsksIs) → IsHearing most 0 old old 0
hears_none most old = record {
  taken = [];
  took = consumes-none old.left;
  count_is = refl;
  releases_are = refl;
  enough = omega arith;
  no_more = λ earlier last e. absurd (no_bytes earlier last e);
  faults = refl;
}

pub hears_more : (most count n m byte : ℕ) (old mid new : AsksIs) → IsHearing most count old mid n → n < most → Consumes mid.left new.left (byte ∷ []) → new.faults ≡ mid.faults → m ≡ n + releases_of byte
    → IsHearing most (count + 1) old new m
hears_more most count n m byte old mid new h few c f more = record {
  taken = h.taken ++ byte ∷ [];
  took = consumes-consumes old.left mid.left new.left h.taken (byte ∷ []) h.took c;
  count_is = (let l = length-append h.taken (byte ∷ []) in let k = h.count_is in omega (arith, l, k));
  releases_are = (let l = line_feeds-append h.taken (byte ∷ []) in let k = h.releases_are in omega (arith, l, k, more));
  enough = (let one = one_at_most byte in omega (arith, few, more, one));
  no_more = λ earlier last e. let same = front_same h.taken earlier byte last e in let k = h.releases_are in let l = ap line_feeds same in omega (arith, few, k, l);
  faults = f ∙ h.faults;
}
  where
    one_at_most : (b : ℕ) → releases_of b ≤ 1
    one_at_most b = grind (arith)

-- a reader that has taken enough line feeds
pub hears_enough : (most count n : ℕ) (old new : AsksIs) (heard : Heard) → IsHearing most count old new n → most ≤ n → count ≤ most_bytes → heard ≡ record { releases = n; failed = false }
    → IsHeard most old new heard
hears_enough most count n old new heard h enough short is = subst (IsHeard most old new) (sym is) record {
  taken = h.taken;
  took = h.took;
  releases = h.releases_are;
  enough = h.enough;
  no_more = h.no_more;
  short = (let k = h.count_is in omega (arith, k, short));
  failed = λ p. absurd (true≢false (sym p));
  unfailed = λ _. h.faults;
  whole = λ _. inl (let e = h.enough in omega (arith, e, enough));
}

-- a reader that has taken the most bytes
pub hears_most : (most count n : ℕ) (old new : AsksIs) (heard : Heard) → IsHearing most count old new n → count ≡ most_bytes → heard ≡ record { releases = n; failed = false }
    → IsHeard most old new heard
hears_most most count n old new heard h all is = subst (IsHeard most old new) (sym is) record {
  taken = h.taken;
  took = h.took;
  releases = h.releases_are;
  enough = h.enough;
  no_more = h.no_more;
  short = (let k = h.count_is in omega (arith, k, all));
  failed = λ p. absurd (true≢false (sym p));
  unfailed = λ _. h.faults;
  whole = λ _. inr (inl (h.count_is ∙ all));
}

-- a reader at the end of its input
pub hears_end : (most count n : ℕ) (old mid new : AsksIs) (heard : Heard) → IsHearing most count old mid n → count ≤ most_bytes → Keeps mid.left new.left → IsAtEnd new.left → new.faults ≡ mid.faults
    → heard ≡ record { releases = n; failed = false } → IsHeard most old new heard
hears_end most count n old mid new heard h short keeps at_end f is = subst (IsHeard most old new) (sym is) record {
  taken = h.taken;
  took = consumes-keeps old.left mid.left new.left h.taken h.took keeps;
  releases = h.releases_are;
  enough = h.enough;
  no_more = h.no_more;
  short = (let k = h.count_is in omega (arith, k, short));
  failed = λ p. absurd (true≢false (sym p));
  unfailed = λ _. f ∙ h.faults;
  whole = λ _. inr (inr at_end);
}

-- a reader whose input failed
pub hears_failed : (most count n : ℕ) (old mid new : AsksIs) (heard : Heard) → IsHearing most count old mid n → count ≤ most_bytes → Keeps mid.left new.left → Rose mid.faults new.faults
    → heard ≡ record { releases = n; failed = true } → IsHeard most old new heard
hears_failed most count n old mid new heard h short keeps rose is = subst (IsHeard most old new) (sym is) record {
  taken = h.taken;
  took = consumes-keeps old.left mid.left new.left h.taken h.took keeps;
  releases = h.releases_are;
  enough = h.enough;
  no_more = h.no_more;
  short = (let k = h.count_is in omega (arith, k, short));
  failed = λ _. subst (λ n. Rose n new.faults) h.faults rose;
  unfailed = λ p. absurd (true≢false p);
  whole = λ p. absurd (true≢false p);
}
