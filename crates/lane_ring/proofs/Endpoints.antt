-- What the ends know of their slots and words.
use Rattle.std.proofs.Common.{◌≡◌, ◌≢◌, ℕ, zero, suc, ◌+◌, ◌*◌, ◌%◌, ◌≤◌, ◌<◌, true, List, [], ◌∷◌, ◌++◌, length, Option, Some, None, sym, refl, ap, ◌∙◌, subst, arith, length-append}
use Rattle.atomic_table.specs.Table.{Me, Allows, rest}
use Rattle.tuple_trace.specs.declared.tuple.Item.{Item}
use Rattle.lane_core.specs.Steady.{MayFollow}
use Rattle.lane_ring.specs.declared.rule.Charter.{Charter}
use Rattle.lane_ring.specs.declared.rule.View.{View}
use Rattle.lane_ring.specs.declared.rule.TheConstants.{SENT}
use Rattle.lane_ring.specs.Rule.{word_at, Slots, free_slot, full_slot, sender_slots, receiver_slots, IsRing, StoredSent, TookOne, StoredTaken}
use Rattle.lane_ring.proofs.RingLemmas.{free_slot-some, none_long, slot-word_at, some_long, some_spare, word_at-next, word_at-same}
use Rattle.lane_ring.proofs.SenderSteps.{stores_sent}
use Rattle.lane_ring.proofs.ReceiverSteps.{stores_taken}

abbrev Mine : Type 0
Mine = Me (Option Item) View

only : (l : Slots) (a : ℕ × Option Item) → l ≡ a ∷ [] → l ≡ a ∷ rest l
only l a e = e ∙ ap (λ m. a ∷ m) (sym (ap rest e))

-- the slot of the next item, by the word and by the number of items
slot_is : (size capacity word n : ℕ) → size ≡ capacity → word ≡ word_at size n → n % capacity ≡ word % size
slot_is size capacity word n same count = (λ i. n % sym same i) ∙ sym (slot-word_at size n) ∙ ap (λ x. x % size) (sym count)

pub word-next : (size word : ℕ) (xs : List Item) (x : Item) → word ≡ word_at size (length xs) → (word + 1) % (2 * size) ≡ word_at size (length (xs ++ x ∷ []))
word-next size word xs x count = ap (λ (n : ℕ). (n + 1) % (2 * size)) count ∙ word_at-next size (length xs) ∙ ap (word_at size) (sym (length-append xs (x ∷ [])))

word-up : (size capacity word n : ℕ) → size ≡ capacity → word ≡ word_at size n → (word + 1) % (2 * size) ≡ word_at capacity (n + 1)
word-up size capacity word n same count = ap (λ (a : ℕ). (a + 1) % (2 * size)) count ∙ word_at-next size n ∙ (λ i. word_at (same i) (n + 1))

-- a sender whose word isn't at its limit knows a free slot, and otherwise none
pub spare-none : (size word limit n spare : ℕ) → word ≡ word_at size n → limit ≡ word_at size (n + spare) → spare ≤ size → 0 < size → word ≡ limit → spare ≡ 0
spare-none size word limit n spare count bound few pos e = word_at-same size n spare few pos (sym count ∙ e ∙ bound)

pub spare-some : (size word limit n spare : ℕ) → word ≡ word_at size n → limit ≡ word_at size (n + spare) → word ≢ limit → 0 < spare
spare-some size word limit n zero count bound differ = (let same : n ≡ n + 0 = omega arith in absurd (differ (count ∙ ap (word_at size) same ∙ sym bound)))
spare-some size word limit n (suc spare) count bound differ = omega arith

pub sender-none : (m : Mine) → m.1 ≡ sender_slots m.0 → m.0.spare ≡ 0 → m.1 ≡ []
sender-none m own none_spare = own ∙ ap (free_slot (length m.0.sent % m.0.capacity)) none_spare

pub sender-slot : (m : Mine) → m.1 ≡ sender_slots m.0 → 0 < m.0.spare → m.1 ≡ (length m.0.sent % m.0.capacity, None) ∷ []
sender-slot m own more = own ∙ free_slot-some (length m.0.sent % m.0.capacity) m.0.spare more

pub sender-here : (m : Mine) (size word slot : ℕ) → m.1 ≡ sender_slots m.0 → 0 < m.0.spare → size ≡ m.0.capacity → word ≡ word_at size (length m.0.sent) → slot ≡ word % size → m.1 ≡ (slot, None) ∷ rest m.1
sender-here m size word slot own more same count at = only m.1 (slot, None) (sender-slot m own more ∙ (λ i. ((slot_is size m.0.capacity word (length m.0.sent) same count ∙ sym at) i, None) ∷ []))

pub filled_is : (m m2 : Mine) (x : Item) (size word slot : ℕ) → m.1 ≡ sender_slots m.0 → 0 < m.0.spare → size ≡ m.0.capacity → word ≡ word_at size (length m.0.sent) → slot ≡ word % size → m2 ≡ (m.0, (slot, Some x) ∷ rest m.1)
    → m2 ≡ (m.0, (length m.0.sent % m.0.capacity, Some x) ∷ [])
filled_is m m2 x size word slot own more same count at e = e ∙ (λ i. (m.0, (sym (slot_is size m.0.capacity word (length m.0.sent) same count ∙ sym at) i, Some x) ∷ ap rest (sender-slot m own more) i))

pub stores_filled : (k : Charter) (slots id : ℕ) (v : View) (m2 : Mine) (x : Item) (size word new : ℕ) → m2 ≡ (v, (length v.sent % v.capacity, Some x) ∷ []) → v.puts ≡ true → 0 < v.spare → size ≡ v.capacity → word ≡ word_at size (length v.sent)
    → MayFollow v.origin v.sent x → new ≡ (word + 1) % (2 * size) → Allows (IsRing k) slots id m2 SENT (λ _. new) (λ _. StoredSent m2 new)
stores_filled k slots id v m2 x size word new e may more same count follows up =
    let P : Mine → Type 0 = λ m. Allows (IsRing k) slots id m SENT (λ _. new) (λ _. StoredSent m new) in
    let left = some_spare v.spare more in
    subst P (sym e) (stores_sent k slots id (v, (length v.sent % v.capacity, Some x) ∷ []) x left.0 new may left.1 refl follows (up ∙ word-up size v.capacity word (length v.sent) same count))

-- what a sender knows after it has filled a slot
pub record Sent (v : View) (x : Item) (m : Mine) : Type 0 where
  pub spare : ℕ
  pub one_less : v.spare ≡ suc spare
  pub view : m.0 ≡ record v { sent = v.sent ++ x ∷ []; spare = spare }
  pub slots : m.1 ≡ sender_slots m.0

pub was_stored : (v : View) (m2 m3 : Mine) (x : Item) (new : ℕ) → m2 ≡ (v, (length v.sent % v.capacity, Some x) ∷ []) → 0 < v.spare → StoredSent m2 new m3 → Sent v x m3
was_stored v m2 m3 x new e more f =
    let P : Mine → Type 0 = λ m. StoredSent m new m3 in
    let left = some_spare v.spare more in
    let g = subst P e f x left.0 left.1 refl in
    record { spare = left.0; one_less = left.1; view = g.0; slots = g.1 ∙ ap sender_slots (sym g.0) }

pub limit-same : (size limit spare left : ℕ) (xs : List Item) (x : Item) → limit ≡ word_at size (length xs + spare) → spare ≡ suc left → limit ≡ word_at size (length (xs ++ x ∷ []) + left)
limit-same size limit spare left xs x bound one = let a = length-append xs (x ∷ []) in let e : length xs + spare ≡ length (xs ++ x ∷ []) + left = omega (arith, a, one) in bound ∙ ap (word_at size) e

pub receiver-none : (m : Mine) → m.1 ≡ receiver_slots m.0 → length m.0.ahead ≡ 0 → m.1 ≡ []
receiver-none m own empty = own ∙ ap (full_slot (length m.0.taken % m.0.capacity)) (none_long m.0.ahead empty)

-- what a receiver knows of the item that lies first
pub record Next (m : Mine) (slot : ℕ) : Type 0 where
  pub item : Item
  pub more : List Item
  pub ahead_is : m.0.ahead ≡ item ∷ more
  pub slots : m.1 ≡ (slot, Some item) ∷ []

pub receiver-next : (m : Mine) (size word slot : ℕ) → m.1 ≡ receiver_slots m.0 → 0 < length m.0.ahead → size ≡ m.0.capacity → word ≡ word_at size (length m.0.taken) → slot ≡ word % size → Next m slot
receiver-next m size word slot own more same count at =
    let split = some_long m.0.ahead more in
    record {
      item = split.0;
      more = split.1;
      ahead_is = split.2;
      slots = own ∙ ap (full_slot (length m.0.taken % m.0.capacity)) split.2 ∙ (λ i. ((slot_is size m.0.capacity word (length m.0.taken) same count ∙ sym at) i, Some split.0) ∷ []);
    }

pub next-here : (m : Mine) (slot : ℕ) → (n : Next m slot) → (x : Option Item) × (m.1 ≡ (slot, x) ∷ rest m.1)
next-here m slot n = (Some n.item, only m.1 (slot, Some n.item) n.slots)

abbrev first_value : Slots → Option Item
first_value [] = None
first_value (a ∷ l) = a.1

pub got_is : (m : Mine) (slot : ℕ) (got : Option Item) → (n : Next m slot) → m.1 ≡ (slot, got) ∷ rest m.1 → got ≡ Some n.item
got_is m slot got n e = ap first_value (sym e ∙ n.slots)

pub emptied_is : (m m2 : Mine) (size word slot : ℕ) → (n : Next m slot) → size ≡ m.0.capacity → word ≡ word_at size (length m.0.taken) → slot ≡ word % size → m2 ≡ (m.0, (slot, None) ∷ rest m.1)
    → m2 ≡ (m.0, (length m.0.taken % m.0.capacity, None) ∷ [])
emptied_is m m2 size word slot n same count at e = e ∙ (λ i. (m.0, (sym (slot_is size m.0.capacity word (length m.0.taken) same count ∙ sym at) i, None) ∷ ap rest n.slots i))

pub stores_emptied : (k : Charter) (slots id : ℕ) (v : View) (m2 : Mine) (x : Item) (more : List Item) (size word new : ℕ) → m2 ≡ (v, (length v.taken % v.capacity, None) ∷ []) → v.takes ≡ true → v.ahead ≡ x ∷ more → size ≡ v.capacity → word ≡ word_at size (length v.taken)
    → new ≡ (word + 1) % (2 * size) → Allows (IsRing k) slots id m2 0 (λ _. new) (λ _. StoredTaken m2 new)
stores_emptied k slots id v m2 x more size word new e may split same count up =
    let P : Mine → Type 0 = λ m. Allows (IsRing k) slots id m 0 (λ _. new) (λ _. StoredTaken m new) in
    subst P (sym e) (stores_taken k slots id (v, (length v.taken % v.capacity, None) ∷ []) x more new may split refl (up ∙ word-up size v.capacity word (length v.taken) same count))

pub was_taken : (v : View) (m2 m3 : Mine) (x : Item) (more : List Item) (new : ℕ) → m2 ≡ (v, (length v.taken % v.capacity, None) ∷ []) → v.ahead ≡ x ∷ more → StoredTaken m2 new m3 → TookOne (v, (length v.taken % v.capacity, None) ∷ []) x more m3
was_taken v m2 m3 x more new e split f =
    let P : Mine → Type 0 = λ m. StoredTaken m new m3 in subst P e f x more split

pub end-same : (size end : ℕ) (xs ahead more : List Item) (x : Item) → end ≡ word_at size (length xs + length ahead) → ahead ≡ x ∷ more → end ≡ word_at size (length (xs ++ x ∷ []) + length more)
end-same size end xs ahead more x bound split = let a = length-append xs (x ∷ []) in let b : length ahead ≡ suc (length more) = ap length split in let e : length xs + length ahead ≡ length (xs ++ x ∷ []) + length more = omega (arith, a, b) in bound ∙ ap (word_at size) e
