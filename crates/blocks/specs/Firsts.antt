-- Verdicts, and the first of what a test picks.
use Rattle.std.specs.Prelude.{◌≡◌, ℕ, zero, suc, ◌<◌, ◌≤◌, Bool, true, false, cond, ◌&&◌, Some, None, Ok, Err, Option, Result, nat_le}

-- A verdict is a fault or none.
abbrev pub Verdict : Type 0 → Type 0
Verdict E = Result (Unit {0}) E

-- The first of two verdicts that is a fault.
abbrev pub first_of : {E : Type 0} → Verdict E → Verdict E → Verdict E
first_of (Ok u) next = next
first_of (Err e) next = Err e

-- A fault unless a test holds.
abbrev pub unless : {E : Type 0} → Bool → E → Verdict E
unless test e = cond test (Ok tt) (Err e)

-- The fault at what a search found.
abbrev pub if_found : {X E : Type 0} → Option X → (X → E) → Verdict E
if_found None fault = Ok tt
if_found (Some x) fault = Err (fault x)

-- A fault of the layer below, as one of this layer.
abbrev pub lifted : {E F : Type 0} → (E → F) → Verdict E → Verdict F
lifted up (Ok u) = Ok u
lifted up (Err e) = Err (up e)

-- The verdict of the first n, of which the first faulty one decides.
unfoldable pub up_to : {E : Type 0} → (ℕ → Verdict E) → ℕ → Verdict E
up_to verdict zero = Ok tt
up_to verdict (suc n) = first_of (up_to verdict n) (verdict n)

abbrev pub or_else : {X : Type 0} → Option X → Option X → Option X
or_else None other = other
or_else (Some x) other = Some x

-- The lowest number that a test picks, from one on and below another.
unfoldable pub first_in : (ℕ → Bool) → ℕ → ℕ → Option ℕ
first_in picks from zero = None
first_in picks from (suc n) = or_else (first_in picks from n) (cond (nat_le from n && picks n) (Some n) None)

-- The law of it: what is found is picked and nothing before it is; where nothing is found, nothing is picked.
abbrev pub FoundFirst : (ℕ → Bool) → ℕ → ℕ → Option ℕ → Type 0
FoundFirst picks from to None = (k : ℕ) → from ≤ k → k < to → picks k ≡ false
FoundFirst picks from to (Some i) = (from ≤ i) × (i < to) × (picks i ≡ true) × ((k : ℕ) → from ≤ k → k < i → picks k ≡ false)

abbrev pub FindsFirst : Type 0
FindsFirst = (picks : ℕ → Bool) (from to : ℕ) → FoundFirst picks from to (first_in picks from to)

-- Of the first n, one has the fault, and none before it has any.
abbrev pub DecidesFirst : {E : Type 0} → (ℕ → Verdict E) → ℕ → E → Type 0
DecidesFirst verdict n e = (i : ℕ) × (i < n) × (verdict i ≡ Err e) × ((k : ℕ) → k < i → verdict k ≡ Ok tt)
