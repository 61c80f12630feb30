-- A book as the ranges that it still owes, and what a change of them answers and leaves.
use Rattle.std.specs.Prelude.{ℕ, cond, List, length, take, Ok, Err, Result, nat_lt}
use Rattle.fault.specs.declared.refusal.Refusal.{Refusal}
use Rattle.fault.specs.declared.refusal.Refusal.TheVariants.{PlacesFull}
use Rattle.range_list.specs.Ranges.{drained}
use Rattle.range_list.specs.View.{all_ends}
use Rattle.init_tracker.specs.declared.book.Book.{Book}

-- the ranges that are uninitialized, by positions; a book's type names in g what the positions of its index are
abbrev pub held : {I : Type 0} {N : ℕ} {g : _} → Book I N g → List (ℕ × ℕ)
held {g = g} b = all_ends g.position (take b.len b.places)

-- the byte ranges of a buffer that are uninitialized
abbrev pub owing : {g : _} → Book ℕ 64 g → List (ℕ × ℕ)
owing b = held b

-- a change is declined where it would leave more ranges than n places
abbrev pub fitting : ℕ → List (ℕ × ℕ) → Result (Unit {0}) Refusal
fitting n ss = cond (nat_lt n (length ss)) (Err PlacesFull) (Ok tt)

-- a change that is declined leaves the ranges rs, and any other leaves ss
abbrev pub kept : ℕ → List (ℕ × ℕ) → List (ℕ × ℕ) → List (ℕ × ℕ)
kept n rs ss = cond (nat_lt n (length ss)) rs ss

-- what a drain of a buffer's book answers, and the ranges that it leaves
abbrev pub drain_answer : List (ℕ × ℕ) → ℕ → ℕ → Result (Unit {0}) Refusal
drain_answer rs a b = fitting 64 (drained a b rs)

abbrev pub drain_after : List (ℕ × ℕ) → ℕ → ℕ → List (ℕ × ℕ)
drain_after rs a b = kept 64 rs (drained a b rs)
