-- What lent places hold, as ranges of positions.
use Rattle.std.specs.Prelude.{◌≡◌, ℕ, ◌<◌, ◌≤◌, List, map, length, take, drop, Some, None, Option}
use Rattle.fault.specs.declared.refusal.Refusal.{Refusal}
use Rattle.fault.specs.declared.refusal.Refusal.TheVariants.{PlacesFull}
use Rattle.range_list.specs.declared.span.Span.{Span}
use Rattle.range_list.specs.declared.list.InitTracker.{InitTracker}

-- a range by the positions of its ends
abbrev pub ends : {I : Type 0} → (I → ℕ) → Span I → ℕ × ℕ
ends p s = (p s.start, p s.end)

-- the ranges in some places
abbrev pub all_ends : {I : Type 0} → (I → ℕ) → List (Span I) → List (ℕ × ℕ)
all_ends p xs = map (ends p) xs

-- the ranges of a list: those in its first places
abbrev pub view : {I : Type 0} → (I → ℕ) → InitTracker I → List (ℕ × ℕ)
view p t = all_ends p (take t.len t.places.now)

-- an answer by the positions of its ends
abbrev pub positions : {I : Type 0} → (I → ℕ) → Option (Span I) → Option (ℕ × ℕ)
positions p None = None
positions p (Some s) = Some (ends p s)

-- the same places are lent, as many as before
abbrev pub SamePlaces : {I : Type 0} → InitTracker I → InitTracker I → Type 0
SamePlaces old new = (length new.places.now ≡ length old.places.now) × (new.places.ghost_name ≡ old.places.ghost_name)

-- a call that was declined for want of a place changed none, since the list that it would leave has more ranges than places
abbrev pub Declined : {I : Type 0} → InitTracker I → InitTracker I → List (ℕ × ℕ) → Refusal → Type 0
Declined old new rs e =
    (e ≡ PlacesFull) × (new.len ≡ old.len) × (new.places.now ≡ old.places.now) × (length old.places.now < length rs)

-- the first n places hold these ranges, and the places past them are as they were
abbrev pub Wrote : {I : Type 0} → (I → ℕ) → List (Span I) → List (Span I) → List (ℕ × ℕ) → ℕ → Type 0
Wrote p old new rs n = (n ≤ length old) × (all_ends p (take n new) ≡ rs) × (drop n new ≡ drop n old)

-- these ranges are more than the places, and no place changed
abbrev pub Unwritten : {I : Type 0} → List (Span I) → List (Span I) → List (ℕ × ℕ) → Refusal → Type 0
Unwritten old new rs e = (e ≡ PlacesFull) × (new ≡ old) × (length old < length rs)
