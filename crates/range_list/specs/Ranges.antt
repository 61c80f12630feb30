-- Ranges as pairs of positions, the end exclusive.
use Rattle.std.specs.Prelude.{ℕ, zero, suc, ◌+◌, ◌-◌, ◌<◌, ◌≤◌, min, max, Bool, false, cond, ◌&&◌, ◌||◌, List, [], ◌∷◌, ◌++◌, take, drop, Some, None, Option, ◌==◌, nat_le, nat_lt}
use Rattle.std.specs.List.{flat_map, filter}

-- from b on and up to n: non-empty, ascending, a gap between neighbours
abbrev pub SoundFrom : ℕ → ℕ → List (ℕ × ℕ) → Type 0
SoundFrom b n [] = Unit {0}
SoundFrom b n (r ∷ rs) = (b ≤ r.0) × (r.0 < r.1) × (r.1 ≤ n) × SoundFrom (r.1 + 1) n rs

-- a list within n: its ranges non-empty, ascending, with gaps
abbrev pub Sound : ℕ → List (ℕ × ℕ) → Type 0
Sound n rs = SoundFrom 0 n rs

-- a list that is sound within some n
abbrev pub IsSound : List (ℕ × ℕ) → Type 0
IsSound rs = (n : ℕ) × Sound n rs

-- p lies from lo up to hi
abbrev pub inside : ℕ → ℕ → ℕ → Bool
inside lo hi p = nat_le lo p && nat_lt p hi

-- p is in some range of the list
abbrev pub member : ℕ → List (ℕ × ℕ) → Bool
member p [] = false
member p (r ∷ rs) = inside r.0 r.1 p || member p rs

-- the range a..b, or none where it is empty
abbrev pub part : ℕ → ℕ → List (ℕ × ℕ)
part a b = cond (nat_lt a b) ((a, b) ∷ []) []

-- all positions below n as a list: one range, or none where n is 0
abbrev pub whole : ℕ → List (ℕ × ℕ)
whole n = part 0 n

-- what of a range lies from lo up to hi
abbrev pub clip : ℕ → ℕ → ℕ × ℕ → List (ℕ × ℕ)
clip lo hi r = part (max r.0 lo) (min r.1 hi)

-- the ranges that meet lo..hi, cut to it
abbrev pub pieces : ℕ → ℕ → List (ℕ × ℕ) → List (ℕ × ℕ)
pieces lo hi rs = flat_map (clip lo hi) rs

-- a range that meets lo..hi, cut to it
abbrev pub clipped : ℕ → ℕ → ℕ × ℕ → ℕ × ℕ
clipped lo hi r = (max r.0 lo, min r.1 hi)

-- whether a range meets lo..hi, which an empty or backward query does with none
abbrev pub meets : ℕ → ℕ → ℕ × ℕ → Bool
meets lo hi r = nat_lt lo hi && (nat_lt lo r.1 && nat_lt r.0 hi)

-- the ranges that meet lo..hi
abbrev pub meeting : ℕ → ℕ → List (ℕ × ℕ) → List (ℕ × ℕ)
meeting lo hi rs = filter (meets lo hi) rs

-- where the answer ends that begins in r: at the query's end if the next range starts before that, else at the earlier end
abbrev pub upto : ℕ × ℕ → List (ℕ × ℕ) → ℕ → ℕ
upto r [] hi = min r.1 hi
upto r (t ∷ ts) hi = cond (nat_lt t.0 hi) hi (min r.1 hi)

-- of the first range that ends after lo, if it starts before hi: from the later start up to where the answer ends
abbrev pub met : ℕ → ℕ → List (ℕ × ℕ) → Option (ℕ × ℕ)
met lo hi [] = None
met lo hi (r ∷ rs) =
    cond (nat_lt lo r.1) (cond (nat_lt r.0 hi) (Some (max r.0 lo, upto r rs hi)) None) (met lo hi rs)

-- what a query lo..hi has to have filled; none for an empty or backward query
abbrev pub checked : ℕ → ℕ → List (ℕ × ℕ) → Option (ℕ × ℕ)
checked lo hi rs = cond (nat_lt lo hi) (met lo hi rs) None

-- whether an answer holds p
abbrev pub covered : ℕ → Option (ℕ × ℕ) → Bool
covered p None = false
covered p (Some r) = inside r.0 r.1 p

-- what a drain of lo..hi leaves of a range
abbrev pub cut : ℕ → ℕ → ℕ × ℕ → List (ℕ × ℕ)
cut lo hi r = part r.0 (min r.1 lo) ++ part (max r.0 hi) r.1

-- the list without what lies from lo up to hi; an empty or backward query takes nothing out
abbrev pub drained : ℕ → ℕ → List (ℕ × ℕ) → List (ℕ × ℕ)
drained lo hi rs = cond (nat_lt lo hi) (flat_map (cut lo hi) rs) rs

-- what of a list's first range lies before lo
abbrev pub left_of : ℕ → List (ℕ × ℕ) → List (ℕ × ℕ)
left_of lo [] = []
left_of lo (r ∷ rs) = part r.0 lo

-- the list with its first range begun no earlier than hi
abbrev pub begun : ℕ → List (ℕ × ℕ) → List (ℕ × ℕ)
begun hi [] = []
begun hi (r ∷ rs) = (max r.0 hi, r.1) ∷ rs

-- without what lies from lo to hi, where i ranges end by lo and k by hi
abbrev pub closed : ℕ → ℕ → ℕ → ℕ → List (ℕ × ℕ) → List (ℕ × ℕ)
closed lo hi i k rs = take i rs ++ (left_of lo (drop i rs) ++ begun hi (drop k rs))

-- a range before a list, as one with its first range if it ends where that starts
abbrev pub join : ℕ × ℕ → List (ℕ × ℕ) → List (ℕ × ℕ)
join r [] = r ∷ []
join r (t ∷ ts) = cond (r.1 == t.0) ((r.0, t.1) ∷ ts) (r ∷ t ∷ ts)

-- the list with p, joined with the ranges that p touches
abbrev pub discarded : ℕ → List (ℕ × ℕ) → List (ℕ × ℕ)
discarded p [] = (p, p + 1) ∷ []
discarded p (r ∷ rs) =
    cond (nat_lt r.1 p) (r ∷ discarded p rs)
    (cond (r.1 == p) (join (r.0, p + 1) rs)
    (cond (nat_le r.0 p) (r ∷ rs)
    (join (p, p + 1) (r ∷ rs))))

-- the list with p, where p is a position below n; any other changes nothing
abbrev pub added : ℕ → ℕ → List (ℕ × ℕ) → List (ℕ × ℕ)
added p n rs = cond (nat_lt p n) (discarded p rs) rs

-- how many positions below n pass
abbrev pub count : (ℕ → Bool) → ℕ → ℕ
count f zero = 0
count f (suc n) = count f n + cond (f n) 1 0

-- how many positions the ranges hold together
abbrev pub lengths : List (ℕ × ℕ) → ℕ
lengths [] = 0
lengths (r ∷ rs) = (r.1 - r.0) + lengths rs
