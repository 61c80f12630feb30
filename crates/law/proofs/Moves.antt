-- The planner's work on a list of steps, by the cells that each step covers, and against the ledger under the planner's
-- choice of clears. Nothing here knows of ranges, mips or commands.
use Rattle.std.proofs.Common.{◌≡◌, ℕ, ◌+◌, Bool, true, false, cond, not, ◌&&◌, ◌||◌, List, [], ◌∷◌, ◌++◌, arith}
use Rattle.law.specs.Ledger.{Cells, Bytes, nobody, Effect, Looks, Writes, Zeroes, Begins, Passes, Marks, Sizes, count_all, Each, Deed, Turn, turn, says_of}
use Rattle.law.specs.Laws.{either}
use Rattle.law.proofs.Cell.{Ready}

-- at one cell that a step covers or not: what is left in the book, what a read takes out of it, what stands discarded,
-- covered and settled after the step, and the device's byte
abbrev pub leaves : Effect → Bool → Bool → Bool
leaves Looks k b = b && not k
leaves (Writes w) k b = b && not k
leaves Zeroes k b = b
leaves Begins k b = b
leaves Passes k b = b

abbrev pub takes : Effect → Bool → Bool → Bool
takes Looks k b = b && k
takes (Writes w) k b = false
takes Zeroes k b = false
takes Begins k b = false
takes Passes k b = false

abbrev pub goes : Effect → Bool → Bool → Bool
goes Looks k g = g && not k
goes (Writes w) k g = g && not k
goes Zeroes k g = g
goes Begins k g = g || k
goes Passes k g = g

abbrev pub sees : Effect → Bool → Bool → Bool
sees Looks k v = v || k
sees (Writes w) k v = v || k
sees Zeroes k v = v
sees Begins k v = v && not k
sees Passes k v = v

abbrev pub settles : Effect → Bool → Bool → Bool
settles Looks k s = s && not k
settles (Writes w) k s = s && not k
settles Zeroes k s = s
settles Begins k s = s
settles Passes k s = s || k

abbrev pub puts : Effect → Bool → ℕ → ℕ
puts Looks k x = x
puts (Writes w) k x = cond k w x
puts Zeroes k x = cond k 0 x
puts Begins k x = x
puts Passes k x = cond k 0 x

-- the same for all cells
abbrev pub by : (Effect → Bool → Bool → Bool) → Deed → Cells → Cells
by f d c r i = f d.effect (d.cover r i) (c r i)

-- a step as the planner works it: what it does, what the device makes of it, and what it sums
pub record Work : Type 0 where
  pub deed : Deed
  pub device : Bytes → Bytes
  pub said : Bytes → List ℕ

abbrev pub drained_set : Cells → List Work → Cells
drained_set b [] = nobody
drained_set b (w ∷ ws) = λ r i. by takes w.deed b r i || drained_set (by leaves w.deed b) ws r i

abbrev pub kept_set : Cells → List Work → Cells
kept_set b [] = b
kept_set b (w ∷ ws) = kept_set (by leaves w.deed b) ws

abbrev pub gone_set : Cells → List Work → Cells
gone_set g [] = g
gone_set g (w ∷ ws) = gone_set (by goes w.deed g) ws

abbrev pub device_after : List Work → Bytes → Bytes
device_after [] x = x
device_after (w ∷ ws) x = device_after ws (w.device x)

abbrev pub said_all : List Work → Bytes → List ℕ
said_all [] x = []
said_all (w ∷ ws) x = w.said x ++ said_all ws (w.device x)

-- the planner's turns: settled clears wait for the next step of the ledger
abbrev pub turn_by : Effect → Cells → Deed → (Cells → List Turn) → List Turn
turn_by Looks c d rest = turn c d ∷ rest nobody
turn_by (Writes w) c d rest = turn c d ∷ rest nobody
turn_by Zeroes c d rest = turn c d ∷ rest nobody
turn_by Begins c d rest = turn c d ∷ rest nobody
turn_by Passes c d rest = rest (either c d.cover)

abbrev pub plan_turns : Cells → List Work → List Turn
plan_turns c [] = []
plan_turns c (w ∷ ws) = turn_by w.deed.effect c w.deed (λ e. plan_turns e ws)

abbrev pub settled_count : Sizes → Effect → Cells → ℕ
settled_count z Looks k = 0
settled_count z (Writes w) k = 0
settled_count z Zeroes k = 0
settled_count z Begins k = 0
settled_count z Passes k = count_all z k

abbrev pub settled_counts : Sizes → List Work → ℕ
settled_counts z [] = 0
settled_counts z (w ∷ ws) = settled_count z w.deed.effect w.deed.cover + settled_counts z ws

-- what may be submitted: a read looks at no discarded cell that is not settled, nothing settled is written over before a
-- read looks at it, a discard is of covered cells, a settled clear of discarded ones, once; and in the end nothing is
-- settled that was not looked at
abbrev pub Stands : Effect → Bool → Bool → Bool → Bool → Type 0
Stands Looks k g v s = (k && g) ≡ true → s ≡ true
Stands (Writes w) k g v s = k ≡ true → s ≡ false
Stands Zeroes k g v s = Unit {0}
Stands Begins k g v s = k ≡ true → v ≡ true
Stands Passes k g v s = k ≡ true → (g ≡ true) × (s ≡ false)

abbrev pub Formed : Sizes → Cells → Cells → Cells → List Work → Type 0
Formed z g v s [] = Each z (λ r i. s r i ≡ false)
Formed z g v s (w ∷ ws) =
    Each z (λ r i. Stands w.deed.effect (w.deed.cover r i) (g r i) (v r i) (s r i))
    × Formed z (by goes w.deed g) (by sees w.deed v) (by settles w.deed s) ws

-- the device does what the step does, and the sum is that of the step's own range, which it covers
pub record Faithful (z : Sizes) (w : Work) : Type 0 where
  pub cells : (x : Bytes) → Each z (λ r i. w.device x r i ≡ puts w.deed.effect (w.deed.cover r i) (x r i))
  pub sums : (x : Bytes) → w.said x ≡ says_of w.deed.effect z w.deed.own x
  pub inside : Each z (λ r i. w.deed.own r i ≡ true → w.deed.cover r i ≡ true)

abbrev pub AllFaithful : Sizes → List Work → Type 0
AllFaithful z [] = Unit {0}
AllFaithful z (w ∷ ws) = Faithful z w × AllFaithful z ws

abbrev pub AllReady : Sizes → Cells → Bytes → Marks → Type 0
AllReady z b x l = Each z (λ r i. Ready (b r i) (l.owes r i) (l.byte r i) (x r i))

-- what a list drains stood in the book
in_step : (e : Effect) (b k q : Bool) → (q ≡ true → leaves e k b ≡ true) → (takes e k b || q) ≡ true → b ≡ true
in_step Looks b k q ih e = grind arith
in_step (Writes w) b k q ih e = grind arith
in_step Zeroes b k q ih e = ih e
in_step Begins b k q ih e = ih e
in_step Passes b k q ih e = ih e

pub drained_in : (ws : List Work) (b : Cells) (r i : ℕ) → drained_set b ws r i ≡ true → b r i ≡ true
drained_in [] b r i e = grind arith
drained_in (w ∷ ws) b r i e =
    in_step w.deed.effect (b r i) (w.deed.cover r i) (drained_set (by leaves w.deed b) ws r i) (drained_in ws (by leaves w.deed b) r i) e

-- the turns of any choice of clears for the same steps; settled clears are no steps there
abbrev pub zip_by : Effect → List Cells → Deed → (List Cells → List Turn) → List Turn
zip_by Looks [] d rest = turn nobody d ∷ rest []
zip_by Looks (c ∷ cs) d rest = turn c d ∷ rest cs
zip_by (Writes w) [] d rest = turn nobody d ∷ rest []
zip_by (Writes w) (c ∷ cs) d rest = turn c d ∷ rest cs
zip_by Zeroes [] d rest = turn nobody d ∷ rest []
zip_by Zeroes (c ∷ cs) d rest = turn c d ∷ rest cs
zip_by Begins [] d rest = turn nobody d ∷ rest []
zip_by Begins (c ∷ cs) d rest = turn c d ∷ rest cs
zip_by Passes cs d rest = rest cs

abbrev pub zip_turns : List Cells → List Work → List Turn
zip_turns cs [] = []
zip_turns cs (w ∷ ws) = zip_by w.deed.effect cs w.deed (λ ds. zip_turns ds ws)
