-- Recording: what each step of a buffer is declined for, and what the list becomes.
use Rattle.std.specs.Prelude.{ℕ, ◌+◌, ◌-◌, ◌^◌, Bool, cond, not, ◌&&◌, List, [], ◌∷◌, ◌++◌, length, Some, None, Option, Result, nat_le, nat_lt}
use Rattle.fault.specs.declared.Fault.{Fault}
use Rattle.fault.specs.declared.call_kind.CallKind.{CallKind}
use Rattle.fault.specs.declared.refusal.Refusal.{Refusal}
use Rattle.fault.specs.declared.refusal.Refusal.TheVariants.{Destroyed, NoCopyUsage, UnalignedStart, UnalignedEnd, AddressOverflow, PastBuffer, Backward, ListFull}
use Rattle.rules.specs.State.{State, Buffer, CommandList, buffer_at, list_at, put_list}
use Rattle.rules.specs.Verdicts.{Verdict, tried, and_then, accepts, told, known_list, known_buffer, unaligned}
use Rattle.rules.specs.Lists.{allows}
use Rattle.rules.specs.declared.step.Step.{Step}
use Rattle.rules.specs.declared.list_state.ListState.{ListState}
use Rattle.rules.specs.declared.list_state.ListState.TheVariants.{Idle, Recording, InDebt, Closed, Broken}
use Rattle.rules.specs.declared.list_state.ListCall.TheVariants.{Step as Record}

-- a list holds 64 steps; an empty range adds none, and so never meets the limit
abbrev pub no_place : ℕ → ℕ → ℕ → Bool
no_place held start end = nat_lt start end && nat_le 64 held

-- a read of start..end: its start is a multiple of 4; its end need not be one
abbrev pub read_causes : ℕ → ℕ → Buffer → ℕ → List (Bool × Refusal)
read_causes start end b held =
    (not b.standing, Destroyed) ∷ (unaligned start, UnalignedStart) ∷ (nat_lt b.size end, PastBuffer)
    ∷ (nat_lt end start, Backward) ∷ (no_place held start end, ListFull) ∷ []

-- a write of start..end: both are multiples of 4
abbrev pub write_causes : ℕ → ℕ → Buffer → ℕ → List (Bool × Refusal)
write_causes start end b held =
    (not b.standing, Destroyed) ∷ (unaligned start, UnalignedStart) ∷ (unaligned end, UnalignedEnd)
    ∷ (nat_lt b.size end, PastBuffer) ∷ (nat_lt end start, Backward) ∷ (no_place held start end, ListFull) ∷ []

-- how much a clear takes: a missing size is what is left of the buffer, at least 0
abbrev pub clear_size : Option ℕ → ℕ → ℕ → ℕ
clear_size None offset size = size - offset
clear_size (Some n) offset size = n

-- a clear from offset on; a destroyed buffer is not among its causes, since it is refused at submission only
abbrev pub clear_causes : ℕ → Option ℕ → Buffer → ℕ → List (Bool × Refusal)
clear_causes offset size b held =
    (not b.copy, NoCopyUsage) ∷ (unaligned offset, UnalignedStart)
    ∷ (unaligned (clear_size size offset b.size), UnalignedEnd)
    ∷ (nat_le (2 ^ 64) (offset + clear_size size offset b.size), AddressOverflow)
    ∷ (nat_lt b.size (offset + clear_size size offset b.size), PastBuffer)
    ∷ (no_place held offset (offset + clear_size size offset b.size), ListFull) ∷ []

-- a step is declined for an unknown list or buffer first, then for the list's state, then for its own causes
abbrev pub step_verdict : State → ℕ → ℕ → (Buffer → ℕ → List (Bool × Refusal)) → Verdict
step_verdict st l n causes =
    and_then (known_list st l)
    (and_then (known_buffer st n)
    (and_then (allows (list_at st l).state Record)
    (tried (causes (buffer_at st n) (length (list_at st l).steps)))))

-- its fault names the buffer and the number of steps before it
abbrev pub step_answer : CallKind → State → ℕ → ℕ → (Buffer → ℕ → List (Bool × Refusal)) → Result (Unit {0}) Fault
step_answer k st l n causes = told k n (length (list_at st l).steps) (step_verdict st l n causes)

-- a step that is given up breaks a list that is recording, and no other
abbrev pub given_up : ListState → ListState
given_up Idle = Idle
given_up Recording = Broken
given_up InDebt = InDebt
given_up Closed = Closed
given_up Broken = Broken

-- a step joins its list, unless its range is empty
abbrev pub joins : ℕ → ℕ → Step → List Step → List Step
joins start end s ss = cond (nat_lt start end) (ss ++ (s ∷ [])) ss

-- a list after a step
abbrev pub stepped_list : CommandList → Verdict → ℕ → ℕ → Step → CommandList
stepped_list p v start end s =
    cond (accepts v) (record { state = p.state; steps = joins start end s p.steps })
    (record { state = given_up p.state; steps = p.steps })

-- only the named list changes
abbrev pub step_after : State → ℕ → ℕ → (Buffer → ℕ → List (Bool × Refusal)) → ℕ → ℕ → Step → State
step_after st l n causes start end s =
    put_list st l (stepped_list (list_at st l) (step_verdict st l n causes) start end s)
