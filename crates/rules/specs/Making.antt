-- Making a buffer, and destroying one.
use Rattle.std.specs.Prelude.{ℕ, ◌+◌, true, false, cond, not, [], ◌∷◌, Ok, Err, Result, ◌==◌, nat_le, nat_lt, slice_set}
use Rattle.fault.specs.declared.Fault.{Fault}
use Rattle.fault.specs.declared.call_kind.CallKind.TheVariants.{MakeBuffer, Destroy}
use Rattle.fault.specs.declared.refusal.Refusal.TheVariants.{Destroyed, NoNumberFree, BadDescription}
use Rattle.fault.specs.Parts.{fault_of}
use Rattle.range_list.specs.Ranges.{whole}
use Rattle.rules.specs.State.{State, Buffer, buffer_at, with_buffers, rounded_up}
use Rattle.rules.specs.Verdicts.{Verdict, tried, and_then, accepts, told, known_buffer}

-- a buffer has at most 2^28 bytes, a copy flag of 0 or 1, and a slot whose extent holds its cells; a number is free
abbrev pub make_verdict : State → (ℕ → ℕ) → ℕ → ℕ → Verdict
make_verdict st extent size flag =
    tried ((nat_le 16 st.made, NoNumberFree) ∷ (nat_lt 268435456 size, BadDescription) ∷ (nat_lt 1 flag, BadDescription)
    ∷ (nat_lt (extent st.made) (rounded_up size), BadDescription) ∷ [])

-- the number that a verdict lets through
abbrev pub numbered : Verdict → ℕ → Result ℕ Fault
numbered (Ok u) n = Ok n
numbered (Err r) n = Err (fault_of MakeBuffer r 255 64)

-- the number is the least that was never given out
abbrev pub make_answer : State → (ℕ → ℕ) → ℕ → ℕ → Result ℕ Fault
make_answer st extent size flag = numbered (make_verdict st extent size flag) st.made

-- every cell of a new buffer owes
abbrev pub fresh_buffer : ℕ → ℕ → Buffer
fresh_buffer size flag = record { size = size; copy = (flag == 1); standing = true; owes = whole (rounded_up size) }

abbrev pub make_after : State → (ℕ → ℕ) → ℕ → ℕ → State
make_after st extent size flag =
    cond (accepts (make_verdict st extent size flag))
    (with_buffers st (st.made + 1) (slice_set st.buffers st.made (fresh_buffer size flag))) st

-- a buffer is destroyed once
abbrev pub destroy_verdict : State → ℕ → Verdict
destroy_verdict st n = and_then (known_buffer st n) (tried ((not (buffer_at st n).standing, Destroyed) ∷ []))

abbrev pub destroy_answer : State → ℕ → Result (Unit {0}) Fault
destroy_answer st n = told Destroy n 64 (destroy_verdict st n)

-- its size and its flag stay known
abbrev pub destroyed_buffer : Buffer → Buffer
destroyed_buffer b = record { size = b.size; copy = b.copy; standing = false; owes = b.owes }

abbrev pub destroy_after : State → ℕ → State
destroy_after st n =
    cond (accepts (destroy_verdict st n)) (with_buffers st st.made (slice_set st.buffers n (destroyed_buffer (buffer_at st n)))) st
