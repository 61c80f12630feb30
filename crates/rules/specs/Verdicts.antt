-- Causes are tried in an order, and the first that holds decides.
use Rattle.std.specs.Prelude.{ℕ, ◌%◌, Bool, true, false, cond, not, List, [], ◌∷◌, length, Ok, Err, Result, ◌==◌, nat_lt}
use Rattle.fault.specs.declared.Fault.{Fault}
use Rattle.fault.specs.declared.call_kind.CallKind.{CallKind}
use Rattle.fault.specs.declared.refusal.Refusal.{Refusal}
use Rattle.fault.specs.declared.refusal.Refusal.TheVariants.{Unknown}
use Rattle.fault.specs.Parts.{fault_of}
use Rattle.rules.specs.State.{State}

-- accepted, or declined for a cause
abbrev pub Verdict : Type 0
Verdict = Result (Unit {0}) Refusal

-- the first of the causes that holds declines
abbrev pub tried : List (Bool × Refusal) → Verdict
tried [] = Ok tt
tried (c ∷ cs) = cond c.0 (Err c.1) (tried cs)

-- the second is tried where the first accepts
abbrev pub and_then : {E : Type 0} → Result (Unit {0}) E → Result (Unit {0}) E → Result (Unit {0}) E
and_then (Ok u) w = w
and_then (Err e) w = Err e

-- whether a verdict accepts
abbrev pub accepts : {E : Type 0} → Result (Unit {0}) E → Bool
accepts (Ok u) = true
accepts (Err e) = false

-- what the caller is told of a verdict: a fault names the resource and the place
abbrev pub told : CallKind → ℕ → ℕ → Verdict → Result (Unit {0}) Fault
told k resource place (Ok u) = Ok tt
told k resource place (Err r) = Err (fault_of k r resource place)

-- a number of a list that there is
abbrev pub known_list : State → ℕ → Verdict
known_list st l = cond (nat_lt l (length st.lists)) (Ok tt) (Err Unknown)

-- a number of a buffer that was given out
abbrev pub known_buffer : State → ℕ → Verdict
known_buffer st n = cond (nat_lt n st.made) (Ok tt) (Err Unknown)

-- a number that is no multiple of 4
abbrev pub unaligned : ℕ → Bool
unaligned n = not (n % 4 == 0)
