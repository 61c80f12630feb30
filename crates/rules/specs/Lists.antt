-- The five states of a list: which call each allows, and what it becomes.
use Rattle.std.specs.Prelude.{ℕ, cond, List, [], Ok, Err, Result}
use Rattle.fault.specs.declared.Fault.{Fault}
use Rattle.fault.specs.declared.call_kind.CallKind.{CallKind}
use Rattle.fault.specs.declared.refusal.Refusal.TheVariants.{WrongState, InDebt as Indebted}
use Rattle.rules.specs.State.{State, CommandList, list_at, put_list}
use Rattle.rules.specs.Verdicts.{Verdict, and_then, accepts, told, known_list}
use Rattle.rules.specs.declared.step.Step.{Step}
use Rattle.rules.specs.declared.list_state.ListState.{ListState}
use Rattle.rules.specs.declared.list_state.ListState.TheVariants.{Idle, Recording, InDebt, Closed, Broken}
use Rattle.rules.specs.declared.list_state.ListCall.{ListCall}
use Rattle.rules.specs.declared.list_state.ListCall.TheVariants.{Open, Close, Abandon, Step as Record, Submit}

-- an idle list is opened, a recording one closed or given steps, a closed one submitted, any that is not in debt
-- abandoned; a list in debt allows none of these
abbrev pub allows : ListState → ListCall → Verdict
allows Idle Open = Ok tt
allows Idle Close = Err WrongState
allows Idle Abandon = Ok tt
allows Idle Record = Err WrongState
allows Idle Submit = Err WrongState
allows Recording Open = Err WrongState
allows Recording Close = Ok tt
allows Recording Abandon = Ok tt
allows Recording Record = Ok tt
allows Recording Submit = Err WrongState
allows InDebt Open = Err Indebted
allows InDebt Close = Err Indebted
allows InDebt Abandon = Err Indebted
allows InDebt Record = Err Indebted
allows InDebt Submit = Err Indebted
allows Closed Open = Err WrongState
allows Closed Close = Err WrongState
allows Closed Abandon = Ok tt
allows Closed Record = Err WrongState
allows Closed Submit = Ok tt
allows Broken Open = Err WrongState
allows Broken Close = Err WrongState
allows Broken Abandon = Ok tt
allows Broken Record = Err WrongState
allows Broken Submit = Err WrongState

-- what a list becomes by a call that its state allows; a step and a submission are let through, and do their own
abbrev pub becomes : ListState → ListCall → ListState
becomes s Open = Recording
becomes s Close = Closed
becomes s Abandon = Idle
becomes s Record = s
becomes s Submit = s

-- the state after a call: as it was where the call is not allowed
abbrev pub next_state : ListState → ListCall → ListState
next_state s c = cond (accepts (allows s c)) (becomes s c) s

-- opening and abandoning empty a list
abbrev pub kept_steps : ListCall → List Step → List Step
kept_steps Open ss = []
kept_steps Close ss = ss
kept_steps Abandon ss = []
kept_steps Record ss = ss
kept_steps Submit ss = ss

-- a list after a call that its state decides alone
abbrev pub next_list : CommandList → ListCall → CommandList
next_list p c =
    cond (accepts (allows p.state c)) (record { state = becomes p.state c; steps = kept_steps c p.steps }) p

-- open, close and abandon: the list is known, and its state allows the call
abbrev pub list_verdict : State → ListCall → ℕ → Verdict
list_verdict st c l = and_then (known_list st l) (allows (list_at st l).state c)

abbrev pub list_answer : CallKind → State → ListCall → ℕ → Result (Unit {0}) Fault
list_answer k st c l = told k 255 64 (list_verdict st c l)

-- only the named list changes; a number past the lists changes none
abbrev pub list_after : State → ListCall → ℕ → State
list_after st c l = put_list st l (next_list (list_at st l) c)
