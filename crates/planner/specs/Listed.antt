-- A list as the rules speak of it, and what a guard leaves.
use Rattle.std.specs.Prelude.{ℕ, Bool, true, false, Ok, Err, Result}
use Rattle.fault.specs.declared.refusal.Refusal.{Refusal}
use Rattle.rules.specs.Lists.{allows}
use Rattle.rules.specs.State.{State, CommandList as Known, list_at}
use Rattle.rules.specs.Steps.{given_up, stepped_list}
use Rattle.rules.specs.Uses.{start_of, end_of}
use Rattle.rules.specs.Verdicts.{Verdict, and_then, known_list, known_buffer}
use Rattle.rules.specs.declared.list_state.ListCall.TheVariants.{Step as Record}
use Rattle.rules.specs.declared.step.Step.{Step}
use Rattle.rules.specs.declared.list_state.ListState.{ListState}
use Rattle.planner.specs.declared.list.CommandList.{CommandList}

-- its state and its steps
abbrev pub view_list : CommandList → Known
view_list p = record { state = p.state; steps = p.steps }

-- the state after a step that finished, or that was given up
abbrev pub left_by : Bool → ListState → ListState
left_by true s = s
left_by false s = given_up s

-- what a step's own causes say of it
abbrev pub verdict_of : Result Step Refusal → Verdict
verdict_of (Ok s) = Ok tt
verdict_of (Err r) = Err r

-- and what its list and its buffer say before them
abbrev pub verdict_on : State → ℕ → ℕ → Verdict → Verdict
verdict_on st l n v = and_then (known_list st l) (and_then (known_buffer st n) (and_then (allows (list_at st l).state Record) v))

-- a list after a step on which there is this verdict; one that its own causes decline is given up
abbrev pub list_with : Known → Verdict → Result Step Refusal → Known
list_with p v (Ok s) = stepped_list p v (start_of s) (end_of s) s
list_with p v (Err r) = record { state = given_up p.state; steps = p.steps }
