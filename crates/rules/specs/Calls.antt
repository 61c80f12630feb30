-- Each call of a planner as one function of what was: its answer, the state, the commands and the report after it.
use Rattle.std.specs.Prelude.{◌+◌, List, [], Ok, Err, Result}
use Rattle.fault.specs.declared.Fault.{Fault}
use Rattle.fault.specs.declared.call_kind.CallKind.TheVariants as kind
use Rattle.fault.specs.declared.refusal.Refusal.TheVariants as cause
use Rattle.fault.specs.Parts.{fault_of}
use Rattle.device.specs.declared.command.Command.{Command}
use Rattle.device.specs.Meaning.{Meaning}
use Rattle.rules.specs.State.{State, buffer_at}
use Rattle.rules.specs.Lists.{list_answer, list_after}
use Rattle.rules.specs.Making.{make_answer, make_after, destroy_answer, destroy_after}
use Rattle.rules.specs.Steps.{read_causes, write_causes, clear_causes, clear_size, step_answer, step_after}
use Rattle.rules.specs.Submission.{submit_answer, submit_after, submit_commands, submit_report}
use Rattle.rules.specs.declared.answer.Accepted.{Accepted}
use Rattle.rules.specs.declared.answer.Accepted.TheVariants.{Made, Done, Submitted}
use Rattle.rules.specs.declared.call.Call.{Call}
use Rattle.rules.specs.declared.call.Call.TheVariants as call
use Rattle.rules.specs.declared.list_state.ListCall.TheVariants.{Open, Close, Abandon}
use Rattle.rules.specs.declared.report.Report.{Report}
use Rattle.rules.specs.declared.step.Step.TheVariants.{BufferRead, BufferWrite, ClearBuffer}

-- accepted, or declined with a fault
abbrev pub Answer : Type 0
Answer = Result Accepted Fault

-- what a call does
pub record Outcome : Type 0 where
  pub answer : Answer
  pub state : State
  pub commands : List Command
  pub report : Report

-- an accepted call's answer is made of what it gives; a declined one's is its fault
abbrev pub answered : {A : Type 0} → (A → Accepted) → Result A Fault → Answer
answered f (Ok x) = Ok (f x)
answered f (Err e) = Err e

-- a call that commands nothing and leaves the report
abbrev pub quiet : Answer → State → Report → Outcome
quiet a st old = record { answer = a; state = st; commands = []; report = old }

abbrev pub outcome : State → Meaning → Report → Call → Outcome
outcome st m old (call.MakeBuffer size copy) = quiet (answered Made (make_answer st m.extent size copy)) (make_after st m.extent size copy) old
outcome st m old (call.Destroy n) = quiet (answered (λ u. Done) (destroy_answer st n)) (destroy_after st n) old
outcome st m old (call.Open l) = quiet (answered (λ u. Done) (list_answer kind.Open st Open l)) (list_after st Open l) old
outcome st m old (call.Close l) = quiet (answered (λ u. Done) (list_answer kind.Close st Close l)) (list_after st Close l) old
outcome st m old (call.Abandon l) = quiet (answered (λ u. Done) (list_answer kind.Abandon st Abandon l)) (list_after st Abandon l) old
outcome st m old (call.BufferRead l n start end) =
    quiet (answered (λ u. Done) (step_answer kind.BufferRead st l n (read_causes start end)))
    (step_after st l n (read_causes start end) start end (BufferRead n start end)) old
outcome st m old (call.BufferWrite l n byte start end) =
    quiet (answered (λ u. Done) (step_answer kind.BufferWrite st l n (write_causes start end)))
    (step_after st l n (write_causes start end) start end (BufferWrite n byte start end)) old
outcome st m old (call.ClearBuffer l n offset size) =
    quiet (answered (λ u. Done) (step_answer kind.ClearBuffer st l n (clear_causes offset size)))
    (step_after st l n (clear_causes offset size) offset (offset + clear_size size offset (buffer_at st n).size)
    (ClearBuffer n offset (offset + clear_size size offset (buffer_at st n).size))) old
outcome st m old (call.Submit l) =
    record { answer = answered (λ u. Submitted) (submit_answer st m l); state = submit_after st m l; commands = submit_commands st m l; report = submit_report st m l old }
outcome st m old call.Unknown = quiet (Err (fault_of kind.Other cause.Unknown 255 64)) st old
