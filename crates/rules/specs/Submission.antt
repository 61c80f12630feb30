-- Submission: what declines it before the first command, and what an accepted one does.
use Rattle.std.specs.Prelude.{ℕ, ◌+◌, ◌-◌, Bool, true, cond, ◌&&◌, List, [], ◌∷◌, ◌++◌, length, Ok, Err, Result, nat_le, slice_index_or}
use Rattle.fault.specs.declared.Fault.{Fault}
use Rattle.fault.specs.declared.call_kind.CallKind.TheVariants.{Submit as Submitting}
use Rattle.fault.specs.declared.refusal.Refusal.TheVariants.{Destroyed, PlacesFull, AllowanceShort, BadDescription}
use Rattle.fault.specs.Parts.{fault_of}
use Rattle.device.specs.declared.command.Command.{Command}
use Rattle.device.specs.Commands.{fits_in}
use Rattle.device.specs.Meaning.{Meaning, ran}
use Rattle.rules.specs.State.{State, Buffer, no_buffer, idle_list, list_at, with_buffers, put_list}
use Rattle.rules.specs.Reports.{beside, over}
use Rattle.rules.specs.Verdicts.{and_then, accepts, told}
use Rattle.rules.specs.Lists.{list_verdict}
use Rattle.rules.specs.Uses.{buffer_of, start_of, end_of, step_commands, step_sums, commands_before}
use Rattle.rules.specs.Planning.{drain_step, drain_steps, holds, planned, clears_of, cells_in}
use Rattle.rules.specs.declared.list_state.ListCall.TheVariants.{Submit}
use Rattle.rules.specs.declared.report.Report.{Report}
use Rattle.rules.specs.declared.step.Step.{Step}

-- each step's buffer stands; the fault names the first that does not, by its buffer and its place
abbrev pub all_stand : List Buffer → ℕ → List Step → Result (Unit {0}) Fault
all_stand bs k [] = Ok tt
all_stand bs k (s ∷ ss) =
    cond (slice_index_or bs (buffer_of s) no_buffer).standing (all_stand bs (k + 1) ss) (Err (fault_of Submitting Destroyed (buffer_of s) k))

-- each step leaves its book within its places; the fault names the first that does not
abbrev pub all_hold : List Buffer → ℕ → List Step → Result (Unit {0}) Fault
all_hold bs k [] = Ok tt
all_hold bs k (s ∷ ss) =
    cond (holds bs s) (all_hold (drain_step bs s) (k + 1) ss) (Err (fault_of Submitting PlacesFull (buffer_of s) k))

-- what the device is asked to do: the clears, and then the steps
abbrev pub all_commands : List Buffer → List Step → List Command
all_commands bs ss = clears_of (planned bs ss) ++ step_commands ss

-- the allowance is enough for all of them
abbrev pub enough : Meaning → List Command → Result (Unit {0}) Fault
enough m cs = cond (nat_le (length cs) m.allowance) (Ok tt) (Err (fault_of Submitting AllowanceShort 255 64))

-- each clear and each step's own range lies within the extent of its slot
abbrev pub all_fit : (ℕ → ℕ) → List Command → Bool
all_fit extent [] = true
all_fit extent (c ∷ cs) = fits_in extent c && all_fit extent cs

abbrev pub step_fits : (ℕ → ℕ) → Step → Bool
step_fits extent s = nat_le (start_of s + (end_of s - start_of s)) (extent (buffer_of s))

abbrev pub steps_fit : (ℕ → ℕ) → List Step → Bool
steps_fit extent [] = true
steps_fit extent (s ∷ ss) = step_fits extent s && steps_fit extent ss

abbrev pub within : Meaning → List Buffer → List Step → Result (Unit {0}) Fault
within m bs ss =
    cond (all_fit m.extent (clears_of (planned bs ss)) && steps_fit m.extent ss) (Ok tt) (Err (fault_of Submitting BadDescription 255 64))

-- what declines the steps of a closed list
abbrev pub steps_verdict : Meaning → List Buffer → List Step → Result (Unit {0}) Fault
steps_verdict m bs ss =
    and_then (all_stand bs 0 ss) (and_then (all_hold bs 0 ss) (and_then (enough m (all_commands bs ss)) (within m bs ss)))

-- a closed list is submitted; every cause is tried before the first command
abbrev pub submit_answer : State → Meaning → ℕ → Result (Unit {0}) Fault
submit_answer st m l =
    and_then (told Submitting 255 64 (list_verdict st Submit l)) (steps_verdict m st.buffers (list_at st l).steps)

-- an accepted submission leaves its list idle, and takes what its steps cover out of the books; a declined one changes
-- nothing
abbrev pub submit_after : State → Meaning → ℕ → State
submit_after st m l =
    cond (accepts (submit_answer st m l))
    (put_list (with_buffers st st.made (drain_steps st.buffers (list_at st l).steps)) l idle_list) st

abbrev pub submit_commands : State → Meaning → ℕ → List Command
submit_commands st m l =
    cond (accepts (submit_answer st m l)) (all_commands st.buffers (list_at st l).steps) []

-- the cells cleared for reads, the commands, and for each read its sum and how many commands went before it
abbrev pub reported : Meaning → List Buffer → List Step → Report → Report
reported m bs ss old =
    record {
      cleared = cells_in (planned bs ss);
      commands = length (all_commands bs ss);
      reads = length (step_sums (ran m.cell (clears_of (planned bs ss))) ss);
      sums = over (beside (step_sums (ran m.cell (clears_of (planned bs ss))) ss) (commands_before (length (planned bs ss)) ss)) old.sums;
    }

abbrev pub submit_report : State → Meaning → ℕ → Report → Report
submit_report st m l old =
    cond (accepts (submit_answer st m l)) (reported m st.buffers (list_at st l).steps old) old
