-- A small run by the rules: a buffer of 6 bytes, 0..4 written with 9, 0..6 read, submitted, and submitted again.
use Rattle.std.specs.Prelude.{◌≡◌, ℕ, ◌-◌, List, [], ◌∷◌, map, length, Ok, Err}
use Rattle.fault.specs.declared.call_kind.CallKind.TheVariants.{Submit as Submitting}
use Rattle.fault.specs.declared.refusal.Refusal.TheVariants.{WrongState}
use Rattle.fault.specs.Parts.{fault_of}
use Rattle.device.specs.declared.command.Command.{Command}
use Rattle.device.specs.declared.command.CommandKind.TheVariants.{Clear, Fill}
use Rattle.device.specs.Meaning.{Meaning, ran}
use Rattle.rules.specs.State.{State, new_state}
use Rattle.rules.specs.Calls.{Answer, Outcome, outcome}
use Rattle.rules.specs.declared.answer.Accepted.TheVariants.{Made, Done, Submitted}
use Rattle.rules.specs.declared.call.Call.{Call}
use Rattle.rules.specs.declared.call.Call.TheVariants.{MakeBuffer, Open, BufferWrite, BufferRead, Close, Submit}
use Rattle.rules.specs.Reports.{beside}
use Rattle.rules.specs.declared.report.Report.{Report}

-- a device after the commands of a call
abbrev pub next : Meaning → List Command → Meaning
next m cs = record { extent = m.extent; cell = ran m.cell cs; allowance = m.allowance - length cs }

-- the outcomes of calls, one after the other
abbrev pub outcomes : State → Meaning → Report → List Call → List Outcome
outcomes st m old [] = []
outcomes st m old (k ∷ ks) =
    outcome st m old k ∷ outcomes (outcome st m old k).state (next m (outcome st m old k).commands) (outcome st m old k).report ks

abbrev pub answers : List Outcome → List Answer
answers [] = []
answers (o ∷ os) = o.answer ∷ answers os

abbrev pub all_commanded : List Outcome → List (List Command)
all_commanded [] = []
all_commanded (o ∷ os) = o.commands ∷ all_commanded os

abbrev pub cleareds : List Outcome → List ℕ
cleareds [] = []
cleareds (o ∷ os) = o.report.cleared ∷ cleareds os

abbrev pub first_sums : List Outcome → List (List ℕ)
first_sums [] = []
first_sums (o ∷ os) = map (λ s. s.total) o.report.sums ∷ first_sums os

abbrev pub sample_outcomes : List Outcome
sample_outcomes =
    outcomes (new_state 0 1) (record { extent = λ s. 1099511627776; cell = λ s i. 7; allowance = 8 })
    (record { cleared = 0; commands = 0; reads = 0; sums = beside (5 ∷ 5 ∷ []) (5 ∷ 5 ∷ []) })
    (MakeBuffer 6 0 ∷ Open 0 ∷ BufferWrite 0 0 9 0 4 ∷ BufferRead 0 0 0 6 ∷ Close 0 ∷ Submit 0 ∷ Submit 0 ∷ [])

-- what is answered, commanded and summed
pub record SampleRuns : Type 0 where
  pub answered : answers sample_outcomes ≡ Ok (Made 0) ∷ Ok Done ∷ Ok Done ∷ Ok Done ∷ Ok Done ∷ Ok Submitted ∷ Err (fault_of Submitting WrongState 255 64) ∷ []
  pub commanded : all_commanded sample_outcomes ≡ [] ∷ [] ∷ [] ∷ [] ∷ []
      ∷ (record { kind = Clear; slot = 0; first = 4; count = 4 } ∷ record { kind = Fill 9; slot = 0; first = 0; count = 4 } ∷ [])
      ∷ [] ∷ []
  pub cleared : cleareds sample_outcomes ≡ 0 ∷ 0 ∷ 0 ∷ 0 ∷ 0 ∷ 4 ∷ 4 ∷ []
  pub summed : first_sums sample_outcomes ≡ (5 ∷ 5 ∷ []) ∷ (5 ∷ 5 ∷ []) ∷ (5 ∷ 5 ∷ []) ∷ (5 ∷ 5 ∷ []) ∷ (5 ∷ 5 ∷ []) ∷ (36 ∷ 5 ∷ []) ∷ (36 ∷ 5 ∷ []) ∷ []
