-- A whole session, from the bytes of its file to the bytes of its listing.
use Rattle.std.specs.Prelude.{ℕ, zero, suc, ◌+◌, ◌-◌, List, [], ◌++◌, length, drop, replicate, Some, None, Option, Ok, Err, slice_index}
use Rattle.device.specs.declared.command.Command.{Command}
use Rattle.device.specs.Meaning.{Meaning, most_cells, ran}
use Rattle.rules.specs.State.{State, new_state}
use Rattle.rules.specs.Calls.{Answer, Outcome, outcome}
use Rattle.rules.specs.Reports.{blank_report}
use Rattle.rules.specs.declared.answer.Accepted.TheVariants.{Made, Done, Submitted}
use Rattle.rules.specs.declared.call.Call.{Call}
use Rattle.rules.specs.declared.report.Report.{Report}
use Rattle.session_file.specs.Decode.{call_of}
use Rattle.session_file.specs.Header.{header_of}
use Rattle.session_file.specs.Lines.{bad_line, answer_line}
use Rattle.session_file.specs.Work.{work_lines}
use Rattle.session_file.specs.declared.header.Header.{Header}

-- what stands between two calls: the planner's state, the commands so far, and the last report
pub record Moment : Type 0 where
  pub state : State
  pub log : List Command
  pub report : Report

-- a new planner of the header's pitch, no command, and a report of nothing
abbrev pub beginning : Header → Moment
beginning h = record { state = new_state 0 h.pitch; log = []; report = blank_report }

-- 24 slots of the most cells, all at the starting byte but for what the commands wrote; each command used one of the
-- allowance
abbrev pub device_after : Header → List Command → Meaning
device_after h log =
    record {
      extent = λ s. slice_index (replicate 24 most_cells) s;
      cell = λ s i. ran (λ _ _. h.start) log s i;
      allowance = h.allowance - length log;
    }

-- what a call does at a moment, by the rules
abbrev pub done : Header → Moment → Call → Outcome
done h m c = outcome m.state (device_after h m.log) m.report c

-- the moment after it
abbrev pub after : Moment → Outcome → Moment
after m o = record { state = o.state; log = m.log ++ o.commands; report = o.report }

-- only an accepted submission has work to list
abbrev pub work_of : Answer → List Command → Report → List ℕ
work_of (Ok (Made n)) cs r = []
work_of (Ok Done) cs r = []
work_of (Ok Submitted) cs r = work_lines cs r
work_of (Err f) cs r = []

-- what a call lists: its work, and then its own line under its number
abbrev pub call_lines : ℕ → Answer → List Command → Report → List ℕ
call_lines k a cs r = work_of a cs r ++ answer_line k r.cleared a

-- the same, by what the rules say that it does
abbrev pub outcome_lines : ℕ → Outcome → List ℕ
outcome_lines k o = call_lines k o.answer o.commands o.report

-- a call that is not all there ends the listing
abbrev pub or_bad : Option Call → (Call → List ℕ) → List ℕ
or_bad None f = bad_line
or_bad (Some c) f = f c

-- the lines of n more calls, where k were before and the next begins these bytes
unfoldable pub lines_from : Header → ℕ → ℕ → List ℕ → Moment → List ℕ
lines_from h zero k xs m = []
lines_from h (suc n) k xs m =
    or_bad (call_of xs) (λ c. outcome_lines (k + 1) (done h m c) ++ lines_from h n (k + 1) (drop 32 xs) (after m (done h m c)))

-- the listing under a header, if there is one
abbrev pub listing_by : Option Header → List ℕ → List ℕ
listing_by None xs = bad_line
listing_by (Some h) xs = lines_from h h.calls 0 (drop h.offset xs) (beginning h)

-- the listing of a file
abbrev pub listing : List ℕ → List ℕ
listing xs = listing_by (header_of xs) xs
