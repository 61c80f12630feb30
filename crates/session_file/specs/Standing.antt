-- A planner over a journal, as a moment of a session.
use Rattle.std.specs.Prelude.{◌≡◌, ℕ, ◌++◌, replicate, string_bytes, vec_len}
use Rattle.device.specs.Journal.{Continued, meaning_of, written}
use Rattle.device.specs.Meaning.{most_cells}
use Rattle.device.specs.declared.journal.Journal.{Journal}
use Rattle.rules.specs.State.{State}
use Rattle.planner.specs.View.{view}
use Rattle.rules.specs.Calls.{Outcome, outcome}
use Rattle.rules.specs.declared.call.Call.{Call}
use Rattle.rules.specs.declared.report.Report.{Report}
use Rattle.session_file.specs.Session.{Moment, after, outcome_lines}
use Rattle.session_file.specs.declared.header.Header.{Header}
use Rattle.session_file.specs.declared.session.Session.{Session as Running}

-- the moment at which a planner's state, its journal and the report stand
abbrev pub moment_of : State → Journal → Report → Moment
moment_of st j r = record { state = st; log = written j; report = r }

-- what a call does to them
abbrev pub performed : State → Journal → Report → Call → Outcome
performed st j r c = outcome st (meaning_of j) r c

-- the same of a session under way
abbrev pub stands : Running → Moment
stands s = moment_of (view s.planner) s.planner.device s.records.report

abbrev pub does : Running → Call → Outcome
does s c = performed (view s.planner) s.planner.device s.records.report c

-- a journal made as the header asks, whatever is written in it
pub record MadeBy (h : Header) (j : Journal) : Type 0 where
  pub begins : j.start ≡ h.start
  pub reaches : j.extents ≡ replicate 24 most_cells
  pub room : vec_len j.records ≡ h.allowance

-- a call, from a session to the session then: its lines are added, the moment is the one after it, and the journal goes
-- on
pub record Called (k : ℕ) (c : Call) (was now : Running) : Type 0 where
  pub lists : string_bytes now.listing ≡ string_bytes was.listing ++ outcome_lines k (does was c)
  pub moves : stands now ≡ after (stands was) (does was c)
  pub keeps : Continued was.planner.device (does was c).commands now.planner.device
