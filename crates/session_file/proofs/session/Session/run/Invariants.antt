use Rattle.std.proofs.Common.{◌≡◌, ◌-◌, ◌++◌, string_bytes}
use Rattle.session_file.specs.Session.{lines_from}
use Rattle.session_file.specs.Standing.{MadeBy, stands}
use Rattle.session_file.proofs.session.Session.run.Given as goal

-- the journal is as it was made, and what is written and the lines of the calls that are left make the listing
abbrev pub invariant-loop-before : goal.invariant-loop-before
invariant-loop-before l =
    MadeBy l.fn.header l.self.planner.device
    × (string_bytes l.self.listing ++ lines_from l.fn.header (l.fn.header.calls - l.before) l.before l.rest (stands l.self)
    ≡ string_bytes l.initial.self.listing ++ lines_from l.fn.header l.fn.header.calls 0 l.calls (stands l.initial.self))
