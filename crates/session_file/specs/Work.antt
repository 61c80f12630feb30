-- What an accepted submission did, in the order in which it happened.
use Rattle.std.specs.Prelude.{ℕ, ◌-◌, List, [], ◌∷◌, ◌++◌, take, drop}
use Rattle.device.specs.declared.command.Command.{Command}
use Rattle.rules.specs.declared.report.ReadSum.{ReadSum}
use Rattle.rules.specs.declared.report.Report.{Report}
use Rattle.session_file.specs.Lines.{command_lines, sum_line}

-- from a command on: before each sum the commands that went before it, and at the end those that are left
abbrev pub worked : List Command → ℕ → List ReadSum → List ℕ
worked cs at [] = command_lines (drop at cs)
worked cs at (r ∷ rs) = command_lines (take (r.before - at) (drop at cs)) ++ (sum_line r.total ++ worked cs r.before rs)

-- the work of a submission, by its commands and the reads of its report, in order
abbrev pub work_lines : List Command → Report → List ℕ
work_lines cs r = worked cs 0 (take r.reads r.sums)
