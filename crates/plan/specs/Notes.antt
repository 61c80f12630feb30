-- How a report fills: each read's sum in the next place, and beside it the commands that went before.
use Rattle.std.specs.Prelude.{ℕ, ◌+◌, List, [], ◌∷◌, length, slice_set}
use Rattle.rules.specs.Reports.{beside, over}
use Rattle.rules.specs.declared.report.Report.{Report}

-- one sum more, after so many commands
abbrev pub noted : Report → ℕ → ℕ → Report
noted r sum done =
    record {
      cleared = r.cleared;
      commands = r.commands;
      reads = r.reads + 1;
      sums = slice_set r.sums r.reads (record { total = sum; before = done });
    }

-- the sums of one step, of which there is at most one
abbrev pub noted_step : Report → List ℕ → ℕ → Report
noted_step r [] done = r
noted_step r (sum ∷ sums) done = noted r sum done

-- a report with these sums in its first places
abbrev pub filled : Report → List ℕ → List ℕ → Report
filled r sums befores =
    record {
      cleared = r.cleared;
      commands = r.commands;
      reads = length sums;
      sums = over (beside sums befores) r.sums;
    }
