-- How a report begins, and how sums stand in it.
use Rattle.std.specs.Prelude.{ℕ, List, [], ◌∷◌, ◌++◌, length, drop, replicate}
use Rattle.rules.specs.declared.report.ReadSum.{ReadSum}
use Rattle.rules.specs.declared.report.Report.{Report}

-- a place that no read has filled
abbrev pub no_sum : ReadSum
no_sum = record { total = 0; before = 0 }

-- a report of nothing
abbrev pub blank_report : Report
blank_report = record { cleared = 0; commands = 0; reads = 0; sums = replicate 64 no_sum }

-- a report with no sum yet: its places hold what they held
abbrev pub begun : Report → ℕ → ℕ → Report
begun old cleared commands = record { cleared = cleared; commands = commands; reads = 0; sums = old.sums }

-- each sum beside the number of commands before it
abbrev pub beside : List ℕ → List ℕ → List ReadSum
beside [] bs = []
beside (s ∷ ss) [] = []
beside (s ∷ ss) (b ∷ bs) = record { total = s; before = b } ∷ beside ss bs

-- the first places hold these sums, and the others what they held
abbrev pub over : List ReadSum → List ReadSum → List ReadSum
over xs old = xs ++ drop (length xs) old
