-- What a step does: the cells that it takes out of a book, what it commands, and what it sums.
use Rattle.std.specs.Prelude.{ℕ, ◌+◌, ◌-◌, Bool, true, false, List, [], ◌∷◌, ◌++◌}
use Rattle.device.specs.declared.command.Command.{Command}
use Rattle.device.specs.declared.command.CommandKind.TheVariants.{Clear, Fill}
use Rattle.device.specs.Meaning.{ran, summed}
use Rattle.rules.specs.State.{rounded_up}
use Rattle.rules.specs.declared.step.Step.{Step}
use Rattle.rules.specs.declared.step.Step.TheVariants.{BufferRead, BufferWrite, ClearBuffer}

-- the buffer that a step names
abbrev pub buffer_of : Step → ℕ
buffer_of (BufferRead n start end) = n
buffer_of (BufferWrite n byte start end) = n
buffer_of (ClearBuffer n start end) = n

-- a step's own range
abbrev pub start_of : Step → ℕ
start_of (BufferRead n start end) = start
start_of (BufferWrite n byte start end) = start
start_of (ClearBuffer n start end) = start

abbrev pub end_of : Step → ℕ
end_of (BufferRead n start end) = end
end_of (BufferWrite n byte start end) = end
end_of (ClearBuffer n start end) = end

-- what a step covers begins with its own range; a read covers up to the next multiple of 4
abbrev pub cover_end : Step → ℕ
cover_end (BufferRead n start end) = rounded_up end
cover_end (BufferWrite n byte start end) = end
cover_end (ClearBuffer n start end) = end

-- whether what a step covers has to be cleared first: a read looks, a write and a clear do not
abbrev pub looks : Step → Bool
looks (BufferRead n start end) = true
looks (BufferWrite n byte start end) = false
looks (ClearBuffer n start end) = false

-- one fill for a write, one clear for a buffer clear, none for a read
abbrev pub commands_of : Step → List Command
commands_of (BufferRead n start end) = []
commands_of (BufferWrite n byte start end) = record { kind = Fill byte; slot = n; first = start; count = end - start } ∷ []
commands_of (ClearBuffer n start end) = record { kind = Clear; slot = n; first = start; count = end - start } ∷ []

abbrev pub step_commands : List Step → List Command
step_commands [] = []
step_commands (s ∷ ss) = commands_of s ++ step_commands ss

-- a read sums its own range
abbrev pub sums_of : (ℕ → ℕ → ℕ) → Step → List ℕ
sums_of cell (BufferRead n start end) = summed (cell n) start (end - start) ∷ []
sums_of cell (BufferWrite n byte start end) = []
sums_of cell (ClearBuffer n start end) = []

-- the sums of a list of steps, each over what the steps before it left
abbrev pub step_sums : (ℕ → ℕ → ℕ) → List Step → List ℕ
step_sums cell [] = []
step_sums cell (s ∷ ss) = sums_of cell s ++ step_sums (ran cell (commands_of s)) ss

-- how many commands went before each sum, where k went before the steps
abbrev pub commands_before : ℕ → List Step → List ℕ
commands_before k [] = []
commands_before k (BufferRead n start end ∷ ss) = k ∷ commands_before k ss
commands_before k (BufferWrite n byte start end ∷ ss) = commands_before (k + 1) ss
commands_before k (ClearBuffer n start end ∷ ss) = commands_before (k + 1) ss
