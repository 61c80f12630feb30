-- What one command writes, and where it fits.
use Rattle.std.specs.Prelude.{ℕ, ◌+◌, Bool, cond, ◌&&◌, ◌||◌, ◌==◌, nat_le, nat_lt}
use Rattle.device.specs.declared.command.Command.{Command}
use Rattle.device.specs.declared.command.CommandKind.{CommandKind}
use Rattle.device.specs.declared.command.CommandKind.TheVariants.{Clear, Copy, Pass, Fill}

-- the byte that a command leaves: a fill's own, and 0 of every other kind
abbrev pub byte_of : CommandKind → ℕ
byte_of Clear = 0
byte_of Copy = 0
byte_of Pass = 0
byte_of (Fill b) = b

-- whether a command covers a cell of a slot: the slot is its own, and the cell is one of the count from first on
abbrev pub covers : Command → ℕ → ℕ → Bool
covers c s i = s == c.slot && (nat_le c.first i && nat_lt i (c.first + c.count))

-- the cells after a taken command: its byte where it covers, and as before elsewhere
abbrev pub painted : (ℕ → ℕ → ℕ) → Command → ℕ → ℕ → ℕ
painted cell c s i = cond (covers c s i) (byte_of c.kind) (cell s i)

-- whether a command stays within its slot's extent: an empty one always does
abbrev pub fits_in : (ℕ → ℕ) → Command → Bool
fits_in extent c = c.count == 0 || nat_le (c.first + c.count) (extent c.slot)
