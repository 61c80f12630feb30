-- What a device is to those who command it: its cells, how far each slot extends, and how many commands it still takes.
use Rattle.std.specs.Prelude.{◌≡◌, ℕ, zero, suc, ◌+◌, ◌-◌, Bool, cond, ◌&&◌, List, [], ◌∷◌, length, nat_le, nat_lt}
use Rattle.std.specs.List.{list_all}
use Rattle.device.specs.Commands.{painted, fits_in}
use Rattle.device.specs.declared.command.Command.{Command}

-- the most cells that a slot has, 2^40
abbrev pub most_cells : ℕ
most_cells = 1099511627776

-- whether every extent of a list is one that a slot may have
abbrev pub all_within : List ℕ → Bool
all_within es = list_all (λ e. nat_le e most_cells) es

-- a device as others see it
pub record Meaning : Type 0 where
  -- the number of cells of each slot
  pub extent : ℕ → ℕ
  -- the byte in each cell, by slot and cell
  pub cell : ℕ → ℕ → ℕ
  -- how many commands are still taken
  pub allowance : ℕ

-- whether a command is taken: some allowance is left, and the command stays within its slot
abbrev pub allowed : Meaning → Command → Bool
allowed m c = nat_lt 0 m.allowance && fits_in m.extent c

-- one answer to one command: a taken command paints its cells and uses one of the allowance, a declined one changes
-- nothing, and the extents stay
pub record Took (m : Meaning) (c : Command) (r : Bool) (n : Meaning) : Type 0 where
  pub cells : (s i : ℕ) → n.cell s i ≡ cond r (painted m.cell c s i) (m.cell s i)
  pub extents : (s : ℕ) → n.extent s ≡ m.extent s
  pub spent : n.allowance ≡ cond r (m.allowance - 1) m.allowance

-- the cells after a list of commands, each painted over what those before it left
abbrev pub ran : (ℕ → ℕ → ℕ) → List Command → ℕ → ℕ → ℕ
ran cell [] = cell
ran cell (c ∷ cs) = ran (painted cell c) cs

-- a list of commands taken in order, each of them: the cells are what the list leaves, the extents stay, and each
-- command used one of the allowance
pub record Followed (m : Meaning) (cs : List Command) (n : Meaning) : Type 0 where
  pub cells : (s i : ℕ) → n.cell s i ≡ ran m.cell cs s i
  pub extents : (s : ℕ) → n.extent s ≡ m.extent s
  pub spent : n.allowance + length cs ≡ m.allowance

-- the sum of count cells from first on
unfoldable pub summed : (ℕ → ℕ) → ℕ → ℕ → ℕ
summed f first zero = 0
summed f first (suc n) = f first + summed f (first + 1) n

-- what a device answers for the total of a range: the sum of its bytes, and 0 of a range that passes the extent
abbrev pub total_of : Meaning → ℕ → ℕ → ℕ → ℕ
total_of m slot first count = cond (nat_le (first + count) (m.extent slot)) (summed (m.cell slot) first count) 0
