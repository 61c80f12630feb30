-- What bytes in memory stand for: themselves.
use Rattle.std.specs.Prelude.{◌≡◌, ℕ, vec_items, Vec}
use Rattle.std.specs.declared.alloc.Global.{Global}
use Rattle.device.specs.Meaning.{Meaning}
use Rattle.device.specs.Rows.{Row, byte_at, length_at}
use Rattle.device.specs.declared.byte_memory.ByteMemory.{ByteMemory}

-- each slot is its row, and what is left is what is still taken
abbrev pub memory_meaning : ByteMemory → Meaning
memory_meaning m = record { extent = length_at (vec_items m.rows); cell = byte_at (vec_items m.rows); allowance = m.left }

-- a memory just made: the rows and the allowance are those given
pub record Laid (rows : Vec Row Global) (left : ℕ) (m : ByteMemory) : Type 0 where
  pub memory : m.rows ≡ rows
  pub allowance : m.left ≡ left
