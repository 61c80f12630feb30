-- Bytes that stand in rows, one row a slot.
use Rattle.std.specs.Prelude.{ℕ, Bool, ◌&&◌, List, [], map, length, vec_items, vec_len, Vec, nat_le, slice_index, slice_index_or}
use Rattle.std.specs.declared.alloc.Global.{Global}
use Rattle.device.specs.Meaning.{all_within}

-- one slot's bytes
abbrev pub Row : Type 0
Row = Vec ℕ Global

-- the length of each row
abbrev pub lengths : List Row → List ℕ
lengths rows = map vec_len rows

-- the length of a slot's row, 0 where there is none
abbrev pub length_at : List Row → ℕ → ℕ
length_at rows s = slice_index (lengths rows) s

-- a byte of a slot's row, 0 past its end and where there is no row
abbrev pub byte_at : List Row → ℕ → ℕ → ℕ
byte_at rows s i = slice_index (slice_index_or (map vec_items rows) s []) i

-- whether rows can be a memory: at most 24, and none longer than a slot may be
abbrev pub laid_out : List Row → Bool
laid_out rows = nat_le (length rows) 24 && all_within (lengths rows)
