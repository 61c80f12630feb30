-- Where a texture's cells lie: one cell a block, numbered by mip, layer, slice, block row and column.
use Rattle.std.specs.Prelude.{ℕ, zero, suc, ◌+◌, ◌-◌, ◌*◌, ◌/◌, ◌^◌, max, Bool, cond, ◌&&◌, nat_le, nat_lt}
use Rattle.texture.specs.Shapes.{Shape, block_width, block_height, layers_of, depth_of}

-- a side halved m times, dropping fractions, at least 1
abbrev pub side : ℕ → ℕ → ℕ
side n m = max 1 (n / 2 ^ m)

-- n rounded up to whole blocks of so many, as a number of blocks
abbrev pub blocks : ℕ → ℕ → ℕ
blocks n b = (n + (b - 1)) / b

-- the blocks across and down a mip, and its slices
abbrev pub across : Shape → ℕ → ℕ
across s m = blocks (side s.width m) (block_width s.format)

abbrev pub down : Shape → ℕ → ℕ
down s m = blocks (side s.height m) (block_height s.format)

abbrev pub slices : Shape → ℕ → ℕ
slices s m = side (depth_of s) m

-- a surface is one mip of one layer, all slices
abbrev pub surface_cells : Shape → ℕ → ℕ
surface_cells s m = slices s m * (down s m * across s m)

-- a mip's surfaces follow each other by layer, and the mips each other
abbrev pub mip_first : Shape → ℕ → ℕ
mip_first s zero = 0
mip_first s (suc m) = mip_first s m + layers_of s * surface_cells s m

abbrev pub surface_first : Shape → ℕ → ℕ → ℕ
surface_first s m l = mip_first s m + l * surface_cells s m

-- all cells of a texture
abbrev pub cells_of : Shape → ℕ
cells_of s = mip_first s s.mips

-- whether a cell is one of a surface's
abbrev pub in_surface : Shape → ℕ → ℕ → ℕ → Bool
in_surface s m l i = nat_le (surface_first s m l) i && nat_lt i (surface_first s m l + surface_cells s m)

-- the mip of a cell: as many of the first n mips end at or before it
abbrev pub mips_before : Shape → ℕ → ℕ → ℕ
mips_before s zero i = 0
mips_before s (suc n) i = mips_before s n i + cond (nat_le (mip_first s (suc n)) i) 1 0

abbrev pub mip_of : Shape → ℕ → ℕ
mip_of s i = mips_before s s.mips i

-- the layer of a cell: as many whole surfaces of its mip lie before it
abbrev pub layer_of : Shape → ℕ → ℕ
layer_of s i = (i - mip_first s (mip_of s i)) / surface_cells s (mip_of s i)
