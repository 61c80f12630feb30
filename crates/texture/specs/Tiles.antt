-- What the definitions of cells mean: the surfaces of a texture share out its cells, and there are not too many.
use Rattle.std.specs.Prelude.{◌≡◌, ℕ, ◌<◌, ◌≤◌, Bool, true, cond, ◌&&◌, Some, None, Option, nat_lt}
use Rattle.texture.specs.Shapes.{Shape, proper, layers_of}
use Rattle.texture.specs.Cells.{surface_first, cells_of, in_surface, mip_of, layer_of}

-- whether a texture has a surface of that mip and layer
abbrev pub is_surface : Shape → ℕ → ℕ → Bool
is_surface s m l = nat_lt m s.mips && nat_lt l (layers_of s)

-- where a surface's cells begin, if there is such a surface
abbrev pub first_in : Shape → ℕ → ℕ → Option ℕ
first_in s m l = cond (is_surface s m l) (Some (surface_first s m l)) None

pub record Tiling : Type 0 where
  -- each cell is in a surface of the texture, that of its mip and its layer
  pub lands : (s : Shape) (i : ℕ) → proper s ≡ true → i < cells_of s → (mip_of s i < s.mips) × (layer_of s i < layers_of s) × (in_surface s (mip_of s i) (layer_of s i) i ≡ true)
  -- and in no other; what is in a surface is a cell of the texture
  pub alone : (s : Shape) (m l i : ℕ) → m < s.mips → l < layers_of s → in_surface s m l i ≡ true → (mip_of s i ≡ m) × (layer_of s i ≡ l) × (i < cells_of s)
  -- a texture has at most 2 to the 40 cells
  pub few : (s : Shape) → proper s ≡ true → cells_of s ≤ 1099511627776
