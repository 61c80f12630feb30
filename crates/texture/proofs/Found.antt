-- A surface of a texture: it has one of its mips and layers, and its cells are among the texture's.
use Rattle.std.proofs.Common.{◌≡◌, ℕ, ◌+◌, ◌<◌, ◌≤◌, true, arith}
use Rattle.std.proofs.lemmas.Bool.Decides.{nat_tests}
use Rattle.texture.specs.Shapes.{Shape, layers_of, proper}
use Rattle.texture.specs.Cells.{surface_first, surface_cells}
use Rattle.texture.specs.Tiles.{is_surface}
use Rattle.texture.proofs.Sides.{cells_few}
use Rattle.texture.proofs.Tiles.{surface_in_cells}

pub surface_parts : (s : Shape) (m l : ℕ) → is_surface s m l ≡ true → (m < s.mips) × (l < layers_of s)
surface_parts s m l h = grind (arith, nat_tests)

-- a surface ends where the texture still may have cells
pub surface_within : (s : Shape) (m l : ℕ) → proper s ≡ true → is_surface s m l ≡ true → surface_first s m l + surface_cells s m ≤ 1099511627776
surface_within s m l h named =
    let p = surface_parts s m l named in
    omega (arith, surface_in_cells s m l p.0 p.1, cells_few s h)
