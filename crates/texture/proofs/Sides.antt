-- Sides, blocks and surfaces: at least one of each, and no more than the first mip has.
use Rattle.std.proofs.Common.{◌≡◌, ℕ, zero, suc, ◌+◌, ◌*◌, ◌/◌, ◌^◌, ◌≤◌, true, le_trans, mul_assoc, mul-le-mul, mul-le-mul_left, mul-pos, div-le_self, sym, refl, ap, ◌∙◌, map, add-one, arith}
use native.Mathlib.Nat.{max-le, le-max_left}
use Rattle.std.specs.List.{sum, range_with_len}
use Rattle.std.proofs.lemmas.List.FromFn.{sum_by-map-range_with_len_more}
use Rattle.texture.specs.Shapes.{Shape, block_width, block_height, layers_of, depth_of, proper}
use Rattle.texture.specs.Cells.{side, blocks, across, down, slices, surface_cells, mip_first, cells_of}
use Rattle.texture.specs.declared.format.Format.{Format}
use Rattle.texture.specs.declared.format.Format.TheVariants.{R8Unorm, Rgba8Unorm, Rgba32Float, Bc1RgbaUnorm, Astc6x5Unorm, Depth32Float}
use Rattle.texture.proofs.Proper.{width_kept, height_kept, depth_kept, layers_depth, mips_kept}

pub side_some : (n m : ℕ) → 1 ≤ side n m
side_some n m = le-max_left 1 (n / 2 ^ m)

pub side_le : (n m : ℕ) → 1 ≤ n → side n m ≤ n
side_le n m some = max-le some (div-le_self n (2 ^ m))

pub across_kept : (f : Format) (n : ℕ) → 1 ≤ n → (1 ≤ blocks n (block_width f)) × (blocks n (block_width f) ≤ n)
across_kept R8Unorm n some = (omega arith, omega arith)
across_kept Rgba8Unorm n some = (omega arith, omega arith)
across_kept Rgba32Float n some = (omega arith, omega arith)
across_kept Bc1RgbaUnorm n some = (omega arith, omega arith)
across_kept Astc6x5Unorm n some = (omega arith, omega arith)
across_kept Depth32Float n some = (omega arith, omega arith)

pub down_kept : (f : Format) (n : ℕ) → 1 ≤ n → (1 ≤ blocks n (block_height f)) × (blocks n (block_height f) ≤ n)
down_kept R8Unorm n some = (omega arith, omega arith)
down_kept Rgba8Unorm n some = (omega arith, omega arith)
down_kept Rgba32Float n some = (omega arith, omega arith)
down_kept Bc1RgbaUnorm n some = (omega arith, omega arith)
down_kept Astc6x5Unorm n some = (omega arith, omega arith)
down_kept Depth32Float n some = (omega arith, omega arith)

pub across_some : (s : Shape) (m : ℕ) → 1 ≤ across s m
across_some s m = (across_kept s.format (side s.width m) (side_some s.width m)).0

pub down_some : (s : Shape) (m : ℕ) → 1 ≤ down s m
down_some s m = (down_kept s.format (side s.height m) (side_some s.height m)).0

pub slices_some : (s : Shape) (m : ℕ) → 1 ≤ slices s m
slices_some s m = side_some (depth_of s) m

-- each surface has a cell
pub surface_some : (s : Shape) (m : ℕ) → 1 ≤ surface_cells s m
surface_some s m = mul-pos (slices_some s m) (mul-pos (down_some s m) (across_some s m))

module _ (s : Shape) (h : proper s ≡ true) where
  pub across_few : (m : ℕ) → across s m ≤ 16384
  across_few m =
      le_trans (across_kept s.format (side s.width m) (side_some s.width m)).1
      (le_trans (side_le s.width m (width_kept s h).0) (width_kept s h).1)

  pub down_few : (m : ℕ) → down s m ≤ 16384
  down_few m =
      le_trans (down_kept s.format (side s.height m) (side_some s.height m)).1
      (le_trans (side_le s.height m (height_kept s h).0) (height_kept s h).1)

  pub slices_few : (m : ℕ) → slices s m ≤ depth_of s
  slices_few m = side_le (depth_of s) m (depth_kept s h).0

  -- a slice has at most 2 to the 28 cells, and so has each layer's slice
  pub slice_few : (m : ℕ) → down s m * across s m ≤ 268435456
  slice_few m = mul-le-mul (down_few m) (across_few m)

  -- the surfaces of one mip together
  pub mip_few : (m : ℕ) → layers_of s * surface_cells s m ≤ 17179869184
  mip_few m =
      let both : layers_of s * slices s m ≤ 64 = le_trans (mul-le-mul_left (layers_of s) (slices_few m)) (layers_depth s h) in
      rw (← mul_assoc (layers_of s) (slices s m) (down s m * across s m)) (mul-le-mul both (slice_few m))

  pub mip_first_few : (m : ℕ) → mip_first s m ≤ m * 17179869184
  mip_first_few zero = omega arith
  mip_first_few (suc m) = omega (arith, mip_few m, mip_first_few m)

  -- the cells of a texture are at most 2 to the 40, with room to spare
  pub cells_few : cells_of s ≤ 1099511627776
  cells_few = omega (arith, mip_first_few s.mips, (mips_kept s h).1)

-- the cells of all surfaces of a mip
abbrev pub mip_cells : Shape → ℕ → ℕ
mip_cells s m = layers_of s * surface_cells s m

-- the cells of the first mips, added up
pub sum_cells : (s : Shape) (n : ℕ) → sum (map (mip_cells s) (range_with_len 0 n)) ≡ mip_first s n
sum_cells s zero = refl
sum_cells s (suc n) =
    ap (λ k. sum (map (mip_cells s) (range_with_len 0 k))) (sym (add-one n))
    ∙ sum_by-map-range_with_len_more (λ x. x) (mip_cells s) 0 n n (omega arith)
    ∙ ap (λ x. x + mip_cells s n) (sum_cells s n)
