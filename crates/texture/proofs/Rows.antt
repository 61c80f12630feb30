-- Rows of bytes: they hold their blocks, and the zeros suffice for at least one row of blocks.
use Rattle.std.proofs.Common.{◌≡◌, ℕ, ◌+◌, ◌-◌, ◌*◌, ◌/◌, ◌<◌, ◌≤◌, true, le_trans, mul-le-mul_right, mul-le-mul_left, mul-pos, one-mul, div-le_self, div-mul-le_self, mul-div_cancel, arith}
use native.Mathlib.Nat.{lt-div-mul-add}
use Rattle.std.proofs.lemmas.Bool.Decides.{nat_tests}
use Rattle.std.proofs.lemmas.Nat.{le-div}
use Rattle.texture.specs.Shapes.{Shape, block_bytes, block_width, block_height, proper}
use Rattle.texture.specs.Cells.{side, blocks, across}
use Rattle.texture.specs.Copies.{lcm, aligned_to, zero_bytes, bytes_per_row, rows_per_copy, block_rows_per_copy}
use Rattle.texture.specs.Runs.{pitch_fits}
use Rattle.texture.specs.declared.format.Format.{Format}
use Rattle.texture.specs.declared.format.Format.TheVariants.{R8Unorm, Rgba8Unorm, Rgba32Float, Bc1RgbaUnorm, Astc6x5Unorm, Depth32Float}
use Rattle.texture.proofs.Proper.{width_kept}
use Rattle.texture.proofs.Sides.{side_le, across_some}
use Rattle.texture.proofs.Multiples.{lcm_some, lcm_most}

pub aligned_up : (k n : ℕ) → 0 < k → n ≤ aligned_to k n
aligned_up k n some = omega (arith, lt-div-mul-add {a = n + (k - 1)} {b = k} some)

pub aligned_near : (k n : ℕ) → aligned_to k n ≤ n + (k - 1)
aligned_near k n = div-mul-le_self (n + (k - 1)) k

pub bytes_some : (f : Format) → (1 ≤ block_bytes f) × (block_bytes f ≤ 16)
bytes_some R8Unorm = (omega arith, omega arith)
bytes_some Rgba8Unorm = (omega arith, omega arith)
bytes_some Rgba32Float = (omega arith, omega arith)
bytes_some Bc1RgbaUnorm = (omega arith, omega arith)
bytes_some Astc6x5Unorm = (omega arith, omega arith)
bytes_some Depth32Float = (omega arith, omega arith)

pub width_some : (f : Format) → (1 ≤ block_width f) × (block_width f ≤ 6)
width_some R8Unorm = (omega arith, omega arith)
width_some Rgba8Unorm = (omega arith, omega arith)
width_some Rgba32Float = (omega arith, omega arith)
width_some Bc1RgbaUnorm = (omega arith, omega arith)
width_some Astc6x5Unorm = (omega arith, omega arith)
width_some Depth32Float = (omega arith, omega arith)

pub height_some : (f : Format) → (1 ≤ block_height f) × (block_height f ≤ 5)
height_some R8Unorm = (omega arith, omega arith)
height_some Rgba8Unorm = (omega arith, omega arith)
height_some Rgba32Float = (omega arith, omega arith)
height_some Bc1RgbaUnorm = (omega arith, omega arith)
height_some Astc6x5Unorm = (omega arith, omega arith)
height_some Depth32Float = (omega arith, omega arith)

-- a block row of the widest texture, aligned to 256 blocks at most, as often as a block is high
pub tall_fits : (f : Format) (n k : ℕ) → n ≤ 16384 → k ≤ 256 * block_bytes f → block_height f * (blocks n (block_width f) * block_bytes f + k) ≤ 524288
tall_fits R8Unorm n k a b = omega arith
tall_fits Rgba8Unorm n k a b = omega arith
tall_fits Rgba32Float n k a b = omega arith
tall_fits Bc1RgbaUnorm n k a b = omega arith
tall_fits Astc6x5Unorm n k a b = omega arith
tall_fits Depth32Float n k a b = omega arith

-- rows of texels in whole blocks, as rows of blocks
pub block_rows : (pitch : ℕ) (s : Shape) (m : ℕ) → block_rows_per_copy pitch s m ≡ zero_bytes / bytes_per_row pitch s m / block_height s.format
block_rows pitch s m = mul-div_cancel (zero_bytes / bytes_per_row pitch s m / block_height s.format) (height_some s.format).0

pub rows_few : (pitch : ℕ) (s : Shape) (m : ℕ) → block_rows_per_copy pitch s m ≤ zero_bytes
rows_few pitch s m =
    let b = bytes_per_row pitch s m in
    let h = block_height s.format in
    omega (arith, block_rows pitch s m, div-le_self (zero_bytes / b) h, div-le_self zero_bytes b)

-- the zeros suffice for a copy
pub zeros_enough : (pitch : ℕ) (s : Shape) (m : ℕ) → rows_per_copy pitch s m * bytes_per_row pitch s m ≤ zero_bytes
zeros_enough pitch s m =
    let b = bytes_per_row pitch s m in
    let h = block_height s.format in
    let rows : zero_bytes / b / h * h ≤ zero_bytes / b = div-mul-le_self (zero_bytes / b) h in
    le_trans (mul-le-mul_right b rows) (div-mul-le_self zero_bytes b)

module _ (pitch : ℕ) (s : Shape) (m : ℕ) (fits : pitch_fits pitch ≡ true) where
  pub pitch_kept : (1 ≤ pitch) × (pitch ≤ 256)
  pitch_kept = grind (arith, nat_tests)

  pub align_some : 0 < lcm pitch (block_bytes s.format)
  align_some = lcm_some pitch (block_bytes s.format) pitch_kept.0 (bytes_some s.format).0

  pub align_few : lcm pitch (block_bytes s.format) ≤ 256 * block_bytes s.format
  align_few = le_trans (lcm_most pitch (block_bytes s.format) pitch_kept.0 (bytes_some s.format).0) (mul-le-mul_right (block_bytes s.format) pitch_kept.1)

  pub row_holds : across s m * block_bytes s.format ≤ bytes_per_row pitch s m
  row_holds = aligned_up (lcm pitch (block_bytes s.format)) (across s m * block_bytes s.format) align_some

  pub row_some : 1 ≤ bytes_per_row pitch s m
  row_some = le_trans (mul-pos (across_some s m) (bytes_some s.format).0) row_holds

  pub row_few : proper s ≡ true → block_height s.format * bytes_per_row pitch s m ≤ zero_bytes
  row_few h =
      let f = s.format in
      let row = across s m * block_bytes f in
      let a = lcm pitch (block_bytes f) in
      let n = side s.width m in
      let short : n ≤ 16384 = le_trans (side_le s.width m (width_kept s h).0) (width_kept s h).1 in
      let near : bytes_per_row pitch s m ≤ row + a = omega (arith, aligned_near a row) in
      le_trans (mul-le-mul_left (block_height f) near) (tall_fits f n a short align_few)

  -- a copy has a row of blocks
  pub copy_some : proper s ≡ true → 1 ≤ zero_bytes / bytes_per_row pitch s m / block_height s.format
  copy_some h =
      let f = s.format in
      let b = bytes_per_row pitch s m in
      let one : 1 * block_height f ≤ zero_bytes / b = le-div (1 * block_height f) zero_bytes b row_some (rw (one-mul (block_height f)) (row_few h)) in
      le-div 1 (zero_bytes / b) (block_height f) (height_some f).0 one

  pub rows_some : proper s ≡ true → 1 ≤ block_rows_per_copy pitch s m
  rows_some h = omega (arith, block_rows pitch s m, copy_some h)
