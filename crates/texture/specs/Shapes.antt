-- What a texture is: its format, dimension, way of clearing and sides, and which of them may be made.
use Rattle.std.specs.Prelude.{ℕ, ◌-◌, ◌/◌, ◌%◌, ◌^◌, max, Bool, true, false, cond, ◌&&◌, ◌||◌, ◌==◌, nat_le}
use Rattle.texture.specs.declared.format.Format.{Format}
use Rattle.texture.specs.declared.format.Format.TheVariants.{R8Unorm, Rgba8Unorm, Rgba32Float, Bc1RgbaUnorm, Astc6x5Unorm, Depth32Float}
use Rattle.texture.specs.declared.format.Dimension.{Dimension}
use Rattle.texture.specs.declared.format.Dimension.TheVariants.{D2, D3}
use Rattle.texture.specs.declared.format.ClearMode.{ClearMode}
use Rattle.texture.specs.declared.shape.Shape as declared
use Rattle.texture.specs.declared.format.ClearMode.TheVariants.{None, Copies, ColourPass, DepthPass}

-- a texture's description; `count` is its layers in dimension 2 and its depth in dimension 3
abbrev pub Shape : Type 0
Shape = declared.Shape

-- the bytes of one block, and its sides in texels
abbrev pub block_bytes : Format → ℕ
block_bytes R8Unorm = 1
block_bytes Rgba8Unorm = 4
block_bytes Rgba32Float = 16
block_bytes Bc1RgbaUnorm = 8
block_bytes Astc6x5Unorm = 16
block_bytes Depth32Float = 4

abbrev pub block_width : Format → ℕ
block_width R8Unorm = 1
block_width Rgba8Unorm = 1
block_width Rgba32Float = 1
block_width Bc1RgbaUnorm = 4
block_width Astc6x5Unorm = 6
block_width Depth32Float = 1

abbrev pub block_height : Format → ℕ
block_height R8Unorm = 1
block_height Rgba8Unorm = 1
block_height Rgba32Float = 1
block_height Bc1RgbaUnorm = 4
block_height Astc6x5Unorm = 5
block_height Depth32Float = 1

-- which formats a way of clearing suits: none suits all, copies all but depth, a colour pass those whose texels can
-- be drawn to, a depth pass depth
abbrev pub suits : ClearMode → Format → Bool
suits None f = true
suits Copies R8Unorm = true
suits Copies Rgba8Unorm = true
suits Copies Rgba32Float = true
suits Copies Bc1RgbaUnorm = true
suits Copies Astc6x5Unorm = true
suits Copies Depth32Float = false
suits ColourPass R8Unorm = true
suits ColourPass Rgba8Unorm = true
suits ColourPass Rgba32Float = true
suits ColourPass Bc1RgbaUnorm = false
suits ColourPass Astc6x5Unorm = false
suits ColourPass Depth32Float = false
suits DepthPass R8Unorm = false
suits DepthPass Rgba8Unorm = false
suits DepthPass Rgba32Float = false
suits DepthPass Bc1RgbaUnorm = false
suits DepthPass Astc6x5Unorm = false
suits DepthPass Depth32Float = true

-- a volume is of a format with single texels and no depth, and is not cleared by passes
abbrev pub flat_mode : ClearMode → Bool
flat_mode None = false
flat_mode Copies = false
flat_mode ColourPass = true
flat_mode DepthPass = true

abbrev pub flat_format : Format → Bool
flat_format R8Unorm = false
flat_format Rgba8Unorm = false
flat_format Rgba32Float = false
flat_format Bc1RgbaUnorm = true
flat_format Astc6x5Unorm = true
flat_format Depth32Float = true

abbrev pub flat : Dimension → Bool
flat D2 = true
flat D3 = false

-- n is from lo to hi, both included
abbrev pub between : ℕ → ℕ → ℕ → Bool
between lo hi n = nat_le lo n && nat_le n hi

-- layers, or the slices of a volume's first mip
abbrev pub layers_of : Shape → ℕ
layers_of s = cond (flat s.dimension) s.count 1

abbrev pub depth_of : Shape → ℕ
depth_of s = cond (flat s.dimension) 1 s.count

-- the largest side; a volume's depth is one too
abbrev pub largest : Shape → ℕ
largest s = max (max s.width s.height) (depth_of s)

-- which descriptions may be made: sides and counts within their limits; a way of clearing that suits the format;
-- passes, blocks and depth in dimension 2 only; sides that are multiples of the block; mips that still halve the
-- largest side down to no less than 1
abbrev pub proper : Shape → Bool
proper s =
    between 1 16384 s.width && (between 1 16384 s.height && (between 1 64 s.count
    && (suits s.mode s.format
    && ((flat s.dimension || cond (flat_mode s.mode) false (cond (flat_format s.format) false true))
    && (s.width % block_width s.format == 0 && (s.height % block_height s.format == 0
    && (nat_le 1 s.mips && nat_le 1 (largest s / 2 ^ (s.mips - 1)))))))))
