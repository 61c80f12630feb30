-- What WebGPU's clearBuffer refuses, and that a clear refuses just that.
use Rattle.std.specs.Prelude.{◌≡◌, ℕ, ◌+◌, ◌^◌, ◌<◌, Bool, not, ◌||◌, Option, nat_lt}
use Rattle.rules.specs.State.{Buffer}
use Rattle.rules.specs.Steps.{clear_size, clear_causes}
use Rattle.rules.specs.Verdicts.{tried, accepts, unaligned}

-- no copy usage, an offset or a size that is not a multiple of 4, or an end past the buffer, which every end past
-- 64 bits is too
abbrev pub webgpu_refuses : Buffer → ℕ → Option ℕ → Bool
webgpu_refuses b offset size =
    not b.copy || (unaligned offset || (unaligned (clear_size size offset b.size) || nat_lt b.size (offset + clear_size size offset b.size)))

-- while the list has a place, a clear is declined exactly where WebGPU refuses it
abbrev pub RefusesAsWebGpu : Type 0
RefusesAsWebGpu =
    (b : Buffer) (offset held : ℕ) (size : Option ℕ) → held < 64 → b.size < 2 ^ 64
    → accepts (tried (clear_causes offset size b held)) ≡ not (webgpu_refuses b offset size)
