-- Sides that are halved: past as many halvings as a number has bits nothing is left.
use Rattle.std.proofs.Common.{◌≡◌, ℕ, ◌/◌, ◌^◌, ◌<◌, ◌≤◌, Option, Some, None, sym, lt_of_lt_of_le, arith, pow_mono}
use native.Mathlib.Nat.{div-eq_of_lt}
use Rattle.std.specs.Option.{SomeIff, unwrap_or}

nothing_left : (n k : ℕ) → n < 2 ^ 32 → 32 ≤ k → n / 2 ^ k ≡ 0
nothing_left n k few le = div-eq_of_lt (lt_of_lt_of_le few (pow_mono {i = 32} {j = k} le))

-- a shift that is none past the bits, and 0 then
pub shift_halves : (n k : ℕ) (r : Option ℕ) → n < 2 ^ 32 → SomeIff r (k < 32) (n / 2 ^ k) → unwrap_or r 0 ≡ n / 2 ^ k
shift_halves n k None few h = sym (nothing_left n k few (omega arith))
shift_halves n k (Some x) few h = h.1
