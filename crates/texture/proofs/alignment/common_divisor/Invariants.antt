use Rattle.std.proofs.Common.{ℕ, ◌<◌}
use Rattle.std.specs.Int.{IsGcd}
use Rattle.texture.proofs.alignment.common_divisor.Given as goal

-- the two numbers have the greatest common divisor that a and b have
abbrev pub invariant-loop-rest : goal.invariant-loop-rest
invariant-loop-rest l = record { some : 0 < l.divisor; same : (g : ℕ) → IsGcd l.divisor l.rest g → IsGcd l.a l.b g }

abbrev pub decreases-loop-rest : goal.decreases-loop-rest
decreases-loop-rest l = l.rest
