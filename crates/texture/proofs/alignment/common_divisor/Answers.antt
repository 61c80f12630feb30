use Rattle.std.proofs.Common.{arith}
use Rattle.std.proofs.lemmas.Nat.Gcd.{IsGcd-from_mod, IsGcd-from_zero}
use Rattle.texture.proofs.alignment.common_divisor.Goals as goal

pub loop-rest-preserved : goal.loop-rest-preserved
loop-rest-preserved c =
    record {
      some = omega arith;
      same = λ g d. c.loop-rest.invariant.same g (IsGcd-from_mod c.loop-rest.divisor c.loop-rest.rest g d);
    }

pub returns-clause-greatest : goal.returns-clause-greatest
returns-clause-greatest c =
    let g = c.loop-rest.divisor in
    c.loop-rest.invariant.same g (IsGcd-from_zero g c.loop-rest.rest (omega arith))
