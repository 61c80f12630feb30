use Rattle.std.proofs.Common.{sym, refl, arith}
use Rattle.plan.proofs.Order.{placed_after, placed_before, placed_last}
use Rattle.plan.specs.Kept.{blank}
use Rattle.plan.proofs.pieces.position.Goals as goal

pub loop-i-init : goal.loop-i-init
loop-i-init c = (omega arith, refl)

pub loop-i-preserved : goal.loop-i-preserved
loop-i-preserved c =
    (omega arith, placed_after c.args.p c.args.pieces.now c.loop-i.i blank (omega arith) (sym c.if-precedes.ensures) c.loop-i.invariant.1)

pub returns-then-precedes : goal.returns-then-precedes
returns-then-precedes c =
    record { within = omega arith; there = placed_before c.args.p c.args.pieces.now c.loop-i.i blank (omega arith) (sym c.if-precedes.ensures) c.loop-i.invariant.1 }

pub returns : goal.returns
returns c = record { within = omega arith; there = placed_last c.args.p c.args.pieces.now c.loop-i.i (omega arith) c.loop-i.invariant.1 }
