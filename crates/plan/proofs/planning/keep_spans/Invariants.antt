use Rattle.std.proofs.Common.{◌≡◌, ◌+◌, map, length, drop}
use Rattle.range_list.specs.View.{all_ends}
use Rattle.rules.specs.Planning.{piece_of, all_placed}
use Rattle.plan.specs.Kept.{kept}
use Rattle.plan.proofs.planning.keep_spans.Given as goal

abbrev pub invariant-loop-span : goal.invariant-loop-span
invariant-loop-span l =
    (length (kept l.pieces) ≡ length (kept l.initial.pieces) + l.span-index)
    × (all_placed (kept l.pieces) (map (piece_of l.buffer) (all_ends (λ x. x) (drop l.span-index l.spans))) ≡ all_placed (kept l.initial.pieces) (map (piece_of l.buffer) (all_ends (λ x. x) l.spans)))
