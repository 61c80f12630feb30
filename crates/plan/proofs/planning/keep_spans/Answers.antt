use Rattle.std.proofs.Common.{ℕ, ◌+◌, List, map, length, get_or, drop, sym, ap, ◌∙◌, arith}
use Rattle.std.proofs.lemmas.List.{at_drop_more}
use Rattle.range_list.specs.View.{all_ends, ends}
use Rattle.range_list.specs.declared.span.Span.{Span}
use Rattle.rules.specs.Planning.{piece_of, all_placed}
use Rattle.rules.specs.declared.piece.Piece.{Piece}
use Rattle.plan.specs.Kept.{kept}
use Rattle.plan.proofs.Order.{length_placed}
use Rattle.plan.proofs.planning.keep_spans.Goals as goal

-- what is left to keep of some ranges
left : ℕ → List Piece → List (Span ℕ) → List Piece
left b qs xs = all_placed qs (map (piece_of b) (all_ends (λ x. x) xs))

pub loop-span-preserved : goal.loop-span-preserved
unfolding left
loop-span-preserved c =
    let xs = c.args.spans.now in
    let i = c.loop-span.span-index in
    let d : Span ℕ = record { start = 0; end = 0 } in
    let old = kept c.loop-span.pieces in
    let s = get_or xs i d in
    let e = c.insert.ensures in
    let n = ap length e ∙ length_placed (piece_of c.args.buffer (ends (λ x. x) s)) old in (
      omega (arith, n),
      ap (λ qs. left c.args.buffer qs (drop (i + 1) xs)) e ∙ sym (at_drop_more (left c.args.buffer old) xs i d (omega arith)) ∙ c.loop-span.invariant.1,
    )
