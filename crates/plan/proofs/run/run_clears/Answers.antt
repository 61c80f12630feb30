use Rattle.std.proofs.Common.{◌≡◌, ℕ, ◌+◌, ◌<◌, List, [], ◌∷◌, ◌++◌, length, get_or, take, sym, ap, ◌∙◌, subst, arith}
use Rattle.std.proofs.lemmas.List.{take_more, map-append}
use Rattle.device.specs.Meaning.{Followed}
use Rattle.device.specs.declared.command.Command.{Command}
use Rattle.rules.specs.Planning.{clear_of, clears_of}
use Rattle.rules.specs.declared.piece.Piece.{Piece}
use Rattle.plan.specs.Kept.{blank}
use Rattle.plan.proofs.Runs.{followed_then, fit_here}
use Rattle.plan.proofs.run.run_clears.Goals as goal

-- one clear more
clears_more : (ps : List Piece) (i : ℕ) → i < length ps → clears_of (take (i + 1) ps) ≡ clears_of (take i ps) ++ (clear_of (get_or ps i blank) ∷ [])
clears_more ps i lt = ap clears_of (take_more ps i blank lt) ∙ map-append clear_of (take i ps) (get_or ps i blank ∷ [])

pub loop-piece-preserved : goal.loop-piece-preserved
loop-piece-preserved g c =
    let ps = c.args.pieces.now in
    let i = c.loop-piece.piece-index in
    let old = c.args.device.now in
    let here = c.loop-piece.device in
    let new = c.command.new.device in
    let mean = g.D.Device.meaning in
    let xs = clears_of (take i ps) in
    let r = c.clear.result in
    let e : xs ++ (r ∷ []) ≡ clears_of (take (i + 1) ps) =
    ap (λ k. xs ++ (k ∷ [])) c.clear.ensures ∙ sym (clears_more ps i c.loop-piece-test.true) in (
      omega arith,
      subst (λ (l : List Command). Followed (mean old) l (mean new)) e (followed_then (mean old) (mean here) (mean new) xs (r ∷ []) c.loop-piece.invariant.1 c.command.ensures.followed),
      subst (λ (l : List Command). g.D.Device.keeps old l new) e (g.met.D.Device.more old here new xs (r ∷ []) c.loop-piece.invariant.2 c.command.ensures.kept),
      (fit_here (mean old).extent ps i blank c.loop-piece-test.true c.loop-piece.invariant.3).1,
    )
