use Rattle.std.proofs.Common.{◌<◌, [], ◌∷◌, sym, refl, ap, ◌∙◌, arith}
use Rattle.std.proofs.lemmas.Bool.Decides.{nat_tests}
use Rattle.std.proofs.lemmas.List.{length-set, drop-set-lt}
use Rattle.range_list.specs.View.{ends}
use Rattle.range_list.specs.declared.span.Span.{Span}
use Rattle.range_list.proofs.Laws.{part_some}
use Rattle.range_list.proofs.Steps.{first_set}
use Rattle.range_list.proofs.list.InitTracker.new.Goals as goal

pub returns : goal.returns
returns g c =
    let p = g.I.Index.position in
    let xs = c.args.places.now in
    let v : Span g.row.I.Denot = record { start = c.least.result; end = c.args.size } in
    let n = p c.args.size in
    let lt : p c.least.result < n = grind (arith, nat_tests) in
    let l = length-set xs 0 v in
    (omega arith, first_set (ends p) xs v (omega arith) ∙ ap (λ m. (m, n) ∷ []) c.least.ensures ∙ sym (part_some 0 n (omega arith)), drop-set-lt 1 xs 0 v (omega arith), refl)
