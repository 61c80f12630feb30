use Rattle.std.proofs.Common.{◌≡◌, ℕ, ◌+◌, Bool, true, eqb, List, Ok, sym, refl, ap, ◌∙◌, arith}
use Rattle.std.proofs.lemmas.Bool.{cond-true}
use Rattle.std.proofs.lemmas.Bool.Decides.{nat_tests}
use Rattle.range_list.specs.Ranges.{whole}
use Rattle.rules.specs.Making.{make_verdict, fresh_buffer}
use Rattle.rules.specs.State.{Buffer}
use Rattle.rules.specs.Verdicts.{accepts}
use Rattle.planner.specs.View.{view}
use Rattle.planner.proofs.Viewed.{buffer_put}
use Rattle.planner.proofs.planner.Planner.make_buffer.Goals as goal

-- a buffer that stands, with this book
fresh : ℕ → Bool → List (ℕ × ℕ) → Buffer
fresh n b o = record { size = n; copy = b; standing = true; owes = o }

pub returns-clause-after : goal.returns-clause-after
unfolding fresh
returns-clause-after g c =
    let p = c.args.self.now in
    let st = view p in
    let n = p.made in
    let size = c.args.size in
    let ext = (g.D.Device.meaning p.device).extent in
    let reach = c.extent.ensures in
    let v : make_verdict st ext size c.args.copy ≡ Ok tt = grind (arith, nat_tests) in
    buffer_put st p.buffers refl n (n + 1) _ (fresh_buffer size c.args.copy) (ap (fresh size (eqb c.args.copy 1)) (c.new.ensures.owing ∙ ap whole c.cells_of-cells.ensures)) ∙ sym (cond-true (accepts (make_verdict st ext size c.args.copy)) _ st (ap accepts v))
