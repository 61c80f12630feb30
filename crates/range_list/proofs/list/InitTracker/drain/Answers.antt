use Rattle.std.proofs.Common.{◌≡◌, ◌<◌, sym, ap, ◌∙◌, subst, arith}
use Rattle.std.proofs.lemmas.Bool.Decides.{nat_tests}
use Rattle.range_list.specs.Ranges.{Sound, closed, drained}
use Rattle.range_list.specs.View.{view}
use Rattle.range_list.proofs.Laws.{sound_drained}
use Rattle.range_list.proofs.Points.{drained_at}
use Rattle.range_list.proofs.Steps.{view_length, left_by, left_sound}
use Rattle.range_list.proofs.list.InitTracker.drain.Goals as goal

pub returns-then-i-k-clause-held : goal.returns-then-i-k-clause-held
returns-then-i-k-clause-held g c =
    let p = g.I.Index.position in
    let old = c.args.self.now in
    let q = c.args.query in
    let lt : p q.start < p q.end = grind (arith, nat_tests, c.if-is_empty.ensures) in
    let l = view_length p old in
    let e = drained_at (p q.start) (p q.end) c.find-i.result c.find-k.result (view p old) lt c.requires.sound c.find-i.ensures.point c.find-k.ensures.point (omega arith) (omega arith) in
    c.close.ensures.held ∙ sym e.1

pub returns-then-i-k-clause-sound : goal.returns-then-i-k-clause-sound
returns-then-i-k-clause-sound g c =
    let p = g.I.Index.position in
    let q = c.args.query in
    λ n s. subst (Sound n) (sym (returns-then-i-k-clause-held g c)) (sound_drained (p q.start) (p q.end) n (view p c.args.self.now) s)

pub returns-clause-held : goal.returns-clause-held
returns-clause-held g c =
    let p = g.I.Index.position in
    let old = c.args.self.now in
    let q = c.args.query in
    let i = c.find-i.result in
    let k = c.find-k.result in
    let lt : p q.start < p q.end = grind (arith, nat_tests, c.if-is_empty.ensures) in
    let l = view_length p old in
    let e = drained_at (p q.start) (p q.end) i k (view p old) lt c.requires.sound c.find-i.ensures.point c.find-k.ensures.point (omega arith) (omega arith) in
    let ki : k ≡ i = omega (arith, e.0) in
    left_by p old c.split.new.self c.split.result _ _ (sym (e.1 ∙ ap (λ m. closed (p q.start) (p q.end) i m (view p old)) ki)) c.split.ensures.held

pub returns-clause-sound : goal.returns-clause-sound
returns-clause-sound g c =
    let p = g.I.Index.position in
    let old = c.args.self.now in
    let q = c.args.query in
    λ n s. left_sound p old c.split.new.self c.split.result (drained (p q.start) (p q.end) (view p old)) n (returns-clause-held g c) s (sound_drained (p q.start) (p q.end) n (view p old) s)
