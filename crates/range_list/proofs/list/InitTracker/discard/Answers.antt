use Rattle.std.proofs.Common.{◌≡◌, ℕ, ◌-◌, ◌<◌, ◌≤◌, not, false, ltb, ◌++◌, take, drop, slice_get, Some, sym, ap, ◌∙◌, arith, rules, MatchOption}
use Rattle.std.proofs.lemmas.Bool.Decides.{nat_tests}
use Rattle.std.proofs.lemmas.Option.{same_Some, none-some}
use Rattle.range_list.specs.Ranges.{join, added}
use Rattle.range_list.specs.View.{ends, view}
use Rattle.range_list.proofs.Steps.{view_length, left_by, left_sound}
use Rattle.range_list.proofs.Points.{started, not_started, added_in, added_grow, added_put, sound_added}
use Rattle.range_list.proofs.list.InitTracker.discard.Goals as goal
use Rattle.range_list.proofs.list.InitTracker.discard.Goals.{in_default-via-in-Some+else-not-before-2, in_default-via-in_default}

pub returns-then-is_some_and-clause-held : goal.returns-then-is_some_and-clause-held
returns-then-is_some_and-clause-held g c =
    let p = g.I.Index.position in
    let V = view p c.args.self.now in
    let a = p c.args.at in
    let n = p c.args.size in
    let i = c.find-i.result in
    let lt : a < n = grind (arith, nat_tests) in
    let h : MatchOption c.range_at-after.result (c.is_some_and.result ≡ false) (λ x. c.is_some_and.result ≡ not (ltb a (p x.start))) = search rules in
    let s = started p a i V c.range_at-after.result c.is_some_and.result h c.range_at-after.ensures c.if-is_some_and.true in
    sym (added_in a n i V lt c.requires.sound c.find-i.ensures.point (omega (arith, view_length p c.args.self.now)) s.0 s.1 s.2)

pub returns-in-Some-clause-held : goal.returns-in-Some-clause-held
returns-in-Some-clause-held g c =
    let p = g.I.Index.position in
    let old = c.args.self.now in
    let V = view p old in
    let a = p c.args.at in
    let n = p c.args.size in
    let i = c.find-i.result in
    let range = c.in-Some.range in
    let lt : a < n = grind (arith, nat_tests, c.if-not-before.ensures) in
    let le : a ≤ p range.end = grind (arith, nat_tests, c.if-not-before-2.ensures) in
    let e = added_grow a n i V lt c.requires.sound c.find-i.ensures.point (omega (arith, view_length p old)) (ends p range) (sym c.in-Some.ensures) le in
    left_by p old c.put.new.self c.put.result _ _ (ap (λ m. take (i - 1) V ++ join (p range.start, m) (drop i V)) c.next-next.ensures ∙ sym e) c.put.ensures.held

pub returns-in-Some-clause-sound : goal.returns-in-Some-clause-sound
returns-in-Some-clause-sound g c =
    let p = g.I.Index.position in
    let V = view p c.args.self.now in
    left_sound p c.args.self.now c.put.new.self c.put.result (added (p c.args.at) (p c.args.size) V) (p c.args.size) (returns-in-Some-clause-held g c) c.requires.sound (sound_added (p c.args.at) (p c.args.size) V c.requires.sound)

pub returns-in_default-clause-held : goal.returns-in_default-clause-held
returns-in_default-clause-held g c =
    let p = g.I.Index.position in
    let old = c.args.self.now in
    let V = view p old in
    let a = p c.args.at in
    let n = p c.args.size in
    let i = c.find-i.result in
    let lt : a < n = grind (arith, nat_tests, c.if-not-before.ensures) in
    let h : MatchOption c.range_at-after.result (c.is_some_and.result ≡ false) (λ x. c.is_some_and.result ≡ not (ltb a (p x.start))) = search rules in
    let u : (r : ℕ × ℕ) → slice_get (take i V) (i - 1) ≡ Some r → r.1 < a =
    λ r s. elim c.in_default.branch [
      | in_default-via-in-Some+else-not-before-2 w ↦
          let z = ap (λ y. y.1) (same_Some (ends p w.in-Some.range) r (w.in-Some.ensures ∙ s)) in
          let q : p w.in-Some.range.end < a = grind (arith, nat_tests, w.if-not-before-2.ensures) in
          omega arith
      | in_default-via-in_default w ↦ absurd (none-some r (w.in_default.ensures ∙ s))
    ] in
    let e = added_put a n i V lt c.requires.sound c.find-i.ensures.point (omega (arith, view_length p old)) u (not_started p a i V c.range_at-after.result c.is_some_and.result h c.range_at-after.ensures c.if-is_some_and.false) in
    left_by p old c.put-in_default.new.self c.put-in_default.result _ _ (ap (λ m. take i V ++ join (a, m) (drop i V)) c.next-next.ensures ∙ sym e) c.put-in_default.ensures.held

pub returns-in_default-clause-sound : goal.returns-in_default-clause-sound
returns-in_default-clause-sound g c =
    let p = g.I.Index.position in
    let V = view p c.args.self.now in
    left_sound p c.args.self.now c.put-in_default.new.self c.put-in_default.result (added (p c.args.at) (p c.args.size) V) (p c.args.size) (returns-in_default-clause-held g c) c.requires.sound (sound_added (p c.args.at) (p c.args.size) V c.requires.sound)
