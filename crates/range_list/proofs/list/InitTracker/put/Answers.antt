use Rattle.std.proofs.Common.{◌≡◌, ◌≢◌, ℕ, ◌+◌, false, eqb, ◌∷◌, ◌++◌, length, take, drop, set, insert, sym, ap, ◌∙◌, arith}
use Rattle.std.proofs.lemmas.Bool.Decides.{nat_tests}
use Rattle.std.proofs.lemmas.List.Edits.{length-insert}
use Rattle.std.proofs.lemmas.Option.{slice_get_within}
use Rattle.std.proofs.lemmas.Result.{err_from_is_err_and}
use Rattle.range_list.specs.Ranges.{join}
use Rattle.range_list.specs.View.{ends, view}
use Rattle.range_list.proofs.Steps.{view_length, join_at, join_apart, join_none, put_joined, put_over}
use Rattle.range_list.proofs.list.InitTracker.put.Goals as goal
use Rattle.range_list.proofs.list.InitTracker.put.Goals.{in_default-via-in-Some+else-same, in_default-via-in_default}

apart : (a b : ℕ) → false ≡ eqb a b → a ≢ b
apart a b e = grind arith

pub returns-in-Some-clause-held : goal.returns-in-Some-clause-held
returns-in-Some-clause-held g c =
    let p = g.I.Index.position in
    let V = view p c.args.self.now in
    let i = c.args.i in
    let k = c.args.k in
    let s = c.args.s in
    let next = c.in-Some.next in
    let e = sym c.in-Some.ensures in
    let j = join_at V k (p s.start) (p s.end) (ends p next) e (grind (arith, nat_tests)) in
    c.remove.ensures.held ∙ ap (λ z. take i z ++ drop k z) c.set.ensures.held ∙ put_joined V i k (p s.start, p next.end) (omega arith) (slice_get_within V k _ e)
    ∙ sym (ap (λ z. take i V ++ z) j)

pub returns-in_default-clause-held : goal.returns-in_default-clause-held
returns-in_default-clause-held g c =
    let p = g.I.Index.position in
    let V = view p c.args.self.now in
    let i = c.args.i in
    let k = c.args.k in
    let s = c.args.s in
    let l = view_length p c.args.self.now in
    let fact : (c.in_default.s ≡ (s.start, (s.end, tt {0}))) × (join (ends p s) (drop k V) ≡ ends p s ∷ drop k V) =
    elim c.in_default.branch [
      | in_default-via-in-Some+else-same w ↦ (w.s-is, join_apart V k (p s.start) (p s.end) (ends p w.in-Some.next) (sym w.in-Some.ensures) (apart _ _ w.if-same.ensures))
      | in_default-via-in_default w ↦ (w.s-is, join_none V k (p s.start) (p s.end) (sym w.in_default.ensures))
    ] in
    c.set-in_default.ensures.held ∙ ap (λ z. set V i (p z.0, p z.1.0)) fact.0 ∙ put_over V i k (ends p s) (omega arith) (omega arith) ∙ sym (ap (λ z. take i V ++ z) fact.1)

pub returns-in_ok-insert-in_default-2-clause-held : goal.returns-in_ok-insert-in_default-2-clause-held
returns-in_ok-insert-in_default-2-clause-held g c =
    let p = g.I.Index.position in
    let V = view p c.args.self.now in
    let i = c.args.i in
    let k = c.args.k in
    let s = c.args.s in
    let ik : i ≡ k = omega arith in
    let fact : (c.in_default.s ≡ (s.start, (s.end, tt {0}))) × (join (ends p s) (drop k V) ≡ ends p s ∷ drop k V) =
    elim c.in_default.branch [
      | in_default-via-in-Some+else-same w ↦ (w.s-is, join_apart V k (p s.start) (p s.end) (ends p w.in-Some.next) (sym w.in-Some.ensures) (apart _ _ w.if-same.ensures))
      | in_default-via-in_default w ↦ (w.s-is, join_none V k (p s.start) (p s.end) (sym w.in_default.ensures))
    ] in
    c.in_ok-insert-in_default-2.ensures.held.1 ∙ ap (λ z. insert V i (p z.0, p z.1.0)) fact.0 ∙ ap (λ m. take i V ++ ends p s ∷ drop m V) ik ∙ sym (ap (λ z. take i V ++ z) fact.1)

pub returns-in_err-insert-in_default-2-clause-held : goal.returns-in_err-insert-in_default-2-clause-held
returns-in_err-insert-in_default-2-clause-held g c =
    let p = g.I.Index.position in
    let V = view p c.args.self.now in
    let i = c.args.i in
    let k = c.args.k in
    let s = c.args.s in
    let ik : i ≡ k = omega arith in
    let l = view_length p c.args.self.now in
    let fact : join (ends p s) (drop k V) ≡ ends p s ∷ drop k V =
    elim c.in_default.branch [
      | in_default-via-in-Some+else-same w ↦ join_apart V k (p s.start) (p s.end) (ends p w.in-Some.next) (sym w.in-Some.ensures) (apart _ _ w.if-same.ensures)
      | in_default-via-in_default w ↦ join_none V k (p s.start) (p s.end) (sym w.in_default.ensures)
    ] in
    let n = length-insert V k (ends p s) (omega arith) in
    let m : length (take i V ++ join (ends p s) (drop k V)) ≡ length V + 1 = ap (λ z. length (take i V ++ z)) fact ∙ ap (λ j. length (take j V ++ ends p s ∷ drop k V)) ik ∙ n in
    let h = c.in_err-insert-in_default-2.ensures.held in
    let e = err_from_is_err_and c.from_residual.result c.from_residual.ensures.1 in
    rw e.1 (e.2 ∙ h.0, h.1, h.2, omega (arith, h.3))
