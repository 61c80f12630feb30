use Rattle.std.proofs.Common.{refl, sym, subst}
use Rattle.std.proofs.lemmas.Result.{err_from_is_err_and}
use Rattle.range_list.specs.Ranges.{Sound}
use Rattle.range_list.proofs.Laws.{sound_drained}
use Rattle.init_tracker.specs.Books.{held}
use Rattle.init_tracker.proofs.Owed.{held_sound, book_same}
use Rattle.init_tracker.proofs.book.Book.drain.Goals as goal

pub drain-requires-clause-sound : goal.drain-requires-clause-sound
drain-requires-clause-sound g c = (g.I.Index.position c.args.self.now.size, held_sound c.args.self.now)

pub invariant_of-self-2-clause-sound : goal.invariant_of-self-2-clause-sound
invariant_of-self-2-clause-sound g c =
    let p = g.I.Index.position in
    let b = c.args.self.now in
    let q = c.args.query in
    ∣ subst (Sound (p b.size)) (sym c.in_ok-self.ensures.1) (sound_drained (p q.start) (p q.end) (p b.size) (held b) (held_sound b)) ∣₁

pub returns-in_err-self-clause-declined : goal.returns-in_err-self-clause-declined
returns-in_err-self-clause-declined g c =
    let e = err_from_is_err_and c.from_residual.result c.from_residual.ensures.1 in
    rw e.1 (book_same _ c.args.self.now c.in_err-self.ensures.1 refl refl)
