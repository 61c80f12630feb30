use Rattle.init_tracker.proofs.Owed.{held_sound}
use Rattle.init_tracker.proofs.book.Book.ranges.Goals as goal

pub returns-clause-sound : goal.returns-clause-sound
returns-clause-sound g c = (g.I.Index.position c.args.self.now.size, held_sound c.args.self.now)
