use Rattle.init_tracker.proofs.Owed.{held_sound}
use Rattle.init_tracker.proofs.book.Book.count.Goals as goal

pub returns-clause-sound : goal.returns-clause-sound
returns-clause-sound g c = held_sound c.args.self.now
