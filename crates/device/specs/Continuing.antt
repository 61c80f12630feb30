-- A journal that takes commands writes them down one after the other: what it keeps of the trait's laws.
use Rattle.std.specs.Prelude.{List, [], ◌++◌, refl}
use Rattle.std.proofs.Common.{sym, ap, ◌∙◌, append_assoc}
use Rattle.std.proofs.lemmas.List.{append-nil}
use Rattle.device.specs.Journal.{Continued, written}
use Rattle.device.specs.declared.command.Command.{Command}
use Rattle.device.specs.declared.journal.Journal.{Journal}

-- no command changes nothing
pub continued_none : (j : Journal) → Continued j [] j
continued_none j = record { writes = sym (append-nil (written j)); begins = refl; reaches = refl; room = refl }

-- commands and then others are all of them in order
pub continued_more : (i j k : Journal) (cs more : List Command) → Continued i cs j → Continued j more k → Continued i (cs ++ more) k
continued_more i j k cs more p q =
    record {
      writes = q.writes ∙ ap (λ xs. xs ++ more) p.writes ∙ append_assoc (written i) cs more;
      begins = q.begins ∙ p.begins;
      reaches = q.reaches ∙ p.reaches;
      room = q.room ∙ p.room;
    }
