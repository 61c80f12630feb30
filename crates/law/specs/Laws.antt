-- The law over runs: what holds after each call of every run from a new planner, over any device.
use Rattle.std.specs.Prelude.{◌≡◌, ℕ, ◌+◌, ◌≤◌, false, ◌||◌, List, [], ◌∷◌, ◌++◌}
use Rattle.texture.specs.Shapes.{Shape}
use Rattle.device.specs.declared.command.Command.{Command}
use Rattle.device.specs.Commands.{covers as commandCovers}
use Rattle.device.specs.Meaning.{Meaning, Followed}
use Rattle.law.specs.Pages.{World, ListStep, OnBuffer, TextureRead, TextureWrite, ClearTexture, SettledClear, Discard, new_world, page_at}
use Rattle.law.specs.Uses.{commands_for}
use Rattle.law.specs.Submitting.{shapes, ahead}
use Rattle.law.specs.Calls.{Call, MakeBuffer, MakeTexture, Destroy, Open, Close, Abandon, BufferRead, BufferWrite, ClearBuffer, WriteTexture, Announce, Settle, Withdraw, DiscardSurface, Clear, Submit, Unknown, outcome}
use Rattle.law.specs.Ledger.{Cells, nobody, Ledger, Entry, History, Each, ledger_of, tally, Throughout, began_by, cleared_by, overs_by, lost_by, ended_by, count_all, turns_by, HoldsBy, Sound, Thrifty, sums_by, sums_in, bare}

-- the cells that some of the commands cover
abbrev pub commanded : List Command → Cells
commanded [] r i = false
commanded (c ∷ cs) r i = commandCovers c r i || commanded cs r i

abbrev pub either : Cells → Cells → Cells
either c d r i = c r i || d r i

-- THE PLANNER'S CHOICE of clears is what it commands: the clears ahead of the steps go before the first step, and
-- settled clears before the first read settled with them
abbrev pub choice_from : ℕ → (ℕ → Shape) → Cells → List ListStep → List Cells
choice_from pitch shape c [] = []
choice_from pitch shape c (OnBuffer s ∷ ss) = c ∷ choice_from pitch shape nobody ss
choice_from pitch shape c (TextureRead n a ∷ ss) = c ∷ choice_from pitch shape nobody ss
choice_from pitch shape c (TextureWrite n b a ∷ ss) = c ∷ choice_from pitch shape nobody ss
choice_from pitch shape c (ClearTexture n a ∷ ss) = c ∷ choice_from pitch shape nobody ss
choice_from pitch shape c (SettledClear f ∷ ss) =
    choice_from pitch shape (either c (commanded (commands_for pitch shape (SettledClear f)))) ss
choice_from pitch shape c (Discard f ∷ ss) = c ∷ choice_from pitch shape nobody ss

abbrev pub choice : World → List ListStep → List Cells
choice w ss = choice_from w.pitch (shapes w) (commanded (ahead w ss)) ss

abbrev pub choice_of : World → Call → List Cells
choice_of w (MakeBuffer size copy) = []
choice_of w (MakeTexture d f c wide high k mips) = []
choice_of w (Destroy n) = []
choice_of w (Open n) = []
choice_of w (Close n) = []
choice_of w (Abandon n) = []
choice_of w (BufferRead n b start end) = []
choice_of w (BufferWrite n b byte start end) = []
choice_of w (ClearBuffer n b offset size) = []
choice_of w (WriteTexture n t byte a) = []
choice_of w (Announce n t a) = []
choice_of w (Settle n d) = []
choice_of w (Withdraw n d) = []
choice_of w (DiscardSurface n f) = []
choice_of w (Clear n t aspect mip mips layer layers) = []
choice_of w (Submit n) = choice w (page_at w n).steps
choice_of w Unknown = []

-- what a call adds to the history
abbrev pub entry_of : World → Meaning → Call → Entry
entry_of w m k = record { call = k; reply = (outcome w m k).reply; clears = choice_of w k }

-- A RUN from a new planner over a device: the calls so far with their replies, the commands so far in order, the state
-- and the device after them
pub data Run (start : Meaning) (mark pitch : ℕ) : History → List Command → World → Meaning → Type 0 where
  begun : Run start mark pitch [] [] (new_world mark pitch) start
  called : {h : History} {cs : List Command} {w : World} {m n : Meaning} (k : Call)
      → Run start mark pitch h cs w m → Followed m (outcome w m k).commands n
      → Run start mark pitch (entry_of w m k ∷ h) (cs ++ (outcome w m k).commands) (outcome w m k).world n

-- an entry's reports say the sums of the ledger
abbrev pub SumsRight : Entry → Ledger → Type 0
SumsRight e l = sums_in e.reply ≡ sums_by l.sizes (turns_by e l) l.marks

-- no read of an entry's submissions covers an owing cell; and only owing cells are cleared
abbrev pub SoundBy : Entry → Ledger → Type 0
SoundBy e l = HoldsBy (Sound l.sizes) (turns_by e l) l.marks

abbrev pub ThriftyBy : Entry → Ledger → Type 0
ThriftyBy e l = HoldsBy (Thrifty l.sizes) (turns_by e l) l.marks

-- the number of cells that an entry reports as cleared is the number of owings that its clears end
abbrev pub CountedBy : Entry → Ledger → Type 0
CountedBy e l = cleared_by e l ≡ ended_by e l

pub record Laws (start : Meaning) (h : History) (cs : List Command) (m : Meaning) : Type 0 where
  -- each accepted submission reports its reads' sums, in order: the bytes last written since a cell began to owe, and
  -- nought where none was
  pub sums : Throughout SumsRight h
  -- a standing resource's cell that does not owe holds that byte on the device
  pub held : Each (ledger_of h).sizes (λ r i. (ledger_of h).marks.owes r i ≡ false → m.cell r i ≡ (ledger_of h).marks.byte r i)
  -- every cell holds what the commands so far leave of the device's first bytes, owing or not
  pub account : Followed start cs m
  -- what began to owe was cleared, as the reports say, or written over, or lost, or owes still
  pub balance : tally began_by h ≡ tally cleared_by h + tally overs_by h + tally lost_by h + count_all (ledger_of h).sizes (ledger_of h).marks.owes
  -- a clear that was not asked for is of owing cells only, and the reports count those cells
  pub thrifty : Throughout ThriftyBy h
  pub counted : Throughout CountedBy h
  -- no read's cover holds an owing cell
  pub sound : Throughout SoundBy h
  -- every other choice of clears for the same submissions of which that is true ends at least as many owings as the
  -- reports say
  pub least : (other : History) → bare other ≡ bare h → Throughout SoundBy other → tally cleared_by h ≤ tally ended_by other

abbrev pub LawOverRuns : Type 0
LawOverRuns =
    (start : Meaning) (mark pitch : ℕ) (h : History) (cs : List Command) (w : World) (m : Meaning)
    → Run start mark pitch h cs w m → Laws start h cs m
