-- Which clears a list of steps can't be spared: uses drain the books in step order, and what reads take is cleared.
use Rattle.std.specs.Prelude.{ℕ, ◌+◌, ◌-◌, Bool, cond, ◌&&◌, ◌||◌, List, [], ◌∷◌, ◌++◌, map, length, ◌==◌, nat_le, nat_lt, slice_index_or, slice_set}
use Rattle.device.specs.declared.command.Command.{Command}
use Rattle.device.specs.declared.command.CommandKind.TheVariants.{Clear}
use Rattle.range_list.specs.Ranges.{drained, pieces}
use Rattle.rules.specs.State.{Buffer, no_buffer}
use Rattle.rules.specs.Uses.{buffer_of, start_of, cover_end, looks}
use Rattle.rules.specs.declared.piece.Piece.{Piece}
use Rattle.rules.specs.declared.step.Step.{Step}

-- a step takes what it covers out of its buffer's book
abbrev pub drained_buffer : Buffer → Step → Buffer
drained_buffer b s =
    record { size = b.size; copy = b.copy; standing = b.standing; owes = drained (start_of s) (cover_end s) b.owes }

abbrev pub drain_step : List Buffer → Step → List Buffer
drain_step bs s = slice_set bs (buffer_of s) (drained_buffer (slice_index_or bs (buffer_of s) no_buffer) s)

-- the buffers after a list of steps
abbrev pub drain_steps : List Buffer → List Step → List Buffer
drain_steps bs [] = bs
drain_steps bs (s ∷ ss) = drain_steps (drain_step bs s) ss

-- whether a step leaves its buffer's book within its 64 places
abbrev pub holds : List Buffer → Step → Bool
holds bs s = nat_le (length (drained_buffer (slice_index_or bs (buffer_of s) no_buffer) s).owes) 64

abbrev pub piece_of : ℕ → ℕ × ℕ → Piece
piece_of n r = record { buffer = n; start = r.0; end = r.1 }

-- what a read takes: the ranges that owe within what it covers
abbrev pub taken : List Buffer → Step → List Piece
taken bs s =
    cond (looks s) (map (piece_of (buffer_of s)) (pieces (start_of s) (cover_end s) (slice_index_or bs (buffer_of s) no_buffer).owes)) []

-- the pieces that the reads of a list take, in step order, before they are joined
abbrev pub all_taken : List Buffer → List Step → List Piece
all_taken bs [] = []
all_taken bs (s ∷ ss) = taken bs s ++ all_taken (drain_step bs s) ss

-- pieces are kept by ascending buffer and address
abbrev pub precedes : Piece → Piece → Bool
precedes p q = nat_lt p.buffer q.buffer || (p.buffer == q.buffer && nat_lt p.start q.start)

abbrev pub placed : Piece → List Piece → List Piece
placed p [] = p ∷ []
placed p (q ∷ qs) = cond (precedes p q) (p ∷ (q ∷ qs)) (q ∷ placed p qs)

abbrev pub all_placed : List Piece → List Piece → List Piece
all_placed qs [] = qs
all_placed qs (p ∷ ps) = all_placed (placed p qs) ps

-- pieces of one buffer that touch are joined
abbrev pub touches : Piece → Piece → Bool
touches p q = p.buffer == q.buffer && p.end == q.start

abbrev pub join_front : Piece → List Piece → List Piece
join_front p [] = p ∷ []
join_front p (q ∷ qs) =
    cond (touches p q) (record { buffer = p.buffer; start = p.start; end = q.end } ∷ qs) (p ∷ (q ∷ qs))

abbrev pub join_all : List Piece → List Piece
join_all [] = []
join_all (p ∷ ps) = join_front p (join_all ps)

-- the ranges to clear ahead of the steps
abbrev pub planned : List Buffer → List Step → List Piece
planned bs ss = join_all (all_placed [] (all_taken bs ss))

-- one clear for each
abbrev pub clear_of : Piece → Command
clear_of p = record { kind = Clear; slot = p.buffer; first = p.start; count = p.end - p.start }

abbrev pub clears_of : List Piece → List Command
clears_of ps = map clear_of ps

-- how many cells they hold
abbrev pub cells_in : List Piece → ℕ
cells_in [] = 0
cells_in (p ∷ ps) = (p.end - p.start) + cells_in ps
