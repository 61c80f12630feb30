-- The pieces that a store of pieces holds.
use Rattle.std.specs.Prelude.{List}
use Rattle.rules.specs.declared.piece.Piece.{Piece}
use Rattle.plan.specs.declared.pieces.Pieces.{Pieces}

-- all of them, in order
abbrev pub kept : Pieces → List Piece
kept p = p.pieces.items

-- what a place holds that holds no piece
abbrev pub blank : Piece
blank = record { buffer = 0; start = 0; end = 0 }
