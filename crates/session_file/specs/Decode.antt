-- A call in a session file: 32 bytes, of which the first names it and the others hold its arguments.
use Rattle.std.specs.Prelude.{ℕ, cond, List, [], ◌∷◌, length, Some, None, Option, ◌==◌, nat_le}
use Rattle.rules.specs.declared.call.Call.{Call}
use Rattle.rules.specs.declared.call.Call.TheVariants.{MakeBuffer, Destroy, Open, Close, Abandon, Submit, BufferRead, BufferWrite, ClearBuffer, Unknown}
use Rattle.session_file.specs.declared.decode.Fields.{Fields}
use Rattle.session_file.specs.Words.{byte, long}

-- the call beside a number, and an unknown one where the number stands in no row
abbrev pub named : ℕ → List (ℕ × Call) → Call
named n [] = Unknown
named n (row ∷ rows) = cond (n == row.0) row.1 (named n rows)

-- a clear says by a small number whether its size is missing
abbrev pub clear_call : ℕ → ℕ → ℕ → ℕ → ℕ → Call
clear_call list resource small x y =
    named small ((0, ClearBuffer list resource x None) ∷ (1, ClearBuffer list resource x (Some y)) ∷ [])

-- the call of an operation, with its list, its resource, its small number and its two long ones
abbrev pub called_by : ℕ → ℕ → ℕ → ℕ → ℕ → ℕ → Call
called_by op list resource small x y =
    named op
    ((1, MakeBuffer x small)
    ∷ (3, Destroy resource)
    ∷ (4, Open list)
    ∷ (5, Close list)
    ∷ (6, Abandon list)
    ∷ (7, Submit list)
    ∷ (8, BufferRead list resource x y)
    ∷ (9, BufferWrite list resource small x y)
    ∷ (10, clear_call list resource small x y)
    ∷ [])

-- the same of the fields of a call
abbrev pub fields_call : Fields → Call
fields_call f = called_by f.operation f.list f.resource f.small f.x f.y

-- the call at the front of these bytes, or none where they are too few for one
abbrev pub call_of : List ℕ → Option Call
call_of xs =
    cond (nat_le 32 (length xs)) (Some (called_by (byte xs 0) (byte xs 1) (byte xs 2) (byte xs 3) (long xs 8) (long xs 16))) None
