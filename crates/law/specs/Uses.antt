-- What a step on a texture does: what it takes out of the book, what the device is asked to do for it, and what it sums.
use Rattle.std.specs.Prelude.{ℕ, zero, suc, ◌+◌, ◌-◌, ◌*◌, Bool, false, cond, not, ◌&&◌, ◌||◌, List, [], ◌∷◌, ◌++◌, map, length, set, ◌==◌, slice_set}
use Rattle.std.specs.List.{flat_map}
use Rattle.texture.specs.Shapes.{Shape, layers_of}
use Rattle.texture.specs.Cells.{surface_first, surface_cells}
use Rattle.texture.specs.Copies.{clear_runs}
use Rattle.texture.specs.declared.format.ClearMode.{ClearMode}
use Rattle.texture.specs.declared.format.ClearMode.TheVariants as mode
use Rattle.device.specs.declared.command.Command.{Command}
use Rattle.device.specs.declared.command.CommandKind.{CommandKind}
use Rattle.device.specs.declared.command.CommandKind.TheVariants as kind
use Rattle.device.specs.Meaning.{ran, summed}
use Rattle.range_list.specs.Ranges.{inside, drained, pieces, added}
use Rattle.rules.specs.State.{Book, Texture}
use Rattle.rules.specs.Uses.{commands_of, sums_of}
use Rattle.rules.specs.declared.step.Step.{Step}
use Rattle.law.specs.Pages.{Area, Surface, ListStep, OnBuffer, TextureRead, TextureWrite, ClearTexture, SettledClear, Discard, place_of, texture_in}

-- the numbers from a on, n of them
abbrev pub up_from : ℕ → ℕ → List ℕ
up_from a zero = []
up_from a (suc n) = a ∷ up_from (a + 1) n

-- how a surface is cleared
abbrev pub kind_of : ClearMode → CommandKind
kind_of mode.None = kind.Clear
kind_of mode.Copies = kind.Copy
kind_of mode.ColourPass = kind.Pass
kind_of mode.DepthPass = kind.Pass

abbrev pub run_command : CommandKind → ℕ → ℕ × ℕ → Command
run_command k slot run = record { kind = k; slot = slot; first = run.0; count = run.1 }

-- the commands that clear one surface: its runs, in order
abbrev pub clear_surface : ℕ → ℕ → Shape → ℕ → ℕ → List Command
clear_surface pitch slot s m l = map (run_command (kind_of s.mode) slot) (clear_runs pitch s m l)

-- the layers of one mip, from first up to end, cleared one after the other
abbrev pub clear_layers : ℕ → ℕ → Shape → ℕ → ℕ × ℕ → List Command
clear_layers pitch slot s m r = flat_map (clear_surface pitch slot s m) (up_from r.0 (r.1 - r.0))

-- what a read needs cleared: of each mip that it covers, from mip k on, the layers that owe
abbrev pub clear_mips : ℕ → ℕ → Shape → Area → ℕ → List Book → List Command
clear_mips pitch slot s a k [] = []
clear_mips pitch slot s a k (b ∷ bs) =
    cond (inside a.mip a.mip_end k) (flat_map (clear_layers pitch slot s k) (pieces a.layer a.layer_end b)) []
    ++ clear_mips pitch slot s a (k + 1) bs

-- whether any layer owes in the mips that a read covers
abbrev pub owes_any : Area → ℕ → List Book → Bool
owes_any a k [] = false
owes_any a k (b ∷ bs) =
    (inside a.mip a.mip_end k && not (length (pieces a.layer a.layer_end b) == 0)) || owes_any a (k + 1) bs

-- a use takes what it covers out of the book of each mip
abbrev pub drain_mips : Area → ℕ → List Book → List Book
drain_mips a k [] = []
drain_mips a k (b ∷ bs) =
    cond (inside a.mip a.mip_end k) (drained a.layer a.layer_end b) b ∷ drain_mips a (k + 1) bs

abbrev pub with_book : Texture → List Book → Texture
with_book t bs = record { shape = t.shape; standing = t.standing; owes = bs }

abbrev pub drain_texture : List Texture → ℕ → Area → List Texture
drain_texture ts n a =
    slice_set ts (place_of n) (with_book (texture_in ts n) (drain_mips a 0 (texture_in ts n).owes))

-- the textures after a step: reads and writes drain, and a clear of a texture does not
abbrev pub drained_by : List Texture → ListStep → List Texture
drained_by ts (OnBuffer s) = ts
drained_by ts (TextureRead n a) = drain_texture ts n a
drained_by ts (TextureWrite n b a) = drain_texture ts n a
drained_by ts (ClearTexture n a) = ts
drained_by ts (SettledClear f) = ts
drained_by ts (Discard f) = ts

abbrev pub drained_by_all : List Texture → List ListStep → List Texture
drained_by_all ts [] = ts
drained_by_all ts (s ∷ ss) = drained_by_all (drained_by ts s) ss

-- what a step needs cleared ahead of the steps: a read of a texture, what owes there
abbrev pub needed_by : ℕ → List Texture → ListStep → List Command
needed_by pitch ts (OnBuffer s) = []
needed_by pitch ts (TextureRead n a) = clear_mips pitch n (texture_in ts n).shape a 0 (texture_in ts n).owes
needed_by pitch ts (TextureWrite n b a) = []
needed_by pitch ts (ClearTexture n a) = []
needed_by pitch ts (SettledClear f) = []
needed_by pitch ts (Discard f) = []

-- in step order, each over what the steps before it left in the books
abbrev pub needed_by_all : ℕ → List Texture → List ListStep → List Command
needed_by_all pitch ts [] = []
needed_by_all pitch ts (s ∷ ss) = needed_by pitch ts s ++ needed_by_all pitch (drained_by ts s) ss

-- a discard that is left is put into its texture's book
abbrev pub discard_mip : ℕ → ℕ → Surface → List Book → List Book
discard_mip n k f [] = []
discard_mip n k f (b ∷ bs) = cond (k == f.mip) (added f.layer n b) b ∷ discard_mip n (k + 1) f bs

abbrev pub discard_into : List Texture → Surface → List Texture
discard_into ts f =
    set ts (place_of f.texture)
    (with_book (texture_in ts f.texture) (discard_mip (layers_of (texture_in ts f.texture).shape) 0 f (texture_in ts f.texture).owes))

abbrev pub discard_all : List Texture → List Surface → List Texture
discard_all ts [] = ts
discard_all ts (f ∷ fs) = discard_all (discard_into ts f) fs

-- an area surface by surface: mips, then layers
abbrev pub over_layers : {A : Type 0} → (ℕ → ℕ → List A) → Area → ℕ → List A
over_layers g a m = flat_map (g m) (up_from a.layer (a.layer_end - a.layer))

abbrev pub over_surfaces : {A : Type 0} → (ℕ → ℕ → List A) → Area → List A
over_surfaces g a = flat_map (over_layers g a) (up_from a.mip (a.mip_end - a.mip))

-- one fill a surface
abbrev pub fill_surface : ℕ → Shape → ℕ → ℕ → ℕ → List Command
fill_surface slot s byte m l =
    record { kind = kind.Fill byte; slot = slot; first = surface_first s m l; count = surface_cells s m } ∷ []

-- what the device is asked to do for a step itself
abbrev pub commands_for : ℕ → (ℕ → Shape) → ListStep → List Command
commands_for pitch shape (OnBuffer s) = commands_of s
commands_for pitch shape (TextureRead n a) = []
commands_for pitch shape (TextureWrite n byte a) = over_surfaces (fill_surface n (shape n) byte) a
commands_for pitch shape (ClearTexture n a) = over_surfaces (clear_surface pitch n (shape n)) a
commands_for pitch shape (SettledClear f) = clear_surface pitch f.texture (shape f.texture) f.mip f.layer
commands_for pitch shape (Discard f) = []

abbrev pub commands_for_all : ℕ → (ℕ → Shape) → List ListStep → List Command
commands_for_all pitch shape [] = []
commands_for_all pitch shape (s ∷ ss) = commands_for pitch shape s ++ commands_for_all pitch shape ss

-- a read of a texture sums the cells of its area, mip by mip: the layers of a mip lie side by side
abbrev pub sum_mips : (ℕ → ℕ) → Shape → Area → List ℕ → ℕ
sum_mips cell s a [] = 0
sum_mips cell s a (m ∷ ms) =
    summed cell (surface_first s m a.layer) ((a.layer_end - a.layer) * surface_cells s m) + sum_mips cell s a ms

-- the sum of a read, over the cells as they are
abbrev pub sums_for : (ℕ → Shape) → (ℕ → ℕ → ℕ) → ListStep → List ℕ
sums_for shape cell (OnBuffer s) = sums_of cell s
sums_for shape cell (TextureRead n a) = sum_mips (cell n) (shape n) a (up_from a.mip (a.mip_end - a.mip)) ∷ []
sums_for shape cell (TextureWrite n byte a) = []
sums_for shape cell (ClearTexture n a) = []
sums_for shape cell (SettledClear f) = []
sums_for shape cell (Discard f) = []

-- the sums of a list of steps, each over what the steps before it left
abbrev pub sums_for_all : ℕ → (ℕ → Shape) → (ℕ → ℕ → ℕ) → List ListStep → List ℕ
sums_for_all pitch shape cell [] = []
sums_for_all pitch shape cell (s ∷ ss) =
    sums_for shape cell s ++ sums_for_all pitch shape (ran cell (commands_for pitch shape s)) ss

-- the steps on buffers, in order
abbrev pub on_buffers : List ListStep → List Step
on_buffers [] = []
on_buffers (OnBuffer s ∷ ss) = s ∷ on_buffers ss
on_buffers (TextureRead n a ∷ ss) = on_buffers ss
on_buffers (TextureWrite n byte a ∷ ss) = on_buffers ss
on_buffers (ClearTexture n a ∷ ss) = on_buffers ss
on_buffers (SettledClear f ∷ ss) = on_buffers ss
on_buffers (Discard f ∷ ss) = on_buffers ss

-- how many cells commands name, each time anew
abbrev pub cells_named : List Command → ℕ
cells_named [] = 0
cells_named (c ∷ cs) = c.count + cells_named cs

-- the commands of the settled clears among the steps
abbrev pub settled_commands : ℕ → (ℕ → Shape) → List ListStep → List Command
settled_commands pitch shape [] = []
settled_commands pitch shape (OnBuffer s ∷ ss) = settled_commands pitch shape ss
settled_commands pitch shape (TextureRead n a ∷ ss) = settled_commands pitch shape ss
settled_commands pitch shape (TextureWrite n byte a ∷ ss) = settled_commands pitch shape ss
settled_commands pitch shape (ClearTexture n a ∷ ss) = settled_commands pitch shape ss
settled_commands pitch shape (SettledClear f ∷ ss) = commands_for pitch shape (SettledClear f) ++ settled_commands pitch shape ss
settled_commands pitch shape (Discard f ∷ ss) = settled_commands pitch shape ss
