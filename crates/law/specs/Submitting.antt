-- Submission: what declines it before the first command, and what an accepted one does.
use Rattle.std.specs.Prelude.{ℕ, ◌+◌, ◌-◌, ◌*◌, Bool, true, false, cond, ◌&&◌, List, [], ◌∷◌, ◌++◌, length, Ok, Err, Result, nat_le}
use Rattle.fault.specs.declared.Fault.{Fault}
use Rattle.fault.specs.declared.call_kind.CallKind.TheVariants.{Submit as Submitting}
use Rattle.fault.specs.declared.refusal.Refusal.TheVariants.{Destroyed, NoClearMode, PlacesFull, BadDescription}
use Rattle.fault.specs.Parts.{fault_of}
use Rattle.texture.specs.Shapes.{Shape}
use Rattle.texture.specs.Cells.{surface_first, surface_cells}
use Rattle.device.specs.declared.command.Command.{Command}
use Rattle.device.specs.Meaning.{Meaning, ran}
use Rattle.rules.specs.State.{Buffer, Texture}
use Rattle.rules.specs.Verdicts.{and_then, told}
use Rattle.rules.specs.Lists.{allows}
use Rattle.rules.specs.Uses.{buffer_of}
use Rattle.rules.specs.Planning.{drain_step, drain_steps, holds, planned, clears_of}
use Rattle.rules.specs.Submission.{all_fit, step_fits, enough}
use Rattle.rules.specs.declared.list_state.ListCall.TheVariants.{Submit}
use Rattle.law.specs.Pages.{World, Area, ListStep, OnBuffer, TextureRead, TextureWrite, ClearTexture, SettledClear, Discard, buffer_at, texture_at, texture_in, page_at, put_page, with_buffers, with_textures, idle_page, discards_from}
use Rattle.law.specs.Uses.{owes_any, drained_by, drained_by_all, needed_by_all, discard_all, commands_for_all, sums_for_all, on_buffers, cells_named, settled_commands, up_from}
use Rattle.law.specs.Recording.{known_page, unclearable}

-- the resource that a step names, and whether it stands
abbrev pub resource_of : ListStep → ℕ
resource_of (OnBuffer s) = buffer_of s
resource_of (TextureRead n a) = n
resource_of (TextureWrite n b a) = n
resource_of (ClearTexture n a) = n
resource_of (SettledClear f) = f.texture
resource_of (Discard f) = f.texture

abbrev pub resource_stands : World → ListStep → Bool
resource_stands w (OnBuffer s) = (buffer_at w (buffer_of s)).standing
resource_stands w (TextureRead n a) = (texture_at w n).standing
resource_stands w (TextureWrite n b a) = (texture_at w n).standing
resource_stands w (ClearTexture n a) = (texture_at w n).standing
resource_stands w (SettledClear f) = (texture_at w f.texture).standing
resource_stands w (Discard f) = (texture_at w f.texture).standing

-- each step's resource stands; the fault names the first that does not, by its number and its place
abbrev pub all_stand : World → ℕ → List ListStep → Result (Unit {0}) Fault
all_stand w k [] = Ok tt
all_stand w k (s ∷ ss) =
    cond (resource_stands w s) (all_stand w (k + 1) ss) (Err (fault_of Submitting Destroyed (resource_of s) k))

-- whether a step is a read that needs a clear of a texture that can't be cleared
abbrev pub cant_clear : List Texture → ListStep → Bool
cant_clear ts (OnBuffer s) = false
cant_clear ts (TextureRead n a) =
    unclearable (texture_in ts n).shape.mode && owes_any a 0 (texture_in ts n).owes
cant_clear ts (TextureWrite n b a) = false
cant_clear ts (ClearTexture n a) = false
cant_clear ts (SettledClear f) = false
cant_clear ts (Discard f) = false

abbrev pub all_clear : List Texture → ℕ → List ListStep → Result (Unit {0}) Fault
all_clear ts k [] = Ok tt
all_clear ts k (s ∷ ss) =
    cond (cant_clear ts s) (Err (fault_of Submitting NoClearMode (resource_of s) k)) (all_clear (drained_by ts s) (k + 1) ss)

-- the buffers after a step, and whether the step leaves its buffer's book within its places; a texture's book always
-- has places enough
abbrev pub buffers_after : List Buffer → ListStep → List Buffer
buffers_after bs (OnBuffer s) = drain_step bs s
buffers_after bs (TextureRead n a) = bs
buffers_after bs (TextureWrite n b a) = bs
buffers_after bs (ClearTexture n a) = bs
buffers_after bs (SettledClear f) = bs
buffers_after bs (Discard f) = bs

abbrev pub holds_book : List Buffer → ListStep → Bool
holds_book bs (OnBuffer s) = holds bs s
holds_book bs (TextureRead n a) = true
holds_book bs (TextureWrite n b a) = true
holds_book bs (ClearTexture n a) = true
holds_book bs (SettledClear f) = true
holds_book bs (Discard f) = true

abbrev pub all_hold : List Buffer → ℕ → List ListStep → Result (Unit {0}) Fault
all_hold bs k [] = Ok tt
all_hold bs k (s ∷ ss) =
    cond (holds_book bs s) (all_hold (buffers_after bs s) (k + 1) ss) (Err (fault_of Submitting PlacesFull (resource_of s) k))

-- the shape of each texture, by its number
abbrev pub shapes : World → ℕ → Shape
shapes w n = (texture_at w n).shape

-- the clears ahead of the steps: of buffers, ascending and joined, then of textures in step order
abbrev pub ahead : World → List ListStep → List Command
ahead w ss = clears_of (planned w.buffers (on_buffers ss)) ++ needed_by_all w.pitch w.textures ss

-- what the device is asked to do: the clears, and then the steps
abbrev pub all_commands : World → List ListStep → List Command
all_commands w ss = ahead w ss ++ commands_for_all w.pitch (shapes w) ss

-- each clear and each step's own range lies within the extent of its slot
abbrev pub read_fits : (ℕ → ℕ) → (ℕ → Shape) → ℕ → Area → List ℕ → Bool
read_fits extent shape n a [] = true
read_fits extent shape n a (m ∷ ms) =
    nat_le (surface_first (shape n) m a.layer + (a.layer_end - a.layer) * surface_cells (shape n) m) (extent n)
    && read_fits extent shape n a ms

abbrev pub range_fits : (ℕ → ℕ) → (ℕ → Shape) → ListStep → Bool
range_fits extent shape (OnBuffer s) = step_fits extent s
range_fits extent shape (TextureRead n a) = read_fits extent shape n a (up_from a.mip (a.mip_end - a.mip))
range_fits extent shape (TextureWrite n b a) = true
range_fits extent shape (ClearTexture n a) = true
range_fits extent shape (SettledClear f) = true
range_fits extent shape (Discard f) = true

abbrev pub ranges_fit : (ℕ → ℕ) → (ℕ → Shape) → List ListStep → Bool
ranges_fit extent shape [] = true
ranges_fit extent shape (s ∷ ss) = range_fits extent shape s && ranges_fit extent shape ss

abbrev pub within_extents : World → Meaning → List ListStep → Result (Unit {0}) Fault
within_extents w m ss =
    cond (all_fit m.extent (all_commands w ss) && ranges_fit m.extent (shapes w) ss) (Ok tt) (Err (fault_of Submitting BadDescription 255 64))

-- what declines the steps of a closed list, every cause tried before the first command
abbrev pub steps_verdict : World → Meaning → List ListStep → Result (Unit {0}) Fault
steps_verdict w m ss =
    and_then (all_stand w 0 ss)
    (and_then (all_clear w.textures 0 ss)
    (and_then (all_hold w.buffers 0 ss) (and_then (enough m (all_commands w ss)) (within_extents w m ss))))

abbrev pub submit_verdict : World → Meaning → ℕ → Result (Unit {0}) Fault
submit_verdict w m l =
    and_then (told Submitting 255 64 (and_then (known_page l) (allows (page_at w l).state Submit))) (steps_verdict w m (page_at w l).steps)

-- an accepted submission takes what its steps cover out of the books, puts the discards that are left into them, and
-- leaves its list idle
abbrev pub submitted_world : World → ℕ → World
submitted_world w l =
    put_page
    (with_textures (with_buffers w w.made (drain_steps w.buffers (on_buffers (page_at w l).steps))) w.made_textures
    (discard_all (drained_by_all w.textures (page_at w l).steps) (discards_from [] (page_at w l).steps)))
    l idle_page

-- what an accepted submission tells of itself: the cells cleared before the steps and by settled clears, the commands,
-- and one sum for each read
pub record Told : Type 0 where
  pub cleared : ℕ
  pub commands : ℕ
  pub sums : List ℕ

abbrev pub told_of : World → Meaning → List ListStep → Told
told_of w m ss =
    record {
      cleared = cells_named (ahead w ss) + cells_named (settled_commands w.pitch (shapes w) ss);
      commands = length (all_commands w ss);
      sums = sums_for_all w.pitch (shapes w) (ran m.cell (ahead w ss)) ss;
    }
