-- Each call of a planner as one function of what was: its reply, the state and the commands after it.
use Rattle.std.specs.Prelude.{ℕ, ◌+◌, true, false, cond, not, List, [], ◌∷◌, length, replicate, Ok, Err, Option, Result, nat_le, nat_lt, slice_set}
use Rattle.fault.specs.declared.Fault.{Fault}
use Rattle.fault.specs.declared.call_kind.CallKind.{CallKind}
use Rattle.fault.specs.declared.call_kind.CallKind.TheVariants as kind
use Rattle.fault.specs.declared.refusal.Refusal.{Refusal}
use Rattle.fault.specs.declared.refusal.Refusal.TheVariants as cause
use Rattle.fault.specs.Parts.{fault_of}
use Rattle.texture.specs.Shapes.{Shape, layers_of}
use Rattle.texture.specs.Cells.{cells_of}
use Rattle.texture.specs.Numbered.{described}
use Rattle.device.specs.declared.command.Command.{Command}
use Rattle.device.specs.Meaning.{Meaning}
use Rattle.range_list.specs.Ranges.{whole}
use Rattle.rules.specs.State.{Texture, rounded_up}
use Rattle.rules.specs.Verdicts.{Verdict, tried, and_then, accepts}
use Rattle.rules.specs.Lists.{allows}
use Rattle.rules.specs.Making.{fresh_buffer, destroyed_buffer}
use Rattle.rules.specs.Steps.{read_causes, write_causes, clear_causes, clear_size}
use Rattle.rules.specs.declared.step.Step.TheVariants as step
use Rattle.rules.specs.declared.list_state.ListCall.{ListCall}
use Rattle.rules.specs.declared.list_state.ListCall.TheVariants as asked
use Rattle.law.specs.Pages.{World, Area, Surface, Announced, ListStep, OnBuffer, TextureWrite, ClearTexture, Discard, buffer_count, texture_count, buffer_at, texture_at, place_of, page_at, put_page, with_buffers, with_textures, holds_any}
use Rattle.law.specs.Recording.{Debt, known_page, known_buffer, known_texture, area_causes, texture_write_causes, discard_causes, clear_texture_causes, cleared_area, step_verdict, stepped_page, unless_empty, called_page, announced_page, debt_verdict, settle_causes, settled_page, spent_page, first_read, indebted}
use Rattle.law.specs.Submitting.{Told, submit_verdict, submitted_world, all_commands, told_of}

-- the calls, with their arguments as they come; a missing size or count is none
pub data Call : Type 0 where
  MakeBuffer : (size copy : ℕ) → Call
  MakeTexture : (dimension format mode width height count mips : ℕ) → Call
  Destroy : (resource : ℕ) → Call
  Open : (list : ℕ) → Call
  Close : (list : ℕ) → Call
  Abandon : (list : ℕ) → Call
  BufferRead : (list buffer start end : ℕ) → Call
  BufferWrite : (list buffer byte start end : ℕ) → Call
  ClearBuffer : (list buffer offset : ℕ) (size : Option ℕ) → Call
  WriteTexture : (list texture byte : ℕ) (area : Area) → Call
  Announce : (list texture : ℕ) (area : Area) → Call
  Settle : (list : ℕ) (debt : Debt) → Call
  Withdraw : (list : ℕ) (debt : Debt) → Call
  DiscardSurface : (list : ℕ) (surface : Surface) → Call
  Clear : (list texture aspect mip : ℕ) (mips : Option ℕ) (layer : ℕ) (layers : Option ℕ) → Call
  Submit : (list : ℕ) → Call
  Unknown : Call

-- what a call replies: the number of what was made; done; the debt of an announcement; what a submission tells of
-- itself; why it is declined, and then also the debt that is handed back
pub data Reply : Type 0 where
  Made : (number : ℕ) → Reply
  Done : Reply
  Owed : (debt : Debt) → Reply
  Submitted : (told : Told) → Reply
  Declined : (fault : Fault) → Reply
  HandedBack : (fault : Fault) (debt : Debt) → Reply

-- what a call does
pub record Outcome : Type 0 where
  pub reply : Reply
  pub world : World
  pub commands : List Command

-- a call that commands nothing
abbrev pub quietly : Reply → World → Outcome
quietly r w = record { reply = r; world = w; commands = [] }

-- done, or declined for a cause, naming a resource and a place
abbrev pub done_or : CallKind → ℕ → ℕ → Verdict → Reply
done_or k n place (Ok u) = Done
done_or k n place (Err e) = Declined (fault_of k e n place)

-- a buffer has at most 2^28 bytes, a copy flag of 0 or 1, and a slot whose extent holds its cells; a number is free
abbrev pub buffer_verdict : World → (ℕ → ℕ) → ℕ → ℕ → Verdict
buffer_verdict w extent size copy =
    tried ((nat_le buffer_count w.made, cause.NoNumberFree) ∷ (nat_lt 268435456 size, cause.BadDescription)
    ∷ (nat_lt 1 copy, cause.BadDescription) ∷ (nat_lt (extent w.made) (rounded_up size), cause.BadDescription) ∷ [])

abbrev pub made_buffer : World → Verdict → ℕ → ℕ → Outcome
made_buffer w (Ok u) size copy =
    quietly (Made w.made) (with_buffers w (w.made + 1) (slice_set w.buffers w.made (fresh_buffer size copy)))
made_buffer w (Err e) size copy = quietly (Declined (fault_of kind.MakeBuffer e 255 64)) w

-- every layer of every mip of a new texture owes
abbrev pub fresh_texture : Shape → Texture
fresh_texture s = record { shape = s; standing = true; owes = replicate s.mips (whole (layers_of s)) }

-- a texture is of a description that may be made, and its slot's extent holds its cells; a number is free
abbrev pub texture_verdict : World → (ℕ → ℕ) → Shape → Verdict
texture_verdict w extent s =
    tried ((nat_lt (extent (buffer_count + w.made_textures)) (cells_of s), cause.BadDescription) ∷ [])

abbrev pub placed_texture : World → Verdict → Shape → Outcome
placed_texture w (Ok u) s =
    quietly (Made (buffer_count + w.made_textures))
    (with_textures w (w.made_textures + 1) (slice_set w.textures w.made_textures (fresh_texture s)))
placed_texture w (Err e) s = quietly (Declined (fault_of kind.MakeTexture e 255 64)) w

abbrev pub made_texture : World → (ℕ → ℕ) → Result Shape Refusal → Outcome
made_texture w extent (Ok s) = placed_texture w (texture_verdict w extent s) s
made_texture w extent (Err e) = quietly (Declined (fault_of kind.MakeTexture e 255 64)) w

abbrev pub numbered_texture : World → (ℕ → ℕ) → Result Shape Refusal → Outcome
numbered_texture w extent d =
    cond (nat_le texture_count w.made_textures) (quietly (Declined (fault_of kind.MakeTexture cause.NoNumberFree 255 64)) w)
    (made_texture w extent d)

-- a resource is destroyed once; what it was made as stays known
abbrev pub destroyed_texture : Texture → Texture
destroyed_texture t = record { shape = t.shape; standing = false; owes = t.owes }

abbrev pub destroy_buffer_verdict : World → ℕ → Verdict
destroy_buffer_verdict w n = and_then (known_buffer w n) (tried ((not (buffer_at w n).standing, cause.Destroyed) ∷ []))

abbrev pub destroy_texture_verdict : World → ℕ → Verdict
destroy_texture_verdict w n = and_then (known_texture w n) (tried ((not (texture_at w n).standing, cause.Destroyed) ∷ []))

abbrev pub destroyed : World → ℕ → Outcome
destroyed w n =
    cond (nat_lt n buffer_count)
    (quietly (done_or kind.Destroy n 64 (destroy_buffer_verdict w n))
    (cond (accepts (destroy_buffer_verdict w n)) (with_buffers w w.made (slice_set w.buffers n (destroyed_buffer (buffer_at w n)))) w))
    (quietly (done_or kind.Destroy n 64 (destroy_texture_verdict w n))
    (cond (accepts (destroy_texture_verdict w n))
    (with_textures w w.made_textures (slice_set w.textures (place_of n) (destroyed_texture (texture_at w n)))) w))

-- open, close and abandon
abbrev pub listed : World → CallKind → ListCall → ℕ → Outcome
listed w k c l =
    quietly (done_or k 255 64 (and_then (known_page l) (allows (page_at w l).state c))) (put_page w l (called_page (page_at w l) c))

-- a step: its fault names the resource and the number of steps before it; only the named list changes
abbrev pub recorded : World → CallKind → ℕ → ℕ → Verdict → List ListStep → Outcome
recorded w k l n v more =
    quietly (done_or k n (length (page_at w l).steps) v) (put_page w l (stepped_page (page_at w l) v more))

abbrev pub owed_or : World → ℕ → ℕ → Announced → Verdict → Reply
owed_or w l n r (Ok u) = Owed (record { mark = w.mark; list = l; surfaces = length (indebted (page_at w l) r).owed })
owed_or w l n r (Err e) = Declined (fault_of kind.Announce e n (length (page_at w l).steps))

abbrev pub announced : World → ℕ → Announced → Verdict → Outcome
announced w l r v = quietly (owed_or w l r.texture r v) (put_page w l (announced_page (page_at w l) v r))

-- settling: a debt that is not taken is handed back and changes nothing; any other refusal spends it and breaks the list
abbrev pub spent : World → ℕ → Verdict → Outcome
spent w l (Ok u) = quietly Done (put_page w l (settled_page (page_at w l)))
spent w l (Err e) =
    quietly (Declined (fault_of kind.Settle e (first_read (page_at w l).reads) (length (page_at w l).steps)))
    (put_page w l (spent_page (page_at w l)))

abbrev pub settled : World → ℕ → Debt → Verdict → Outcome
settled w l d (Ok u) = spent w l (tried (settle_causes w (page_at w l)))
settled w l d (Err e) = quietly (HandedBack (fault_of kind.Settle e 255 64) d) w

abbrev pub withdrawn : World → ℕ → Debt → Verdict → Outcome
withdrawn w l d (Ok u) = quietly Done (put_page w l (spent_page (page_at w l)))
withdrawn w l d (Err e) = quietly (HandedBack (fault_of kind.Withdraw e 255 64) d) w

-- a submission does all of its work, or nothing
abbrev pub submitted : World → Meaning → ℕ → Result (Unit {0}) Fault → Outcome
submitted w m l (Ok u) =
    record {
      reply = Submitted (told_of w m (page_at w l).steps);
      world = submitted_world w l;
      commands = all_commands w (page_at w l).steps;
    }
submitted w m l (Err f) = quietly (Declined f) w

abbrev pub outcome : World → Meaning → Call → Outcome
outcome w m (MakeBuffer size copy) = made_buffer w (buffer_verdict w m.extent size copy) size copy
outcome w m (MakeTexture d f c wide high n mips) = numbered_texture w m.extent (described d f c wide high n mips)
outcome w m (Destroy n) = destroyed w n
outcome w m (Open l) = listed w kind.Open asked.Open l
outcome w m (Close l) = listed w kind.Close asked.Close l
outcome w m (Abandon l) = listed w kind.Abandon asked.Abandon l
outcome w m (BufferRead l n start end) =
    recorded w kind.BufferRead l n
    (step_verdict w l (known_buffer w n) (read_causes start end (buffer_at w n) (length (page_at w l).steps)))
    (unless_empty (nat_lt start end) (OnBuffer (step.BufferRead n start end)))
outcome w m (BufferWrite l n byte start end) =
    recorded w kind.BufferWrite l n
    (step_verdict w l (known_buffer w n) (write_causes start end (buffer_at w n) (length (page_at w l).steps)))
    (unless_empty (nat_lt start end) (OnBuffer (step.BufferWrite n byte start end)))
outcome w m (ClearBuffer l n offset size) =
    recorded w kind.ClearBuffer l n
    (step_verdict w l (known_buffer w n) (clear_causes offset size (buffer_at w n) (length (page_at w l).steps)))
    (unless_empty (nat_lt offset (offset + clear_size size offset (buffer_at w n).size))
    (OnBuffer (step.ClearBuffer n offset (offset + clear_size size offset (buffer_at w n).size))))
outcome w m (WriteTexture l n byte a) =
    recorded w kind.TextureWrite l n
    (step_verdict w l (known_texture w n) (texture_write_causes (texture_at w n) (length (page_at w l).steps) a))
    (unless_empty (holds_any a) (TextureWrite n byte a))
outcome w m (Announce l n a) =
    announced w l (record { texture = n; area = a }) (step_verdict w l (known_texture w n) (area_causes (texture_at w n) a))
outcome w m (Settle l d) = settled w l d (debt_verdict w l d)
outcome w m (Withdraw l d) = withdrawn w l d (debt_verdict w l d)
outcome w m (DiscardSurface l f) =
    recorded w kind.Discard l f.texture
    (step_verdict w l (known_texture w f.texture) (discard_causes (texture_at w f.texture) (page_at w l).steps f))
    (Discard f ∷ [])
outcome w m (Clear l n aspect mip mips layer layers) =
    recorded w kind.ClearTexture l n
    (step_verdict w l (known_texture w n) (clear_texture_causes (texture_at w n) (length (page_at w l).steps) aspect mip mips layer layers))
    (unless_empty (holds_any (cleared_area (texture_at w n).shape mip mips layer layers))
    (ClearTexture n (cleared_area (texture_at w n).shape mip mips layer layers)))
outcome w m (Submit l) = submitted w m l (submit_verdict w m l)
outcome w m Unknown = quietly (Declined (fault_of kind.Other cause.Unknown 255 64)) w
