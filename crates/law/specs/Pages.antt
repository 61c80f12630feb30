-- What a planner knows between two calls once textures join: resources with their books, and lists of steps on both kinds.
use Rattle.std.specs.Prelude.{ℕ, ◌-◌, Bool, false, cond, not, ◌&&◌, ◌||◌, List, [], ◌∷◌, ◌++◌, replicate, ◌==◌, nat_lt, slice_index_or, slice_set}
use Rattle.range_list.specs.Ranges.{inside}
use Rattle.rules.specs.State.{Buffer, Texture, no_buffer, no_texture}
use Rattle.rules.specs.declared.step.Step.{Step}
use Rattle.rules.specs.declared.list_state.ListState.{ListState}
use Rattle.rules.specs.declared.list_state.ListState.TheVariants.{Idle}

-- mips and layers of a texture, from each first up to its end, without the end
pub record Area : Type 0 where
  pub mip : ℕ
  pub mip_end : ℕ
  pub layer : ℕ
  pub layer_end : ℕ

-- one mip of one layer of a texture, by the texture's number
pub record Surface : Type 0 where
  pub texture : ℕ
  pub mip : ℕ
  pub layer : ℕ

-- whether an area holds a mip's layer, and whether it holds any
abbrev pub in_area : Area → ℕ → ℕ → Bool
in_area a m l = inside a.mip a.mip_end m && inside a.layer a.layer_end l

abbrev pub holds_any : Area → Bool
holds_any a = nat_lt a.mip a.mip_end && nat_lt a.layer a.layer_end

-- one step of a list: a use or a clear of a buffer; a read, a write with a byte or a clear of a texture's area; the
-- clear of a surface that a settled read looks at; the discard of a surface
pub data ListStep : Type 0 where
  OnBuffer : Step → ListStep
  TextureRead : ℕ → Area → ListStep
  TextureWrite : ℕ → ℕ → Area → ListStep
  ClearTexture : ℕ → Area → ListStep
  SettledClear : Surface → ListStep
  Discard : Surface → ListStep

-- a texture read that was announced and is not settled
pub record Announced : Type 0 where
  pub texture : ℕ
  pub area : Area

-- a list: its state, its steps in order, and while it is in debt the announced reads and the surfaces owed for them
pub record Page : Type 0 where
  pub state : ListState
  pub steps : List ListStep
  pub reads : List Announced
  pub owed : List Surface

abbrev pub idle_page : Page
idle_page = record { state = Idle; steps = []; reads = []; owed = [] }

-- a planner: how many numbers of each kind are given out, the resources by number (a texture's number is 16 and its
-- place), the lists, and what is fixed at making
pub record World : Type 0 where
  pub made : ℕ
  pub buffers : List Buffer
  pub made_textures : ℕ
  pub textures : List Texture
  pub pages : List Page
  pub mark : ℕ
  pub pitch : ℕ

-- how many buffers, textures and lists there are
abbrev pub buffer_count : ℕ
buffer_count = 16

abbrev pub texture_count : ℕ
texture_count = 8

abbrev pub list_count : ℕ
list_count = 4

abbrev pub new_world : ℕ → ℕ → World
new_world mark pitch =
    record {
      made = 0;
      buffers = replicate buffer_count no_buffer;
      made_textures = 0;
      textures = replicate texture_count no_texture;
      pages = replicate list_count idle_page;
      mark = mark;
      pitch = pitch;
    }

abbrev pub buffer_at : World → ℕ → Buffer
buffer_at w n = slice_index_or w.buffers n no_buffer

-- textures by their numbers, which begin at 16
abbrev pub place_of : ℕ → ℕ
place_of n = n - buffer_count

abbrev pub texture_in : List Texture → ℕ → Texture
texture_in ts n = slice_index_or ts (place_of n) no_texture

abbrev pub texture_at : World → ℕ → Texture
texture_at w n = texture_in w.textures n

abbrev pub page_at : World → ℕ → Page
page_at w l = slice_index_or w.pages l idle_page

-- the world with other lists, with other buffers, with other textures
abbrev pub put_page : World → ℕ → Page → World
put_page w l p =
    record {
      made = w.made;
      buffers = w.buffers;
      made_textures = w.made_textures;
      textures = w.textures;
      pages = slice_set w.pages l p;
      mark = w.mark;
      pitch = w.pitch;
    }

abbrev pub with_buffers : World → ℕ → List Buffer → World
with_buffers w n bs =
    record {
      made = n;
      buffers = bs;
      made_textures = w.made_textures;
      textures = w.textures;
      pages = w.pages;
      mark = w.mark;
      pitch = w.pitch;
    }

abbrev pub with_textures : World → ℕ → List Texture → World
with_textures w n ts =
    record {
      made = w.made;
      buffers = w.buffers;
      made_textures = n;
      textures = ts;
      pages = w.pages;
      mark = w.mark;
      pitch = w.pitch;
    }

-- whether a step is a write or a read that covers a surface
abbrev pub uses_of : ListStep → Surface → Bool
uses_of (OnBuffer s) f = false
uses_of (TextureRead t a) f = f.texture == t && in_area a f.mip f.layer
uses_of (TextureWrite t b a) f = f.texture == t && in_area a f.mip f.layer
uses_of (ClearTexture t a) f = false
uses_of (SettledClear g) f = false
uses_of (Discard g) f = false

abbrev pub same_surface : Surface → Surface → Bool
same_surface f g = f.texture == g.texture && (f.mip == g.mip && f.layer == g.layer)

-- the surfaces without those that a use covers
abbrev pub without : ListStep → List Surface → List Surface
without s [] = []
without s (f ∷ fs) = cond (uses_of s f) (without s fs) (f ∷ without s fs)

-- the discards of a list after one more step: a discard joins them, a write or a read takes off what it covers
abbrev pub discards_after : ListStep → List Surface → List Surface
discards_after (OnBuffer s) fs = fs
discards_after (TextureRead t a) fs = without (TextureRead t a) fs
discards_after (TextureWrite t b a) fs = without (TextureWrite t b a) fs
discards_after (ClearTexture t a) fs = fs
discards_after (SettledClear g) fs = fs
discards_after (Discard g) fs = fs ++ (g ∷ [])

-- the surfaces that stand discarded after a list of steps, in order of discard
abbrev pub discards_from : List Surface → List ListStep → List Surface
discards_from fs [] = fs
discards_from fs (s ∷ ss) = discards_from (discards_after s fs) ss

-- whether a surface was covered by a write or a read since its last discard, after one more step
abbrev pub covered_after : ListStep → Surface → Bool → Bool
covered_after (OnBuffer s) f v = v
covered_after (TextureRead t a) f v = v || uses_of (TextureRead t a) f
covered_after (TextureWrite t b a) f v = v || uses_of (TextureWrite t b a) f
covered_after (ClearTexture t a) f v = v
covered_after (SettledClear g) f v = v
covered_after (Discard g) f v = v && not (same_surface f g)

-- a surface may be discarded that a write or a read of the list has covered since its last discard there
abbrev pub covered_from : Surface → Bool → List ListStep → Bool
covered_from f v [] = v
covered_from f v (s ∷ ss) = covered_from f (covered_after s f v) ss

abbrev pub may_discard : List ListStep → Surface → Bool
may_discard ss f = covered_from f false ss

-- the discarded surfaces that a read covers, in order of discard
abbrev pub owed_by : Announced → List Surface → List Surface
owed_by r [] = []
owed_by r (f ∷ fs) =
    cond (uses_of (TextureRead r.texture r.area) f) (f ∷ owed_by r fs) (owed_by r fs)
