-- Recording: what each step of a list is declined for, and what the list becomes.
use Rattle.std.specs.Prelude.{ℕ, ◌+◌, Bool, true, false, cond, not, ◌&&◌, ◌||◌, List, [], ◌∷◌, ◌++◌, map, length, Some, None, Ok, Err, Option, ◌==◌, nat_le, nat_lt}
use Rattle.fault.specs.declared.refusal.Refusal.{Refusal}
use Rattle.fault.specs.declared.refusal.Refusal.TheVariants.{Unknown, Destroyed, Backward, MissingAspect, PastMips, PastLayers, DiscardNotCovered, NoClearMode, ListFull, NotThisDebt}
use Rattle.texture.specs.Shapes.{Shape, layers_of}
use Rattle.texture.specs.declared.format.Format.{Format}
use Rattle.texture.specs.declared.format.Format.TheVariants.{R8Unorm, Rgba8Unorm, Rgba32Float, Bc1RgbaUnorm, Astc6x5Unorm, Depth32Float}
use Rattle.texture.specs.declared.format.ClearMode.{ClearMode}
use Rattle.texture.specs.declared.format.ClearMode.TheVariants as mode
use Rattle.rules.specs.State.{Texture}
use Rattle.rules.specs.Verdicts.{Verdict, tried, and_then, accepts}
use Rattle.rules.specs.Lists.{allows, becomes}
use Rattle.rules.specs.Steps.{given_up}
use Rattle.rules.specs.declared.list_state.ListState.{ListState}
use Rattle.rules.specs.declared.list_state.ListState.TheVariants.{Idle, Recording, InDebt, Closed, Broken}
use Rattle.rules.specs.declared.list_state.ListCall.{ListCall}
use Rattle.rules.specs.declared.list_state.ListCall.TheVariants.{Open, Close, Abandon, Step as Record, Submit}
use Rattle.law.specs.Pages.{World, Page, Area, Surface, Announced, ListStep, TextureRead, SettledClear, buffer_count, list_count, page_at, texture_at, idle_page, holds_any, may_discard, discards_from, owed_by}

-- a number of a list that there is; a number of a buffer, and of a texture, that was given out
abbrev pub known_page : ℕ → Verdict
known_page l = cond (nat_lt l list_count) (Ok tt) (Err Unknown)

abbrev pub known_buffer : World → ℕ → Verdict
known_buffer w n = cond (nat_lt n w.made) (Ok tt) (Err Unknown)

abbrev pub known_texture : World → ℕ → Verdict
known_texture w n = cond (nat_le buffer_count n && nat_lt n (buffer_count + w.made_textures)) (Ok tt) (Err Unknown)

-- a list holds 64 steps; what adds none never meets the limit
abbrev pub most_steps : ℕ
most_steps = 64

abbrev pub no_room : ℕ → ℕ → Bool
no_room held more = nat_lt 0 more && nat_lt most_steps (held + more)

-- one step for a use of something, none for a use of nothing
abbrev pub as_many : Bool → ℕ
as_many any = cond any 1 0

-- what declines any use of an area: a start above its end, mips or layers past the texture
abbrev pub area_causes : Texture → Area → List (Bool × Refusal)
area_causes t a =
    (not t.standing, Destroyed) ∷ (nat_lt a.mip_end a.mip || nat_lt a.layer_end a.layer, Backward)
    ∷ (nat_lt t.shape.mips a.mip_end, PastMips) ∷ (nat_lt (layers_of t.shape) a.layer_end, PastLayers) ∷ []

-- a write also needs a place; an announced read takes none yet
abbrev pub texture_write_causes : Texture → ℕ → Area → List (Bool × Refusal)
texture_write_causes t held a = area_causes t a ++ ((no_room held (as_many (holds_any a)), ListFull) ∷ [])

-- a discard: the surface is there, and a write or settled read of the list covered it since its last discard
abbrev pub discard_causes : Texture → List ListStep → Surface → List (Bool × Refusal)
discard_causes t ss f =
    (not t.standing, Destroyed) ∷ (nat_le t.shape.mips f.mip, PastMips) ∷ (nat_le (layers_of t.shape) f.layer, PastLayers)
    ∷ (not (may_discard ss f), DiscardNotCovered) ∷ (no_room (length ss) 1, ListFull) ∷ []

-- aspects: 0 all, 1 depth, 2 stencil; a colour format has only the first, a depth format the first two
abbrev pub lacks_aspect : Format → ℕ → Bool
lacks_aspect R8Unorm n = nat_lt 0 n
lacks_aspect Rgba8Unorm n = nat_lt 0 n
lacks_aspect Rgba32Float n = nat_lt 0 n
lacks_aspect Bc1RgbaUnorm n = nat_lt 0 n
lacks_aspect Astc6x5Unorm n = nat_lt 0 n
lacks_aspect Depth32Float n = nat_lt 1 n

abbrev pub unclearable : ClearMode → Bool
unclearable mode.None = true
unclearable mode.Copies = false
unclearable mode.ColourPass = false
unclearable mode.DepthPass = false

-- where a range of a clear ends: its count on from its base, or at the texture's end where the count is missing
abbrev pub end_from : ℕ → Option ℕ → ℕ → ℕ
end_from base None last = last
end_from base (Some n) last = base + n

-- a range of a clear is past the texture if its end or its base is
abbrev pub past_end : ℕ → Option ℕ → ℕ → Bool
past_end base n last = nat_lt last (end_from base n last) || nat_lt last base

-- a clear's area; a destroyed texture is found after a range past it
abbrev pub cleared_area : Shape → ℕ → Option ℕ → ℕ → Option ℕ → Area
cleared_area s mip mips layer layers =
    record { mip = mip; mip_end = end_from mip mips s.mips; layer = layer; layer_end = end_from layer layers (layers_of s) }

abbrev pub clear_texture_causes : Texture → ℕ → ℕ → ℕ → Option ℕ → ℕ → Option ℕ → List (Bool × Refusal)
clear_texture_causes t held aspect mip mips layer layers =
    (lacks_aspect t.shape.format aspect, MissingAspect) ∷ (past_end mip mips t.shape.mips, PastMips)
    ∷ (past_end layer layers (layers_of t.shape), PastLayers) ∷ (not t.standing, Destroyed)
    ∷ (unclearable t.shape.mode, NoClearMode)
    ∷ (no_room held (as_many (holds_any (cleared_area t.shape mip mips layer layers))), ListFull) ∷ []

-- a step is declined for an unknown list or resource first, then for the list's state, then for its own causes
abbrev pub step_verdict : World → ℕ → Verdict → List (Bool × Refusal) → Verdict
step_verdict w l known causes =
    and_then (known_page l) (and_then known (and_then (allows (page_at w l).state Record) (tried causes)))

-- a list with more steps, and a list whose step was given up: it breaks if it was recording
abbrev pub with_steps : Page → List ListStep → Page
with_steps p more = record { state = p.state; steps = p.steps ++ more; reads = p.reads; owed = p.owed }

abbrev pub broken_page : Page → Page
broken_page p = record { state = given_up p.state; steps = p.steps; reads = p.reads; owed = p.owed }

abbrev pub stepped_page : Page → Verdict → List ListStep → Page
stepped_page p v more = cond (accepts v) (with_steps p more) (broken_page p)

-- a step joins its list unless it is of nothing
abbrev pub unless_empty : Bool → ListStep → List ListStep
unless_empty any s = cond any (s ∷ []) []

-- open, close and abandon: only opening and abandoning empty a list
abbrev pub emptied : ListCall → Page → Page
emptied Open p = idle_page
emptied Close p = p
emptied Abandon p = idle_page
emptied Record p = p
emptied Submit p = p

abbrev pub called_page : Page → ListCall → Page
called_page p c =
    cond (accepts (allows p.state c))
    (record { state = becomes p.state c; steps = (emptied c p).steps; reads = (emptied c p).reads; owed = (emptied c p).owed }) p

-- an announced read puts its list in debt, and the list keeps which discarded surfaces are owed for it
abbrev pub indebted : Page → Announced → Page
indebted p r =
    record { state = InDebt; steps = p.steps; reads = r ∷ []; owed = owed_by r (discards_from [] p.steps) }

abbrev pub announced_page : Page → Verdict → Announced → Page
announced_page p v r = cond (accepts v) (indebted p r) (broken_page p)

-- a debt: the planner's mark, its list, and for its holder how many surfaces are owed
pub record Debt : Type 0 where
  pub mark : ℕ
  pub list : ℕ
  pub surfaces : ℕ

abbrev pub in_debt : ListState → Bool
in_debt Idle = false
in_debt Recording = false
in_debt InDebt = true
in_debt Closed = false
in_debt Broken = false

-- a debt is taken only for its own list, from its own planner, while that list is in debt
abbrev pub debt_verdict : World → ℕ → Debt → Verdict
debt_verdict w l d =
    and_then (known_page l)
    (tried ((not (d.mark == w.mark && (d.list == l && in_debt (page_at w l).state)), NotThisDebt) ∷ []))

-- the steps that settling adds: a clear for each owed surface, in order, then each read that is not of nothing
abbrev pub read_steps : List Announced → List ListStep
read_steps [] = []
read_steps (r ∷ rs) = unless_empty (holds_any r.area) (TextureRead r.texture r.area) ++ read_steps rs

abbrev pub settled_steps : Page → List ListStep
settled_steps p = map SettledClear p.owed ++ read_steps p.reads

-- of the announced reads: the first texture named, and whether all textures stand
abbrev pub first_read : List Announced → ℕ
first_read [] = 255
first_read (r ∷ rs) = r.texture

abbrev pub reads_stand : World → List Announced → Bool
reads_stand w [] = true
reads_stand w (r ∷ rs) = (texture_at w r.texture).standing && reads_stand w rs

-- whether a surface is owed of a texture that can't be cleared
abbrev pub owes_uncleared : World → List Surface → Bool
owes_uncleared w [] = false
owes_uncleared w (f ∷ fs) = unclearable (texture_at w f.texture).shape.mode || owes_uncleared w fs

abbrev pub settle_causes : World → Page → List (Bool × Refusal)
settle_causes w p =
    (not (reads_stand w p.reads), Destroyed) ∷ (owes_uncleared w p.owed, NoClearMode)
    ∷ (no_room (length p.steps) (length (settled_steps p)), ListFull) ∷ []

-- a settled list records again; one whose debt is withdrawn, or spent for nothing, is broken
abbrev pub settled_page : Page → Page
settled_page p = record { state = Recording; steps = p.steps ++ settled_steps p; reads = []; owed = [] }

abbrev pub spent_page : Page → Page
spent_page p = record { state = Broken; steps = p.steps; reads = []; owed = [] }
