-- What a planner knows between two calls: its buffers with their books, and its lists.
use Rattle.std.specs.Prelude.{ℕ, ◌+◌, ◌*◌, ◌/◌, Bool, false, List, [], map, replicate, slice_index_or, slice_set}
use Rattle.texture.specs.Shapes.{Shape}
use Rattle.texture.specs.declared.format.Format.TheVariants.{R8Unorm}
use Rattle.texture.specs.declared.format.Dimension.TheVariants.{D2}
use Rattle.texture.specs.declared.format.ClearMode.TheVariants as clearing
use Rattle.rules.specs.declared.list_state.ListState.{ListState}
use Rattle.rules.specs.declared.list_state.ListState.TheVariants.{Idle}
use Rattle.rules.specs.declared.step.Step.{Step}

-- the ranges of a book: cells that still owe a clear, by first cell and end
abbrev pub Book : Type 0
Book = List (ℕ × ℕ)

-- a buffer: its size in bytes, whether it may be cleared by a command, whether it stands or is destroyed, and its book
pub record Buffer : Type 0 where
  pub size : ℕ
  pub copy : Bool
  pub standing : Bool
  pub owes : Book

-- a texture: what it was made as, whether it stands or is destroyed, and its book: for each mip the ranges of layers
-- that still owe a clear
pub record Texture : Type 0 where
  pub shape : Shape
  pub standing : Bool
  pub owes : List Book

-- a list: its state and its steps, in order
pub record CommandList : Type 0 where
  pub state : ListState
  pub steps : List Step

-- a planner: how many buffer numbers are given out, the buffers by number, the lists by number; its mark and its pitch
-- are fixed at making
pub record State : Type 0 where
  pub made : ℕ
  pub buffers : List Buffer
  pub lists : List CommandList
  pub mark : ℕ
  pub pitch : ℕ

-- a number that was never given out
abbrev pub no_buffer : Buffer
no_buffer = record { size = 0; copy = false; standing = false; owes = [] }

-- a texture number that was never given out
abbrev pub no_shape : Shape
no_shape = record { dimension = D2; format = R8Unorm; mode = clearing.None; width = 0; height = 0; count = 0; mips = 0 }

abbrev pub no_texture : Texture
no_texture = record { shape = no_shape; standing = false; owes = [] }

-- an idle list is empty
abbrev pub idle_list : CommandList
idle_list = record { state = Idle; steps = [] }

-- there are 16 numbers for buffers and 4 lists
abbrev pub new_state : ℕ → ℕ → State
new_state mark pitch =
    record { made = 0; buffers = replicate 16 no_buffer; lists = replicate 4 idle_list; mark = mark; pitch = pitch }

abbrev pub buffer_at : State → ℕ → Buffer
buffer_at st n = slice_index_or st.buffers n no_buffer

abbrev pub list_at : State → ℕ → CommandList
list_at st l = slice_index_or st.lists l idle_list

-- the state with other lists
abbrev pub with_lists : State → List CommandList → State
with_lists st ls = record { made = st.made; buffers = st.buffers; lists = ls; mark = st.mark; pitch = st.pitch }

-- the state with other buffers, of which so many numbers are given out
abbrev pub with_buffers : State → ℕ → List Buffer → State
with_buffers st n bs = record { made = n; buffers = bs; lists = st.lists; mark = st.mark; pitch = st.pitch }

abbrev pub put_list : State → ℕ → CommandList → State
put_list st l p = with_lists st (slice_set st.lists l p)

-- a buffer's cells are its bytes, rounded up to a multiple of 4
abbrev pub rounded_up : ℕ → ℕ
rounded_up n = (n + 3) / 4 * 4

-- the books of the buffers, by number
abbrev pub books_of : List Buffer → List Book
books_of bs = map (λ b. b.owes) bs
