-- The ledger of owing: for each cell the byte that it holds by right, and whether it still owes a clear. It is fed the
-- calls with their replies, and a choice of clears before each step of an accepted submission.
use Rattle.std.specs.Prelude.{◌≡◌, ℕ, zero, suc, ◌+◌, ◌<◌, Bool, true, false, cond, not, ◌&&◌, ◌||◌, List, [], ◌∷◌, ◌++◌, Ok, Err, Result, ◌==◌, nat_lt}
use Rattle.fault.specs.declared.refusal.Refusal.{Refusal}
use Rattle.texture.specs.Shapes.{Shape}
use Rattle.texture.specs.Cells.{cells_of, mip_of, layer_of}
use Rattle.texture.specs.Numbered.{described}
use Rattle.range_list.specs.Ranges.{inside}
use Rattle.rules.specs.State.{rounded_up, no_shape}
use Rattle.rules.specs.Steps.{clear_size}
use Rattle.rules.specs.Uses.{buffer_of, start_of, end_of, cover_end}
use Rattle.rules.specs.declared.step.Step.{Step}
use Rattle.rules.specs.declared.step.Step.TheVariants as step
use Rattle.law.specs.Pages.{Announced, ListStep, OnBuffer, TextureRead, TextureWrite, ClearTexture, SettledClear, Discard, in_area, holds_any}
use Rattle.law.specs.Recording.{unless_empty, read_steps, cleared_area}
use Rattle.law.specs.Calls.{Call, MakeBuffer, MakeTexture, Destroy, Open, Close, Abandon, BufferRead, BufferWrite, ClearBuffer, WriteTexture, Announce, Settle, Withdraw, DiscardSurface, Clear, Submit, Unknown, Reply, Made, Done, Owed, Submitted, Declined, HandedBack}

-- a set of cells, and a byte for each, by slot and cell
abbrev pub Cells : Type 0
Cells = ℕ → ℕ → Bool

abbrev pub Bytes : Type 0
Bytes = ℕ → ℕ → ℕ

abbrev pub nobody : Cells
nobody r i = false

-- WHAT A STEP COVERS: a read of a buffer up to the next multiple of 4, any other use its own range; on a texture the
-- cells of the surfaces that it names
abbrev pub covers : (ℕ → Shape) → ListStep → Cells
covers shape (OnBuffer s) r i = r == buffer_of s && inside (start_of s) (cover_end s) i
covers shape (TextureRead n a) r i = r == n && in_area a (mip_of (shape n) i) (layer_of (shape n) i)
covers shape (TextureWrite n byte a) r i = r == n && in_area a (mip_of (shape n) i) (layer_of (shape n) i)
covers shape (ClearTexture n a) r i = r == n && in_area a (mip_of (shape n) i) (layer_of (shape n) i)
covers shape (SettledClear f) r i =
    (r == f.texture) && (mip_of (shape f.texture) i == f.mip && layer_of (shape f.texture) i == f.layer)
covers shape (Discard f) r i =
    (r == f.texture) && (mip_of (shape f.texture) i == f.mip && layer_of (shape f.texture) i == f.layer)

-- a step's own range, which a read sums: a buffer's is not rounded up
abbrev pub own_range : (ℕ → Shape) → ListStep → Cells
own_range shape (OnBuffer s) r i = r == buffer_of s && inside (start_of s) (end_of s) i
own_range shape (TextureRead n a) r i = covers shape (TextureRead n a) r i
own_range shape (TextureWrite n byte a) r i = covers shape (TextureWrite n byte a) r i
own_range shape (ClearTexture n a) r i = covers shape (ClearTexture n a) r i
own_range shape (SettledClear f) r i = covers shape (SettledClear f) r i
own_range shape (Discard f) r i = covers shape (Discard f) r i

-- WHAT A STEP DOES to the cells that it covers: a read looks; a write sets its byte and ends owing, and a clear of a
-- buffer is a write of 0; a clear of a texture only sets 0; a discard makes them owe, with byte 0
pub data Effect : Type 0 where
  Looks : Effect
  Writes : (byte : ℕ) → Effect
  Zeroes : Effect
  Begins : Effect
  Passes : Effect

abbrev pub buffer_effect : Step → Effect
buffer_effect (step.BufferRead n start end) = Looks
buffer_effect (step.BufferWrite n byte start end) = Writes byte
buffer_effect (step.ClearBuffer n start end) = Writes 0

abbrev pub effect_of : ListStep → Effect
effect_of (OnBuffer s) = buffer_effect s
effect_of (TextureRead n a) = Looks
effect_of (TextureWrite n byte a) = Writes byte
effect_of (ClearTexture n a) = Zeroes
effect_of (SettledClear f) = Passes
effect_of (Discard f) = Begins

-- a byte for each cell, and the cells that owe
pub record Marks : Type 0 where
  pub byte : Bytes
  pub owes : Cells

-- a clear ends owing, and does no more
abbrev pub clear : Cells → Marks → Marks
clear c l = record { byte = l.byte; owes = λ r i. l.owes r i && not (c r i) }

abbrev pub act : Effect → Cells → Marks → Marks
act Looks k l = l
act (Writes b) k l = record { byte = λ r i. cond (k r i) b (l.byte r i); owes = λ r i. l.owes r i && not (k r i) }
act Zeroes k l = record { byte = λ r i. cond (k r i) 0 (l.byte r i); owes = l.owes }
act Begins k l = record { byte = λ r i. cond (k r i) 0 (l.byte r i); owes = λ r i. l.owes r i || k r i }
act Passes k l = l

-- the cells whose owing a step ends by writing over them, and those that begin to owe by it
abbrev pub over : Effect → Cells → Marks → Cells
over Looks k l = nobody
over (Writes b) k l = λ r i. l.owes r i && k r i
over Zeroes k l = nobody
over Begins k l = nobody
over Passes k l = nobody

abbrev pub begin : Effect → Cells → Marks → Cells
begin Looks k l = nobody
begin (Writes b) k l = nobody
begin Zeroes k l = nobody
begin Begins k l = λ r i. not (l.owes r i) && k r i
begin Passes k l = nobody

-- SUMS AND COUNTS over the cells of all slots, of which each has so many
abbrev pub Sizes : Type 0
Sizes = ℕ → ℕ

abbrev pub slot_count : ℕ
slot_count = 24

unfoldable pub sumBelow : ℕ → (ℕ → ℕ) → ℕ
sumBelow zero f = 0
sumBelow (suc n) f = sumBelow n f + f n

abbrev pub sum_all : Sizes → (ℕ → ℕ → ℕ) → ℕ
sum_all z f = sumBelow slot_count (λ r. sumBelow (z r) (f r))

abbrev pub count_all : Sizes → Cells → ℕ
count_all z p = sum_all z (λ r i. cond (p r i) 1 0)

-- what holds of each cell
abbrev pub Each : Sizes → (ℕ → ℕ → Type 0) → Type 0
Each z P = (r i : ℕ) → r < slot_count → i < z r → P r i

-- what a step does, and to which cells: what it covers, and its own range
pub record Deed : Type 0 where
  pub effect : Effect
  pub cover : Cells
  pub own : Cells

abbrev pub deed_of : (ℕ → Shape) → ListStep → Deed
deed_of shape s = record { effect = effect_of s; cover = covers shape s; own = own_range shape s }

-- A TURN: the cells cleared just before a step, and the step. A choice of clears goes with the steps one by one
pub data Turn : Type 0 where
  turn : Cells → Deed → Turn

abbrev pub turns : (ℕ → Shape) → List Cells → List ListStep → List Turn
turns shape cs [] = []
turns shape [] (s ∷ ss) = turn nobody (deed_of shape s) ∷ turns shape [] ss
turns shape (c ∷ cs) (s ∷ ss) = turn c (deed_of shape s) ∷ turns shape cs ss

-- one turn: its clears, and then its step
abbrev pub turned : Cells → Deed → Marks → Marks
turned c d l = act d.effect d.cover (clear c l)

abbrev pub after_turns : List Turn → Marks → Marks
after_turns [] l = l
after_turns (turn c d ∷ ts) l = after_turns ts (turned c d l)

-- a read sums its own range
abbrev pub says_of : Effect → Sizes → Cells → Bytes → List ℕ
says_of Looks z k f = sum_all z (λ r i. cond (k r i) (f r i) 0) ∷ []
says_of (Writes b) z k f = []
says_of Zeroes z k f = []
says_of Begins z k f = []
says_of Passes z k f = []

abbrev pub sums_over : Sizes → List Turn → Marks → List ℕ
sums_over z [] l = []
sums_over z (turn c d ∷ ts) l = says_of d.effect z d.own (clear c l).byte ++ sums_over z ts (turned c d l)

-- a count added up over the turns, and what holds of each of them
abbrev pub added_up : (Cells → Deed → Marks → ℕ) → List Turn → Marks → ℕ
added_up q [] l = 0
added_up q (turn c d ∷ ts) l = q c d l + added_up q ts (turned c d l)

abbrev pub Always : (Cells → Deed → Marks → Type 0) → List Turn → Marks → Type 0
Always p [] l = Unit {0}
Always p (turn c d ∷ ts) l = p c d l × Always p ts (turned c d l)

-- of one turn: how many cells' owing its clears end, how many its step writes over, how many begin to owe by it
abbrev pub ended : Sizes → Cells → Deed → Marks → ℕ
ended z c d l = count_all z (λ r i. l.owes r i && c r i)

abbrev pub overs : Sizes → Cells → Deed → Marks → ℕ
overs z c d l = count_all z (over d.effect d.cover (clear c l))

abbrev pub begins : Sizes → Cells → Deed → Marks → ℕ
begins z c d l = count_all z (begin d.effect d.cover (clear c l))

-- of one turn: its read covers no cell that owes; its clears are of owing cells only
abbrev pub Unowing : Effect → Sizes → Cells → Marks → Type 0
Unowing Looks z k l = Each z (λ r i. k r i ≡ true → l.owes r i ≡ false)
Unowing (Writes b) z k l = Unit {0}
Unowing Zeroes z k l = Unit {0}
Unowing Begins z k l = Unit {0}
Unowing Passes z k l = Unit {0}

abbrev pub Sound : Sizes → Cells → Deed → Marks → Type 0
Sound z c d l = Unowing d.effect z d.cover (clear c l)

abbrev pub Thrifty : Sizes → Cells → Deed → Marks → Type 0
Thrifty z c d l = Each z (λ r i. c r i ≡ true → l.owes r i ≡ true)

-- THE LEDGER: the marks of all cells; how many cells each slot's resource has, 0 where none stands; the bytes that each
-- buffer, and the shape that each texture was made with; and of each list its steps and the announced reads that wait
pub record Ledger : Type 0 where
  pub marks : Marks
  pub sizes : Sizes
  pub bytes : ℕ → ℕ
  pub shape : ℕ → Shape
  pub steps : ℕ → List ListStep
  pub waiting : ℕ → List Announced

abbrev pub blank_marks : Marks
blank_marks = record { byte = λ r i. 0; owes = nobody }

abbrev pub blank : Ledger
blank =
    record { marks = blank_marks; sizes = λ r. 0; bytes = λ r. 0; shape = λ r. no_shape; steps = λ l. []; waiting = λ l. [] }

-- one value changed among many
abbrev pub put : {A : Type 0} → ℕ → A → (ℕ → A) → ℕ → A
put n a f k = cond (k == n) a (f k)

-- a resource is made: its cells begin to owe, with byte 0
abbrev pub made_marks : ℕ → Marks → Marks
made_marks n l = record { byte = λ r i. cond (r == n) 0 (l.byte r i); owes = λ r i. (r == n) || l.owes r i }

abbrev pub buffer_in : ℕ → ℕ → Ledger → Ledger
buffer_in n bytes l =
    record {
      marks = made_marks n l.marks;
      sizes = put n (rounded_up bytes) l.sizes;
      bytes = put n bytes l.bytes;
      shape = l.shape;
      steps = l.steps;
      waiting = l.waiting;
    }

abbrev pub texture_into : ℕ → Shape → Ledger → Ledger
texture_into n s l =
    record {
      marks = made_marks n l.marks;
      sizes = put n (cells_of s) l.sizes;
      bytes = l.bytes;
      shape = put n s l.shape;
      steps = l.steps;
      waiting = l.waiting;
    }

-- a resource is destroyed: its cells go
abbrev pub gone_from : ℕ → Ledger → Ledger
gone_from n l =
    record {
      marks = l.marks;
      sizes = put n 0 l.sizes;
      bytes = l.bytes;
      shape = l.shape;
      steps = l.steps;
      waiting = l.waiting;
    }

-- the steps of a list, and the reads that wait there
abbrev pub with_list : ℕ → List ListStep → List Announced → Ledger → Ledger
with_list n ss rs l =
    record {
      marks = l.marks;
      sizes = l.sizes;
      bytes = l.bytes;
      shape = l.shape;
      steps = put n ss l.steps;
      waiting = put n rs l.waiting;
    }

abbrev pub joined_by : ℕ → List ListStep → Ledger → Ledger
joined_by n more l = with_list n (l.steps n ++ more) (l.waiting n) l

abbrev pub ran_turns : List Turn → Ledger → Ledger
ran_turns ts l =
    record {
      marks = after_turns ts l.marks;
      sizes = l.sizes;
      bytes = l.bytes;
      shape = l.shape;
      steps = l.steps;
      waiting = l.waiting;
    }

-- what a reply lets through: a declined call does nothing
abbrev pub on_made : Reply → (ℕ → Ledger) → Ledger → Ledger
on_made (Made n) f l = f n
on_made Done f l = l
on_made (Owed d) f l = l
on_made (Submitted t) f l = l
on_made (Declined e) f l = l
on_made (HandedBack e d) f l = l

abbrev pub on_done : Reply → Ledger → Ledger → Ledger
on_done (Made n) k l = l
on_done Done k l = k
on_done (Owed d) k l = l
on_done (Submitted t) k l = l
on_done (Declined e) k l = l
on_done (HandedBack e d) k l = l

abbrev pub on_owed : Reply → Ledger → Ledger → Ledger
on_owed (Made n) k l = l
on_owed Done k l = l
on_owed (Owed d) k l = k
on_owed (Submitted t) k l = l
on_owed (Declined e) k l = l
on_owed (HandedBack e d) k l = l

abbrev pub on_submitted : {A : Type 0} → Reply → A → A → A
on_submitted (Made n) k l = l
on_submitted Done k l = l
on_submitted (Owed d) k l = l
on_submitted (Submitted t) k l = k
on_submitted (Declined e) k l = l
on_submitted (HandedBack e d) k l = l

-- what a description of numbers is as a shape; no number is given out for one that may not be made
abbrev pub shape_from : Result Shape Refusal → Shape
shape_from (Ok s) = s
shape_from (Err e) = no_shape

-- one call with its reply and a choice of clears. Close, abandon and declined calls do nothing; open empties the list;
-- a step joins it unless it is of nothing; an announced read waits, and joins at settle or goes at withdraw; submit runs
-- the steps, each after its chosen clears
pub record Entry : Type 0 where
  pub call : Call
  pub reply : Reply
  pub clears : List Cells

abbrev pub turns_of : ℕ → List Cells → Ledger → List Turn
turns_of n cs l = turns l.shape cs (l.steps n)

abbrev pub fed_call : Call → Reply → List Cells → Ledger → Ledger
fed_call (MakeBuffer size copy) r cs l = on_made r (λ n. buffer_in n size l) l
fed_call (MakeTexture d f c wide high k mips) r cs l =
    on_made r (λ n. texture_into n (shape_from (described d f c wide high k mips)) l) l
fed_call (Destroy n) r cs l = on_done r (gone_from n l) l
fed_call (Open n) r cs l = on_done r (with_list n [] [] l) l
fed_call (Close n) r cs l = l
fed_call (Abandon n) r cs l = l
fed_call (BufferRead n b start end) r cs l =
    on_done r (joined_by n (unless_empty (nat_lt start end) (OnBuffer (step.BufferRead b start end))) l) l
fed_call (BufferWrite n b byte start end) r cs l =
    on_done r (joined_by n (unless_empty (nat_lt start end) (OnBuffer (step.BufferWrite b byte start end))) l) l
fed_call (ClearBuffer n b offset size) r cs l =
    on_done r
    (joined_by n
    (unless_empty (nat_lt offset (offset + clear_size size offset (l.bytes b))) (OnBuffer (step.ClearBuffer b offset (offset + clear_size size offset (l.bytes b)))))
    l) l
fed_call (WriteTexture n t byte a) r cs l = on_done r (joined_by n (unless_empty (holds_any a) (TextureWrite t byte a)) l) l
fed_call (Announce n t a) r cs l = on_owed r (with_list n (l.steps n) (record { texture = t; area = a } ∷ []) l) l
fed_call (Settle n d) r cs l = on_done r (with_list n (l.steps n ++ read_steps (l.waiting n)) [] l) l
fed_call (Withdraw n d) r cs l = on_done r (with_list n (l.steps n) [] l) l
fed_call (DiscardSurface n f) r cs l = on_done r (joined_by n (Discard f ∷ []) l) l
fed_call (Clear n t aspect mip mips layer layers) r cs l =
    on_done r
    (joined_by n
    (unless_empty (holds_any (cleared_area (l.shape t) mip mips layer layers)) (ClearTexture t (cleared_area (l.shape t) mip mips layer layers)))
    l) l
fed_call (Submit n) r cs l = on_submitted r (ran_turns (turns_of n cs l) l) l
fed_call Unknown r cs l = l

abbrev pub fed : Entry → Ledger → Ledger
fed e l = fed_call e.call e.reply e.clears l

-- a history, the newest entry first, and the ledger after it
abbrev pub History : Type 0
History = List Entry

abbrev pub ledger_of : History → Ledger
ledger_of [] = blank
ledger_of (e ∷ h) = fed e (ledger_of h)

-- the submissions that an entry makes, each as its turns: none or one
abbrev pub submissions_of : Call → Reply → List Cells → Ledger → List (List Turn)
submissions_of (MakeBuffer size copy) r cs l = []
submissions_of (MakeTexture d f c wide high k mips) r cs l = []
submissions_of (Destroy n) r cs l = []
submissions_of (Open n) r cs l = []
submissions_of (Close n) r cs l = []
submissions_of (Abandon n) r cs l = []
submissions_of (BufferRead n b start end) r cs l = []
submissions_of (BufferWrite n b byte start end) r cs l = []
submissions_of (ClearBuffer n b offset size) r cs l = []
submissions_of (WriteTexture n t byte a) r cs l = []
submissions_of (Announce n t a) r cs l = []
submissions_of (Settle n d) r cs l = []
submissions_of (Withdraw n d) r cs l = []
submissions_of (DiscardSurface n f) r cs l = []
submissions_of (Clear n t aspect mip mips layer layers) r cs l = []
submissions_of (Submit n) r cs l = on_submitted r (turns_of n cs l ∷ []) []
submissions_of Unknown r cs l = []

abbrev pub turns_by : Entry → Ledger → List (List Turn)
turns_by e l = submissions_of e.call e.reply e.clears l

-- a count over the submissions of an entry, and what holds of each of their turns
abbrev pub counted_by : (Cells → Deed → Marks → ℕ) → List (List Turn) → Marks → ℕ
counted_by q [] l = 0
counted_by q (ts ∷ tss) l = added_up q ts l + counted_by q tss (after_turns ts l)

abbrev pub HoldsBy : (Cells → Deed → Marks → Type 0) → List (List Turn) → Marks → Type 0
HoldsBy p [] l = Unit {0}
HoldsBy p (ts ∷ tss) l = Always p ts l × HoldsBy p tss (after_turns ts l)

abbrev pub sums_by : Sizes → List (List Turn) → Marks → List (List ℕ)
sums_by z [] l = []
sums_by z (ts ∷ tss) l = sums_over z ts l ∷ sums_by z tss (after_turns ts l)

-- cells that begin to owe by being made, and owing cells that are lost by destruction
abbrev pub made_size : Call → Reply → ℕ
made_size (MakeBuffer size copy) (Made n) = rounded_up size
made_size (MakeBuffer size copy) Done = 0
made_size (MakeBuffer size copy) (Owed d) = 0
made_size (MakeBuffer size copy) (Submitted t) = 0
made_size (MakeBuffer size copy) (Declined e) = 0
made_size (MakeBuffer size copy) (HandedBack e d) = 0
made_size (MakeTexture d f c wide high k mips) (Made n) = cells_of (shape_from (described d f c wide high k mips))
made_size (MakeTexture d f c wide high k mips) Done = 0
made_size (MakeTexture d f c wide high k mips) (Owed x) = 0
made_size (MakeTexture d f c wide high k mips) (Submitted t) = 0
made_size (MakeTexture d f c wide high k mips) (Declined e) = 0
made_size (MakeTexture d f c wide high k mips) (HandedBack e x) = 0
made_size (Destroy n) r = 0
made_size (Open n) r = 0
made_size (Close n) r = 0
made_size (Abandon n) r = 0
made_size (BufferRead n b start end) r = 0
made_size (BufferWrite n b byte start end) r = 0
made_size (ClearBuffer n b offset size) r = 0
made_size (WriteTexture n t byte a) r = 0
made_size (Announce n t a) r = 0
made_size (Settle n d) r = 0
made_size (Withdraw n d) r = 0
made_size (DiscardSurface n f) r = 0
made_size (Clear n t aspect mip mips layer layers) r = 0
made_size (Submit n) r = 0
made_size Unknown r = 0

abbrev pub owing_in : ℕ → Ledger → ℕ
owing_in n l = sumBelow (l.sizes n) (λ i. cond (l.marks.owes n i) 1 0)

abbrev pub where_done : Reply → ℕ → ℕ
where_done (Made n) k = 0
where_done Done k = k
where_done (Owed d) k = 0
where_done (Submitted t) k = 0
where_done (Declined e) k = 0
where_done (HandedBack e d) k = 0

abbrev pub lost_cells : Call → Reply → Ledger → ℕ
lost_cells (MakeBuffer size copy) r l = 0
lost_cells (MakeTexture d f c wide high k mips) r l = 0
lost_cells (Destroy n) r l = where_done r (owing_in n l)
lost_cells (Open n) r l = 0
lost_cells (Close n) r l = 0
lost_cells (Abandon n) r l = 0
lost_cells (BufferRead n b start end) r l = 0
lost_cells (BufferWrite n b byte start end) r l = 0
lost_cells (ClearBuffer n b offset size) r l = 0
lost_cells (WriteTexture n t byte a) r l = 0
lost_cells (Announce n t a) r l = 0
lost_cells (Settle n d) r l = 0
lost_cells (Withdraw n d) r l = 0
lost_cells (DiscardSurface n f) r l = 0
lost_cells (Clear n t aspect mip mips layer layers) r l = 0
lost_cells (Submit n) r l = 0
lost_cells Unknown r l = 0

-- of one entry: cells that began to owe, that were written over, lost, and whose owing a chosen clear ended
abbrev pub began_by : Entry → Ledger → ℕ
began_by e l = made_size e.call e.reply + counted_by (begins l.sizes) (turns_by e l) l.marks

abbrev pub overs_by : Entry → Ledger → ℕ
overs_by e l = counted_by (overs l.sizes) (turns_by e l) l.marks

abbrev pub lost_by : Entry → Ledger → ℕ
lost_by e l = lost_cells e.call e.reply l

abbrev pub ended_by : Entry → Ledger → ℕ
ended_by e l = counted_by (ended l.sizes) (turns_by e l) l.marks

-- a count added up over a history, and what holds of each of its entries
abbrev pub tally : (Entry → Ledger → ℕ) → History → ℕ
tally q [] = 0
tally q (e ∷ h) = q e (ledger_of h) + tally q h

abbrev pub Throughout : (Entry → Ledger → Type 0) → History → Type 0
Throughout p [] = Unit {0}
Throughout p (e ∷ h) = p e (ledger_of h) × Throughout p h

-- what the reports of a history say together: the cells cleared
abbrev pub cleared_in : Reply → ℕ
cleared_in (Made n) = 0
cleared_in Done = 0
cleared_in (Owed d) = 0
cleared_in (Submitted t) = t.cleared
cleared_in (Declined e) = 0
cleared_in (HandedBack e d) = 0

abbrev pub cleared_by : Entry → Ledger → ℕ
cleared_by e l = cleared_in e.reply

-- the sums that a reply reports, a list for each submission
abbrev pub sums_in : Reply → List (List ℕ)
sums_in (Made n) = []
sums_in Done = []
sums_in (Owed d) = []
sums_in (Submitted t) = t.sums ∷ []
sums_in (Declined e) = []
sums_in (HandedBack e d) = []

-- the same calls with the same replies, whatever the choice of clears
abbrev pub bare : History → List (Call × Reply)
bare [] = []
bare (e ∷ h) = (e.call, e.reply) ∷ bare h
