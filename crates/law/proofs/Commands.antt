-- What lists of commands paint: how often each names a cell, what the device holds after them, and how many cells they name.
use Rattle.std.proofs.Common.{◌≡◌, ℕ, zero, suc, ◌+◌, ◌<◌, ◌≤◌, Bool, true, false, cond, ◌&&◌, ◌||◌, eqb, ltb, List, [], ◌∷◌, ◌++◌, sym, refl, ap, ◌∙◌, ⊎_elim, arith}
use Rattle.std.proofs.lemmas.Bool.Decides.{nat_tests}
use Rattle.std.proofs.lemmas.Bool.{eq-eqb, ne_eqb, cases_lt}
use Rattle.device.specs.declared.command.Command.{Command}
use Rattle.device.specs.Commands.{byte_of, covers as commandCovers, painted}
use Rattle.device.specs.Meaning.{ran, summed}
use Rattle.range_list.specs.Ranges.{inside}
use Rattle.law.specs.Ledger.{Cells, Bytes, Sizes, Each, sumBelow, sum_all, count_all, slot_count}
use Rattle.law.specs.Laws.{commanded}
use Rattle.law.specs.Uses.{cells_named}
use Rattle.law.proofs.Sums.{one_eq, one_two, one_none, sum_eq, sum_two, sum_none}

-- one place among many
absent : (n q : ℕ) (f : ℕ → ℕ) → n ≤ q → sumBelow n (λ i. cond (eqb i q) (f i) 0) ≡ 0
absent n q f h = one_eq n _ (λ i. 0) (λ i k. ap (λ t. cond t (f i) 0) (ne_eqb i q (λ e. omega arith))) ∙ one_none n

pub single : (n q : ℕ) (f : ℕ → ℕ) → q < n → sumBelow n (λ i. cond (eqb i q) (f i) 0) ≡ f q
unfolding sumBelow
single zero q f h = omega arith
single (suc n) q f h =
    ⊎_elim
    (λ lt.
    let below = single n q f lt in
    let here : cond (eqb n q) (f n) 0 ≡ 0 = ap (λ t. cond t (f n) 0) (ne_eqb n q (λ e. omega arith)) in
    omega arith)
    (λ le.
    let below = absent n q f le in
    let same : n ≡ q = omega arith in
    let here : cond (eqb n q) (f n) 0 ≡ f n = ap (λ t. cond t (f n) 0) (eq-eqb n q same) in
    let there : f n ≡ f q = ap f same in
    omega arith)
    (cases_lt q n)

-- the first of a range, and the rest of it
first_rest : (a c i t : ℕ) → cond (inside a (a + suc c) i) t 0 ≡ cond (eqb i a) t 0 + cond (inside (a + 1) (a + 1 + c) i) t 0
first_rest a c i t = grind (arith, nat_tests)

none_inside : (a i t : ℕ) → cond (inside a (a + 0) i) t 0 ≡ 0
none_inside a i t = grind (arith, nat_tests)

-- a sum over a range is the sum over all numbers of those inside it
pub range_sum : (n c a : ℕ) (f : ℕ → ℕ) → a + c ≤ n → sumBelow n (λ i. cond (inside a (a + c) i) (f i) 0) ≡ summed f a c
unfolding summed
range_sum n zero a f h = one_eq n _ (λ i. 0) (λ i k. none_inside a i (f i)) ∙ one_none n
range_sum n (suc c) a f h =
    let split = one_two n _ _ _ (λ i k. first_rest a c i (f i)) in
    let here = single n a f (omega arith) in
    let rest = range_sum n c (a + 1) f (omega arith) in
    omega arith

ones : (c a : ℕ) → summed (λ i. 1) a c ≡ c
unfolding summed
ones zero a = refl
ones (suc c) a = let rest = ones c (a + 1) in omega arith

pub range_count : (n c a : ℕ) → a + c ≤ n → sumBelow n (λ i. cond (inside a (a + c) i) 1 0) ≡ c
range_count n c a h = range_sum n c a (λ i. 1) h ∙ ones c a

-- the same for one slot among all
slot_cond : (e : Bool) (n : ℕ) (p : ℕ → Bool) (f : ℕ → ℕ)
    → sumBelow n (λ i. cond (e && p i) (f i) 0) ≡ cond e (sumBelow n (λ i. cond (p i) (f i) 0)) 0
slot_cond true n p f = refl
slot_cond false n p f = one_none n

pub slot_sum : (z : Sizes) (q : ℕ) (p : ℕ → Bool) (f : ℕ → ℕ → ℕ) → q < slot_count
    → sum_all z (λ r i. cond (eqb r q && p i) (f r i) 0) ≡ sumBelow (z q) (λ i. cond (p i) (f q i) 0)
slot_sum z q p f h =
    one_eq slot_count _ _ (λ r k. slot_cond (eqb r q) (z r) p (f r))
    ∙ single slot_count q (λ r. sumBelow (z r) (λ i. cond (p i) (f r i) 0)) h

-- how often commands name a cell
abbrev pub times : List Command → ℕ → ℕ → ℕ
times [] r i = 0
times (c ∷ cs) r i = cond (commandCovers c r i) 1 0 + times cs r i

pub times_both : (cs ds : List Command) (r i : ℕ) → times (cs ++ ds) r i ≡ times cs r i + times ds r i
times_both [] ds r i = omega arith
times_both (c ∷ cs) ds r i = let ih = times_both cs ds r i in omega arith

-- whether commands stay within the sizes of their slots, and leave this byte
abbrev pub AllInside : Sizes → List Command → Type 0
AllInside z [] = Unit {0}
AllInside z (c ∷ cs) = ((c.slot < slot_count) × (c.first + c.count ≤ z c.slot)) × AllInside z cs

abbrev pub AllLeave : ℕ → List Command → Type 0
AllLeave b [] = Unit {0}
AllLeave b (c ∷ cs) = (byte_of c.kind ≡ b) × AllLeave b cs

inside_both : (z : Sizes) (cs ds : List Command) → AllInside z cs → AllInside z ds → AllInside z (cs ++ ds)
inside_both z [] ds f g = g
inside_both z (c ∷ cs) ds f g = (f.0, inside_both z cs ds f.1 g)

leave_both : (b : ℕ) (cs ds : List Command) → AllLeave b cs → AllLeave b ds → AllLeave b (cs ++ ds)
leave_both b [] ds f g = g
leave_both b (c ∷ cs) ds f g = (f.0, leave_both b cs ds f.1 g)

-- commands paint a set of cells with a byte: each cell of it once, and no other
pub record Paints (z : Sizes) (b : ℕ) (cs : List Command) (p : Cells) : Type 0 where
  pub leaves : AllLeave b cs
  pub fits : AllInside z cs
  pub once : Each z (λ r i. times cs r i ≡ cond (p r i) 1 0)

pub paints_as : (z : Sizes) (b : ℕ) (cs : List Command) (p q : Cells) → Each z (λ r i. p r i ≡ q r i) → Paints z b cs p → Paints z b cs q
paints_as z b cs p q e f =
    record { leaves = f.leaves; fits = f.fits; once = λ r i h j. f.once r i h j ∙ ap (λ t. cond t 1 0) (e r i h j) }

pub paints_none : (z : Sizes) (b : ℕ) (p : Cells) → Each z (λ r i. p r i ≡ false) → Paints z b [] p
paints_none z b p e = record { leaves = tt; fits = tt; once = λ r i h j. sym (ap (λ t. cond t 1 0) (e r i h j)) }

joined_once : (s t : ℕ) (p q w : Bool) → s ≡ cond p 1 0 → t ≡ cond q 1 0 → cond w 1 0 ≡ cond p 1 0 + cond q 1 0 → s + t ≡ cond w 1 0
joined_once s t p q w e f g = omega arith

-- one list behind another, where no cell is in both
pub paints_both : (z : Sizes) (b : ℕ) (cs ds : List Command) (p q w : Cells)
    → Paints z b cs p → Paints z b ds q → Each z (λ r i. cond (w r i) 1 0 ≡ cond (p r i) 1 0 + cond (q r i) 1 0) → Paints z b (cs ++ ds) w
paints_both z b cs ds p q w f g e =
    record {
      leaves = leave_both b cs ds f.leaves g.leaves;
      fits = inside_both z cs ds f.fits g.fits;
      once = λ r i h j. times_both cs ds r i ∙ joined_once (times cs r i) (times ds r i) (p r i) (q r i) (w r i) (f.once r i h j) (g.once r i h j) (e r i h j);
    }

-- one command
pub paints_one : (z : Sizes) (b : ℕ) (c : Command) → byte_of c.kind ≡ b → c.slot < slot_count → c.first + c.count ≤ z c.slot
    → Paints z b (c ∷ []) (commandCovers c)
paints_one z b c e h j = record { leaves = (e, tt); fits = ((h, j), tt); once = λ r i _ _. omega arith }

named_more : (k q : Bool) (n : ℕ) → q ≡ ltb 0 n → (k || q) ≡ ltb 0 (cond k 1 0 + n)
named_more true q n e = grind (arith, nat_tests)
named_more false q n e = grind (arith, nat_tests)

-- the cells that are named are those that are painted, and as many
named_often : (cs : List Command) (r i : ℕ) → commanded cs r i ≡ ltb 0 (times cs r i)
named_often [] r i = refl
named_often (c ∷ cs) r i = let ih = named_often cs r i in named_more (commandCovers c r i) (commanded cs r i) (times cs r i) ih

once_named : (n : ℕ) (p q : Bool) → q ≡ ltb 0 n → n ≡ cond p 1 0 → q ≡ p
once_named n true q e f = grind (arith, nat_tests)
once_named n false q e f = grind (arith, nat_tests)

pub paints_named : (z : Sizes) (b : ℕ) (cs : List Command) (p : Cells) → Paints z b cs p → Each z (λ r i. commanded cs r i ≡ p r i)
paints_named z b cs p f r i h j = once_named (times cs r i) (p r i) (commanded cs r i) (named_often cs r i) (f.once r i h j)

painted_once : (k q : Bool) (b' b x : ℕ) → b' ≡ b → cond q b (cond k b' x) ≡ cond (k || q) b x
painted_once k q b' b x e = grind arith

ran_named : (b : ℕ) (cs : List Command) (x : Bytes) (r i : ℕ) → AllLeave b cs → ran x cs r i ≡ cond (commanded cs r i) b (x r i)
ran_named b [] x r i f = refl
ran_named b (c ∷ cs) x r i f =
    ran_named b cs (painted x c) r i f.1
    ∙ painted_once (commandCovers c r i) (commanded cs r i) (byte_of c.kind) b (x r i) f.0

pub paints_device : (z : Sizes) (b : ℕ) (cs : List Command) (p : Cells) (x : Bytes) → Paints z b cs p
    → Each z (λ r i. ran x cs r i ≡ cond (p r i) b (x r i))
paints_device z b cs p x f r i h j =
    ran_named b cs x r i f.leaves ∙ ap (λ t. cond t b (x r i)) (paints_named z b cs p f r i h j)

command_cells : (z : Sizes) (c : Command) → c.slot < slot_count → c.first + c.count ≤ z c.slot
    → count_all z (commandCovers c) ≡ c.count
command_cells z c h j = slot_sum z c.slot (λ i. inside c.first (c.first + c.count) i) (λ r i. 1) h ∙ range_count (z c.slot) c.count c.first j

named_cells : (z : Sizes) (cs : List Command) → AllInside z cs → cells_named cs ≡ sum_all z (times cs)
named_cells z [] f = sym (sum_none z)
named_cells z (c ∷ cs) f =
    let here = command_cells z c f.0.0 f.0.1 in
    let rest = named_cells z cs f.1 in
    let two = sum_two z (times (c ∷ cs)) (λ r i. cond (commandCovers c r i) 1 0) (times cs) (λ r i h j. refl) in
    omega arith

pub paints_cells : (z : Sizes) (b : ℕ) (cs : List Command) (p : Cells) → Paints z b cs p → cells_named cs ≡ count_all z p
paints_cells z b cs p f = named_cells z cs f.fits ∙ sum_eq z _ _ f.once
