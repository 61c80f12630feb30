-- What runs of commands do to cells: run after run, on equal cells, and one command more.
use Rattle.std.proofs.Common.{◌≡◌, ℕ, ◌+◌, ◌<◌, cond, List, [], ◌∷◌, ◌++◌, length, get_or, take, refl, ap, ◌∙◌}
use Rattle.std.proofs.lemmas.List.{take_more}
use Rattle.device.specs.Commands.{byte_of, covers, painted}
use Rattle.device.specs.Meaning.{ran}
use Rattle.device.specs.declared.command.Command.{Command}

-- commands after commands run over what the first left
pub ran_append : (f : ℕ → ℕ → ℕ) (xs ys : List Command) → ran f (xs ++ ys) ≡ ran (ran f xs) ys
ran_append f [] ys = refl
ran_append f (c ∷ xs) ys = ran_append (painted f c) xs ys

-- the same at one cell
pub ran_append_at : (f : ℕ → ℕ → ℕ) (xs ys : List Command) (s i : ℕ) → ran f (xs ++ ys) s i ≡ ran (ran f xs) ys s i
ran_append_at f xs ys s i = ap (λ (g : ℕ → ℕ → ℕ). g s i) (ran_append f xs ys)

-- one command more paints what the others left
pub ran_push : (f : ℕ → ℕ → ℕ) (xs : List Command) (c : Command) (s i : ℕ) → ran f (xs ++ (c ∷ [])) s i ≡ painted (ran f xs) c s i
ran_push f xs c s i = ran_append_at f xs (c ∷ []) s i

-- a command on equal cells leaves equal cells
pub painted_same : (f g : ℕ → ℕ → ℕ) (c : Command) → ((s i : ℕ) → f s i ≡ g s i) → (s i : ℕ) → painted f c s i ≡ painted g c s i
painted_same f g c h s i = ap (λ (x : ℕ). cond (covers c s i) (byte_of c.kind) x) (h s i)

-- and so does a list of commands
pub ran_same : (f g : ℕ → ℕ → ℕ) (cs : List Command) → ((s i : ℕ) → f s i ≡ g s i) → (s i : ℕ) → ran f cs s i ≡ ran g cs s i
ran_same f g [] h s i = h s i
ran_same f g (c ∷ cs) h s i = ran_same (painted f c) (painted g c) cs (painted_same f g c h) s i

-- cells that hold alike, and are covered alike, hold alike after a command
pub painted_alike : (f : ℕ → ℕ → ℕ) (c : Command) (s i j : ℕ) → covers c s i ≡ covers c s j → f s i ≡ f s j → painted f c s i ≡ painted f c s j
painted_alike f c s i j h e =
    ap (λ b. cond b (byte_of c.kind) (f s i)) h ∙ ap (λ (x : ℕ). cond (covers c s j) (byte_of c.kind) x) e

-- the record at a place paints what those before it left
pub ran_more : (f : ℕ → ℕ → ℕ) (cs : List Command) (k : ℕ) (d : Command) → k < length cs → (s i : ℕ) → ran f (take (k + 1) cs) s i ≡ painted (ran f (take k cs)) (get_or cs k d) s i
ran_more f cs k d h s i =
    ap (λ (xs : List Command). ran f xs s i) (take_more cs k d h) ∙ ran_push f (take k cs) (get_or cs k d) s i
