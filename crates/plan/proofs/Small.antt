-- Steps that end within the greatest buffer, and one more.
use Rattle.std.proofs.Common.{◌≡◌, ◌≤◌, true, ◌&&◌, leb, List, [], ◌∷◌, ◌++◌, ap, ◌∙◌}
use Rattle.std.proofs.lemmas.Bool.{and_parts, le-leb}
use Rattle.rules.specs.Uses.{end_of}
use Rattle.rules.specs.declared.step.Step.{Step}
use Rattle.plan.specs.Views.{all_small}

pub small_push : (ss : List Step) (s : Step) → end_of s ≤ 268435456 → all_small ss ≡ true → all_small (ss ++ (s ∷ [])) ≡ true
small_push [] s le h = ap (λ b. b && true) (le-leb (end_of s) 268435456 le)
small_push (x ∷ xs) s le h =
    let p = and_parts (leb (end_of x) 268435456) (all_small xs) h in
    ap (λ b. b && all_small (xs ++ (s ∷ []))) p.0 ∙ small_push xs s le p.1
