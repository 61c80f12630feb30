-- Lists that are idle, one and all.
use Rattle.std.proofs.Common.{◌≡◌, ℕ, ◌<◌, List, [], map, length, get_or, replicate, sym, ◌∙◌, arith}
use Rattle.std.proofs.lemmas.List.{get_or-map, get_or-replicate, length-map, length-replicate, same_lists}
use Rattle.rules.specs.State.{CommandList as Known, idle_list}
use Rattle.rules.specs.declared.list_state.ListState.TheVariants.{Idle}
use Rattle.planner.specs.Listed.{view_list}
use Rattle.planner.specs.declared.list.CommandList.{CommandList}

pub all_idle : (xs : List CommandList) (n : ℕ) → length xs ≡ n → ((i : ℕ) (e : CommandList) → i < n → view_list (get_or xs i e) ≡ idle_list)
    → map view_list xs ≡ replicate n idle_list
all_idle xs n long h =
    let d : CommandList = record { state = Idle; steps = [] } in
    same_lists (map view_list xs) (replicate n idle_list) (length-map xs view_list ∙ long ∙ sym (length-replicate n idle_list))
    (λ (i : ℕ) (e : Known) lt. let l : i < n = omega (arith, length-map xs view_list) in get_or-map view_list xs i d e (omega arith) ∙ h i d l ∙ sym (get_or-replicate n i idle_list e l))
