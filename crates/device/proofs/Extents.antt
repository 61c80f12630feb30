-- Commands within extents.
use Rattle.std.specs.Prelude.{◌≡◌, ℕ, ◌+◌, ◌<◌, true, ◌||◌, ◌==◌, nat_le, nat_lt}
use Rattle.std.proofs.Common.{sym, ap, ◌∙◌}
use Rattle.std.proofs.lemmas.Bool.{lt-ltb, and_from}
use Rattle.device.specs.Commands.{fits_in}
use Rattle.device.specs.Meaning.{Meaning, allowed}
use Rattle.device.specs.declared.command.Command.{Command}

-- a command that fits its slot's extent is allowed where some allowance is left
pub allowed_since : (m : Meaning) (c : Command) (e : ℕ) → 0 < m.allowance → e ≡ m.extent c.slot → true ≡ fits_in (λ _. e) c → true ≡ allowed m c
allowed_since m c e some is fits =
    let here : fits_in (λ _. e) c ≡ fits_in m.extent c = ap (λ (n : ℕ). (c.count == 0) || nat_le (c.first + c.count) n) is in
    sym (and_from (nat_lt 0 m.allowance) (fits_in m.extent c) (lt-ltb 0 m.allowance some) (sym (fits ∙ here)))
