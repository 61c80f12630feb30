use Rattle.std.proofs.Common.{refl}
use Rattle.device.specs.Meaning.{summed}
use Rattle.rules.proofs.laws.sample_stands.Goals as goal

pub returns : goal.returns
unfolding summed
returns c = record { answered = refl; commanded = refl; cleared = refl; summed = refl }
