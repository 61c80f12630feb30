use Rattle.std.proofs.Common.{refl}
use Rattle.texture.proofs.meaning.trials_stand.Goals as goal

pub returns : goal.returns
returns c = record { bytes = refl; rows = refl; copies = refl; odd = refl; part = refl; prime = refl; whole = refl }
