use Rattle.std.proofs.Common.{refl}
use Rattle.std.specs.Fmt.{digits}
use Rattle.device.specs.Meaning.{summed}
use Rattle.session_file.specs.Session.{lines_from}
use Rattle.session_file.proofs.laws.sample_stands.Goals as goal

pub returns : goal.returns
unfolding digits summed lines_from
returns c = record { lists = refl }
