use Rattle.texture.proofs.Multiples.{lcm_left, lcm_right, lcm_least_all}
use Rattle.texture.proofs.Rows.{row_holds, rows_some, zeros_enough}
use Rattle.texture.proofs.Clears.{clears_follow, clears_cover, clears_total}
use Rattle.texture.proofs.meaning.clears_stand.Goals as goal

pub returns : goal.returns
returns c = record {
  left = lcm_left;
  right = lcm_right;
  least = lcm_least_all;
  holds = λ s pitch m fits. row_holds pitch s m fits;
  some = λ s pitch m h fits. rows_some pitch s m fits h;
  enough = λ s pitch m. zeros_enough pitch s m;
  consecutive = λ s pitch m l h cleared fits. clears_follow pitch s m l h fits cleared;
  covers = λ s pitch m l i h cleared fits. clears_cover pitch s m l h fits cleared i;
  total = λ s pitch m l h cleared fits. clears_total pitch s m l h fits cleared;
}
