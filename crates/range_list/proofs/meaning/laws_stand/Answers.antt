use Rattle.std.proofs.Common.{arith}
use Rattle.range_list.proofs.Laws.{member_drained, member_pieces, pieces_drained, member_discarded, lengths_pieces, sound_drained, sound_pieces, sound_discarded, few_ranges, member_whole, sound_whole}
use Rattle.range_list.proofs.Members.{checked_covers, checked_within, same_members}
use Rattle.range_list.proofs.meaning.laws_stand.Goals as goal

pub returns : goal.returns
returns c = record {
  in_drained = member_drained;
  in_pieces = member_pieces;
  none_left = pieces_drained;
  in_discarded = λ p q n rs h. member_discarded p 0 n q rs h;
  covers_checked = checked_covers;
  within_checked = checked_within;
  total_pieces = lengths_pieces;
  keeps_whole = sound_whole;
  in_whole = member_whole;
  keeps_drained = sound_drained;
  keeps_pieces = λ lo hi n rs h. sound_pieces 0 lo hi n rs h;
  keeps_discarded = λ p n rs lt h. sound_discarded 0 n p rs (omega arith) lt h;
  same_positions = λ n rs ss h k e. same_members 0 n rs ss h k e;
  few = few_ranges;
}
