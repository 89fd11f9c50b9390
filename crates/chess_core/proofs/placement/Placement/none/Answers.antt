use Rattle.chess_core.proofs.Basics.{kind_bitboards, refl, side_bitboards, word_of}
use Rattle.chess_core.proofs.placement.Placement.none.Goals as goal

pub invariant_of-result : goal.invariant_of-result
unfolding kind_bitboards side_bitboards word_of
invariant_of-result c = (refl, record { kinds_are = refl; sides_are = refl })
