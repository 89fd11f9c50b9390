use Rattle.chess_core.proofs.Basics.{has_unmoved, refl, squares, word, word_of}
use Rattle.chess_core.proofs.man.UnmovedDefault.default.Goals as goal

pub invariant_of-result : goal.invariant_of-result
unfolding has_unmoved word word_of squares
invariant_of-result c = rw c.default.ensures refl
