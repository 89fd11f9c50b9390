use Rattle.chess_attacks.proofs.Basics.{arith}
use Rattle.chess_rules.proofs.listing_moves.Counts.{count_by_word, count_whole}
use Rattle.chess_rules.proofs.listing_moves.counting.count_origin.Goals as goal

pub returns-then-end-eq-PER_ORIGIN-clause-count : goal.returns-then-end-eq-PER_ORIGIN-clause-count
returns-then-end-eq-PER_ORIGIN-clause-count g c = grind (arith, count_whole)

pub returns-then-need_no_test-clause-count : goal.returns-then-need_no_test-clause-count
returns-then-need_no_test-clause-count g c = grind (arith, count_by_word)
