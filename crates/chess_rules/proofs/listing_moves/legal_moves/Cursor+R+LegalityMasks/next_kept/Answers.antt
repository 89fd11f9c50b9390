use Rattle.chess_rules.proofs.Filtering.{next_kept}
use Rattle.chess_attacks.proofs.Basics.{arith}
use Rattle.chess_rules.proofs.listing_moves.legal_moves.Cursor+R+LegalityMasks.next_kept.Goals as goal

pub returns-clause-skipped : goal.returns-clause-skipped
returns-clause-skipped g c = grind (arith, next_kept)

pub returns-clause-following : goal.returns-clause-following
returns-clause-following g c = grind (arith, next_kept)
