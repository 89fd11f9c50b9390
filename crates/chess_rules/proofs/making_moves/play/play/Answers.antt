use Rattle.chess_rules.proofs.Chess.{arith}
use Rattle.chess_rules.proofs.Fits.{can_move}
use Rattle.chess_rules.proofs.Pseudo.{made}
use Rattle.chess_rules.proofs.Stays.{after_by_well, captured_mortal}
use Rattle.chess_rules.proofs.making_moves.play.play.Goals as goal

pub play_by-requires-clause-moves : goal.play_by-requires-clause-moves
play_by-requires-clause-moves g c =
    can_move _ _ _ _ c.requires.well_formed (made _ _ _ _ c.requires.pseudo (grind (arith, c.m.view_is, c.man_at.ensures, c.in-Some.is)))

pub play_by-requires-clause-mortal : goal.play_by-requires-clause-mortal
play_by-requires-clause-mortal g c =
    λ y h. captured_mortal _ _ _ _ y c.requires.well_formed (made _ _ _ _ c.requires.pseudo (grind (arith, c.m.view_is, c.man_at.ensures, c.in-Some.is))) h

pub returns-in-Some-clause-well_formed : goal.returns-in-Some-clause-well_formed
returns-in-Some-clause-well_formed g c =
    rw c.play_by.ensures.after (after_by_well _ _ _ _ c.requires.well_formed
    (made _ _ _ _ c.requires.pseudo (grind (arith, c.m.view_is, c.man_at.ensures, c.in-Some.is))))
