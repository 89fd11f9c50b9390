use Rattle.std.proofs.Common.{refl, subst, sym, true, ◌∙◌, ◌≡◌}
use Rattle.std.proofs.lemmas.Bool.{false≢true}
use Rattle.chess_core.specs.declared.man.Kind.TheVariants.{King}
use Rattle.chess_core.specs.ties.Words.{side_of, squares_of}
use Rattle.chess_reach.proofs.Getting.{every_on}
use Rattle.chess_reach.proofs.Listing.{blocker_on}
use Rattle.chess_reach.proofs.planned_squares.prey.Goals as goal

pub returns-then-are_reborn-clause-reborn : goal.returns-then-are_reborn-clause-reborn
returns-then-are_reborn-clause-reborn c lives = refl

pub returns-then-are_reborn-clause-here : goal.returns-then-are_reborn-clause-here
returns-then-are_reborn-clause-here c s t small low blocker to = every_on (λ t. true) t low refl

pub returns-then-squares-eq0-clause-reborn : goal.returns-then-squares-eq0-clause-reborn
returns-then-squares-eq0-clause-reborn c lives = refl

pub returns-then-squares-eq0-clause-here : goal.returns-then-squares-eq0-clause-here
returns-then-squares-eq0-clause-here c s t small low blocker to = every_on (λ t. true) t low refl

pub returns-clause-reborn : goal.returns-clause-reborn
returns-clause-reborn c lives = absurd (false≢true (sym c.if-are_reborn.false ∙ lives))

pub returns-clause-here : goal.returns-clause-here
returns-clause-here c s t small low blocker to =
    c.captured_from.ensures s t small low
    (blocker_on _ _ _ _ s (subst (λ d. c.side.result ≡ side_of c.args.board.now.men d) c.other-mated.ensures c.side.ensures)
    (subst (λ d. c.squares-2.result ≡ squares_of c.args.board.now.men d King) c.other-mated.ensures c.squares-2.ensures.word) small blocker) to
