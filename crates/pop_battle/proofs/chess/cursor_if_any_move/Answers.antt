use Rattle.pop_battle.proofs.Words.{LegalPlace, ap, rules}
use Rattle.pop_battle.proofs.Boards.{has_first, has_killer}
use Rattle.pop_battle.proofs.chess.cursor_if_any_move.Goals as goal

pub returns-then-is_some-clause-moves : goal.returns-then-is_some-clause-moves
returns-then-is_some-clause-moves g c = λ goal.
    let found = has_killer goal g.R.Rules.rule c.args.board.now _ _ _ c.next_until.result c.next_until.ensures.rest in
    search (rules, found, ap (λ (v : LegalPlace). v.place) c.go_to.ensures)

pub returns-then-is_some-2-clause-moves : goal.returns-then-is_some-2-clause-moves
returns-then-is_some-2-clause-moves g c = λ goal.
    let found = has_first goal g.R.Rules.rule _ _ _ c.next.result c.next.ensures.rest in
    search (rules, found, ap (λ (v : LegalPlace). v.place) c.go_to-2.ensures)

pub returns-clause-moves : goal.returns-clause-moves
returns-clause-moves g c = λ goal.
    let none = has_first goal g.R.Rules.rule _ _ _ c.next.result c.next.ensures.rest in
    search (rules, none, ap (λ (v : LegalPlace). v.place) c.go_to-2.ensures)
