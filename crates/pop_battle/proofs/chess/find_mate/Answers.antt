use Rattle.pop_battle.proofs.Words.{MatingPlace, ap, rules}
use Rattle.pop_battle.proofs.Boards.{mate_before, mate_after, no_mate}
use Rattle.pop_battle.proofs.chess.find_mate.Goals as goal

pub returns-then-is_some-clause-mates : goal.returns-then-is_some-clause-mates
returns-then-is_some-clause-mates g c = let found = mate_after g.R.Rules.rule c.args.board.now _ _ c.next.result c.next.ensures.rest in search (rules, found)

pub returns-then-is_some-2-clause-mates : goal.returns-then-is_some-2-clause-mates
returns-then-is_some-2-clause-mates g c =
    let found = mate_before g.R.Rules.rule c.args.board.now _ _ _ _ c.next_until.result c.next_until.ensures.rest in
    let place = ap (λ (v : MatingPlace). v.place) c.go_to-2.ensures in
    search (rules, found, place)

pub returns-clause-mates : goal.returns-clause-mates
returns-clause-mates g c =
    let none = no_mate g.R.Rules.rule c.args.board.now _ _ _ _ _ _ c.next.result c.next_until.result c.next.ensures.rest c.next_until.ensures.rest in
    let place = ap (λ (v : MatingPlace). v.place) c.go_to-2.ensures in
    let cut = ap (λ (v : MatingPlace). v.place) c.go_to.ensures in
    search (rules, none, place, cut)

pub returns-then-is_some-2-clause-place : goal.returns-then-is_some-2-clause-place
returns-then-is_some-2-clause-place g c = search (rules, c.next_until.ensures.place)
