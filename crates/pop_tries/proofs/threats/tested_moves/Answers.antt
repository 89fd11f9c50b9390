use Rattle.pop_tries.proofs.Words.{Some, rules, true, ◌∙◌, ◌≡◌}
use Rattle.pop_tries.specs.ties.Contests.{wins_within}
use Rattle.pop_tries.proofs.FewPlaces.{noted_on, place_is}
use Rattle.pop_tries.proofs.MoveSets.{held_on}
use Rattle.pop_tries.proofs.threats.tested_moves.Goals as goal

pub loop-by-preserved-then-wins_by : goal.loop-by-preserved-then-wins_by
loop-by-preserved-then-wins_by g c =
    let rule = g.R.Rules.rule in
    let p = c.args.desk.now.board in
    let test = wins_within rule c.args.contest c.args.length p in
    let next = rw c.loop-by.invariant.0 at c.in-Some.ensures.next in
    let put = c.with-moves.ensures in
    let on = place_is rule p c.in-Some.by _ c.requires.well_formed next.1 (c.number.ensures ∙ c.in-Some.ensures.place) in
    let wins : test c.in-Some.by ≡ true = search rules in (
      search rules,
      search rules,
      search rules,
      held_on rule p test (Some c.loop-by.moves) (Some c.with-moves.result) _ _ c.in-Some.by next.0 c.loop-by.invariant.3 (λ t. put.put) put.kept,
      noted_on rule p test c.loop-by.places c.with-places.result _ _ _ c.in-Some.by next.0 wins c.with-places.ensures on c.loop-by.invariant.4,
    )
