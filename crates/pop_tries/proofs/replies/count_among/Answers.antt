use Rattle.pop_tries.proofs.Words.{and_parts, arith, rules, true, Some, ◌∙◌, ◌≡◌}
use Rattle.pop_tries.specs.ties.FirstMoves.{refutes_among}
use Rattle.pop_tries.proofs.Counts.{refuted_at}
use Rattle.pop_tries.proofs.FewPlaces.{place_is}
use Rattle.pop_tries.proofs.Loops.{counted}
use Rattle.pop_tries.proofs.MoveSets.{held_on}
use Rattle.pop_tries.proofs.replies.count_among.Goals as goal

pub returns-then-count-tally-clause-last : goal.returns-then-count-tally-clause-last
returns-then-count-tally-clause-last g c =
    let next = rw c.loop-by.invariant.0 at c.in-Some.ensures.next in
    let p = c.args.desk.now.board in
    let meets : refutes_among g.R.Rules.rule c.args.contest c.args.counted p c.in-Some.by ≡ true = search rules in
    refuted_at g.R.Rules.rule c.args.contest p c.number-last.result c.in-Some.by
    (place_is g.R.Rules.rule p c.in-Some.by c.number-last.result c.requires.ready.well_formed next.1 (c.number-last.ensures ∙ c.in-Some.ensures.place))
    (and_parts _ _ meets).1

pub loop-by-preserved-else-count-tally : goal.loop-by-preserved-else-count-tally
loop-by-preserved-else-count-tally g c =
    let next = rw c.loop-by.invariant.0 at c.in-Some.ensures.next in
    let p = c.args.desk.now.board in
    let test = refutes_among g.R.Rules.rule c.args.contest c.args.counted p in
    let meets : test c.in-Some.by ≡ true = search rules in
    let last = refuted_at g.R.Rules.rule c.args.contest p c.number-last.result c.in-Some.by
    (place_is g.R.Rules.rule p c.in-Some.by c.number-last.result c.requires.ready.well_formed next.1 (c.number-last.ensures ∙ c.in-Some.ensures.place))
    (and_parts _ _ meets).1 in
    let put = c.with-refuting.ensures in (
      search rules,
      search rules,
      search rules,
      omega (arith, c.if-count-tally.false),
      counted test c.in-Some.by _ _ next.0 _ _ (search rules) c.loop-by.invariant.4,
      λ m h. put.kept m (c.loop-by.invariant.5 m h),
      held_on g.R.Rules.rule p test (Some c.loop-by.refuting) (Some c.with-refuting.result) _ _ c.in-Some.by next.0 c.loop-by.invariant.6 (λ t. put.put) put.kept,
      last,
    )
