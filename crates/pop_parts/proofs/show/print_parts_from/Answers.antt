use Rattle.pop_parts.proofs.Words.{arith, rules, ◌<◌, ◌∙◌}
use Rattle.std.proofs.lemmas.Result.{err_from_is_err_and}
use Rattle.pop_parts.proofs.Ranges.{parts_after, parts_break_off, parts_go_on}
use Rattle.pop_parts.proofs.show.print_parts_from.Goals as goal

pub loop-left-preserved : goal.loop-left-preserved
loop-left-preserved g c =
    let i = c.loop-left.invariant in
    let some : 0 < c.loop-left.left = search rules in
    record {
      problem = c.in_ok-killers.ensures.problem ∙ i.problem;
      phase = c.in_ok-killers.ensures.phase ∙ i.phase;
      printing = parts_go_on g.R.Rules.rule c.args.parts.now.problem c.args.parts.now.phase _ c.loop-left.parts.left c.loop-left.number c.loop-left.left _ _ _
          i.printing i.some some i.there _ c.in_ok-killers.ensures.left (rw (i.problem, i.phase) at c.in_ok-killers.ensures.bytes);
      some = omega arith;
      there = parts_after c.loop-left.parts.left _ c.loop-left.number c.loop-left.left c.in_ok-killers.ensures.left some i.there;
      counted = c.in_ok-killers.ensures.counted ∙ i.counted;
    }

pub returns-in_err-killers-clause-bytes : goal.returns-in_err-killers-clause-bytes
returns-in_err-killers-clause-bytes g c =
    let i = c.loop-left.invariant in
    let some : 0 < c.loop-left.left = search rules in
    let p = err_from_is_err_and c.from_residual.result c.from_residual.ensures.1 in
    rw p.1 (parts_break_off g.R.Rules.rule c.args.parts.now.problem c.args.parts.now.phase _ c.loop-left.parts.left c.loop-left.number c.loop-left.left
    _ _ _ i.printing i.some some i.there (rw (i.problem, i.phase) at c.in_err-killers.ensures.bytes))
