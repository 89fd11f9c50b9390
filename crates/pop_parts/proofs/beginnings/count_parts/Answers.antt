use Rattle.pop_parts.proofs.Words.{arith, rules}
use Rattle.pop_parts.proofs.PartNumbers as numbers
use Rattle.pop_parts.proofs.beginnings.count_parts.Goals as goal

pub returns-then-not-begin_walk : goal.returns-then-not-begin_walk
returns-then-not-begin_walk g c = search (rules, numbers.no-parts)

pub count_to_come-requires : goal.count_to_come-requires
count_to_come-requires g c =
    let more = numbers.some-half-moves _ _ (numbers.has-some _ _ c.begin_walk.ensures.possible c.if-not-begin_walk.false) in
    let fits = numbers.depth-fits c.args.problem.now c.args.phase c.args.depth c.requires.depth more in
    let most = numbers.half-moves-most c.args.problem.now c.args.phase in (
      search rules,
      (
        omega (arith, c.part_depth-depth.ensures, fits.1, most, c.requires.room),
        rw c.part_depth-depth.ensures (c.begin_walk.ensures.seeking c.diagram.ensures.sound c.if-not-begin_walk.false _ fits.0 fits.1),
      ),
    )

pub returns : goal.returns
returns g c =
    let some = numbers.has-some _ _ c.begin_walk.ensures.possible c.if-not-begin_walk.false in
    let fits = numbers.depth-fits c.args.problem.now c.args.phase c.args.depth c.requires.depth (numbers.some-half-moves _ _ some) in
    rw (
      numbers.all-parts g.R.Rules.rule c.args.problem.now c.args.phase c.args.depth some,
      ← c.begin_walk.ensures.come c.if-not-begin_walk.false _ _ fits.0,
      ← c.part_depth-depth.ensures,
    ) (c.count_to_come.ensures.counts _)
