use Rattle.pop_parts.proofs.Words.{arith, refl}
use Rattle.pop_parts.proofs.PartNumbers as numbers
use Rattle.pop_parts.proofs.remaining_parts.RemainingParts.of.Goals as goal

pub new-frames-requires : goal.new-frames-requires
new-frames-requires g c = omega (arith, c.requires.few)

pub returns-then-not-begin_walk : goal.returns-then-not-begin_walk
returns-then-not-begin_walk g c = record {
  all = numbers.no-parts g.R.Rules.rule c.args.problem.now c.args.phase c.args.depth
      (numbers.has-none _ _ c.begin_walk.ensures.possible c.if-not-begin_walk.true);
}

pub invariant_of-result : goal.invariant_of-result
invariant_of-result g c =
    let more = numbers.some-half-moves _ _ (numbers.has-some _ _ c.begin_walk.ensures.possible c.if-not-begin_walk.false) in
    let fits = numbers.depth-fits c.args.problem.now c.args.phase c.args.depth c.requires.depth more in (
      c.diagram.ensures.sound,
      c.requires.room,
      record {
        seeking = rw c.part_depth.ensures (c.begin_walk.ensures.seeking c.diagram.ensures.sound c.if-not-begin_walk.false _ fits.0 fits.1);
        some = rw c.part_depth.ensures fits.0;
        battle = λ other. rw (c.part_depth.ensures, other) refl;
      },
    )

pub returns : goal.returns
returns g c =
    let some = numbers.has-some _ _ c.begin_walk.ensures.possible c.if-not-begin_walk.false in
    let fits = numbers.depth-fits c.args.problem.now c.args.phase c.args.depth c.requires.depth (numbers.some-half-moves _ _ some) in
    record {
      all = (
        refl,
        refl,
        rw (numbers.all-parts g.R.Rules.rule c.args.problem.now c.args.phase c.args.depth some, c.part_depth.ensures)
            (c.begin_walk.ensures.come c.if-not-begin_walk.false _ _ fits.0),
      );
    }
