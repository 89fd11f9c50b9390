use Rattle.pop_tries.proofs.Words.{ap, arith, length, rules}
use Rattle.std.proofs.lemmas.List.{length-reverse}
use Rattle.pop_tries.specs.ties.Starts.{base_position}
use Rattle.pop_tries.proofs.GoesBelow as goes
use Rattle.pop_tries.proofs.below_first.next_node.Goals as goal

pub walk_on-requires : goal.walk_on-requires
walk_on-requires g c = search (rules, rw (← c.half_moves_below.ensures) at c.requires.walking.1)

pub shown_node-node-requires : goal.shown_node-node-requires
shown_node-node-requires g c =
    let next = c.walk_on.ensures.next _ (rw (← c.half_moves_below.ensures) at c.requires.walking.1) in
    let shown = c.if-not-walk_on.false in
    let same = c.as_slice.ensures.value in
    record {
      deep = omega (arith, next.deep shown, length-reverse c.walk_on.new.desk.frames.items, ap length same);
      shallow = goes.shallow c.args.task.now.problem c.requires.sound _ _ _ c.half_moves_below.ensures next.walking.roomy same;
      walking = rw same (c.half_moves_below.result, c.requires.walking.0, next.walking);
      ended = rw same (next.ended shown);
    }

pub returns-then-not-walk_on : goal.returns-then-not-walk_on
returns-then-not-walk_on g c = record {
  next = λ first base w.
      let p = base_position g.R.Rules.rule c.args.task.now.problem first base in
      let next = (rw (c.of-mode.ensures, c.half_moves_below.ensures) at c.walk_on.ensures.next p) w in
      let over = c.if-not-walk_on.true in
      (next.walking, (next.none over, next.back over, goes.none_reversed _ (next.empty over)));
}

pub returns : goal.returns
returns g c = record {
  next = λ first base w.
      let rule = g.R.Rules.rule in
      let task = c.args.task.now in
      let old = c.args.desk.now in
      let on = goes.on_walk rule task c.of-mode.result c.half_moves_below.result c.of-mode.ensures c.half_moves_below.ensures
      (base_position rule task.problem first base) old.board old.frames.items w in
      let node = c.shown_node-node.ensures in
      goes.node_goes rule task c.of-mode.result c.half_moves_below.result c.of-mode.ensures c.half_moves_below.ensures first base old.frames.items
      c.walk_on.new.desk.frames.items c.as_slice.result.now c.walk_on.new.desk.board c.shown_node-node.new.board c.walk_on.result
      c.shown_node-node.result.depth c.shown_node-node.result.half c.shown_node-node.result.shown
      c.if-not-walk_on.false c.as_slice.ensures.value (c.walk_on.ensures.next _ on) node.unchanged node.depth node.half node.shown;
}
