use Rattle.pop_text.proofs.Basics.{arith, length, limit, ◌≤◌}
use Rattle.std.proofs.lemmas.Grind.{common_steps}
use Rattle.pop_text.proofs.Windows.{front_peeks}
use Rattle.pop_text.proofs.scanner.Scanner.peek.Goals as goal

pub returns-then-room-gt0-clause-at : goal.returns-then-room-gt0-clause-at
unfolding limit
returns-then-room-gt0-clause-at g c =
    let i = c.self.inside in
    let kept = c.self.invariant.1 in
    let within : i.stop ≤ length i.cells = omega (arith, kept, c.self.told) in
    let room = rw (← c.self.view_is) at c.room.ensures.room in
    rw (← c.self.view_is) (front_peeks i.cells i.start i.stop within i.used i.line i.end c.if-self.true (omega (arith, room, c.if-room-gt0.true)))

pub returns-then-room-gt0-clause-stuck : goal.returns-then-room-gt0-clause-stuck
unfolding limit
returns-then-room-gt0-clause-stuck g c = grind (arith, common_steps)

pub returns-then-self-clause-at : goal.returns-then-self-clause-at
unfolding limit
returns-then-self-clause-at g c = grind (arith, common_steps)

pub returns-then-self-clause-stuck : goal.returns-then-self-clause-stuck
unfolding limit
returns-then-self-clause-stuck g c = grind (arith, common_steps)

pub returns-in-Broken-clause-at : goal.returns-in-Broken-clause-at
unfolding limit
returns-in-Broken-clause-at g c = grind (arith, common_steps)

pub returns : goal.returns
unfolding limit
returns g c = grind (arith, common_steps)
