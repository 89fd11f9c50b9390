use Rattle.pop_text.proofs.Basics.{arith, length, length-append, rules, sym, take_all, ◌++◌, ◌∙◌, ◌≤◌}
use Rattle.pop_text.proofs.Using.{take_room}
use Rattle.pop_text.proofs.scanner.extend_word.Goals as goal

pub returns-then-part-room-clause-kept : goal.returns-then-part-room-clause-kept
returns-then-part-room-clause-kept c =
    let few : length (c.args.word.now.items ++ c.args.part.now) ≤ 160 = omega (arith, length-append c.args.word.now.items c.args.part.now) in
    (search rules) ∙ sym (take_all 160 (c.args.word.now.items ++ c.args.part.now) few)

pub returns-else-part-room-clause-kept : goal.returns-else-part-room-clause-kept
returns-else-part-room-clause-kept c = search (rules, take_room)
