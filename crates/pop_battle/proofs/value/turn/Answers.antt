use Rattle.pop_battle.proofs.Words.{Frame, None, Some, ap, not, rules, attacker_to_move, sym, untried_moves, ◌∙◌, ◌≡◌, ◌⊎◌}
use Rattle.pop_battle.proofs.Tests as test
use Rattle.pop_battle.proofs.value.turn.Goals as goal

pub close-requires : goal.close-requires
close-requires g c = search (rules, test.close_asks, c.in-Some.ensures.items, c.requires.above, c.len-depth.ensures.value, c.requires.testing.1)

pub returns-then-is_decided-clause-room : goal.returns-then-is_decided-clause-room
returns-then-is_decided-clause-room g c =
    test.close_room g.R.Rules.rule c.args.aim _ _ _ _ c.in-Some.ensures.items c.requires.above _ _ _ _ c.args.answer.now _ _ c.len-depth.ensures.value
    c.close.ensures.lowest c.close.ensures.above c.close.ensures.before _ _ c.requires.testing.1 c.requires.room

pub returns-then-is_decided-clause-next : goal.returns-then-is_decided-clause-next
returns-then-is_decided-clause-next g c = λ p r.
    let seek : c.attacker_to_move-seek.result ≡ attacker_to_move c.args.aim.battle c.in-Some.top.left = c.attacker_to_move-seek.ensures
    ∙ ap (λ (f : Frame). attacker_to_move c.args.aim.battle f.left) c.top.view_is in
    let s : c.args.answer.now ≡ Some (attacker_to_move c.args.aim.battle c.in-Some.top.left) = rw (← seek) c.if-is_decided.ensures in
    test.close_turns g.R.Rules.rule c.args.aim _ _ _ _ c.in-Some.ensures.items c.requires.above _ _ _ _ _ _ _ c.len-depth.ensures.value
    c.close.ensures.lowest c.close.ensures.above c.close.ensures.before _ p r
    (rw seek (test.decided g.R.Rules.rule c.args.aim _ _ _ _ c.in-Some.ensures.items c.requires.above p _ s))

pub cursor_at-cursor-requires : goal.cursor_at-cursor-requires
cursor_at-cursor-requires g c = search (rules, test.top_cursor)

pub close-requires-in_default-next_tried : goal.close-requires-in_default-next_tried
close-requires-in_default-next_tried g c = λ deep.
    test.close_asks g.R.Rules.rule c.args.aim _ _ _ _ c.in-Some.ensures.items c.requires.above _ _ _ c.len-depth.ensures.value
    (test.testing_same _ _ _ _ _ c.requires.testing.1 c.next_tried.ensures.unchanged) deep

pub returns-in_default-next_tried-clause-room : goal.returns-in_default-next_tried-clause-room
returns-in_default-next_tried-clause-room g c =
    test.close_room g.R.Rules.rule c.args.aim _ _ _ _ c.in-Some.ensures.items c.requires.above _ _ _ _ c.args.answer.now _ _ c.len-depth.ensures.value
    c.close-in_default-next_tried.ensures.lowest c.close-in_default-next_tried.ensures.above c.close-in_default-next_tried.ensures.before _ _
    (test.testing_same _ _ _ _ _ c.requires.testing.1 c.next_tried.ensures.unchanged) c.requires.room

pub returns-in_default-next_tried-clause-next : goal.returns-in_default-next_tried-clause-next
returns-in_default-next_tried-clause-next g c = λ p r.
    let seek : c.attacker_to_move-seek.result ≡ attacker_to_move c.args.aim.battle c.in-Some.top.left = c.attacker_to_move-seek.ensures
    ∙ ap (λ (f : Frame). attacker_to_move c.args.aim.battle f.left) c.top.view_is in
    let same = ap (λ (f : Frame). untried_moves g.R.Rules.rule c.args.board.now f) c.top.view_is in
    let u : (c.args.answer.now ≡ None) ⊎ (c.args.answer.now ≡ Some (not (attacker_to_move c.args.aim.battle c.in-Some.top.left))) =
    rw (← seek) c.if-is_decided.ensures in
    test.close_turns g.R.Rules.rule c.args.aim _ _ _ _ c.in-Some.ensures.items c.requires.above _ _ _ _ _ _ _ c.len-depth.ensures.value
    c.close-in_default-next_tried.ensures.lowest c.close-in_default-next_tried.ensures.above c.close-in_default-next_tried.ensures.before _ p
    (test.testing_same _ _ _ _ _ r c.next_tried.ensures.unchanged)
    (rw seek (test.exhausted g.R.Rules.rule c.args.aim _ _ _ _ c.in-Some.ensures.items c.requires.above p _ _ r u
    (sym same ∙ (rw c.cursor_at-cursor.ensures.place at c.in_default-next_tried.ensures.next))))

pub descend-requires : goal.descend-requires
descend-requires g c =
    let taken = rw (← c.top.view_is) at c.in-Some.ensures.items in
    let some = test.top_some g.R.Rules.rule c.args.aim _ _ _ _ taken c.requires.above _ _ c.requires.testing.1 in
    let room = test.top_room g.R.Rules.rule c.args.aim _ _ _ _ taken c.requires.above _ c.requires.room in
    search (rules, some, room)

pub returns-clause-room : goal.returns-clause-room
returns-clause-room g c =
    let taken = rw (← c.top.view_is) at c.in-Some.ensures.items in
    let u : (c.args.answer.now ≡ None) ⊎ (c.args.answer.now ≡ Some (not (attacker_to_move c.args.aim.battle c.top.inside.left))) =
    rw (← c.attacker_to_move-seek.ensures) c.if-is_decided.ensures in
    let some = test.top_some g.R.Rules.rule c.args.aim _ _ _ _ taken c.requires.above _ _ c.requires.testing.1 in
    test.descend_room g.R.Rules.rule c.args.aim _ _ _ _ taken c.requires.above _ _ _ _ _ _ _ _ _ some u
    (rw (c.cursor_at-cursor.ensures.place, ← c.place.ensures) at c.in-Some-next_tried.ensures.next.0) c.in-Some-next_tried.ensures.next.1
    c.next_tried.ensures.within c.descend.result (rw c.next_tried.ensures.unchanged at c.descend.ensures.answer) c.requires.room

pub returns-clause-next : goal.returns-clause-next
returns-clause-next g c = λ p r.
    let taken = rw (← c.top.view_is) at c.in-Some.ensures.items in
    let u : (c.args.answer.now ≡ None) ⊎ (c.args.answer.now ≡ Some (not (attacker_to_move c.args.aim.battle c.top.inside.left))) =
    rw (← c.attacker_to_move-seek.ensures) c.if-is_decided.ensures in
    let some = test.top_some g.R.Rules.rule c.args.aim _ _ _ _ taken c.requires.above _ _ r in
    test.descend_turns g.R.Rules.rule c.args.aim _ _ _ _ taken c.requires.above _ _ _ _ _ _ 0 _ _ some u
    (rw (c.cursor_at-cursor.ensures.place, ← c.place.ensures) at c.in-Some-next_tried.ensures.next.0) c.in-Some-next_tried.ensures.next.1
    c.next_tried.ensures.within c.descend.result (rw c.next_tried.ensures.unchanged at c.descend.ensures.answer) _ _
    (rw c.next_tried.ensures.unchanged at c.descend.ensures.opened) (rw c.next_tried.ensures.unchanged at c.descend.ensures.tried) p r
