use Rattle.pop_parts.proofs.Words.{Frame, ap, may_be_made, rules, ◌≡◌}
use Rattle.pop_parts.proofs.Seeking as seeking
use Rattle.pop_parts.proofs.beginnings.seek.Goals as goal

pub next_move-requires : goal.next_move-requires
next_move-requires g c =
    let s = c.requires.seeking.2 in
    let top = seeking.top-cursor g.R.Rules.rule c.requires.seeking.0 c.args.depth c.requires.seeking.1 _ _ _ c.in-Some.ensures.items _ s in
    search (rules, top)

pub step_back-requires : goal.step_back-requires
step_back-requires g c = seeking.back-calls_source g.R.Rules.rule c.requires.seeking.0 c.args.depth c.requires.seeking.1 _ _ _ c.in-Some.ensures.items _
    c.requires.seeking.2 _ _ c.next_move.ensures.unchanged c.len-below.ensures.value

pub returns-in_default-next_move : goal.returns-in_default-next_move
returns-in_default-next_move g c = record {
  seeks = λ h p s.
      let place : c.top.inside.place ≡ c.in-Some.top.place = ap (λ (f : Frame). f.place) c.top.view_is in
      seeking.seeks-closed g.R.Rules.rule h c.args.depth p _ _ _ c.in-Some.ensures.items _ s _ _ _ c.next_move.ensures.unchanged
      c.len-below.ensures.value (rw place at c.in_default-next_move.ensures.next) c.step_back.ensures.lowest c.step_back.ensures.before;
}

pub returns-then-len-depth : goal.returns-then-len-depth
returns-then-len-depth g c = record {
  seeks = λ h p s.
      let taken = rw (← c.top.view_is) at c.in-Some.ensures.items in
      seeking.seeks-found g.R.Rules.rule h c.args.depth p _ _ _ taken _ s _ _ _ _ _ c.next_move.ensures.unchanged c.next_move.ensures.within
      c.in-Some-next_move.ensures.next c.push.ensures.items (search (rules, c.len.ensures.value));
}

pub play-undo-requires-clause-pseudo : goal.play-undo-requires-clause-pseudo
play-undo-requires-clause-pseudo g c = search (rules, may_be_made, c.next_move.ensures.unchanged, c.in-Some-next_move.ensures.next)

pub returns : goal.returns
returns g c = record {
  seeks = λ h p s.
      let taken = rw (← c.top.view_is) at c.in-Some.ensures.items in
      seeking.seeks-deeper g.R.Rules.rule h c.args.depth p _ _ _ taken _ s _ _ _ _ _ c.next_move.ensures.unchanged c.next_move.ensures.within
      c.in-Some-next_move.ensures.next c.push.ensures.items _ _ _ (search (rules, c.len.ensures.value)) c.play-undo.ensures.undo
      c.play-undo.ensures.after (rw c.idle.ensures at c.push-2.ensures.items);
}
