use Rattle.pop_walk.proofs.Words.{arith, eqb, false, not, refl, rules, ◌≡◌}
use Rattle.pop_walk.proofs.Walking as walking
use Rattle.pop_walk.specs.ties.Counts.{tries_all}
use Rattle.pop_walk.proofs.walk.step.Goals as goal

pub next_of_top-requires : goal.next_of_top-requires
next_of_top-requires g c = (
  search rules,
  (
    c.requires.well_formed,
    (
      c.requires.«open»,
      λ below top stood. walking.top_cursor g.R.Rules.rule c.args.mode c.args.half_moves top _ below stood _ _ c.requires.walking.1,
    ),
  ),
)

pub step_back-requires : goal.step_back-requires
step_back-requires g c = λ deep.
    let off = walking.popped_off _ _ _ _ _ _ _ _ _ _ c.next_of_top.ensures.top c.in-Some-pop.ensures.items in
    rw (off.1, c.next_of_top.ensures.unchanged)
    (walking.back_asks g.R.Rules.rule c.args.half_moves _ _ _ off.0 _ _ _ c.requires.walking.1
    (walking.depth_below _ _ _ _ off.0 c.len-depth.ensures.value) deep)

pub returns-in-Some-pop : goal.returns-in-Some-pop
returns-in-Some-pop g c =
    let on = c.next_of_top.ensures.top in
    let off = walking.popped_off _ _ _ _ _ _ _ _ _ _ on c.in-Some-pop.ensures.items in
    let before = rw off.1 at c.step_back.ensures.before in
    let taken = walking.close_steps g.R.Rules.rule c.args.mode c.args.half_moves _ _ _ off.0 _ _ _ _ _ _ _
    c.next_of_top.ensures.unchanged (walking.depth_below _ _ _ _ off.0 c.len-depth.ensures.value)
    (rw c.in_default.is at on.next) c.step_back.ensures.lowest before in
    record { steps = λ p r. (taken p r).0; counts = λ p r. (taken p r).1 }

pub line_ends_after-ends-requires : goal.line_ends_after-ends-requires
line_ends_after-ends-requires g c =
    let on = c.next_of_top.ensures.top in
    let top = walking.top_is _ _ _ _ _ _ _ _ _ on _ (rw (← c.top.view_is) at c.top_of-top.ensures) in
    let next = rw c.in-Some.is at on.next in
    let line_ends = walking.top_ends g.R.Rules.rule c.args.mode c.args.half_moves _ _ _ on.stood _ _ _ _ c.requires.walking.1
    c.next_of_top.ensures.unchanged next.0 refl in
    record { well_formed = search rules; legal = search (rules, next); line_ends = search (rules, top.0, top.1, line_ends) }

pub returns-then-is_out_of_reach : goal.returns-then-is_out_of_reach
returns-then-is_out_of_reach g c =
    let on = c.next_of_top.ensures.top in
    let top = walking.top_is _ _ _ _ _ _ _ _ _ on _ (rw (← c.top.view_is) at c.top_of-top.ensures) in
    let depth = walking.depth_below _ _ _ _ on.stood c.len-depth.ensures.value in
    let none = c.if-is_out_of_reach.ensures refl in
    let ends = rw (top.0, none.1) at c.line_ends_after-ends.ensures.ends in
    let part : tries_all (not (eqb g.row.PRUNES 0)) c.args.mode.battle ≡ false = rw (ends.0, ends.1.help) refl in
    let taken = walking.leave_steps g.R.Rules.rule c.args.mode c.args.half_moves _ _ _ on.stood _ _ _ _ _ _ _ _ _ c.next_of_top.ensures.unchanged
    depth (rw c.in-Some.is at on.next) on.within on.stands _ _ part ends.1.help (rw none.2 at ends.1.ends) c.line_ends_after-ends.ensures.unchanged in
    record { steps = λ p r. (taken p r).0; counts = λ p r. (taken p r).1 }

pub returns : goal.returns
returns g c =
    let on = c.next_of_top.ensures.top in
    let left = (walking.top_is _ _ _ _ _ _ _ _ _ on _ (rw (← c.top.view_is) at c.top_of-top.ensures)).0 in
    let depth = walking.depth_below _ _ _ _ on.stood c.len-depth.ensures.value in
    let taken = walking.enter_steps g.R.Rules.rule c.args.mode c.args.half_moves _ _ _ on.stood _ _ _ _ _ _ _ _ _ c.next_of_top.ensures.unchanged
    depth (rw c.in-Some.is at on.next) on.within on.stands _ _ _ _ _ _
    (walking.at_root _ _ (omega (arith, c.next_of_top.ensures.len, c.len-depth.ensures.value, c.requires.«open»)))
    (rw (left, c.line_ends_after-ends.ensures.unchanged) at c.enter-emitted.ensures.unfollowed)
    (rw (left, c.line_ends_after-ends.ensures.unchanged) at c.enter-emitted.ensures.enters)
    (rw (left, c.line_ends_after-ends.ensures.unchanged) at c.enter-emitted.ensures.counts) in
    let kept = walking.kept_steps g.R.Rules.rule c.args.mode c.args.half_moves _ _ _ on.stood _ _ _ _ _ _ _ _ _ c.next_of_top.ensures.unchanged
    depth (rw c.in-Some.is at on.next) on.within on.stands _ _ _ _ _ _ _ (not (eqb g.row.PRUNES 0)) _ (rw left at c.line_ends_after-ends.ensures.ends)
    c.keep_line_ends.ensures (rw (left, c.line_ends_after-ends.ensures.unchanged) at c.enter-emitted.ensures.enters) in
    record { steps = λ p r. (kept p (taken p r)).0; counts = λ p r. (kept p (taken p r)).1 }

pub enter-emitted-requires : goal.enter-emitted-requires
enter-emitted-requires g c =
    let on = c.next_of_top.ensures.top in
    let left = (walking.top_is _ _ _ _ _ _ _ _ _ on _ (rw (← c.top.view_is) at c.top_of-top.ensures)).0 in
    let next = rw c.in-Some.is at on.next in
    let room = walking.room_with_it g.R.Rules.rule c.args.mode c.args.half_moves _ _ _ on.stood _ _ c.requires.walking.1 in (
      search rules,
      (
        search rules,
        (
          omega (arith, room, left, next.0, c.requires.room, c.next_of_top.ensures.len),
          (search (rules, next), search (rules, left, rw c.in-Some.is at on.mated)),
        ),
      ),
    )
