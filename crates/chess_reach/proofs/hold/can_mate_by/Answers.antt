use Rattle.std.proofs.Common.{length, rules, ◌<◌, ◌≡◌, slice_index_or}
use Rattle.chess_reach.proofs.Trying.{arrives_in, arrives_within, found_at, from_there, in_post, narrowed_post}
use Rattle.chess_reach.specs.ties.Guards.{guard_at, unused}
use Rattle.chess_reach.specs.ties.Hold.{end_at}
use Rattle.chess_reach.proofs.hold.can_mate_by.Goals as goal

pub returns-in_default : goal.returns-in_default
returns-in_default c men ends holds checks =
    let q = c.args.quest.now in
    let i = c.args.checker in
    let left = c.args.posts.now in
    let lt = c.requires.checker in
    let g = slice_index_or q.guards i c.index-quest-checker.result in
    let is : guard_at q.guards i ≡ g = found_at q.guards i unused c.index-quest-checker.result (search rules) in
    let e = end_at q ends i in
    absurd (arrives_within q men ends left _ _ _ i g is lt holds q.ending.standing_checks c.within-squares.result c.in_default.ensures.kept
    (c.within-squares.ensures g.kind e.kind e.square (in_post q men ends left _ _ _ i g is lt holds)
    (from_there q men ends left _ _ _ i g is lt holds q.king c.guarding-guarding.result c.guarding-guarding.ensures checks.0)) checks.1)

pub returns : goal.returns
returns c men ends holds checks =
    let q = c.args.quest.now in
    let i = c.args.checker in
    let left = c.args.posts.now in
    let lt = c.requires.checker in
    let room : i < length left = search rules in
    let g = slice_index_or q.guards i c.index-quest-checker.result in
    let is : guard_at q.guards i ≡ g = found_at q.guards i unused c.index-quest-checker.result (search rules) in
    let e = end_at q ends i in
    c.can_hold.ensures men ends (narrowed_post q men ends left _ _ _ i g is lt holds c.in-Some.kept room
    (arrives_in q men ends left _ _ _ i g is lt holds q.ending.standing_checks c.within-squares.result c.in-Some.kept c.in-Some.ensures.kept
    (c.within-squares.ensures g.kind e.kind e.square (in_post q men ends left _ _ _ i g is lt holds)
    (from_there q men ends left _ _ _ i g is lt holds q.king c.guarding-guarding.result c.guarding-guarding.ensures checks.0)) checks.1) c.in-Some.ensures.within.0)
