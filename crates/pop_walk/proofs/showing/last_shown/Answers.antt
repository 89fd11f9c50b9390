use Rattle.pop_walk.proofs.Words.{rules}
use Rattle.pop_walk.proofs.Paths as paths
use Rattle.pop_walk.proofs.showing.last_shown.Goals as goal

pub unplay_frame-requires : goal.unplay_frame-requires
unplay_frame-requires g c =
    let top = paths.topped-last _ _ c.index-frames-frames.is c.requires.deep in search (rules, paths.back-asks, c.requires.walking)

pub play_shown-requires : goal.play_shown-requires
play_shown-requires g c =
    let top = paths.topped-last _ _ c.index-frames-frames.is c.requires.deep in
    let back = c.unplay_frame.ensures.before in
    record {
      well_formed = (paths.back-walking g.R.Rules.rule top _ _ _ _ c.requires.walking.2 back).sound;
      legal = paths.back-is_legal g.R.Rules.rule top _ _ _ _ c.requires.walking.2 back;
      reached = paths.back-ended g.R.Rules.rule top _ _ _ _ c.requires.walking.2 back c.args.mode c.requires.ended _ c.reached_at-reached.ensures;
    }

pub returns : goal.returns
returns g c =
    let top = paths.topped-last _ _ c.index-frames-frames.is c.requires.deep in
    search (rules, paths.back-again, paths.back-shown, c.requires.walking, c.unplay_frame.ensures.before, c.play_shown.ensures)
