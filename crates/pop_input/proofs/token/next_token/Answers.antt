use Rattle.pop_input.proofs.Words.{calls_then}
use Rattle.pop_input.proofs.Spans.{span_after, token_after, uses_after}
use Rattle.pop_input.proofs.token.next_token.Goals as goal

pub returns-clause-token : goal.returns-clause-token
returns-clause-token g c =
    let s = c.skip_to_token-start.ensures in
    token_after _ _ _ _ _ _ s.gap s.over _ _ _ c.read_token-token.ensures.token

pub returns-clause-used : goal.returns-clause-used
returns-clause-used g c =
    let s = c.skip_to_token-start.ensures in
    uses_after _ _ _ _ _ _ s.gap s.over _ _ c.read_token-token.ensures.used

pub returns-clause-span : goal.returns-clause-span
returns-clause-span g c =
    let s = c.skip_to_token-start.ensures in
    let t = c.read_token-token.ensures in
    span_after _ _ _ _ _ _ s.gap s.over _ _ _ _ _ _ t.token t.used s.used c.used-end.ensures c.range_of-range.ensures

pub returns-clause-calls_source : goal.returns-clause-calls_source
returns-clause-calls_source g c = calls_then c.skip_to_token-start.ensures.calls_source c.read_token-token.ensures.calls_source
