-- What a call of `PartSearch::next` returns, and what it counts.
use Rattle.pop_parts.proofs.Words.{BareEvent, Frame, Gives, IsAtPathOf, IsPartOpened, part_walk, false, List, MatchOption, Move, None, Option, Phase, Posed, Position, RuleSet, Some, Progress, [], ap, drop, event_of, is_unstopped, left_of, play_start, refl, slice_get, true, ℕ, ◌&&◌, ◌≡◌}
use Rattle.pop_events.specs.declared.event.Event.{Event}
use Rattle.std.specs.Option.{option_map}
use Rattle.pop_walk.proofs.Counting.{counts_then-if}
use Rattle.pop_walk.specs.ties.Counts.{CountsOn, exactly, searches_all, untried_at}

module _ (rule : RuleSet) (problem : Posed) (old new : List BareEvent) (board : Position) (depth : ℕ) where
  -- the first event still to come, or none
  abbrev pub Returns : Option Event → Type 0
  Returns found = MatchOption found ((old ≡ []) × (board ≡ play_start problem) × (new ≡ [])) (λ event. Gives rule problem old new event board depth)

  pub event-is : (found : Option Event) → Returns found → found ≡ option_map (event_of rule problem) (slice_get old 0)
  event-is None g = rw g.0 refl
  event-is (Some event) g = rw g.left (ap Some g.event_is)

  pub left-is : (found : Option Event) → Returns found → new ≡ drop 1 old
  left-is None g = rw (g.0, g.2) refl
  left-is (Some event) g = rw g.left refl

  pub board-is : (found : Option Event) → Returns found
      → MatchOption (slice_get old 0) (board ≡ play_start problem) (λ bare. IsAtPathOf rule problem bare board depth)
  board-is None g = rw g.0 g.1
  board-is (Some event) g = rw g.left g.stands

-- the count holds on after a call
pub opened-on : (rule : RuleSet) (problem : Posed) (phase : Phase) (front : List Move) (progress next : Progress) (frames last : List Frame) (before after : ℕ)
    → CountsOn true rule problem progress next frames last before after
    → IsPartOpened rule problem phase front progress frames before → IsPartOpened rule problem phase front next last after
opened-on rule problem phase front progress next frames last before after x o help =
    counts_then-if false (searches_all true problem && is_unstopped (left_of rule problem progress frames)) (exactly (part_walk rule problem phase front))
    (untried_at rule problem progress frames) (untried_at rule problem next last) 0 before after (o help) x
