-- Examples of blocks: the words of a line, computed from the definitions.
use Rattle.pop_input.proofs.Words.{Word, [], codes, command_of, refl, ◌∷◌, ◌≡◌}
use Rattle.pop_input.proofs.Pieces.{tokens_at}
use Rattle.pop_input.proofs.theorems.Entries.{ClosedBlock, tokens_in}

-- the fourth line holds a block without men
line_holds_a_block : (block : ClosedBlock) × (tokens_at 4 (codes "beginproblem nextproblem") ≡ tokens_in block)
unfolding command_of
line_holds_a_block = (record { front = Word 4 (codes "beginproblem") ∷ []; line = 4; closer = codes "nextproblem"; plain = refl; closing = refl }, refl)

-- the first line holds a block that EndProblem closes: an input of one problem
only_line_holds_a_block : (block : ClosedBlock) × (tokens_at 1 (codes "beginproblem\tendproblem") ≡ tokens_in block)
unfolding command_of
only_line_holds_a_block = (
  record { front = Word 1 (codes "beginproblem") ∷ []; line = 1; closer = codes "endproblem"; plain = refl; closing = refl },
  refl,
)
