use Rattle.chess_reach.proofs.Resting.{whole_files}
use Rattle.chess_reach.proofs.ways.whole_files.Goals as goal

pub returns : goal.returns
returns c s t small low on same = whole_files c.args.squares s t small low on same
