use Rattle.pop_walk.proofs.theorems.Solutions.{shown_paths_differ}
use Rattle.pop_solve.proofs.laws.no_path_comes_twice.Goals as goal

pub returns : goal.returns
returns c = shown_paths_differ
