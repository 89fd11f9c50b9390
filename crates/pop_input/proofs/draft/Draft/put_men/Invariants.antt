use Rattle.pop_input.proofs.Words.{drop, men_fault, put_men, ◌≡◌}
use Rattle.pop_input.proofs.draft.Draft.put_men.Given as goal

-- what is left to do is to put the man on the rest
abbrev pub invariant-loop-square : goal.invariant-loop-square
invariant-loop-square l = record {
  fault : men_fault l.fn.self.men l.man l.squares ≡ men_fault l.self.men l.man (drop l.square-index l.squares);
  men : put_men l.fn.self.men l.man l.squares ≡ put_men l.self.men l.man (drop l.square-index l.squares);
  rest : l.self ≡ record l.fn.self { men = l.self.men };
}
