use Rattle.search_tests.proofs.made.Draft.put_number.Given as goal

-- the unit gets smaller, digit by digit
abbrev pub decreases-loop-unit : goal.decreases-loop-unit
decreases-loop-unit l = l.unit
