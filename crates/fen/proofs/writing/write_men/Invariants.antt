use Rattle.fen.proofs.Basics.{List, [], ◌++◌, ◌%◌, ◌+◌, ◌-◌, ◌≡◌, ◌≤◌, ℕ}
use Rattle.std.specs.Fmt.{HasWritten, IsPlainFormatter}
use Rattle.fen.specs.ties.Reading.{text_from}
use Rattle.fen.proofs.Written.{with_empties}
use Rattle.fen.proofs.writing.write_men.Given as goal

-- what is written so far, and what is left
abbrev pub invariant-loop-number : goal.invariant-loop-number
invariant-loop-number g l =
    (l.empty + (64 - l.number) % 8 ≤ 8) × ((64 - l.number) % 8 ≡ 0 → l.empty ≡ 0)
    × (IsPlainFormatter l.initial.f → (done : List ℕ) × HasWritten g.W.Write.write_str_gives l.initial.f done l.f
    × (done ++ with_empties l.empty (text_from l.diagram.men (64 - l.number) []) ≡ text_from l.diagram.men 64 []))
