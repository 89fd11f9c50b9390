use Rattle.fen.proofs.Basics.{ap, rules, ◌∙◌}
use Rattle.std.proofs.Output.{has_written_append, has_written_of_eq}
use Rattle.fen.specs.Letters.{turn_letter}
use Rattle.fen.proofs.Ranks.{fen_written}
use Rattle.fen.proofs.writing.FenDisplay.fmt.Goals as goal

pub returns-clause-writes : goal.returns-clause-writes
returns-clause-writes g c = λ plain ok.
    let one = c.write_men.ensures plain (search rules) in
    let two = c.write_byte.ensures one.plain (search rules) in
    let three = c.write_byte-2.ensures two.plain (search rules) in
    let four = c.write_rights.ensures three.plain (search rules) in
    let five = c.write_byte-3.ensures four.plain (search rules) in
    let six = c.write_crossed.ensures five.plain ok in
    let is = c.self.view_is in
    has_written_of_eq _ _ _ _ _
    (fen_written c.args.self.now.diagram _ _ _ (c.turn_letter.ensures.value ∙ ap (λ d. turn_letter d.diagram.turn) is) (ap (λ d. d.diagram.unmoved) is) (ap (λ d. d.diagram.crossed) is))
    (has_written_append _ _ _ _ _ _ (has_written_append _ _ _ _ _ _ (has_written_append _ _ _ _ _ _ (has_written_append _ _ _ _ _ _
    (has_written_append _ _ _ _ _ _ one two) three) four) five) six)
