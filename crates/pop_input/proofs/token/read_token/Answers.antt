use Rattle.pop_input.proofs.Words.{[], ap, is_some, is_text_word, sym, text_word_of, ◌∙◌}
use Rattle.pop_input.proofs.Taking.{line_token, cut_token, none_within}
use Rattle.pop_input.proofs.Used.{line_cut, line_some, some_run, some_then}
use Rattle.pop_input.proofs.token.read_token.Goals as goal

pub returns-in-Ok-clause-token : goal.returns-in-Ok-clause-token
returns-in-Ok-clause-token g c =
    let w = rw c.in-Ok-Word.field-0-is at c.in-Ok-Word.ensures.word in
    line_token c.args.scanner.now c.read_word.new.self c.rest_of_line.new.self (g.S.Source.remaining c.args.source.now)
    (g.S.Source.remaining c.read_word.new.source) (g.S.Source.remaining c.rest_of_line.new.source)
    c.read_word.new.word c.in-Some.keyword w.0 (ap text_word_of (sym c.as_slice.ensures.value) ∙ sym c.text_word_of.ensures.value ∙ c.in-Some.is)
    (ap is_text_word (sym c.as_slice.ensures.value) ∙ sym c.text_word_of.ensures.is ∙ ap is_some c.in-Some.is) c.in-Ok.line w.2 (c.in-Ok.ensures.text _)

pub returns-in-Err-rest_of_line-clause-token : goal.returns-in-Err-rest_of_line-clause-token
returns-in-Err-rest_of_line-clause-token g c =
    let w = rw c.in-Ok-Word.field-0-is at c.in-Ok-Word.ensures.word in
    cut_token c.args.scanner.now c.read_word.new.self c.rest_of_line.new.self (g.S.Source.remaining c.args.source.now)
    (g.S.Source.remaining c.read_word.new.source) (g.S.Source.remaining c.rest_of_line.new.source)
    c.read_word.new.word c.in-Some.keyword w.0 (ap text_word_of (sym c.as_slice.ensures.value) ∙ sym c.text_word_of.ensures.value ∙ c.in-Some.is)
    (ap is_text_word (sym c.as_slice.ensures.value) ∙ sym c.text_word_of.ensures.is ∙ ap is_some c.in-Some.is) c.in-Err-rest_of_line.fault c.args.text.now w.2
    (c.in-Err-rest_of_line.ensures.text _)

pub returns-in-Ok-clause-within : goal.returns-in-Ok-clause-within
returns-in-Ok-clause-within g c = (c.in-Ok.ensures.text []).4

pub returns-in-Err-rest_of_line-clause-within : goal.returns-in-Err-rest_of_line-clause-within
returns-in-Err-rest_of_line-clause-within g c = none_within _ _ _ _ c.in-Err-rest_of_line.fault (c.in-Err-rest_of_line.ensures.text [])

pub returns-in-Ok-clause-used : goal.returns-in-Ok-clause-used
returns-in-Ok-clause-used g c =
    let word = rw c.in-Ok-Word.field-0-is at c.in-Ok-Word.ensures.used in
    some_then (some_run word.0) (line_some c.in-Ok.line c.in-Ok.ensures.used)

pub returns-in-Err-rest_of_line-clause-used : goal.returns-in-Err-rest_of_line-clause-used
returns-in-Err-rest_of_line-clause-used g c =
    let word = rw c.in-Ok-Word.field-0-is at c.in-Ok-Word.ensures.used in
    let line = c.in-Err-rest_of_line.ensures in
    line_cut _ c.in-Err-rest_of_line.fault (some_run word.0) line.used (line.text []) line.sticks
