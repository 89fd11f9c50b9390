-- The limits in the definitions equal the constants in the code.
use Rattle.pop_text.proofs.Basics.{refl, ◌≡◌}
use Rattle.pop_text.specs.Words.{longest_text, longest_word, window_size}
use Rattle.pop_text.specs.declared.scanner.TheConstants.{WINDOW}
use Rattle.pop_text.specs.declared.text.TheConstants.{LONGEST_TEXT}
use Rattle.pop_text.specs.declared.word.TheConstants.{LONGEST_WORD}

window_is : WINDOW ≡ window_size
window_is = refl

word_is : LONGEST_WORD ≡ longest_word
word_is = refl

text_is : LONGEST_TEXT ≡ longest_text
text_is = refl
