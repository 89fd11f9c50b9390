-- What a run does (own).
use Rattle.std.specs.Prelude.{◌≡◌, ◌≤◌, ℕ, ◌+◌, ◌-◌, List, [], ◌∷◌, ◌++◌, length, take, drop, count_by, Option, None, Some, Bool, true, false, nat_lt, ◌⊎◌}
use Rattle.std.specs.List.{list_all}
use Rattle.pop_text.specs.Bytes.{Appends, Begins}
use Rattle.pop_text.specs.Words.{Input, Clean, Failed, Token, Word, Words, is_line_end, limit, words_from, words_of, window_size}
use Rattle.pop_input.specs.Blocks.{closing_of}
use Rattle.pop_input.specs.Names.{closes, command_of}
use Rattle.pop_input.specs.declared.names.Command.{Command}
use Rattle.pop_input.specs.declared.names.Command.TheVariants.{Begin, Enter, Next, Last}
use Rattle.pop_run.specs.Report.{Choice, ItemText, entry_text, report_by, status}
use Rattle.pop_run.specs.declared.status.Status.{Status}
use Rattle.pop_run.specs.declared.status.Status.TheVariants.{OutputFailed}

-- the bytes that were taken from a source
abbrev pub taken_of : List ℕ → Option (List ℕ) → List ℕ
taken_of had None = []
taken_of had (Some left) = take (length had - length left) had

-- the input that a run meets: all bytes with a clean end; or, if the source failed, the bytes taken before with a failed
-- end
abbrev pub input_met : Bool → List ℕ → Option (List ℕ) → Input
input_met true had left = record { bytes = taken_of had left; ending = Failed }
input_met false had left = record { bytes = had; ending = Clean }

-- at most one call failed, by the counts of failures before and after
abbrev pub FailsOnce : ℕ → ℕ → Type 0
FailsOnce before now = now ≤ before + 1

-- whether a count of failures has grown
abbrev pub has_grown : ℕ → ℕ → Bool
has_grown old new = nat_lt old new

-- whether a command, or no command, isn't EndProblem
abbrev pub is_no_end_problem : Option Command → Bool
is_no_end_problem (Some Last) = false
is_no_end_problem (Some Next) = true
is_no_end_problem (Some Begin) = true
is_no_end_problem (Some (Enter section)) = true
is_no_end_problem None = true

-- whether a token isn't EndProblem
abbrev pub is_no_end_problem_token : Token → Bool
is_no_end_problem_token token = is_no_end_problem (closing_of token)

-- how many tokens close an item
abbrev pub closings : List Token → ℕ
closings tokens = count_by (λ token. closes (closing_of token)) tokens

-- The bytes used end with a word that closes an item. It is the last of these tokens, and no token before it is
-- EndProblem.
pub record EndsWithItem (used : List ℕ) (tokens : List Token) : Type 0 where
  pub before : List ℕ
  pub word : List ℕ
  pub bytes : used ≡ before ++ word
  pub front : List Token
  pub line : ℕ
  pub last : tokens ≡ front ++ Word line word ∷ []
  pub closes_one : closes (command_of word) ≡ true
  pub none : list_all is_no_end_problem_token front ≡ true

-- The bytes used are all bytes of the input, up to its limit, and none of these tokens is EndProblem.
pub record EndsWithInput (input : Input) (used : List ℕ) (tokens : List Token) : Type 0 where
  pub all : used ≡ take limit input.bytes
  pub none : list_all is_no_end_problem_token tokens ≡ true

-- the words of an input after these bytes
abbrev pub words_after : List ℕ → Input → Words
words_after used input = words_from None (limit - length used) (1 + count_by is_line_end used)
    (record { bytes = drop (length used) input.bytes; ending = input.ending })

-- How far a run reads. The bytes that it takes are those that it uses, and at most a window more, which wait in it.
-- The bytes that it uses end with the word that closes the last item: the first EndProblem, unless the sink fails
-- before. If no word closes that item, the run uses all bytes of the input.
pub record ReadsUpTo (input : Input) (taken : List ℕ) : Type 0 where
  pub used : List ℕ
  pub waiting : List ℕ
  pub whole : taken ≡ used ++ waiting
  pub few : length waiting ≤ window_size
  pub tokens : List Token
  pub words : (words_of input).tokens ≡ tokens ++ (words_after used input).tokens
  pub stops : EndsWithItem used tokens ⊎ EndsWithInput input used tokens

-- A run writes the texts of the input's items and returns the input's status. If the sink fails, it writes a beginning
-- of these texts, not all of them, and returns `OutputFailed`.
abbrev pub RunsBy : ItemText → Input → Option (List ℕ) → Option (List ℕ) → Bool → Status → Type 0
RunsBy text input before now false answer = Appends before now (report_by text input)
    × (answer ≡ status input)
RunsBy text input before now true answer = Begins before now (report_by text input)
    × (answer ≡ OutputFailed)

-- a run that writes the report of the input
abbrev pub Runs : Choice → Input → Option (List ℕ) → Option (List ℕ) → Bool → Status → Type 0
Runs choice = RunsBy (entry_text choice)
