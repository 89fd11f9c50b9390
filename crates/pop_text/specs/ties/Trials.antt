-- What trial sources return and trial sinks take, call by call (own).
use Rattle.std.specs.Prelude.{◌≡◌, ◌≢◌, ◌<◌, ◌+◌, ◌-◌, ℕ, zero, suc, min, List, [], ◌∷◌, ◌++◌, length, take, drop, Option, Some, None, option_map, Result, Ok, Err}

-- the first n bytes of `rest` followed by the text over and over
abbrev pub cycled_bytes : List ℕ → List ℕ → ℕ → List ℕ
cycled_bytes text rest zero = []
cycled_bytes text (b ∷ rest) (suc n) = b ∷ cycled_bytes text rest n
cycled_bytes [] [] (suc n) = []
cycled_bytes (b ∷ text) [] (suc n) = b ∷ cycled_bytes (b ∷ text) text n

-- the first n bytes of the text over and over
abbrev pub repeated_bytes : List ℕ → ℕ → List ℕ
repeated_bytes text n = cycled_bytes text text n

-- the state of a trial source: the text, the rest of this round, the number of bytes still to come, the greatest number
-- of bytes a call, the number of bytes before the failure, and the count of failures
pub record TrialInput : Type 0 where
  pub text : List ℕ
  pub rest : List ℕ
  pub left : ℕ
  pub at_most : ℕ
  pub until_failure : Option ℕ
  pub failures : ℕ

-- n, or the number of bytes before the failure if that is less
abbrev pub before_failure : Option ℕ → ℕ → ℕ
before_failure None n = n
before_failure (Some until) n = min n until

-- the rest of a round, or the next round if it is over
abbrev pub round_from : List ℕ → List ℕ → List ℕ
round_from text [] = text
round_from text (b ∷ rest) = b ∷ rest

-- the rest of the source's round, or the next round if it is over
abbrev pub round_of : TrialInput → List ℕ
round_of trial = round_from trial.text trial.rest

-- how many bytes a call returns into a buffer of this size
abbrev pub bytes_handed_out : TrialInput → ℕ → ℕ
bytes_handed_out trial room = before_failure trial.until_failure
    (min (min (min (length (round_of trial)) room) trial.left) trial.at_most)

-- a call of a trial source: it fails exactly where the failure is due, and otherwise returns as many bytes as it may
abbrev pub Gives : {E : Type 0} → TrialInput → TrialInput → ℕ → Result ℕ E → Type 0
Gives old new room (Ok n) = (old.until_failure ≢ Some 0) × (n ≡ bytes_handed_out old room)
    × (new ≡ record old {
      rest = drop n (round_of old);
      left = old.left - n;
      until_failure = option_map (λ until. until - n) old.until_failure;
    })
Gives old new room (Err e) = (old.until_failure ≡ Some 0)
    × (new ≡ record old { until_failure = None; failures = old.failures + 1 })

-- the state of a trial sink: the bytes taken, the greatest number of bytes a call, the number of bytes before the
-- failure, and the count of failures
pub record TrialOutput : Type 0 where
  pub taken : List ℕ
  pub at_most : ℕ
  pub until_failure : Option ℕ
  pub failures : ℕ

-- how many bytes of a text a call takes, if the sink has room for `size` bytes
abbrev pub bytes_accepted : ℕ → TrialOutput → List ℕ → ℕ
bytes_accepted size trial text = before_failure trial.until_failure
    (min (min (length text) (size - length trial.taken)) trial.at_most)

-- a call of a trial sink: it fails exactly if it can take no byte of the text, because the failure is due or it is full
abbrev pub Accepts : {E : Type 0} → ℕ → TrialOutput → TrialOutput → List ℕ → Result ℕ E → Type 0
Accepts size old new text (Ok n) = (0 < length text → 0 < n) × (n ≡ bytes_accepted size old text)
    × (new ≡ record old {
      taken = old.taken ++ take n text;
      until_failure = option_map (λ until. until - n) old.until_failure;
    })
Accepts size old new text (Err e) = (0 < length text) × (bytes_accepted size old text ≡ 0)
    × (new ≡ record old { until_failure = None; failures = old.failures + 1 })
