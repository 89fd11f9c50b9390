-- What a call that writes to memory shows.
use Rattle.std.proofs.Common.{Bool, List, arith, length, ℕ, ◌<◌, ◌≡◌, ◌≤◌}
use Rattle.pop_run.specs.Run.{has_grown}
use Rattle.pop_web.specs.Page.{Fills, room}

-- what a call wrote to a sink in memory
pub call_is_shown : (Ending : Type 0) (number : Ending → ℕ) (Does : List ℕ → Bool → Ending → Type 0) (taken shown : List ℕ)
    (failures answer : ℕ) (ending : Ending) → Does taken (has_grown 0 failures) ending → shown ≡ taken
    → length shown ≤ room → (0 < failures → length shown ≡ room) → answer ≡ number ending → Fills Ending number Does shown answer
call_is_shown Ending number Does taken shown failures answer ending does same fits full reported = record {
  cut = has_grown 0 failures;
  ending = ending;
  reported = reported;
  does = rw same does;
  fits = fits;
  full = λ cut. full (grind arith);
}
