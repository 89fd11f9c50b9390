-- The page receives the bytes that the programs write for a text, and the number of their status.
use Rattle.std.proofs.Common.{List, Some, [], ap, false, length, sym, take, ℕ, ◌<◌, ◌↔◌, ◌∙◌, ◌≡◌, ◌≢◌}
use Rattle.pop_run.specs.Report.{ItemText}
use Rattle.pop_run.specs.Run.{RunsBy}
use Rattle.pop_run.specs.declared.status.Status.{Status}
use Rattle.pop_run.specs.declared.status.Status.TheVariants.{OutputFailed}
use Rattle.pop_parts.specs.Runs.{Shows as PartsRun}
use Rattle.pop_parts.specs.declared.request.PartRequest.{PartRequest}
use Rattle.pop_parts.specs.declared.request.Outcome.{Outcome}
use Rattle.pop_parts.specs.declared.request.Outcome.TheVariants.{OutputFailed as PartsCut}
use Rattle.pop_web.proofs.Filled.{items_cut, items_first, items_whole, part_cut, part_first, part_whole}
use Rattle.pop_web.specs.Page.{ShowsItems, ShowsParts, status_number, outcome_number, room, whole_input}

-- The bytes that a page is shown of a text, and those that a program writes of it: the report of `pops`, the list of `pops-part`, or the report of
-- `pops-tries`. `items` is the text of an item, by its number.
module _ (items : ItemText) (text shown written : List ℕ) (answer : ℕ) (ends : Status)
    (writes : RunsBy items (whole_input text) (Some []) (Some written) false ends) where
  -- if they aren't cut, the bytes are those that the program writes, and the result is the number of its status
  pub same_as_the_program : ShowsItems items text shown answer → answer ≢ status_number OutputFailed → (shown ≡ written) × (answer ≡ status_number ends)
  same_as_the_program f other = let it = items_whole _ _ _ _ f other in (it.0 ∙ sym writes.0, it.1 ∙ ap status_number (sym writes.1))

  -- if they are cut, the bytes are the first of those that the program writes, as many as the output has
  pub first_of_the_program : ShowsItems items text shown answer → answer ≡ status_number OutputFailed → shown ≡ take room written
  first_of_the_program f over = items_first _ _ _ _ f over ∙ ap (λ now. take room now) (sym writes.0)

  -- the result says that they are cut exactly if the program writes more bytes than the output has
  pub cut_if_longer : ShowsItems items text shown answer → (answer ≡ status_number OutputFailed) ↔ (room < length written)
  cut_if_longer f = rw writes.0 (items_cut _ _ _ _ f)

-- The bytes that a page is shown of a part, and the text that `pops-part` writes of it.
module _ (request : PartRequest) (text shown written : List ℕ) (answer : ℕ) (ends : Outcome)
    (writes : PartsRun request (whole_input text) (Some []) (Some written) false ends) where
  -- if the part isn't cut, the bytes and the outcome are the program's
  pub same_part_as_the_program : ShowsParts request text shown answer → answer ≢ outcome_number PartsCut
      → (shown ≡ written) × (answer ≡ outcome_number ends)
  same_part_as_the_program f other = let it = part_whole _ _ _ _ f other in (it.0 ∙ sym writes.0, it.1 ∙ ap outcome_number (sym writes.1))

  -- if the part is cut, the bytes are the first of the program's
  pub first_of_the_part : ShowsParts request text shown answer → answer ≡ outcome_number PartsCut → shown ≡ take room written
  first_of_the_part f over = part_first _ _ _ _ f over ∙ ap (λ now. take room now) (sym writes.0)

  -- the result says that the part is cut exactly if the program writes more bytes than the output has
  pub part_cut_if_longer : ShowsParts request text shown answer → (answer ≡ outcome_number PartsCut) ↔ (room < length written)
  part_cut_if_longer f = rw writes.0 (part_cut _ _ _ _ f)
