-- What the clauses of the page's calls exclude: cutting a text before the output is full or one that fits, losing it,
-- reporting a faulty text as sound, and reporting a missing part as shown.
use Rattle.std.proofs.Common.{List, ap, arith, length, refl, ℕ, ◌∙◌, ◌≡◌, ◌≢◌, ◌≤◌}
use Rattle.pop_run.specs.Report.{ItemText, report_by, status}
use Rattle.pop_run.specs.declared.status.Status.TheVariants.{Faulty, OutputFailed, Sound}
use Rattle.pop_parts.specs.Parts.{outcome_of, text_of}
use Rattle.pop_parts.specs.declared.request.PartRequest.{PartRequest}
use Rattle.pop_parts.specs.declared.request.Outcome.TheVariants.{NoPart, OutputFailed as PartsCut, Shown}
use Rattle.pop_web.proofs.Filled.{items_cut, items_full, items_whole, part_cut, part_full, part_whole}
use Rattle.pop_web.specs.Page.{ShowsItems, ShowsParts, status_number, outcome_number, room, whole_input}

module _ (items : ItemText) (text shown : List ℕ) where
  -- texts of items aren't cut while there is room
  pub cut_items_fill_the_room : ShowsItems items text shown (status_number OutputFailed) → length shown ≢ room → ⊥
  cut_items_fill_the_room f less = less (items_full _ _ _ _ f refl)

  -- texts of items that fit aren't reported as cut
  pub items_that_fit_are_whole : ShowsItems items text shown (status_number OutputFailed) → length (report_by items (whole_input text)) ≤ room → ⊥
  items_that_fit_are_whole f fits = omega (arith, (items_cut _ _ _ _ f).0 refl, fits)

  -- other bytes aren't shown of a sound text
  pub no_other_items : ShowsItems items text shown (status_number Sound) → shown ≢ report_by items (whole_input text) → ⊥
  no_other_items f other = other (items_whole _ _ _ _ f (grind arith)).0

  -- a faulty text isn't reported as sound
  pub faulty_text_is_reported : ShowsItems items text shown (status_number Sound) → status (whole_input text) ≡ Faulty → ⊥
  faulty_text_is_reported f faulty = let same = (items_whole _ _ _ _ f (grind arith)).1 ∙ ap status_number faulty in grind arith

module _ (request : PartRequest) (text shown : List ℕ) where
  -- a part isn't cut while there is room
  pub cut_part_fills_the_room : ShowsParts request text shown (outcome_number PartsCut) → length shown ≢ room → ⊥
  cut_part_fills_the_room f less = less (part_full _ _ _ _ f refl)

  -- a part that fits isn't reported as cut
  pub part_that_fits_is_whole : ShowsParts request text shown (outcome_number PartsCut) → length (text_of request (whole_input text)) ≤ room → ⊥
  part_that_fits_is_whole f fits = omega (arith, (part_cut _ _ _ _ f).0 refl, fits)

  -- other bytes aren't the text of a part
  pub no_other_part : ShowsParts request text shown (outcome_number Shown) → shown ≢ text_of request (whole_input text) → ⊥
  no_other_part f other = other (part_whole _ _ _ _ f (grind arith)).0

  -- a part that the phase doesn't have isn't reported as shown
  pub missing_part_is_reported : ShowsParts request text shown (outcome_number Shown) → outcome_of request (whole_input text) ≡ NoPart → ⊥
  missing_part_is_reported f missing = let same = (part_whole _ _ _ _ f (grind arith)).1 ∙ ap outcome_number missing in grind arith
