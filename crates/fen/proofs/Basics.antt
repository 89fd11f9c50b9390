-- Definitions and lemmas that most proofs use.
pub use Rattle.std.proofs.Common.{Bool, List, MatchBool, None, Option, Some, [], ap, arith, cond, drop, eqb, false, get_or, inl, inr, leb, length, map, not, refl, rules, set, subst, suc, sym, true, zero, ℕ, ◌%◌, ◌&&◌, ◌*◌, ◌+◌, ◌++◌, ◌-◌, ◌/◌, ◌<◌, ◌||◌, ◌∙◌, ◌∷◌, ◌≡◌, ◌≢◌, ◌≤◌, ◌⊎◌, append-nil, append_assoc}
pub use Rattle.std.proofs.lemmas.Bool.{and_from, and_left, and_parts, and_right, cases_Bool, cases_eq, cases_lt, cond-false, cond-true, eq-eqb, eqb-true, false_from_ne_true, le-leb, leb-true, ne_eqb, not-false, not-true, true_from_ne_false}
pub use Rattle.std.proofs.lemmas.Result.{err_from_is_err_and}
pub use Rattle.std.proofs.lemmas.List.{ext_get_or}
