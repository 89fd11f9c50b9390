-- Words and lemmas of the standard library and of `clap` that most proofs name.
pub use Rattle.std.proofs.Common.{Bool, List, None, Option, Some, [], ap, ap₂, arith, codes, false, inl, inr, length, map, option_map, refl, rules, sym, true, ℕ, ◌++◌, ◌+◌, ◌-◌, ◌∙◌, ◌∷◌, ◌≡◌, ◌≢◌, ◌≤◌}
pub use Rattle.std.proofs.lemmas.Result.{IfErr-weaker, IfOk-weaker}
pub use Rattle.std.specs.Prelude.{string_bytes}
pub use Rattle.clap.specs.Simple.{app_of, is_simple, matches_of, new_rule, with_rule}
pub use Rattle.clap.specs.Takes.{takes}
pub use Rattle.clap.specs.Walk.{Text, first_of, one_of}
