-- Equality, truth, lists and steps, as lemmas name them.
pub use Rattle.mod_text.proofs.Common.{Texts}
pub use Rattle.std.proofs.Common.{◌≡◌, ℕ, ◌+◌, false, List, Option, Some, None, Result, Ok, bytes_eq, codes, sym, ap, ◌∙◌, subst, Bool, true, ◌||◌}
pub use Rattle.std.proofs.Common.{◌==◌, [], ◌∷◌, ◌++◌, decimal, refl, arith, ◌<◌, length, IfSome, append_assoc, cond, ◌≤◌, nat_le, IfOk, Err, ◌≢◌}
pub use Rattle.std.proofs.Common.{◌-◌, not, nat_lt, is_some, append-nil, length-append, take, drop}
pub use Rattle.std.proofs.lemmas.Bool.{and_parts, and_from, not-true}
pub use Rattle.std.proofs.lemmas.Bool.Decides.{Decides-eqb, nat_tests}
pub use Rattle.std.proofs.lemmas.Grind.{flat_map-append, common_steps}
pub use Rattle.std.proofs.lemmas.List.{map-append, length-map, take-append-drop, take_all}
pub use Rattle.std.proofs.lemmas.Option.{slice_get-get_or, slice_get_within}
pub use Rattle.std.proofs.lemmas.Result.{err_from_is_err_and}
pub use Rattle.std.specs.List.{AllByRecursion, join_with_byte, flat_map, list_all}
pub use Rattle.std.specs.Prelude.{map, option_map}
