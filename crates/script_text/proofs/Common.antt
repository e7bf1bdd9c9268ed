-- Equality, truth, lists and steps, as lemmas name them.
pub use Rattle.mod_text.proofs.Common.{Texts}
pub use Rattle.std.proofs.Common.{◌≡◌, ℕ, Bool, true, false, cond, List, [], ◌∷◌, ◌++◌, refl, sym, ap, ◌∙◌, subst, append-nil, arith, ◌<◌, ◌&&◌}
pub use Rattle.std.proofs.Common.{◌==◌, nat_le, length, Some, None, codes, length-append, Option, is_some, unwrap_or, bytes_eq, ◌||◌, ◌≤◌, not, Ok}
pub use Rattle.std.proofs.Common.{Result, Err, OnOk, nat_lt, option_map, ◌+◌, get_or, drop, append_assoc, add-one, drop-cons, decimal, pos, is_none}
pub use Rattle.std.proofs.Common.{All, take}
pub use Rattle.std.proofs.lemmas.Bool.{and_parts, or_parts, le-ltb, and_from, false_from_ne_true, cases_lt, or_from, lt-ltb}
pub use Rattle.std.proofs.lemmas.Bool.Decides.{nat_tests, Decides-eqb}
pub use Rattle.std.proofs.lemmas.Grind.{flat_map-append, common_steps}
pub use Rattle.std.proofs.lemmas.List.{map-append, length-map, take-append-drop, drop_all, take_all}
pub use Rattle.std.proofs.lemmas.List.Elements.{All-head, All-tail, All-nil, All-push}
pub use Rattle.std.proofs.lemmas.List.Sums.{sum_by-append, sum_by-cons, fold-append}
pub use Rattle.std.proofs.lemmas.Option.{slice_get-map, slice_get_within}
pub use Rattle.std.proofs.lemmas.Result.{IfOk-equal, err_from_is_err_and}
pub use Rattle.std.specs.Fmt.{signed_decimal}
pub use Rattle.std.specs.List.{flat_map, AllByRecursion, list_any, list_all, join_with_byte}
pub use Rattle.std.specs.Prelude.{fold, sum_by, IsTrue, map, IfOk, IfErr, if◌then◌else◌, IfSome}
