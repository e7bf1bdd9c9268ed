-- Equality, truth, lists and steps, as lemmas name them.
pub use Rattle.std.proofs.Common.{◌≡◌, ℕ, ◌+◌, ◌<◌, ◌≤◌, ◌^◌, Bool, true, false, not, ◌&&◌, ◌||◌, ◌==◌, nat_le}
pub use Rattle.std.proofs.Common.{List, [], ◌∷◌, ◌++◌, length, decimal, Option, Some, None, is_some}
pub use Rattle.std.proofs.Common.{unwrap_or, slice_get, refl, ap, ◌∙◌, arith, Result, Ok, Err, sym, subst, ◌⊎◌}
pub use Rattle.std.proofs.Common.{inl, inr, length-append, cond, bytes_eq, option_map, codes, nat_lt}
pub use Rattle.std.proofs.Common.{map, suc, take, get_or, append_assoc, sum_by, drop}
pub use Rattle.std.proofs.lemmas.Bool.{and_from, or_from, le-leb, not_from_true, le-ltb, lt-leb, and_parts}
pub use Rattle.std.proofs.lemmas.Bool.{lt-ltb, false_from_ne_true, or_parts, or_cases, or_right, eqb-true}
pub use Rattle.std.proofs.lemmas.Bool.Decides.{Decides-eqb, nat_tests}
pub use Rattle.std.proofs.lemmas.Fmt.{decimal_injective, length-decimal-le, decimal_digit, decimal-digits_value}
pub use Rattle.std.proofs.lemmas.List.{append-nil, length-map, map-append, length-take, take_more}
pub use Rattle.std.proofs.lemmas.List.{get_or-map, drop-map, take_all, drop_all, take-map}
pub use Rattle.std.proofs.lemmas.List.Elements.{All-head, All-tail, All-weaker, All-push, All-nil, All-cons, All-get_or, All-drop}
pub use Rattle.std.proofs.lemmas.List.Folds.{list_any_at, list_any-append, list_all-append}
pub use Rattle.std.proofs.lemmas.List.Sums.{sum_by-cons, sum_by_more_le, fold-append}
pub use Rattle.std.proofs.lemmas.Option.{slice_get_within, slice_get-get_or, unwrap_or-slice_get, slice_get-map}
pub use Rattle.std.proofs.lemmas.Result.{IfOk-equal, err_from_is_err_and}
pub use Rattle.std.specs.Borrow.{Bor}
pub use Rattle.std.specs.Char.{is_ascii_digit, is_ascii_lowercase}
pub use Rattle.std.specs.Int.{is_in_range}
pub use Rattle.std.specs.Io.{StartsWith}
pub use Rattle.std.specs.List.{list_any, flat_map, list_all}
pub use Rattle.std.specs.Prelude.{IsSomeAnd, IsTrue, IsSome, IfOk, IfErr, All, OnOk, is_err, IfSome}

-- texts in a row, as a table of names has them
abbrev pub Texts : Type 0
Texts = List (List ℕ)
