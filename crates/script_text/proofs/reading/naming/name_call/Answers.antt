use Rattle.script_text.proofs.Common.{◌≡◌, ◌∙◌, Bool, true, false, cond, List, sym, ap, refl, Err, list_any}
use Rattle.script_text.specs.declared.reading.written.WrittenCall.{WrittenCall}
use Rattle.script_text.proofs.Forms.{kept_argument, kept_call, is_wide_word, is_long_word, target_named, call_named}
use Rattle.script_text.proofs.KeySets.{any-map}
use Rattle.script_text.proofs.reading.naming.name_call.Goals as goal
use Rattle.script_text.specs.declared.reading.cause.LineCause.TheVariants as causes
use Rattle.script_text.specs.declared.fault.Which.TheVariants as which

-- the test of the arguments as they are kept is that of their words
by_wide : (names : List (List _)) (c : WrittenCall) (t : Bool) → t ≡ list_any (λ a. is_wide_word (kept_argument a)) c.args.items →
    call_named names (kept_call c) ≡ cond t (Err (causes.Limit which.Integer)) (cond (list_any is_long_word (kept_call c).args) (Err (causes.Limit which.Term)) (target_named names (kept_call c)))
by_wide names c t e =
    ap (λ b. cond b (Err (causes.Limit which.Integer)) (cond (list_any is_long_word (kept_call c).args) (Err (causes.Limit which.Term)) (target_named names (kept_call c)))) (sym (any-map (λ a. is_wide_word (kept_argument a)) is_wide_word kept_argument (λ a. refl) c.args.items) ∙ sym e)

by_long : (names : List (List _)) (c : WrittenCall) (t : Bool) → false ≡ list_any (λ a. is_wide_word (kept_argument a)) c.args.items → t ≡ list_any (λ a. is_long_word (kept_argument a)) c.args.items →
    call_named names (kept_call c) ≡ cond t (Err (causes.Limit which.Term)) (target_named names (kept_call c))
by_long names c t narrow e =
    by_wide names c false narrow
    ∙ ap (λ b. cond b (Err (causes.Limit which.Term)) (target_named names (kept_call c))) (sym (any-map (λ a. is_long_word (kept_argument a)) is_long_word kept_argument (λ a. refl) c.args.items) ∙ sym e)

-- an integer is too wide
pub returns-then-are_wide : goal.returns-then-are_wide
returns-then-are_wide c = by_wide c.args.names.now c.args.call.now true (c.if-are_wide.ensures ∙ ap (list_any (λ a. is_wide_word (kept_argument a))) c.as_slice.ensures.value)

-- none is, and a term is too long
pub returns-then-are_long : goal.returns-then-are_long
returns-then-are_long c =
    by_long c.args.names.now c.args.call.now true (c.if-are_wide.ensures ∙ ap (list_any (λ a. is_wide_word (kept_argument a))) c.as_slice.ensures.value)
    (c.if-are_long.ensures ∙ ap (list_any (λ a. is_long_word (kept_argument a))) c.as_slice-2.ensures.value)

-- neither
pub returns : goal.returns
returns c =
    let is =
    by_long c.args.names.now c.args.call.now false (c.if-are_wide.ensures ∙ ap (list_any (λ a. is_wide_word (kept_argument a))) c.as_slice.ensures.value)
    (c.if-are_long.ensures ∙ ap (list_any (λ a. is_long_word (kept_argument a))) c.as_slice-2.ensures.value) in
    rw is c.name_target.ensures
