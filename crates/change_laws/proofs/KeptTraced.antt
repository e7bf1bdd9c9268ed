-- Which functions have a breakpoint after each kind of change.
use Rattle.std.proofs.Common.{◌≡◌, ◌||◌, ◌&&◌, ℕ, Bool, true, false, cond, not, nat_eq, List, [], ◌∷◌, filter, refl, sym, ap, ◌∙◌, arith}
use Rattle.std.specs.List.{list_any}
use Rattle.std.proofs.lemmas.Bool.{and_parts, eqb-true}
use Rattle.std.proofs.lemmas.List.Folds.{list_any-append}
use Rattle.server_core.specs.declared.change.Change.{Change}
use Rattle.server_core.specs.declared.change.Change.TheVariants.{BringIn, ClearTrace, DropOld, SetTrace}
use Rattle.server_core.specs.ServerState.{Entry, ServerState, entry_of, is_same_entry, is_traced}
use Rattle.change_laws.specs.Breakpoints.{KeepsBreakpoints, traced_then}
use Rattle.change_laws.specs.Changes.{changed_state}
use Rattle.change_laws.proofs.Dropped.{load_leaves_rest}

pub traced_after : (s : ServerState) (change : Change) → KeepsBreakpoints change → (changed_state s change).traced ≡ s.traced
traced_after s (BringIn generation modules areas versions) keeps = (load_leaves_rest s modules.items).traced
traced_after s (DropOld generation name serial says retired) keeps = absurd keeps
traced_after s (SetTrace generation at traced) keeps = absurd keeps
traced_after s (ClearTrace generation at) keeps = absurd keeps
traced_after s change keeps = refl

-- ---- each function

-- one of these, or one more
or_chosen : (a b : Bool) → (a || (b || false)) ≡ cond b true a
or_chosen true true = refl
or_chosen true false = refl
or_chosen false true = refl
or_chosen false false = refl

-- what a filter keeps that drops just what passes the test
pub any_without : {X : Type 0} (test drop : X → Bool) (gone : Bool) (xs : List X) → ((x : X) → test x ≡ true → drop x ≡ gone) → list_any test (filter (λ x. not (drop x)) xs) ≡ cond gone false (list_any test xs)
any_without test drop true [] same = refl
any_without test drop false [] same = refl
any_without test drop gone (x ∷ xs) same = by gone (drop x) (test x) refl (same x) (any_without test drop gone xs same)
  where
    by : (g d t : Bool) → test x ≡ t → (test x ≡ true → d ≡ g) → list_any test (filter (λ x. not (drop x)) xs) ≡ cond g false (list_any test xs)
        → list_any test (cond (not d) (x ∷ filter (λ x. not (drop x)) xs) (filter (λ x. not (drop x)) xs)) ≡ cond g false (t || list_any test xs)
    by true true t e h rest = rest
    by true false true e h rest = absurd (let never = h e in cc)
    by true false false e h rest = ap (λ b. b || list_any test (filter (λ x. not (drop x)) xs)) e ∙ rest
    by false true true e h rest = absurd (let never = h e in cc)
    by false true false e h rest = rest
    by false false t e h rest = (λ i. e i || rest i)

-- of functions that are one each tells the same
pub same_serial : (e x : Entry) → is_same_entry e x ≡ true → e.serial ≡ x.serial
same_serial e x h = eqb-true e.serial x.serial (and_parts (nat_eq e.serial x.serial) (nat_eq e.function x.function) h).0

same_function : (e x : Entry) → is_same_entry e x ≡ true → e.function ≡ x.function
same_function e x h = eqb-true e.function x.function (and_parts (nat_eq e.serial x.serial) (nat_eq e.function x.function) h).1

same_either : (at e x : Entry) → is_same_entry e x ≡ true → is_same_entry at x ≡ is_same_entry e at
same_either at e x h = ap (λ n. nat_eq at.serial n && nat_eq at.function x.function) (sym (same_serial e x h)) ∙ ap (λ n. nat_eq at.serial e.serial && nat_eq at.function n) (sym (same_function e x h)) ∙ turned at.serial e.serial at.function e.function
  where
    swap : (m n : ℕ) → nat_eq m n ≡ nat_eq n m
    swap m n = grind (arith)

    turned : (a b c d : ℕ) → (nat_eq a b && nat_eq c d) ≡ (nat_eq b a && nat_eq d c)
    turned a b c d = (λ i. swap a b i && swap c d i)

pub traced_since : (s : ServerState) (change : Change) (e : Entry) → is_traced (changed_state s change) e ≡ traced_then s change e
traced_since s (BringIn generation modules areas versions) e = ap (list_any (is_same_entry e)) (load_leaves_rest s modules.items).traced
traced_since s (DropOld generation name serial says retired) e =
    any_without (is_same_entry e) (λ x. nat_eq x.serial serial) (nat_eq e.serial serial) s.traced (λ x h. ap (λ n. nat_eq n serial) (sym (same_serial e x h)))
traced_since s (SetTrace generation at traced) e =
    list_any-append (is_same_entry e) s.traced (entry_of at ∷ []) ∙ or_chosen (is_traced s e) (is_same_entry e (entry_of at))
traced_since s (ClearTrace generation at) e =
    any_without (is_same_entry e) (is_same_entry (entry_of at)) (is_same_entry e (entry_of at)) s.traced (λ x h. same_either (entry_of at) e x h)
traced_since s change e = refl
