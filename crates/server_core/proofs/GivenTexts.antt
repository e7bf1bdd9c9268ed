-- The texts that a load finds are modules, as many as its list has, with its names; so none has old code, and no two have one name.
use Rattle.std.proofs.Common.{◌≡◌, ◌≢◌, ℕ, suc, Bool, true, false, cond, ◌&&◌, ◌||◌, ◌==◌, List, [], ◌∷◌, ◌++◌, filter, get_or, length, map, Option, Some, None, is_some, All, option_and_then, option_map, refl, sym, ap, ◌∙◌, subst, arith}
use Rattle.std.specs.List.{AllPairs, list_any}
use Rattle.std.proofs.lemmas.Bool.Decides.{nat_tests}
use Rattle.std.proofs.lemmas.List.Elements.{All-cons, All-nil, All-tail, All-head}
use Rattle.std.proofs.lemmas.List.Folds.{list_any-append}
use Rattle.std.proofs.lemmas.List.Kept.{AllPairs-cons}
use Rattle.mod_core.specs.declared.code.Module.{Module}
use Rattle.mod_core.specs.Module.{IsModule}
use Rattle.server_core.specs.declared.command.ModRef.{ModRef}
use Rattle.server_core.specs.ServerState.{ServerState, old_of}
use Rattle.server_core.specs.CommandTable.{names_of, repeated_after, text_of, texts_of}

found_among : (b : Bool) (t m : Module) (rest : Option Module) → cond b (Some t) rest ≡ Some m → IsModule t → (rest ≡ Some m → IsModule m) → IsModule m
found_among true t m rest found sound more = subst IsModule (grind arith) sound
found_among false t m rest found sound more = more found

-- a text that is found is a module
pub text_sound : (texts : List Module) (to : ModRef) (m : Module) → All IsModule texts → text_of texts to ≡ Some m → IsModule m
text_sound [] to m sound found = absurd (grind arith)
text_sound (t ∷ ts) to m sound found =
    found_among (t.name.0 == to.name.0 && t.version == to.version) t m _ found (All-head IsModule t ts sound) (text_sound ts to m (All-tail IsModule t ts sound))

listed : (to : ModRef) (o : Option Module) (r : Option (List Module)) (n : ℕ) (ms : List Module) → option_and_then (λ m. option_map (λ rest. m ∷ rest) r) o ≡ Some ms
    → ((m : Module) → o ≡ Some m → IsModule m) → ((rest : List Module) → r ≡ Some rest → All IsModule rest × (length rest ≡ n)) → All IsModule ms × (length ms ≡ suc n)
listed to None r n ms found first more = absurd (grind arith)
listed to (Some m) None n ms found first more = absurd (grind arith)
listed to (Some m) (Some rest) n ms found first more =
    let is : m ∷ rest ≡ ms = grind arith in
    let P : List Module → Type 0 = λ all. All IsModule all × (length all ≡ suc n) in
    let tail = more rest refl in
    subst P is (All-cons IsModule m rest (first m refl) tail.0, ap (λ k. suc k) tail.1)

-- the texts that a load finds are as many modules as its list has
pub texts_listed : (texts : List Module) (refs : List ModRef) (ms : List Module) → All IsModule texts → texts_of texts refs ≡ Some ms → All IsModule ms × (length ms ≡ length refs)
texts_listed texts [] ms sound found =
    let is : [] ≡ ms = grind arith in
    let P : List Module → Type 0 = λ all. All IsModule all × (length all ≡ 0) in
    subst P is (All-nil IsModule, refl)
texts_listed texts (to ∷ refs) ms sound found =
    listed to (text_of texts to) (texts_of texts refs) (length refs) ms found (λ m. text_sound texts to m sound) (λ rest. texts_listed texts refs rest sound)

named_among : (b : Bool) (t m : Module) (to : ModRef) (rest : Option Module) → b ≡ (t.name.0 == to.name.0 && t.version == to.version) → cond b (Some t) rest ≡ Some m → (rest ≡ Some m → m.name ≡ to.name) → m.name ≡ to.name
named_among true t m to rest is found more = grind (arith, nat_tests)
named_among false t m to rest is found more = more found

-- a text that is found has the name that was asked for
pub text_named : (texts : List Module) (to : ModRef) (m : Module) → text_of texts to ≡ Some m → m.name ≡ to.name
text_named [] to m found = absurd (grind arith)
text_named (t ∷ ts) to m found = named_among (t.name.0 == to.name.0 && t.version == to.version) t m to _ refl found (text_named ts to m)

named : (to : ModRef) (refs : List ModRef) (o : Option Module) (r : Option (List Module)) (ms : List Module) → option_and_then (λ m. option_map (λ rest. m ∷ rest) r) o ≡ Some ms
    → ((m : Module) → o ≡ Some m → m.name ≡ to.name) → ((rest : List Module) → r ≡ Some rest → map (λ m. m.name) rest ≡ names_of refs) → map (λ m. m.name) ms ≡ names_of (to ∷ refs)
named to refs None r ms found first more = absurd (grind arith)
named to refs (Some m) None ms found first more = absurd (grind arith)
named to refs (Some m) (Some rest) ms found first more =
    let is : m ∷ rest ≡ ms = grind arith in
    ap (map (λ n. n.name)) (sym is) ∙ (λ i. first m refl i ∷ more rest refl i)

-- the texts that a load finds have the names of its list, in order
pub texts_named : (texts : List Module) (refs : List ModRef) (ms : List Module) → texts_of texts refs ≡ Some ms → map (λ m. m.name) ms ≡ names_of refs
texts_named texts [] ms found =
    let is : [] ≡ ms = grind arith in
    ap (map (λ n. n.name)) (sym is)
texts_named texts (to ∷ refs) ms found = named to refs (text_of texts to) (texts_of texts refs) ms found (text_named texts to) (texts_named texts refs)

-- where none of these names has old code, each of the modules has none
pub all_purged : (s : ServerState) (ms : List Module) → filter (λ name. is_some (old_of s name.0)) (map (λ m. m.name) ms) ≡ [] → All (λ m. old_of s m.name.0 ≡ None) ms
all_purged s [] none = All-nil (λ m. old_of s m.name.0 ≡ None)
all_purged s (m ∷ ms) none = by (old_of s m.name.0) refl none (all_purged s ms)
  where
    by : (o : Option ℕ) → old_of s m.name.0 ≡ o → cond (is_some o) (m.name ∷ filter (λ name. is_some (old_of s name.0)) (map (λ n. n.name) ms)) (filter (λ name. is_some (old_of s name.0)) (map (λ n. n.name) ms)) ≡ []
        → (filter (λ name. is_some (old_of s name.0)) (map (λ n. n.name) ms) ≡ [] → All (λ n. old_of s n.name.0 ≡ None) ms) → All (λ n. old_of s n.name.0 ≡ None) (m ∷ ms)
    by None is none rest = All-cons (λ n. old_of s n.name.0 ≡ None) m ms is (rest none)
    by (Some serial) is none rest = absurd (cc)

neither : (a b : Bool) → (a || b) ≡ false → (a ≡ false) × (b ≡ false)
neither true b h = absurd (grind arith)
neither false b h = (refl, h)

-- the modules of a list in which no name repeats one before it have names that differ, from one another and from those that stand before
pub all_once : (before : List ℕ) (ms : List Module) → repeated_after before (map (λ m. m.name) ms) ≡ None
    → All (λ m. list_any (λ n. m.name.0 == n) before ≡ false) ms × AllPairs (λ m n. m.name.0 ≢ n.name.0) ms
all_once before [] none = (All-nil (λ (m : Module). list_any (λ n. m.name.0 == n) before ≡ false), λ i j d first last. absurd (omega (arith, last)))
all_once before (m ∷ ms) none = by (list_any (λ n. m.name.0 == n) before) refl none (all_once (before ++ m.name.0 ∷ []) ms)
  where
    apart : (n : Module) → list_any (λ k. n.name.0 == k) (before ++ m.name.0 ∷ []) ≡ false → (list_any (λ k. n.name.0 == k) before ≡ false) × (m.name.0 ≢ n.name.0)
    apart n h =
        let both = neither (list_any (λ k. n.name.0 == k) before) (list_any (λ k. n.name.0 == k) (m.name.0 ∷ [])) (sym (list_any-append (λ k. n.name.0 == k) before (m.name.0 ∷ [])) ∙ h) in
        let other : (n.name.0 == m.name.0) ≡ false = (neither (n.name.0 == m.name.0) false both.1).0 in
        (both.0, λ same. absurd (grind (arith, nat_tests, same, other)))

    by : (b : Bool) → list_any (λ n. m.name.0 == n) before ≡ b → cond b (Some m.name) (repeated_after (before ++ m.name.0 ∷ []) (map (λ n. n.name) ms)) ≡ None
        → (repeated_after (before ++ m.name.0 ∷ []) (map (λ n. n.name) ms) ≡ None → All (λ k. list_any (λ n. k.name.0 == n) (before ++ m.name.0 ∷ []) ≡ false) ms × AllPairs (λ k n. k.name.0 ≢ n.name.0) ms)
        → All (λ k. list_any (λ n. k.name.0 == n) before ≡ false) (m ∷ ms) × AllPairs (λ k n. k.name.0 ≢ n.name.0) (m ∷ ms)
    by true is none more = absurd (cc)
    by false is none more =
        let rest = more none in
        (All-cons (λ k. list_any (λ n. k.name.0 == n) before ≡ false) m ms is (λ k d h. (apart (get_or ms k d) (rest.0 k d h)).0), AllPairs-cons (λ k n. k.name.0 ≢ n.name.0) m ms (λ k d h. (apart (get_or ms k d) (rest.0 k d h)).1) rest.1)
