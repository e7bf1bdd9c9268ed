-- What a load leaves of each module's current and old code, and of each instance.
use Rattle.std.proofs.Common.{◌≡◌, ◌≢◌, ℕ, zero, suc, ◌+◌, ◌<◌, ◌≤◌, Bool, true, false, cond, nat_eq, List, [], ◌∷◌, ◌++◌, Option, Some, None, IfSome, All, refl, sym, ap, ◌∙◌, subst, arith}
use Rattle.std.specs.Prelude.{slice_get}
use Rattle.std.specs.List.{AllPairs}
use Rattle.std.proofs.lemmas.Bool.Decides.{nat_tests}
use Rattle.std.proofs.lemmas.List.Elements.{All-head, All-tail}
use Rattle.mod_core.specs.declared.code.Module.{Module}
use Rattle.mod_core.specs.Module.{IsModule}
use Rattle.server_core.specs.Areas.{numbered}
use Rattle.server_core.specs.CommandTable.{with_all, with_loaded}
use Rattle.server_core.specs.ServerState.{Instance, IsSound, ServerState, code_among, code_of, current_of, old_of}
use Rattle.server_core.proofs.Loads.{code_pushed, with_all_parts}
use Rattle.server_core.proofs.Soundness.{current_set, old_set}

-- ---- names

-- a list in which no two names are equal
abbrev pub AreApart : List Module → Type 0
AreApart ms = AllPairs (λ m n. m.name.0 ≢ n.name.0) ms

-- none of these modules has the name
abbrev pub HaveOther : ℕ → List Module → Type 0
HaveOther name ms = All (λ m. m.name.0 ≢ name) ms

pub apart_head : (m : Module) (ms : List Module) → AreApart (m ∷ ms) → HaveOther m.name.0 ms
apart_head m ms apart k d within = λ same. apart zero (suc k) d (omega arith) (omega (arith, within)) (sym same)

pub apart_tail : (m : Module) (ms : List Module) → AreApart (m ∷ ms) → AreApart ms
apart_tail m ms apart i j d before within = apart (suc i) (suc j) d (omega (arith, before)) (omega (arith, within))

-- a module that has the name or another
pub unequal : (a b : ℕ) → a ≢ b → nat_eq b a ≡ false
unequal a b other = by (nat_eq b a) refl
  where
    by : (t : Bool) → nat_eq b a ≡ t → t ≡ false
    by false e = refl
    by true e = absurd (other (grind (arith, nat_tests)))

equal : (a : ℕ) → nat_eq a a ≡ true
equal a = grind (arith, nat_tests)

-- ---- current and old code

-- a load of another module leaves the code of a name
pub current_other : (s : ServerState) (ms : List Module) (name : ℕ) → HaveOther name ms → current_of (with_all s ms) name ≡ current_of s name
current_other s [] name others = refl
current_other s (m ∷ ms) name others =
    let apart = unequal m.name.0 name (All-head (λ n. n.name.0 ≢ name) m ms others) in
    current_other (with_loaded s m) ms name (All-tail (λ n. n.name.0 ≢ name) m ms others)
    ∙ current_set s.versions _ name ∙ ap (λ b. cond b (Some s.next_serial) (current_of s name)) apart

pub old_other : (s : ServerState) (ms : List Module) (name : ℕ) → HaveOther name ms → old_of (with_all s ms) name ≡ old_of s name
old_other s [] name others = refl
old_other s (m ∷ ms) name others =
    let apart = unequal m.name.0 name (All-head (λ n. n.name.0 ≢ name) m ms others) in
    old_other (with_loaded s m) ms name (All-tail (λ n. n.name.0 ≢ name) m ms others)
    ∙ old_set s.versions _ name ∙ ap (λ b. cond b (current_of s m.name.0) (old_of s name)) apart

-- one load
pub current_here : (s : ServerState) (m : Module) → current_of (with_loaded s m) m.name.0 ≡ Some s.next_serial
current_here s m = current_set s.versions _ m.name.0 ∙ ap (λ b. cond b (Some s.next_serial) (current_of s m.name.0)) (equal m.name.0)

pub old_here : (s : ServerState) (m : Module) → old_of (with_loaded s m) m.name.0 ≡ current_of s m.name.0
old_here s m = old_set s.versions _ m.name.0 ∙ ap (λ b. cond b (current_of s m.name.0) (old_of s m.name.0)) (equal m.name.0)

pub some_module : (a b : Module) → Some a ≡ Some b → a ≡ b
some_module a b e = cc

pub no_module : {A : Type 0} (m : Module) → None ≡ Some m → A
no_module m e = absurd (cc)

pub no_serial : {A : Type 0} (serial : ℕ) → None ≡ Some serial → A
no_serial serial e = absurd (cc)

-- the module at each place of a load is current, with the next serial and its place
pub current_new : (s : ServerState) (ms : List Module) (place : ℕ) (m : Module) → AreApart ms → slice_get ms place ≡ Some m → current_of (with_all s ms) m.name.0 ≡ Some (s.next_serial + place)
current_new s [] place m apart at = no_module m at
current_new s (n ∷ ms) zero m apart at =
    let same : n ≡ m = some_module n m at in
    let here : current_of (with_all s (n ∷ ms)) n.name.0 ≡ Some s.next_serial = current_other (with_loaded s n) ms n.name.0 (apart_head n ms apart) ∙ current_here s n in
    let first : s.next_serial ≡ s.next_serial + 0 = omega arith in
    subst (λ (k : Module). current_of (with_all s (n ∷ ms)) k.name.0 ≡ Some (s.next_serial + 0)) same (here ∙ ap Some first)
current_new s (n ∷ ms) (suc place) m apart at =
    let next : s.next_serial + 1 + place ≡ s.next_serial + suc place = omega arith in
    current_new (with_loaded s n) ms place m (apart_tail n ms apart) at ∙ ap Some next

-- and what was current of its name is old
pub old_new : (s : ServerState) (ms : List Module) (place : ℕ) (m : Module) → AreApart ms → slice_get ms place ≡ Some m → old_of (with_all s ms) m.name.0 ≡ current_of s m.name.0
old_new s [] place m apart at = no_module m at
old_new s (n ∷ ms) zero m apart at =
    let same : n ≡ m = some_module n m at in
    let here : old_of (with_all s (n ∷ ms)) n.name.0 ≡ current_of s n.name.0 = old_other (with_loaded s n) ms n.name.0 (apart_head n ms apart) ∙ old_here s n in
    subst (λ (k : Module). old_of (with_all s (n ∷ ms)) k.name.0 ≡ current_of s k.name.0) same here
old_new s (n ∷ ms) (suc place) m apart at =
    let other : n.name.0 ≢ m.name.0 = at_place ms place m (apart_head n ms apart) at in
    old_new (with_loaded s n) ms place m (apart_tail n ms apart) at
    ∙ current_set s.versions _ m.name.0 ∙ ap (λ b. cond b (Some s.next_serial) (current_of s m.name.0)) (unequal n.name.0 m.name.0 other)
  where
    at_place : (ns : List Module) (place : ℕ) (m : Module) → HaveOther n.name.0 ns → slice_get ns place ≡ Some m → n.name.0 ≢ m.name.0
    at_place [] place m others at = no_module m at
    at_place (k ∷ ns) zero m others at = let first = All-head (λ j. j.name.0 ≢ n.name.0) k ns others in λ same. first (ap (λ (j : Module). j.name.0) (some_module k m at) ∙ sym same)
    at_place (k ∷ ns) (suc place) m others at = at_place ns place m (All-tail (λ j. j.name.0 ≢ n.name.0) k ns others) at

-- ---- instances

-- an instance that came in before keeps its module
pub code_before : (s : ServerState) (ms : List Module) (serial : ℕ) → serial < s.next_serial → code_of (with_all s ms) serial ≡ code_of s serial
code_before s [] serial known = refl
code_before s (m ∷ ms) serial known = code_before (with_loaded s m) ms serial (omega (arith, known)) ∙ code_pushed s.instances s.next_serial serial m known

-- what none of these has is sought behind them
pub code_behind : (is more : List Instance) (serial : ℕ) → code_among is serial ≡ None → code_among (is ++ more) serial ≡ code_among more serial
code_behind [] more serial none = refl
code_behind (i ∷ is) more serial none = by (nat_eq i.serial serial) (code_behind is more serial) none
  where
    by : (b : Bool) → (code_among is serial ≡ None → code_among (is ++ more) serial ≡ code_among more serial) → cond b (Some i.code) (code_among is serial) ≡ None → cond b (Some i.code) (code_among (is ++ more) serial) ≡ code_among more serial
    by true rest none = absurd (cc)
    by false rest none = rest none

-- the module at each place of a row of them
code_numbered : (n : ℕ) (ms : List Module) (place : ℕ) (m : Module) → slice_get ms place ≡ Some m → code_among (numbered n ms) (n + place) ≡ Some m
code_numbered n [] place m at = no_module m at
code_numbered n (k ∷ ms) zero m at =
    let here : nat_eq n (n + 0) ≡ true = grind (arith, nat_tests) in
    ap (λ b. cond b (Some k) (code_among (numbered (n + 1) ms) (n + 0))) here ∙ at
code_numbered n (k ∷ ms) (suc place) m at =
    let behind : nat_eq n (n + suc place) ≡ false = grind (arith, nat_tests) in
    let next : n + suc place ≡ n + 1 + place = omega arith in
    ap (λ b. cond b (Some k) (code_among (numbered (n + 1) ms) (n + suc place))) behind ∙ ap (code_among (numbered (n + 1) ms)) next ∙ code_numbered (n + 1) ms place m at

-- nothing stands at a serial that was not given
pub no_code_from : (s : ServerState) (serial : ℕ) → IsSound s → s.next_serial ≤ serial → code_of s serial ≡ None
no_code_from s serial sound later = by (code_of s serial) (sound.modules serial)
  where
    by : (o : Option Module) → IfSome o (λ m. IsModule m × (serial < s.next_serial)) → o ≡ None
    by None h = refl
    by (Some m) h = absurd (omega (arith, h.1, later))

-- the module at each place of a load stands at the next serial and its place
pub code_new : (s : ServerState) (ms : List Module) (place : ℕ) (m : Module) → IsSound s → slice_get ms place ≡ Some m → code_of (with_all s ms) (s.next_serial + place) ≡ Some m
code_new s ms place m sound at =
    ap (λ (t : ServerState). code_of t (s.next_serial + place)) (with_all_parts s ms)
    ∙ code_behind s.instances (numbered s.next_serial ms) (s.next_serial + place) (no_code_from s (s.next_serial + place) sound (omega arith))
    ∙ code_numbered s.next_serial ms place m at
