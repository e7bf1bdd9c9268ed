-- The generations in the list of those that may be read are just those that some thread may read.
use Rattle.std.proofs.Common.{◌≡◌, ◌⊎◌, inl, inr, ℕ, zero, suc, Bool, true, false, ◌&&◌, ◌||◌, List, [], ◌∷◌, Option, Some, None, refl, sym, ap, ◌∙◌, nat_lt, flat_map, option_to_list, lt-ltb, eqb-true, eq-eqb}
use Rattle.std.proofs.lemmas.Bool.{and_from, and_parts, or_cases, or_left, or_right}
use Rattle.std.specs.Prelude.{◌==◌, if◌then◌else◌, slice_get, IsTrue}
use Rattle.std.specs.List.{list_any}
use Rattle.prgr_core.specs.declared.member.TheConstants.{WAITING, ENTERING}
use Rattle.prgr_core.specs.declared.member.Loaded.{Loaded}
use Rattle.prgr_core.specs.declared.member.Loaded.TheVariants.{CounterAndRoot}
use Rattle.prgr_core.specs.declared.member.Member.{Member}
use Rattle.prgr_core.specs.declared.watcher.Phase.{Phase}
use Rattle.prgr_core.specs.declared.watcher.Phase.TheVariants.{Claimed}
use Rattle.prgr_core.specs.declared.watcher.Watcher.{Watcher}
use Rattle.prgr_core.specs.declared.progress.Progress.{Progress}
use Rattle.prgr_core.specs.Members.{IsValue, HasLoadedRoot, is_value}
use Rattle.prgr_core.specs.Watchers.{IsClaimed, is_claimed}
use Rattle.prgr_core.specs.Machine.{machine_of, MayRead, IsReadByMember, IsReadByWatcher, Readable}
use Rattle.prgr_core.specs.Step.{IsSound as IsProgressSound}
use Rattle.prgr_core.proofs.Parts.{some_same}
use Rattle.prgr_core.proofs.SoundParts.{is_member}
use Rattle.prgr_core.proofs.SoundMembers.{is_value_true}
use Rattle.prgr_core.proofs.WatcherSteps.{is_claimed_true}
use Rattle.area_core.specs.Readers.{has_root, in_member, in_watcher, held_generations, readable_generations}
use Rattle.area_core.proofs.Joined.{any_joined}

-- ---- lists of lists

-- what is in the list of one of them is in that of all
pub in_all : {X : Type 0} (test : ℕ → Bool) (f : X → List ℕ) (xs : List X) (k : ℕ) (x : X) → slice_get xs k ≡ Some x → list_any test (f x) ≡ true → list_any test (flat_map f xs) ≡ true
in_all test f [] k x at e = absurd (cc)
in_all test f (y ∷ ys) zero x at e = any_joined test (f y) (flat_map f ys) ∙ or_left (list_any test (f y)) (list_any test (flat_map f ys)) (ap (λ z. list_any test (f z)) (some_same y x at) ∙ e)
in_all test f (y ∷ ys) (suc k) x at e = any_joined test (f y) (flat_map f ys) ∙ or_right (list_any test (f y)) (list_any test (flat_map f ys)) (in_all test f ys k x at e)

-- what is in that of all is in the list of one of them
abbrev InOne : {X : Type 0} → (ℕ → Bool) → (X → List ℕ) → List X → Type 0
InOne {X} test f xs = (k : ℕ) × (x : X) × (slice_get xs k ≡ Some x) × (list_any test (f x) ≡ true)

in_one : {X : Type 0} (test : ℕ → Bool) (f : X → List ℕ) (xs : List X) → list_any test (flat_map f xs) ≡ true → InOne test f xs
in_one test f [] e = absurd (cc)
in_one test f (y ∷ ys) e =
    elim (or_cases (list_any test (f y)) (list_any test (flat_map f ys)) (sym (any_joined test (f y) (flat_map f ys)) ∙ e)) as (λ _. InOne test f (y ∷ ys)) [
      | inl here ↦ (zero, y, refl, here)
      | inr later ↦ let found = in_one test f ys later in (suc found.0, found.1, found.2, found.3)
    ]

-- ---- what one holds

-- a list of at most one, by a test, has the number where the test holds and that number is the one
has_held : (g : ℕ) (b : Bool) (held : Option ℕ) → b ≡ true → held ≡ Some g → list_any (λ x. x == g) (option_to_list (if b then held else None)) ≡ true
has_held g b None e is = absurd (cc)
has_held g true (Some h) e is = or_left (h == g) false (eq-eqb h g (some_same h g is))
has_held g false (Some h) e is = absurd (cc)

held_has : (g : ℕ) (b : Bool) (held : Option ℕ) → list_any (λ x. x == g) (option_to_list (if b then held else None)) ≡ true → (b ≡ true) × (held ≡ Some g)
held_has g true None e = absurd (cc)
held_has g true (Some h) e =
    elim (or_cases (h == g) false e) as (λ _. (true ≡ true) × (Some h ≡ Some g)) [
      | inl same ↦ (refl, ap (λ x. Some x) (eqb-true h g same))
      | inr none ↦ absurd (cc)
    ]
held_has g false held e = absurd (cc)

-- ---- members

pub value_is : (word : ℕ) → IsValue word → is_value word ≡ true
value_is word value = and_from (nat_lt ENTERING word) (nat_lt word WAITING) (lt-ltb ENTERING word value.0) (lt-ltb word WAITING value.1)

root_is : (loaded : Loaded) (c : ℕ) → HasLoadedRoot loaded c → has_root loaded ≡ true
root_is (CounterAndRoot d) c root = refl
root_is loaded c root = absurd root

root_by : (loaded : Loaded) → has_root loaded ≡ true → (c : ℕ) × HasLoadedRoot loaded c
root_by (CounterAndRoot d) e = (d, refl)
root_by loaded e = absurd (cc)

may_read_is : (m : Member) → MayRead m → (is_value m.word || ((m.word == ENTERING) && has_root m.loaded)) ≡ true
may_read_is m may =
    elim may as (λ _. (is_value m.word || ((m.word == ENTERING) && has_root m.loaded)) ≡ true) [
      | inl value ↦ or_left (is_value m.word) ((m.word == ENTERING) && has_root m.loaded) (value_is m.word value)
      | inr enters ↦ or_right (is_value m.word) ((m.word == ENTERING) && has_root m.loaded) (and_from (m.word == ENTERING) (has_root m.loaded) (eq-eqb m.word ENTERING enters.0) (root_is m.loaded enters.1.0 enters.1.1))
    ]

may_read_by : (m : Member) → (is_value m.word || ((m.word == ENTERING) && has_root m.loaded)) ≡ true → MayRead m
may_read_by m e =
    elim (or_cases (is_value m.word) ((m.word == ENTERING) && has_root m.loaded) e) as (λ _. MayRead m) [
      | inl value ↦ inl (is_value_true m.word value)
      | inr enters ↦ let both = and_parts (m.word == ENTERING) (has_root m.loaded) enters in inr (eqb-true m.word ENTERING both.0, root_by m.loaded both.1)
    ]

member_held : (m : Member) (g : ℕ) → MayRead m → m.generation ≡ g → list_any (λ x. x == g) (in_member m) ≡ true
member_held m g may holds = has_held g (is_value m.word || ((m.word == ENTERING) && has_root m.loaded)) (Some m.generation) (may_read_is m may) (ap (λ x. Some x) holds)

held_member : (m : Member) (g : ℕ) → list_any (λ x. x == g) (in_member m) ≡ true → MayRead m × (m.generation ≡ g)
held_member m g e =
    let both = held_has g (is_value m.word || ((m.word == ENTERING) && has_root m.loaded)) (Some m.generation) e in
    (may_read_by m both.0, some_same m.generation g both.1)

-- ---- watchers

claimed_is : (phase : Phase) → IsClaimed phase → is_claimed phase ≡ true
claimed_is (Claimed c) claimed = refl
claimed_is phase claimed = absurd claimed.1

watcher_held : (w : Watcher) (g : ℕ) → IsClaimed w.phase → w.generation ≡ Some g → list_any (λ x. x == g) (in_watcher w) ≡ true
watcher_held w g claimed holds = has_held g (is_claimed w.phase) w.generation (claimed_is w.phase claimed) holds

held_watcher : (w : Watcher) (g : ℕ) → list_any (λ x. x == g) (in_watcher w) ≡ true → IsClaimed w.phase × (w.generation ≡ Some g)
held_watcher w g e = let both = held_has g (is_claimed w.phase) w.generation e in (is_claimed_true w.phase both.0, both.1)

-- ---- all

module _ (s : Progress) (sound : IsProgressSound s) (g : ℕ) where
  by_member : IsReadByMember (machine_of s) g → list_any (λ x. x == g) (held_generations s) ≡ true
  by_member read =
      any_joined (λ x. x == g) (flat_map in_member s.members) (flat_map in_watcher s.watchers)
      ∙ or_left (list_any (λ x. x == g) (flat_map in_member s.members)) (list_any (λ x. x == g) (flat_map in_watcher s.watchers)) (in_all (λ x. x == g) in_member s.members read.0.number read.0 read.1 (member_held read.0 g read.2 read.3))

  by_watcher : IsReadByWatcher (machine_of s) g → list_any (λ x. x == g) (held_generations s) ≡ true
  by_watcher read =
      any_joined (λ x. x == g) (flat_map in_member s.members) (flat_map in_watcher s.watchers)
      ∙ or_right (list_any (λ x. x == g) (flat_map in_member s.members)) (list_any (λ x. x == g) (flat_map in_watcher s.watchers)) (in_all (λ x. x == g) in_watcher s.watchers read.1.0 read.0 read.1.1 (watcher_held read.0 g read.2 read.3))

  held_by : IsReadByMember (machine_of s) g ⊎ IsReadByWatcher (machine_of s) g → IsTrue (list_any (λ x. x == g) (held_generations s))
  held_by read = elim read as (λ _. IsTrue (list_any (λ x. x == g) (held_generations s))) [ inl member ↦ by_member member | inr watcher ↦ by_watcher watcher ]

  -- what some thread may read is in the list
  pub readable_held : Readable (machine_of s) g → IsTrue (list_any (λ x. x == g) (readable_generations s))
  readable_held may =
      elim may as (λ _. IsTrue (list_any (λ x. x == g) (readable_generations s))) [
        | inl newest ↦ or_left (s.generation == g) (list_any (λ x. x == g) (held_generations s)) (eq-eqb s.generation g (sym newest))
        | inr others ↦ or_right (s.generation == g) (list_any (λ x. x == g) (held_generations s)) (held_by others)
      ]

  in_members : list_any (λ x. x == g) (flat_map in_member s.members) ≡ true → Readable (machine_of s) g
  in_members e =
      let found = in_one (λ x. x == g) in_member s.members e in
      let holds = held_member found.1 g found.3 in
      inr (inl (found.1, is_member s sound found.0 found.1 found.2, holds.0, holds.1))

  in_watchers : list_any (λ x. x == g) (flat_map in_watcher s.watchers) ≡ true → Readable (machine_of s) g
  in_watchers e =
      let found = in_one (λ x. x == g) in_watcher s.watchers e in
      let holds = held_watcher found.1 g found.3 in
      inr (inr (found.1, (found.0, found.2), holds.0, holds.1))

  -- what is held some thread may read
  pub held_may : IsTrue (list_any (λ x. x == g) (held_generations s)) → Readable (machine_of s) g
  held_may held =
      elim (or_cases (list_any (λ x. x == g) (flat_map in_member s.members)) (list_any (λ x. x == g) (flat_map in_watcher s.watchers)) (sym (any_joined (λ x. x == g) (flat_map in_member s.members) (flat_map in_watcher s.watchers)) ∙ held)) as (λ _. Readable (machine_of s) g) [
        | inl read ↦ in_members read
        | inr read ↦ in_watchers read
      ]

  -- what is in the list some thread may read
  pub held_readable : IsTrue (list_any (λ x. x == g) (readable_generations s)) → Readable (machine_of s) g
  held_readable e =
      elim (or_cases (s.generation == g) (list_any (λ x. x == g) (held_generations s)) e) as (λ _. Readable (machine_of s) g) [
        | inl newest ↦ inl (sym (eqb-true s.generation g newest))
        | inr held ↦ held_may held
      ]
