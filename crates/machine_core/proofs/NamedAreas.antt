-- Which areas registers and frames name, and that what is held for all names is held for each frame and literal.
use Rattle.std.proofs.Common.{◌≡◌, ◌==◌, ◌||◌, ◌∙◌, ℕ, refl, sym, arith, subst, Bool, true, false, IsTrue, All, List, [], ◌∷◌, ◌++◌, map, replicate}
use Rattle.std.proofs.lemmas.Bool.Decides.{nat_tests}
use Rattle.std.proofs.lemmas.List.Elements.{All-append, All-cons, All-head, All-nil, All-replicate, All-tail, All-take}
use Rattle.std.proofs.lemmas.List.Folds.{list_any-append}
use Rattle.std.proofs.lemmas.Bool.{or_left, or_right}
use Rattle.mod_core.specs.declared.code.TheConstants.{REGISTERS}
use Rattle.machine_core.specs.Holds.{Holds, is_among}
use Rattle.machine_core.specs.Process.{PlainFrame, PlainValue, first_registers, frame_names, literal, literal_serials, no_value, owned, register_serials, value_serials}
use Rattle.machine_core.specs.Stand.{AreHeld, IsValueHeld}
use Rattle.machine_core.proofs.SerialLists.{among-serials_of}

-- the instances that frames name
abbrev pub instance_serials : List PlainFrame → List ℕ
instance_serials frames = map (λ f. f.serial) frames

-- the area of a literal is one of these
abbrev pub HasArea : (ℕ → Type 0) → PlainValue → Type 0
HasArea Area (owned term) = Unit {0}
HasArea Area (literal serial term) = Area serial

pub among_append : (ms ns : List ℕ) (q : ℕ) → is_among (ms ++ ns) q ≡ (is_among ms q || is_among ns q)
among_append ms ns q = list_any-append (λ n. n == q) ms ns

or_either : (a b : Bool) (P : Type 0) → (a ≡ true → P) → (b ≡ true → P) → (a || b) ≡ true → P
or_either true b P f g h = f refl
or_either false b P f g h = g h

same_among : (n : ℕ) → is_among (n ∷ []) n ≡ true
same_among n = grind (arith, nat_tests)

one_among : (m n : ℕ) → is_among (m ∷ []) n ≡ true → m ≡ n
one_among m n h = one_of (m == n) refl h
  where
    one_of : (b : Bool) → (m == n) ≡ b → (b || false) ≡ true → m ≡ n
    one_of true e h = grind (arith, nat_tests)
    one_of false e h = absurd (cc)

module _ (Area : ℕ → Type 0) where
  value_within : (value : PlainValue) → ((n : ℕ) → is_among (value_serials value) n ≡ true → Area n) → HasArea Area value
  value_within (owned term) h = tt
  value_within (literal serial term) h = h serial (same_among serial)

  -- each literal of registers has an area that they name
  pub registers_within : (registers : List PlainValue) → ((n : ℕ) → is_among (register_serials registers) n ≡ true → Area n) → All (HasArea Area) registers
  registers_within [] h = All-nil (HasArea Area)
  registers_within (value ∷ values) h =
      All-cons (HasArea Area) value values
      (value_within value (λ n e. h n (among_append (value_serials value) (register_serials values) n ∙ or_left (is_among (value_serials value) n) (is_among (register_serials values) n) e)))
      (registers_within values (λ n e. h n (among_append (value_serials value) (register_serials values) n ∙ or_right (is_among (value_serials value) n) (is_among (register_serials values) n) e)))

  value_area : (value : PlainValue) (n : ℕ) → HasArea Area value → is_among (value_serials value) n ≡ true → Area n
  value_area (owned term) n h e = absurd (cc)
  value_area (literal serial term) n h e = subst Area (one_among serial n e) h

  -- and each area that they name is that of a literal
  pub register_area : (registers : List PlainValue) (n : ℕ) → All (HasArea Area) registers → is_among (register_serials registers) n ≡ true → Area n
  register_area [] n h e = absurd (cc)
  register_area (value ∷ values) n h e =
      or_either (is_among (value_serials value) n) (is_among (register_serials values) n) (Area n)
      (value_area value n (All-head (HasArea Area) value values h)) (register_area values n (All-tail (HasArea Area) value values h))
      (sym (among_append (value_serials value) (register_serials values) n) ∙ e)

-- the registers of a function that is entered hold its arguments and 0
pub all_first : (P : PlainValue → Type 0) (args : List PlainValue) → P no_value → All P args → All P (first_registers args)
all_first P args zero_is h = All-take P REGISTERS (args ++ replicate REGISTERS no_value) (All-append P args (replicate REGISTERS no_value) h (All-replicate P REGISTERS no_value zero_is))

module _ (Instance Area : ℕ → Type 0) where
  -- the instance of each frame is one of these, and the areas of its literals are among those
  abbrev pub AreWithin : List PlainFrame → Type 0
  AreWithin [] = Unit {0}
  AreWithin (f ∷ below) = Instance f.serial × All (HasArea Area) f.registers × AreWithin below

  -- so it is where all that frames name is
  pub frames_within : (frames : List PlainFrame) → ((n : ℕ) → is_among (instance_serials frames) n ≡ true → Instance n) → ((n : ℕ) → is_among (literal_serials frames) n ≡ true → Area n) → AreWithin frames
  frames_within [] g h = tt
  frames_within (f ∷ below) g h = (
    g f.serial (or_left (f.serial == f.serial) (is_among (instance_serials below) f.serial) (same_number f.serial)),
    registers_within Area f.registers (λ n e. h n (among_append (register_serials f.registers) (literal_serials below) n ∙ or_left (is_among (register_serials f.registers) n) (is_among (literal_serials below) n) e)),
    frames_within below (λ n e. g n (or_right (f.serial == n) (is_among (instance_serials below) n) e))
        (λ n e. h n (among_append (register_serials f.registers) (literal_serials below) n ∙ or_right (is_among (register_serials f.registers) n) (is_among (literal_serials below) n) e)),
  )
    where
      same_number : (n : ℕ) → (n == n) ≡ true
      same_number n = grind (arith, nat_tests)

  -- and the other way round
  pub instance_within : (frames : List PlainFrame) (n : ℕ) → AreWithin frames → is_among (instance_serials frames) n ≡ true → Instance n
  instance_within [] n h e = absurd (cc)
  instance_within (f ∷ below) n h e = or_either (f.serial == n) (is_among (instance_serials below) n) (Instance n) (λ same. subst Instance (number_is same) h.0) (instance_within below n h.2) e
    where
      number_is : (f.serial == n) ≡ true → f.serial ≡ n
      number_is same = grind (arith, nat_tests)

  pub literal_within : (frames : List PlainFrame) (n : ℕ) → AreWithin frames → is_among (literal_serials frames) n ≡ true → Area n
  literal_within [] n h e = absurd (cc)
  literal_within (f ∷ below) n h e =
      or_either (is_among (register_serials f.registers) n) (is_among (literal_serials below) n) (Area n) (register_area Area f.registers n h.1) (literal_within below n h.2)
      (sym (among_append (register_serials f.registers) (literal_serials below) n) ∙ e)

weaker_area : (Area Wider : ℕ → Type 0) → ((n : ℕ) → Area n → Wider n) → (value : PlainValue) → HasArea Area value → HasArea Wider value
weaker_area Area Wider w (owned term) h = tt
weaker_area Area Wider w (literal serial term) h = w serial h

-- frames within some areas are within more
pub within_wider : (Instance Area Wider : ℕ → Type 0) (frames : List PlainFrame) → ((n : ℕ) → Area n → Wider n) → AreWithin Instance Area frames → AreWithin Instance Wider frames
within_wider Instance Area Wider [] w h = tt
within_wider Instance Area Wider (f ∷ below) w h = (h.0, λ k d l. weaker_area Area Wider w _ (h.1 k d l), within_wider Instance Area Wider below w h.2)

-- what is held for frames, and what for literals
abbrev pub IsFrameHeld : Holds → ℕ → Type 0
IsFrameHeld held serial = IsTrue (is_among held.frames serial)

abbrev pub IsLiteralHeld : Holds → ℕ → Type 0
IsLiteralHeld held serial = IsTrue (is_among held.literals serial)

-- a value's area is held for literals
pub area_held : (held : Holds) (value : PlainValue) → HasArea (IsLiteralHeld held) value → IsValueHeld held value
area_held held (owned term) h = tt
area_held held (literal serial term) h = h

pub held_area : (held : Holds) (value : PlainValue) → IsValueHeld held value → HasArea (IsLiteralHeld held) value
held_area held (owned term) h = tt
held_area held (literal serial term) h = h

pub within_held : (held : Holds) (frames : List PlainFrame) → AreWithin (IsFrameHeld held) (IsLiteralHeld held) frames → AreHeld held frames
within_held held [] h = tt
within_held held (f ∷ below) h = (h.0, λ k d l. area_held held _ (h.1 k d l), within_held held below h.2)

pub held_within : (held : Holds) (frames : List PlainFrame) → AreHeld held frames → AreWithin (IsFrameHeld held) (IsLiteralHeld held) frames
held_within held [] h = tt
held_within held (f ∷ below) h = (h.0, λ k d l. held_area held _ (h.1 k d l), held_within held below h.2)

-- what frames name is held for them
pub names_held : (frames : List PlainFrame) → AreHeld (frame_names frames) frames
names_held frames =
    within_held (frame_names frames) frames
    (frames_within (IsFrameHeld (frame_names frames)) (IsLiteralHeld (frame_names frames)) frames
    (λ n e. among-serials_of (instance_serials frames) n ∙ e) (λ n e. among-serials_of (literal_serials frames) n ∙ e))

-- what frames name is among what is held for each of them
pub frames_held : (held : Holds) (frames : List PlainFrame) (n : ℕ) → AreHeld held frames → is_among (frame_names frames).frames n ≡ true → is_among held.frames n ≡ true
frames_held held frames n h e =
    instance_within (IsFrameHeld held) (IsLiteralHeld held) frames n (held_within held frames h) (sym (among-serials_of (instance_serials frames) n) ∙ e)

pub literals_held : (held : Holds) (frames : List PlainFrame) (n : ℕ) → AreHeld held frames → is_among (frame_names frames).literals n ≡ true → is_among held.literals n ≡ true
literals_held held frames n h e =
    literal_within (IsFrameHeld held) (IsLiteralHeld held) frames n (held_within held frames h) (sym (among-serials_of (literal_serials frames) n) ∙ e)
