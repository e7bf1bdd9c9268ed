-- That the words which a view shows at a frame's place are those of the frame's next instruction, and that its constants stand there.
use Rattle.std.proofs.Common.{◌≡◌, ◌<◌, ◌≤◌, ◌+◌, ◌∙◌, sym, ℕ, Bool, true, false, refl, arith, ap, List, [], ◌∷◌, ◌++◌, length, slice_index, slice_get, Option, Some, None, IsSomeAnd, length-append, subst, add-zero, nat_lt, inr, if◌then◌else◌}
use Rattle.std.proofs.Math.ListN.{get_or-append}
use Rattle.std.proofs.lemmas.Bool.Decides.{nat_tests}
use Rattle.std.proofs.lemmas.List.{get_or-append-add, get_or_past}
use Rattle.std.proofs.lemmas.Option.{slice_get_within}
use Rattle.term_core.specs.declared.area.AreaRef.{AreaRef}
use Rattle.term_core.specs.PlainTerm.{PlainTerm, term_words}
use Rattle.mod_core.specs.declared.code.Instr.{Instr}
use Rattle.mod_core.specs.declared.code.Instr.TheVariants as instrs
use Rattle.mod_core.specs.declared.code.Function.{Function}
use Rattle.mod_core.specs.declared.code.Module.{Module}
use Rattle.mod_core.specs.Module.{IsCallPlace, IsInstr}
use Rattle.mod_core.specs.ModuleImage.{code_start, constants_len, function_place, instr_constants, instr_words, instr_len, module_image, place_in, placed, placed_code}
use Rattle.mod_core.proofs.Places.{ConstantsStand, InstrAt, StandsAt, code_behind_heads, numbered, place_least, target_at}
use Rattle.mod_core.proofs.Lengths.{instr_words_len, some_words}
use Rattle.machine_core.specs.declared.op.Op.{Op}
use Rattle.machine_core.specs.Process.{PlainFrame}
use Rattle.machine_core.specs.View.{Shown, IsInBlock, IsLawful, IsOfModule, IsReadable, IsImagePlace}
use Rattle.machine_core.specs.Turn.{IsPlaced}
use Rattle.machine_core.proofs.NextInstr.{IsNext, instr_stands, is_instr, is_next}
use Rattle.machine_core.specs.Decode.{instr_word, len_of_number, op_at, op_of_words}
use Rattle.machine_core.proofs.Decoding.{HasWords, IsInstrBack, LiteralsStand, instr_back, len_back, op_of_instr}
use Rattle.machine_core.proofs.LiteralPlaces.{image_moved}
use Rattle.machine_core.specs.Reads.{instr_at}

-- a target's place is one of the image
target_small : (shown : Shown) (f : PlainFrame) (n : IsNext shown f) (target : ℕ) → target ≤ length n.function.code → place_in (function_place n.m f.function) n.function.code target ≤ 1024
target_small shown f n target h =
    let at = target_at n.m n.loaded.sound f.function n.function n.found target h in
    let stands = at.stands in
    omega (arith, n.loaded.sound.short, ap length stands.whole_is, stands.place_is, length-append stands.before (instr_words at.constants (numbered (placed_code (function_place n.m f.function) n.function.code) target) ++ stands.rest))

call_back : (fs : List Function) (function at : ℕ) (o : Option Function) → slice_get fs function ≡ o → length fs ≤ 16 → IsSomeAnd o (λ f. IsCallPlace at f.arity) → (function < 4294967296) × (at < 16)
call_back fs function at None e few h = absurd h
call_back fs function at (Some f) e few h = (omega (arith, few, slice_get_within fs function f e), h.back)

-- the parts of an instruction, with a place for its target, fit their words
pub placed_words : (shown : Shown) (f : PlainFrame) (n : IsNext shown f) (i : Instr) → IsInstr n.m.functions (length n.function.code) i → HasWords (placed (place_in (function_place n.m f.function) n.function.code) i)
placed_words shown f n (instrs.Eq a b target) h = (h.0, h.1, omega (arith, target_small shown f n target h.2))
placed_words shown f n (instrs.Less a b target) h = (h.0, h.1, omega (arith, target_small shown f n target h.2))
placed_words shown f n (instrs.Jump target) h = omega (arith, target_small shown f n target h)
placed_words shown f n (instrs.Call function at) h = call_back n.m.functions function at (slice_get n.m.functions function) refl n.loaded.sound.few h
placed_words shown f n (instrs.CallExt to at) h = (h.0, h.1.back)
placed_words shown f n instrs.Yield h = tt
placed_words shown f n i h = h

-- so the parts of the next instruction fit their words
pub next_words : (shown : Shown) (f : PlainFrame) → IsNext shown f → HasWords (instr_at shown.reads f)
next_words shown f n = subst HasWords (sym n.instr) (placed_words shown f n (numbered n.function.code n.number) (is_instr shown f n))

-- ---- words of an instance, as a view shows them

-- a lawful view shows the words of an image
pub view_word : (shown : Shown) (serial at : ℕ) (m : Module) → IsOfModule shown serial m → IsImagePlace m at → 1 ≤ at → slice_index (shown.words serial) at ≡ slice_index (module_image m) at
view_word shown serial at m is p h = is.image.same at p h

pub readable_at : (shown : Shown) (serial at : ℕ) (m : Module) → IsOfModule shown serial m → IsImagePlace m at → IsReadable shown serial at
readable_at shown serial at m is p = record { within = let whole = is.image.whole in let within = p.within in omega arith; no_entry = inr (λ i h. p.no_entry i (let count = is.count in omega arith)) }

-- a place behind the table of functions
behind_heads : (m : Module) (at : ℕ) → code_start m.functions ≤ at → at < length (module_image m) → IsImagePlace m at
behind_heads m at past within = record { within = within; no_entry = λ i below e. omega arith }

-- ---- the constants

-- the constants of an instance stand there as a view shows it
pub constants_stand : (shown : Shown) (area : AreaRef) (m : Module) (place : ℕ) (ts : List PlainTerm) → IsInBlock shown area → IsOfModule shown area.serial m →
    ConstantsStand (module_image m) place ts → code_start m.functions ≤ place → place + constants_len ts ≤ length (module_image m) → LiteralsStand shown area place ts
constants_stand shown area m place [] stands is stand past within = tt
constants_stand shown area m place (t ∷ ts) stands is stand past within =
    let short = is.sound.short in
    let at : (k : ℕ) → k < term_words t → IsImagePlace m (place + k) = λ k l. behind_heads m (place + k) (omega arith) (omega arith) in (
      record {
        literal = record {
          stands = stands;
          term = t;
          image = image_moved (module_image m) (shown.words area.serial) place t stand.0 (λ k l. view_word shown area.serial (place + k) m is (at k l) (omega arith));
          readable = λ k l. readable_at shown area.serial (place + k) m is (at k l);
        };
        is = refl;
        low = omega arith;
      },
      constants_stand shown area m (place + term_words t) ts stands is stand.1 (omega arith) (omega arith),
    )

-- ---- the words of the next instruction

-- a word of an instruction, as the view shows it
pub record IsWordAt (shown : Shown) (serial place : ℕ) (word : ℕ) : Type 0 where
  pub readable : IsReadable shown serial place
  pub value : slice_index (shown.words serial) place ≡ word
  pub within : place < 1024

front_word : (words image : List ℕ) (place k : ℕ) (at : StandsAt words image place) → k < length words → slice_index image (place + k) ≡ slice_index words k
front_word words image place k at h = rw (at.whole_is, ← at.place_is) (get_or-append-add at.before (words ++ at.rest) k 0 ∙ get_or-append words at.rest 0 k h)

within_image : (words image : List ℕ) (place k : ℕ) (at : StandsAt words image place) → k < length words → place + k < length image
within_image words image place k at h = omega (arith, ap length at.whole_is, length-append at.before (words ++ at.rest), length-append words at.rest, at.place_is)

code_place : (shown : Shown) (f : PlainFrame) (n : IsNext shown f) → code_start n.m.functions ≤ f.place
code_place shown f n = omega (arith, n.place, place_least (code_start n.m.functions) n.m.functions f.function)

next_word : (shown : Shown) (f : PlainFrame) (k : ℕ) → (n : IsNext shown f) (a : InstrAt n.m f.place (instr_at shown.reads f)) → k < instr_len (instr_at shown.reads f) →
    IsWordAt shown f.serial (f.place + k) (slice_index (instr_words a.constants (instr_at shown.reads f)) k)
next_word shown f k n a h =
    let less : k < length (instr_words a.constants (instr_at shown.reads f)) = omega (arith, instr_words_len a.constants (instr_at shown.reads f)) in
    let within = within_image (instr_words a.constants (instr_at shown.reads f)) (module_image n.m) f.place k a.stands less in
    let past = code_place shown f n in
    let p : IsImagePlace n.m (f.place + k) = behind_heads n.m (f.place + k) (omega arith) within in
    record {
      readable = readable_at shown f.serial (f.place + k) n.m n.loaded p;
      value = view_word shown f.serial (f.place + k) n.m n.loaded p (omega arith) ∙ front_word (instr_words a.constants (instr_at shown.reads f)) (module_image n.m) f.place k a.stands less;
      within = omega (arith, n.loaded.sound.short);
    }

-- the same of its number
first_word : (shown : Shown) (f : PlainFrame) → (n : IsNext shown f) (a : InstrAt n.m f.place (instr_at shown.reads f)) →
    IsWordAt shown f.serial f.place (slice_index (instr_words a.constants (instr_at shown.reads f)) 0)
first_word shown f n a =
    subst (λ p. IsWordAt shown f.serial p (slice_index (instr_words a.constants (instr_at shown.reads f)) 0)) (add-zero f.place) (next_word shown f 0 n a (omega (arith, some_words (instr_at shown.reads f))))

word_by : (shown : Shown) (f : PlainFrame) (k : ℕ) → (n : IsNext shown f) (a : InstrAt n.m f.place (instr_at shown.reads f)) (b : Bool) → nat_lt k (instr_len (instr_at shown.reads f)) ≡ b →
    (if b then slice_index (shown.words f.serial) (f.place + k) else 0) ≡ slice_index (instr_words a.constants (instr_at shown.reads f)) k
word_by shown f k n a true e = let h : k < instr_len (instr_at shown.reads f) = grind (arith, nat_tests) in (next_word shown f k n a h).value
word_by shown f k n a false e =
    let h : instr_len (instr_at shown.reads f) ≤ k = grind (arith, nat_tests) in
    sym (get_or_past (instr_words a.constants (instr_at shown.reads f)) k 0 (omega (arith, instr_words_len a.constants (instr_at shown.reads f))))

number_len : (shown : Shown) (f : PlainFrame) → (n : IsNext shown f) → InstrAt n.m f.place (instr_at shown.reads f) → len_of_number (slice_index (shown.words f.serial) f.place) ≡ instr_len (instr_at shown.reads f)
number_len shown f n a = ap len_of_number (first_word shown f n a).value ∙ len_back a.constants (instr_at shown.reads f)

word_is : (shown : Shown) (f : PlainFrame) (k : ℕ) → (n : IsNext shown f) (a : InstrAt n.m f.place (instr_at shown.reads f)) →
    instr_word (shown.words f.serial) f.place k ≡ slice_index (instr_words a.constants (instr_at shown.reads f)) k
word_is shown f k n a =
    ap (λ len. if nat_lt k len then slice_index (shown.words f.serial) (f.place + k) else 0) (number_len shown f n a)
    ∙ word_by shown f k n a (nat_lt k (instr_len (instr_at shown.reads f))) refl

op_is : (shown : Shown) (f : PlainFrame) → (n : IsNext shown f) (a : InstrAt n.m f.place (instr_at shown.reads f)) → op_at (shown.words f.serial) f.place ≡ op_of_instr a.constants (instr_at shown.reads f)
op_is shown f n a =
    let number = (first_word shown f n a).value in
    let first = word_is shown f 1 n a in
    let second = word_is shown f 2 n a in
    let third = word_is shown f 3 n a in
    ap (λ w. op_of_words w (instr_word (shown.words f.serial) f.place 1) (instr_word (shown.words f.serial) f.place 2) (instr_word (shown.words f.serial) f.place 3)) number
    ∙ ap (λ w. op_of_words (slice_index (instr_words a.constants (instr_at shown.reads f)) 0) w (instr_word (shown.words f.serial) f.place 2) (instr_word (shown.words f.serial) f.place 3)) first
    ∙ ap (λ w. op_of_words (slice_index (instr_words a.constants (instr_at shown.reads f)) 0) (slice_index (instr_words a.constants (instr_at shown.reads f)) 1) w (instr_word (shown.words f.serial) f.place 3)) second
    ∙ ap (λ w. op_of_words (slice_index (instr_words a.constants (instr_at shown.reads f)) 0) (slice_index (instr_words a.constants (instr_at shown.reads f)) 1) (slice_index (instr_words a.constants (instr_at shown.reads f)) 2) w) third

-- what is read of a placed frame's next instruction
pub record IsFetched (shown : Shown) (area : AreaRef) (f : PlainFrame) : Type 0 where
  pub number : IsReadable shown area.serial f.place
  pub within : f.place + 1 ≤ 1024
  pub constants : ℕ
  pub back : IsInstrBack shown area constants (instr_at shown.reads f) (op_at (shown.words area.serial) f.place)

pub fetched_next : (shown : Shown) (area : AreaRef) (f : PlainFrame) → IsInBlock shown area → f.serial ≡ area.serial → (n : IsNext shown f) → InstrAt n.m f.place (instr_at shown.reads f) → IsFetched shown area f
fetched_next shown area f stands same n a =
    let first = first_word shown f n a in
    let heads = code_behind_heads n.m in
    let behind = a.behind in
    let stand = constants_stand shown area n.m a.constants (instr_constants (instr_at shown.reads f)) stands (subst (λ serial. IsOfModule shown serial n.m) same n.loaded) a.images (omega arith) a.inside in
    let back = instr_back shown area a.constants (instr_at shown.reads f) (next_words shown f n) stand in
    record {
      number = subst (λ serial. IsReadable shown serial f.place) same first.readable;
      within = omega (arith, first.within);
      constants = a.constants;
      back = subst (IsInstrBack shown area a.constants (instr_at shown.reads f)) (sym (op_is shown f n a) ∙ ap (λ serial. op_at (shown.words serial) f.place) same) back;
    }

pub fetched : (shown : Shown) (area : AreaRef) (f : PlainFrame) → IsInBlock shown area → f.serial ≡ area.serial → IsLawful shown → IsPlaced shown.reads f → IsFetched shown area f
fetched shown area f stands same lawful p =
    let n = is_next shown f lawful p in
    fetched_next shown area f stands same n (instr_stands shown f n)

-- a word that the number says the instruction has
pub numbered_word : (shown : Shown) (f : PlainFrame) (number at len : ℕ) → IsLawful shown → IsPlaced shown.reads f → number ≡ slice_index (shown.words f.serial) f.place → len ≡ len_of_number number → at < len →
    (word : ℕ) × IsWordAt shown f.serial (f.place + at) word
numbered_word shown f number at len lawful p e l h =
    let n = is_next shown f lawful p in
    let a = instr_stands shown f n in
    let k : len ≡ instr_len (instr_at shown.reads f) = l ∙ ap len_of_number e ∙ number_len shown f n a in
    (slice_index (instr_words a.constants (instr_at shown.reads f)) at, next_word shown f at n a (omega arith))

-- what was read of a view that shows the same all the while
pub op_read : (shown one two three : Shown) (serial place number first second third : ℕ) (op : Op) → one ≡ shown → two ≡ one → three ≡ two → number ≡ slice_index (shown.words serial) place →
    first ≡ instr_word (one.words serial) place 1 → second ≡ instr_word (two.words serial) place 2 → third ≡ instr_word (three.words serial) place 3 → op ≡ op_of_words number first second third →
    op ≡ op_at (shown.words serial) place
op_read shown one two three serial place number first second third op a b c n f s t o =
    let words : (k : ℕ) (v : Shown) → v ≡ shown → instr_word (v.words serial) place k ≡ instr_word (shown.words serial) place k = λ k v e. ap (λ (w : Shown). instr_word (w.words serial) place k) e in
    o ∙ ap (λ w. op_of_words w first second third) n
    ∙ ap (λ w. op_of_words (slice_index (shown.words serial) place) w second third) (f ∙ words 1 one a)
    ∙ ap (λ w. op_of_words (slice_index (shown.words serial) place) (instr_word (shown.words serial) place 1) w third) (s ∙ words 2 two (b ∙ a))
    ∙ ap (λ w. op_of_words (slice_index (shown.words serial) place) (instr_word (shown.words serial) place 1) (instr_word (shown.words serial) place 2) w) (t ∙ words 3 three (c ∙ b ∙ a))
