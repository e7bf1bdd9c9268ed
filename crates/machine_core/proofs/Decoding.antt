-- That what an instruction is written as reads back as it, where its constants stand at their places.
use Rattle.std.proofs.Common.{◌≡◌, ◌<◌, ◌%◌, ◌/◌, ◌+◌, ◌*◌, ◌∙◌, ℕ, true, false, refl, sym, arith, ap, subst, List, [], ◌∷◌, ◌++◌, slice_index}
use Rattle.std.proofs.lemmas.Bool.Decides.{nat_tests}
use Rattle.term_core.specs.declared.area.AreaRef.{AreaRef}
use Rattle.term_core.specs.declared.atom.AtomId.{AtomId}
use Rattle.term_core.specs.declared.atom.Mfa.{Mfa}
use Rattle.term_core.specs.declared.term.Term.{Term}
use Rattle.term_core.specs.declared.term.Term.TheVariants as terms
use Rattle.term_core.specs.Image.{immediate_word, is_immediate, low_bits, term_at, term_of_word}
use Rattle.term_core.specs.Plain.{plain, term_of}
use Rattle.term_core.specs.PlainTerm.{PlainTerm, term_words}
use Rattle.term_core.proofs.ImagePlaces.{term_at-is}
use Rattle.term_core.proofs.Words.{term_of_word-immediate_word}
use Rattle.mod_core.specs.declared.code.Operand.{Operand}
use Rattle.mod_core.specs.declared.code.Operand.TheVariants.{Reg, Const}
use Rattle.mod_core.specs.declared.code.Instr.{Instr}
use Rattle.mod_core.specs.declared.code.Instr.TheVariants.{Move, Add, Sub, Eq, Less, Jump, Call, CallExt, Ret, Pget, PgetOr, Elem, Print, Yield}
use Rattle.mod_core.specs.Module.{IsFunctionName, IsOperand}
use Rattle.mod_core.specs.ModuleImage.{constants_len, instr_constants, name_word, operand_constants, operand_word, register_word, instr_words, instr_len}
use Rattle.machine_core.specs.declared.op.Source.{Source}
use Rattle.machine_core.specs.declared.op.Source.TheVariants as sources
use Rattle.machine_core.specs.declared.op.Op.{Op}
use Rattle.machine_core.specs.Decode.{atom_of_word, instr_shown, len_of_number, name_of_word, number_of_word, op_of_words, operand_shown, register_of_word, source_of_word}
use Rattle.machine_core.specs.Stand.{HasSources, IsSource}
use Rattle.machine_core.specs.View.{IsLiteral, Shown}
use Rattle.machine_core.proofs.OwnedTerms.{term_of-plain}

-- an instruction whose parts fit their words, its target a place
abbrev pub HasWords : Instr → Type 0
HasWords (Move from to) = IsOperand from × (to < 16)
HasWords (Add a b to) = IsOperand a × IsOperand b × (to < 16)
HasWords (Sub a b to) = IsOperand a × IsOperand b × (to < 16)
HasWords (Eq a b target) = IsOperand a × IsOperand b × (target < 4294967296)
HasWords (Less a b target) = IsOperand a × IsOperand b × (target < 4294967296)
HasWords (Jump target) = target < 4294967296
HasWords (Call function at) = (function < 4294967296) × (at < 16)
HasWords (CallExt to at) = IsFunctionName to × (at < 16)
HasWords (Ret value) = IsOperand value
HasWords (Pget key to) = (key.0 < 4096) × (to < 16)
HasWords (PgetOr key other to) = (key.0 < 4096) × IsOperand other × (to < 16)
HasWords (Elem index from to) = IsOperand index × IsOperand from × (to < 16)
HasWords (Print value) = IsOperand value
HasWords Yield = Unit {0}

-- the image of this term stands there as a literal
pub record IsLiteralOf (shown : Shown) (area : AreaRef) (place : ℕ) (t : PlainTerm) : Type 0 where
  pub literal : IsLiteral shown (record { area = area; at = place })
  pub is : literal.term ≡ t
  pub low : place < 4294967296

-- the images of constants stand in an area one behind another
abbrev pub LiteralsStand : Shown → AreaRef → ℕ → List PlainTerm → Type 0
LiteralsStand shown area place [] = Unit {0}
LiteralsStand shown area place (t ∷ ts) = IsLiteralOf shown area place t × LiteralsStand shown area (place + term_words t) ts

pub literals_front : (shown : Shown) (area : AreaRef) (place : ℕ) (ts us : List PlainTerm) → LiteralsStand shown area place (ts ++ us) → LiteralsStand shown area place ts
literals_front shown area place [] us h = tt
literals_front shown area place (t ∷ ts) us h = (h.0, literals_front shown area (place + term_words t) ts us h.1)

pub literals_behind : (shown : Shown) (area : AreaRef) (place : ℕ) (ts us : List PlainTerm) → LiteralsStand shown area place (ts ++ us) → LiteralsStand shown area (place + constants_len ts) us
literals_behind shown area place [] us h = subst (λ p. LiteralsStand shown area p us) (omega arith) h
literals_behind shown area place (t ∷ ts) us h = subst (λ p. LiteralsStand shown area p us) (omega arith) (literals_behind shown area (place + term_words t) ts us h.1)

pub tag_of : (n t : ℕ) → t < 16 → (n * 16 + t) % 16 ≡ t
tag_of n t h = omega arith

bits_of : (n t : ℕ) → t < 16 → (n * 16 + t) / 16 ≡ n
bits_of n t h = omega arith

-- a register's word reads back as it
register_back : (r : ℕ) → r < 16 → register_of_word (register_word r) ≡ r
register_back r h = rw (bits_of r 6 (omega arith)) (omega arith)

-- what an operand's word is read as
record IsOperandBack (shown : Shown) (area : AreaRef) (place : ℕ) (o : Operand) : Type 0 where
  shows : operand_shown (shown.words area.serial) (source_of_word (operand_word place o)) ≡ o
  source : IsSource shown area (source_of_word (operand_word place o))

-- the same of any word and source
back_by : (shown : Shown) (area : AreaRef) (place : ℕ) (o : Operand) (source : Source) → source_of_word (operand_word place o) ≡ source → operand_shown (shown.words area.serial) source ≡ o → IsSource shown area source → IsOperandBack shown area place o
back_by shown area place o source e shows is = record { shows = ap (operand_shown (shown.words area.serial)) e ∙ shows; source = subst (IsSource shown area) (sym e) is }

-- a word with the tag of an integer or an atom is read as one
immediate_source : (word : ℕ) → word % 16 < 3 → source_of_word word ≡ sources.Immediate (term_of_word word)
immediate_source word h = grind (arith, nat_tests)

constant_source : (place : ℕ) → place < 4294967296 → source_of_word (place * 16 + 5) ≡ sources.Constant place
constant_source place low =
    let tag : (place * 16 + 5) % 16 ≡ 5 = tag_of place 5 (omega arith) in
    let bits : (place * 16 + 5) / 16 ≡ place = bits_of place 5 (omega arith) in
    let number : (place * 16 + 5) / 16 % 4294967296 ≡ place = omega (arith, bits) in
    let e : source_of_word (place * 16 + 5) ≡ sources.Constant (number_of_word ((place * 16 + 5) / 16)) = grind (arith, nat_tests) in
    e ∙ ap sources.Constant number

integer_back : (shown : Shown) (area : AreaRef) (place : ℕ) (t : Term) → is_immediate (plain t) ≡ true → immediate_word t % 16 < 3 → term_of_word (immediate_word t) ≡ t → operand_word place (Const t) ≡ immediate_word t →
    IsOperandBack shown area place (Const t)
integer_back shown area place t is tag e w =
    back_by shown area place (Const t) (sources.Immediate t) (ap source_of_word w ∙ immediate_source (immediate_word t) tag ∙ ap sources.Immediate e) refl is

complex_back : (shown : Shown) (area : AreaRef) (place : ℕ) (t : Term) → is_immediate (plain t) ≡ false → operand_word place (Const t) ≡ place * 16 + 5 → IsLiteralOf shown area place (plain t) → IsOperandBack shown area place (Const t)
complex_back shown area place t is w h =
    let at : term_at (shown.words area.serial) place ≡ plain t = term_at-is (shown.words area.serial) place h.literal.term h.literal.image ∙ h.is in
    back_by shown area place (Const t) (sources.Constant place) (ap source_of_word w ∙ constant_source place h.low) (ap (λ u. Const (term_of u)) at ∙ ap Const (term_of-plain t))
    (record { literal = h.literal; complex = ap is_immediate at ∙ is })

register_source : (r : ℕ) → r < 16 → source_of_word (register_word r) ≡ sources.Register r
register_source r h =
    let tag : register_word r % 16 ≡ 6 = tag_of r 6 (omega arith) in
    let e : source_of_word (register_word r) ≡ sources.Register (register_of_word (register_word r)) = grind (arith, nat_tests) in
    e ∙ ap sources.Register (register_back r h)

-- an operand's word reads back as it
operand_back : (shown : Shown) (area : AreaRef) (place : ℕ) (o : Operand) → IsOperand o → LiteralsStand shown area place (operand_constants o) → IsOperandBack shown area place o
operand_back shown area place (Reg r) h stand = back_by shown area place (Reg r) (sources.Register r) (register_source r h) refl tt
operand_back shown area place (Const (terms.Int z)) h stand =
    integer_back shown area place (terms.Int z) refl (rw (tag_of (low_bits z) 1 (omega arith)) (omega arith)) (term_of_word-immediate_word (terms.Int z) h.leaves tt) refl
operand_back shown area place (Const (terms.Atom a)) h stand =
    let few : a.0 < 4096 = h.leaves in
    integer_back shown area place (terms.Atom a) refl (rw (tag_of a.0 2 (omega arith)) (omega arith)) (term_of_word-immediate_word (terms.Atom a) tt (omega arith)) refl
operand_back shown area place (Const (terms.Tuple ts)) h stand = complex_back shown area place (terms.Tuple ts) refl refl stand.0
operand_back shown area place (Const (terms.List ts)) h stand = complex_back shown area place (terms.List ts) refl refl stand.0

-- a place's word and a function's number read back as they are
number_back : (n : ℕ) → n < 4294967296 → number_of_word n ≡ n
number_back n h = omega arith

-- the parts of a name's word
module_part : (m n a : ℕ) → m < 4096 → n < 4096 → a < 16 → ((m * 4096 + n) * 16 + a) / 65536 % 4096 ≡ m
module_part m n a hm hn ha = omega arith

name_part : (m n a : ℕ) → n < 4096 → a < 16 → ((m * 4096 + n) * 16 + a) / 16 % 4096 ≡ n
name_part m n a hn ha = omega arith

arity_part : (m n a : ℕ) → a < 16 → ((m * 4096 + n) * 16 + a) % 16 ≡ a
arity_part m n a ha = omega arith

-- a name's word reads back as it
name_back : (to : Mfa) → IsFunctionName to → name_of_word (name_word to) ≡ to
name_back to h =
    let a : to.arity < 16 = omega (arith, h.arity) in
    let x = module_part to.«module».0 to.name.0 to.arity h.module_named h.name_named a in
    let y = name_part to.«module».0 to.name.0 to.arity h.name_named a in
    let z = arity_part to.«module».0 to.name.0 to.arity a in
    rw (x, y, z)

-- a key's word reads back as it
key_back : (key : AtomId) → key.0 < 4096 → atom_of_word (immediate_word (terms.Atom key)) ≡ key
key_back key h = let e : number_of_word ((key.0 * 16 + 2) / 16) ≡ key.0 = omega arith in ap (λ n. record { 0 = n }) e

-- what the words of an instruction are read as
pub record IsInstrBack (shown : Shown) (area : AreaRef) (place : ℕ) (i : Instr) (op : Op) : Type 0 where
  pub shows : instr_shown (shown.words area.serial) op ≡ i
  pub sources : HasSources shown area op

-- the instruction that these words stand for
abbrev pub op_of_instr : ℕ → Instr → Op
op_of_instr place i = op_of_words (slice_index (instr_words place i) 0) (slice_index (instr_words place i) 1) (slice_index (instr_words place i) 2) (slice_index (instr_words place i) 3)

module _ (shown : Shown) (area : AreaRef) (place : ℕ) where
  -- two operands, one behind the other
  both_back : (a b : Operand) → IsOperand a → IsOperand b → LiteralsStand shown area place (operand_constants a ++ operand_constants b) →
      IsOperandBack shown area place a × IsOperandBack shown area (place + constants_len (operand_constants a)) b
  both_back a b ha hb h = (
    operand_back shown area place a ha (literals_front shown area place (operand_constants a) (operand_constants b) h),
    operand_back shown area (place + constants_len (operand_constants a)) b hb (literals_behind shown area place (operand_constants a) (operand_constants b) h),
  )

  -- an instruction's words read back as it
  pub instr_back : (i : Instr) → HasWords i → LiteralsStand shown area place (instr_constants i) → IsInstrBack shown area place i (op_of_instr place i)
  instr_back (Move from to) h c = let e = operand_back shown area place from h.0 c in record { shows = cc (e.shows, register_back to h.1); sources = e.source }
  instr_back (Add a b to) h c = let e = both_back a b h.0 h.1 c in record { shows = cc (e.0.shows, e.1.shows, register_back to h.2); sources = (e.0.source, e.1.source) }
  instr_back (Sub a b to) h c = let e = both_back a b h.0 h.1 c in record { shows = cc (e.0.shows, e.1.shows, register_back to h.2); sources = (e.0.source, e.1.source) }
  instr_back (Eq a b target) h c = let e = both_back a b h.0 h.1 c in record { shows = cc (e.0.shows, e.1.shows, number_back target h.2); sources = (e.0.source, e.1.source) }
  instr_back (Less a b target) h c = let e = both_back a b h.0 h.1 c in record { shows = cc (e.0.shows, e.1.shows, number_back target h.2); sources = (e.0.source, e.1.source) }
  instr_back (Jump target) h c = record { shows = ap Jump (number_back target h); sources = tt }
  instr_back (Call function at) h c = record { shows = cc (number_back function h.0, register_back at h.1); sources = tt }
  instr_back (CallExt to at) h c = record { shows = cc (name_back to h.0, register_back at h.1); sources = tt }
  instr_back (Ret value) h c = let e = operand_back shown area place value h c in record { shows = ap Ret e.shows; sources = e.source }
  instr_back (Pget key to) h c = record { shows = cc (key_back key h.0, register_back to h.1); sources = tt }
  instr_back (PgetOr key other to) h c = let e = operand_back shown area place other h.1 c in record { shows = cc (key_back key h.0, e.shows, register_back to h.2); sources = e.source }
  instr_back (Elem index from to) h c = let e = both_back index from h.0 h.1 c in record { shows = cc (e.0.shows, e.1.shows, register_back to h.2); sources = (e.0.source, e.1.source) }
  instr_back (Print value) h c = let e = operand_back shown area place value h c in record { shows = ap Print e.shows; sources = e.source }
  instr_back Yield h c = record { shows = refl; sources = tt }

-- an instruction's number tells how many words it has
pub len_back : (place : ℕ) (i : Instr) → len_of_number (slice_index (instr_words place i) 0) ≡ instr_len i
len_back place (Move from to) = refl
len_back place i = refl
