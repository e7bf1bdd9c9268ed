-- What a source and a key are read as: a value that may be used, and that stands for what the turn says.
use Rattle.std.proofs.Common.{◌≡◌, ◌∙◌, ℕ, zero, suc, refl, sym, ap, subst, arith, true, false, List, [], ◌∷◌, length, All, slice_get, Option, Some, None, option_and_then, option_map, unwrap_or, IfSome, Result, Ok, Err, IfOk, inl, inr, cond}
use Rattle.std.proofs.lemmas.List.Elements.{All-head, All-tail}
use Rattle.term_core.specs.declared.area.AreaRef.{AreaRef}
use Rattle.term_core.specs.declared.area.Found.{Found}
use Rattle.term_core.specs.declared.area.Found.TheVariants.{Absent, Word, Area}
use Rattle.term_core.specs.declared.no_memory.NoMemory.{NoMemory}
use Rattle.term_core.specs.declared.term.Term.{Term}
use Rattle.term_core.specs.Image.{immediate_word, is_immediate, term_at, term_of_word, IsImageAt, IsPlainTerm}
use Rattle.term_core.specs.Plain.{plain, term_of}
use Rattle.term_core.specs.PlainTerm.{PlainTerm}
use Rattle.term_core.proofs.ImagePlaces.{first_word-immediate, stands_alone, term_at-is, term_of_word-first_word}
use Rattle.term_core.proofs.ImageTerms.{length-image}
use Rattle.term_core.proofs.PlainTerms.{plain-term_of}
use Rattle.server_core.specs.ServerState.{absent, found_as, one_word, whole_area}
use Rattle.machine_core.specs.declared.op.Source.{Source}
use Rattle.machine_core.specs.declared.op.Source.TheVariants.{Register, Immediate, Constant}
use Rattle.machine_core.specs.declared.process.Frame.{Frame}
use Rattle.machine_core.specs.declared.process.Value.{Value}
use Rattle.machine_core.specs.declared.process.Value.TheVariants.{Owned, Literal}
use Rattle.machine_core.specs.Decode.{operand_shown}
use Rattle.machine_core.specs.Holds.{Holds}
use Rattle.machine_core.specs.Process.{PlainValue, Words, frame_of, literal, no_held, owned, register_of, value_shown, values_shown}
use Rattle.machine_core.specs.Stand.{IsReadyFrame, IsSource, IsUsable, IsValueOf}
use Rattle.machine_core.specs.Values.{operand_term, term_of as value_term}
use Rattle.machine_core.specs.View.{IsFoundInBlock, IsInBlock, IsKeyValue, IsLawful, IsLiteral, IsTermIn, Shown}
use Rattle.machine_core.specs.Reads.{area_of, found_of}

-- ---- sources

register_usable : (shown : Shown) (held : Holds) (values : List Value) (register : ℕ) → All (IsUsable shown held) values → IsUsable shown held (unwrap_or (slice_get values register) no_held)
register_usable shown held [] register all = tt
register_usable shown held (v ∷ vs) zero all = All-head (IsUsable shown held) v vs all
register_usable shown held (v ∷ vs) (suc register) all = register_usable shown held vs register (All-tail (IsUsable shown held) v vs all)

register_shown : (words : Words) (values : List Value) (register : ℕ) → value_shown words (unwrap_or (slice_get values register) no_held) ≡ register_of (values_shown words values) register
register_shown words [] register = refl
register_shown words (v ∷ vs) zero = refl
register_shown words (v ∷ vs) (suc register) = register_shown words vs register

module _ (shown : Shown) (held : Holds) (f : Frame) (ready : IsReadyFrame shown held f) where
  -- a register's value
  pub register_value : (source : Source) (register : ℕ) (value : Value) → source ≡ Register register → value ≡ unwrap_or (slice_get f.registers register) no_held → IsValueOf shown held f source value
  register_value source register value s e =
      subst (λ (k : Source). IsValueOf shown held f k value) (sym s)
      (subst (IsValueOf shown held f (Register register)) (sym e)
      (record { usable = register_usable shown held f.registers register ready.registers; shows = register_shown shown.words f.registers register }))

  -- an integer or an atom
  pub immediate_value : (source : Source) (term copy : Term) → source ≡ Immediate term → copy ≡ term → IsSource shown f.code.area source → IsValueOf shown held f source (Owned copy)
  immediate_value source term copy s e is =
      let immediate : is_immediate (plain term) ≡ true = subst (IsSource shown f.code.area) s is in
      subst (λ (k : Source). IsValueOf shown held f k (Owned copy)) (sym s)
      (record { usable = tt; shows = ap owned e ∙ ap (λ b. cond b (owned term) (literal f.code.area.serial term)) (sym immediate) })

  -- a complex constant
  pub constant_value : (source : Source) (place : ℕ) → source ≡ Constant place → IsSource shown f.code.area source → IsValueOf shown held f source (Literal (record { area = f.code.area; at = place }))
  constant_value source place s is =
      let constant = subst (IsSource shown f.code.area) s is in
      let term = term_at (shown.words f.code.area.serial) place in
      let complex : is_immediate (plain (term_of term)) ≡ false = ap is_immediate (plain-term_of term) ∙ constant.complex in
      subst (λ (k : Source). IsValueOf shown held f k (Literal (record { area = f.code.area; at = place }))) (sym s)
      (record {
        usable = (constant.literal, inr (inr ready.standing));
        shows = ap (λ b. cond b (owned (term_of term)) (literal f.code.area.serial (term_of term))) (sym complex);
      })

-- ---- keys

-- what a key is read as
pub record IsKeyRead (shown : Shown) (held : Holds) (key : ℕ) (value : Option Value) : Type 0 where
  pub shows : option_map (value_shown shown.words) value ≡ shown.reads.key key
  pub usable : IfSome value (IsUsable shown held)

-- the value that was found
abbrev pub found_value : Found → Option Value
found_value Absent = None
found_value (Word word) = Some (Owned (term_of_word word))
found_value (Area area) = Some (Literal (record { area = area; at = 0 }))

absent_read : (shown : Shown) (held : Holds) (key : ℕ) (o : Option PlainValue) → shown.reads.key key ≡ o → found_of o ≡ absent → IsKeyRead shown held key None
absent_read shown held key None p e = record { shows = sym p; usable = tt }
absent_read shown held key (Some (owned term)) p e = absurd (cc)
absent_read shown held key (Some (literal serial term)) p e = absurd (cc)

word_back : (t : PlainTerm) (word : ℕ) → is_immediate t ≡ true → word ≡ immediate_word (term_of t) → IsPlainTerm t → term_of_word word ≡ term_of t
word_back t word is e fits = ap term_of_word (e ∙ sym (first_word-immediate t is)) ∙ term_of_word-first_word t is fits

word_read : (shown : Shown) (held : Holds) (key word : ℕ) (o : Option PlainValue) → shown.reads.key key ≡ o → IsKeyValue shown o → found_of o ≡ one_word word → IsKeyRead shown held key (Some (Owned (term_of_word word)))
word_read shown held key word None p is e = absurd (cc)
word_read shown held key word (Some (literal serial term)) p is e = absurd (cc)
word_read shown held key word (Some (owned term)) p is e =
    let k : immediate_word term ≡ word = cc in
    record { shows = ap (λ t. Some (owned t)) (word_back is.plain word is.immediate (sym k ∙ ap immediate_word is.is) is.fits ∙ sym is.is) ∙ sym p; usable = tt }

-- the area of a complex term has its image
term_literal : (shown : Shown) (area : AreaRef) (term : Term) → IsInBlock shown area → IsTermIn shown area.serial term → IsLiteral shown (record { area = area; at = 0 })
term_literal shown area term stands is = record {
  stands = stands;
  term = is.plain;
  image = subst (λ words. IsImageAt words 0 is.plain) (sym is.image) (stands_alone is.plain is.sound.fits is.sound.short);
  readable = λ i l. record { within = omega (arith, length-image is.plain, ap length is.image); no_entry = inl is.area };
}

area_read : (shown : Shown) (held : Holds) (key : ℕ) (area : AreaRef) (o : Option PlainValue) → IsInBlock shown area → shown.reads.key key ≡ o → IsKeyValue shown o → found_of o ≡ whole_area area.serial →
    IsKeyRead shown held key (Some (Literal (record { area = area; at = 0 })))
area_read shown held key area None stands p is e = absurd (cc)
area_read shown held key area (Some (owned term)) stands p is e = absurd (cc)
area_read shown held key area (Some (literal serial term)) stands p is e =
    let k : serial ≡ area.serial = cc in
    let here : IsTermIn shown area.serial term = subst (λ n. IsTermIn shown n term) k is in
    let image : IsImageAt (shown.words area.serial) 0 here.plain = subst (λ words. IsImageAt words 0 here.plain) (sym here.image) (stands_alone here.plain here.sound.fits here.sound.short) in
    record {
      shows =
          ap (λ t. Some (literal area.serial (term_of t))) (term_at-is (shown.words area.serial) 0 here.plain image)
          ∙ ap (λ t. Some (literal area.serial t)) (sym here.is) ∙ ap (λ n. Some (literal n term)) (sym k) ∙ sym p;
      usable = (term_literal shown area term stands here, inr (inl (key, ap (option_and_then area_of) p ∙ ap Some k)));
    }

-- what the view finds under a key is read as the turn says
pub key_read : (shown : Shown) (held : Holds) (key : ℕ) (found : Found) → IsLawful shown → IsFoundInBlock shown found → found_as found ≡ found_of (shown.reads.key key) → IsKeyRead shown held key (found_value found)
key_read shown held key Absent lawful stands e = absent_read shown held key (shown.reads.key key) refl (sym e)
key_read shown held key (Word word) lawful stands e = word_read shown held key word (shown.reads.key key) refl (lawful.keys key) (sym e)
key_read shown held key (Area area) lawful stands e = area_read shown held key area (shown.reads.key key) stands refl (lawful.keys key) (sym e)

-- the answer of a look into a register
pub register_read : (r : Result Value NoMemory) (f : Frame) (source : Source) (register : ℕ) → source ≡ Register register → IfOk r (λ value. value ≡ unwrap_or (slice_get f.registers register) no_held) →
    IfOk r (λ value. (shown : Shown) (held : Holds) → IsReadyFrame shown held f → IsSource shown f.code.area source → IsValueOf shown held f source value)
register_read (Ok value) f source register s h = λ shown held ready is. register_value shown held f ready source register value s h
register_read (Err refused) f source register s h = tt

-- the term of a source is that of its value
pub term_read : (r : Result Term NoMemory) (shown : Shown) (held : Holds) (f : Frame) (source : Source) (value : Value) → IsValueOf shown held f source value → IfOk r (λ term. term ≡ value_term (value_shown shown.words value)) →
    IfOk r (λ term. term ≡ operand_term (frame_of shown.words f) (operand_shown (shown.words f.code.area.serial) source))
term_read (Ok term) shown held f source value v h = h ∙ ap value_term v.shows
term_read (Err refused) shown held f source value v h = tt
