-- What a word of the active code index leads to.
use Rattle.std.proofs.Common.{◌≡◌, ℕ, ◌+◌, ◌-◌, ◌*◌, ◌/◌, ◌%◌, ◌<◌, inl, true, List, [], ◌∷◌, Option, Some, None, length, refl, sym, ap, subst, ◌∙◌, arith}
use Rattle.std.specs.Prelude.{◌==◌, slice_get, unwrap_or, option_map}
use Rattle.std.proofs.lemmas.Bool.{and_parts, eqb-true}
use Rattle.term_core.specs.declared.area.AreaRef.{AreaRef}
use Rattle.term_core.specs.declared.area.CodeRef.{CodeRef}
use Rattle.term_core.specs.declared.generation.FunctionRef.{FunctionRef}
use Rattle.area_core.specs.declared.table.Published.{Published}
use Rattle.area_core.specs.Blocks.{Among}
use Rattle.area_core.specs.Generations.{is_code_word, is_reached, leads_to}
use Rattle.area_core.specs.Map.{block_place}
use Rattle.area_core.proofs.Tests.{passed_by}
use Rattle.shared_words.specs.declared.view.MemberView.{MemberView}
use Rattle.shared_words.specs.Processes.{held_by_view}
use Rattle.server_core.specs.ServerState.{entry_of}
use Rattle.code_law.proofs.States.{entry_ref}
use Rattle.word_view.specs.Loaded.{IsCallable, IsCodeOf, IsFound, IsReadAt, IsWordThere, LeadsOn}
use Rattle.word_view.proofs.KeptHere.{reached_current}

-- a word that was found there is that of the entry
pub code_found : (m : MemberView) (entry found : ℕ) → entry < 1024 → IsFound m (block_place (held_by_view m).root.code entry) found → is_code_word (held_by_view m) (slice_get (held_by_view m).state.exports entry) found ≡ true
code_found m entry found few f =
    subst (λ (word : ℕ). is_code_word (held_by_view m) (slice_get (held_by_view m).state.exports entry) word ≡ true) f.here (f.stands.code_stands m.member.generation (held_by_view m) refl f.published entry few)

-- where it is 0, nothing is reached
pub leads_nowhere : (p : Published) (o : Option (Option FunctionRef)) (word : ℕ) → is_code_word p o word ≡ true → word ≡ 0 → IsCodeOf p (unwrap_or o None) None
leads_nowhere p None word is none = tt
leads_nowhere p (Some None) word is none = tt
leads_nowhere p (Some (Some to)) word is none =
    let found = passed_by (λ (a : AreaRef). leads_to to a word) p.areas is in
    let parts = and_parts (found.0.serial == to.serial) (word == 1 + found.0.block * 16 + to.function) found.3 in
    let e = eqb-true word (1 + found.0.block * 16 + to.function) parts.1 in
    absurd (omega (arith, e, none))

-- where it is not, it tells block and function
pub record IsLed (m : MemberView) (o : Option FunctionRef) (word : ℕ) : Type 0 where
  pub to : FunctionRef
  pub is : o ≡ Some to
  pub callable : IsCallable m to
  pub block_is : (word - 1) / 16 ≡ callable.area.block
  pub function_is : (word - 1) % 16 ≡ to.function

pub leads_on : (m : MemberView) (o : Option (Option FunctionRef)) (word : ℕ) → is_code_word (held_by_view m) o word ≡ true → (word ≡ 0 → ⊥) → LeadsOn m (unwrap_or o None) → IsLed m (unwrap_or o None) word
leads_on m None word is differs leads = absurd (differs (eqb-true word 0 is))
leads_on m (Some None) word is differs leads = absurd (differs (eqb-true word 0 is))
leads_on m (Some (Some to)) word is differs leads =
    let p : Published = held_by_view m in
    let found = passed_by (λ (a : AreaRef). leads_to to a word) p.areas is in
    let a : AreaRef = found.0 in
    let parts = and_parts (a.serial == to.serial) (word == 1 + a.block * 16 + to.function) found.3 in
    let e = eqb-true word (1 + a.block * 16 + to.function) parts.1 in
    let same = leads.once.areas a leads.area (found.1, found.2) leads.stands.listed (eqb-true a.serial to.serial parts.0 ∙ sym leads.is) in
    let block = ap (λ (x : AreaRef). x.block) same in
    let few = leads.few in
    record {
      to = to;
      is = refl;
      callable = leads;
      block_is = by_word word a.block to.function leads.area.block e block few;
      function_is = last word a.block to.function e few;
    }
  where
    by_word : (word b f c : ℕ) → word ≡ 1 + b * 16 + f → b ≡ c → f < 16 → (word - 1) / 16 ≡ c
    by_word word b f c e same few = omega (arith, e, same, few)

    last : (word b f : ℕ) → word ≡ 1 + b * 16 + f → f < 16 → (word - 1) % 16 ≡ f
    last word b f e few = omega (arith, e, few)

-- the first word of the block may be read
pub first_read : (m : MemberView) (o : Option FunctionRef) (word : ℕ) (led : IsLed m o word) → IsReadAt m ((word - 1) / 16) 0
first_read m o word led = record {
  area = led.callable.area;
  words = led.callable.words;
  may = inl (subst (λ (n : ℕ). is_reached (held_by_view m) n ≡ true) (sym led.callable.is) (reached_current (held_by_view m) led.to.serial led.callable.current));
  stands = led.callable.stands;
  once = led.callable.once;
  block_is = sym led.block_is;
  within = some_first led.callable.words led.to.serial led.callable.headed;
}
  where
    some_first : (xs : List ℕ) (x : ℕ) → slice_get xs 0 ≡ Some x → 0 < length xs
    some_first [] x e = absurd (cc)
    some_first (y ∷ ys) x e = omega (arith)

-- the block has a number of an area
pub block_small : (m : MemberView) (o : Option FunctionRef) (word : ℕ) → IsLed m o word → (word - 1) / 16 < 320
block_small m o word led = subst (λ (n : ℕ). n < 320) (sym led.block_is) led.callable.stands.fits.last

-- with the serial that stands there this is the function
pub code_reached : (m : MemberView) (o : Option FunctionRef) (word serial : ℕ) (led : IsLed m o word) → IsWordThere m ((word - 1) / 16) 0 serial → IsCodeOf (held_by_view m) o (Some (record { area = record { serial = serial; block = (word - 1) / 16 }; function = (word - 1) % 16 }))
unfolding first_read
code_reached m o word serial led there =
    let serial_is : serial ≡ led.to.serial = there (first_read m o word led) led.to.serial led.callable.headed refl in
    let code : CodeRef = record { area = record { serial = serial; block = (word - 1) / 16 }; function = (word - 1) % 16 } in
    subst (λ (x : Option FunctionRef). IsCodeOf (held_by_view m) x (Some code)) (sym led.is)
    (serial_is, led.function_is, subst (Among (held_by_view m).areas) (λ i. record { serial = (led.callable.is ∙ sym serial_is) i; block = sym led.block_is i }) led.callable.stands.listed)

-- it is the entry that was found
pub code_entry : (p : Published) (o : Option FunctionRef) (r : Option CodeRef) → IsCodeOf p o r → option_map entry_of r ≡ option_map entry_ref o
code_entry p None None h = refl
code_entry p None (Some code) h = absurd h
code_entry p (Some to) None h = absurd h
code_entry p (Some to) (Some code) h = λ i. Some (record { serial = h.0 i; function = h.1 i })

-- and it is listed
pub code_listed : (p : Published) (o : Option FunctionRef) (code : CodeRef) → IsCodeOf p o (Some code) → Among p.areas code.area
code_listed p None code h = absurd h
code_listed p (Some to) code h = h.2
