-- Items in a row: each is read of its part, and the parts are their texts.
use Rattle.std.proofs.Common.{◌≡◌, ℕ, ◌<◌, Bool, true, false, ◌==◌, List, [], ◌∷◌, ◌++◌, length, Option, Some, refl, sym, ap, ◌∙◌, subst, arith, append-nil}
use Rattle.std.specs.Prelude.{map}
use Rattle.std.specs.List.{AllByRecursion, flat_map, join_with_byte, list_all}
use Rattle.std.proofs.lemmas.Bool.{and_parts, and_from}
use Rattle.term_core.specs.Text.Steps.{◌>>=◌}
use Rattle.term_core.proofs.Text.Options.{some, some_is, bind_some, bind_at}
use Rattle.term_core.proofs.Text.Cuts.{lacks, lacks-append, lacks-cons}
use Rattle.term_core.specs.Text.Parts.{parts_between, each_reading}
use Rattle.term_core.proofs.Text.Parts.{parts_at, parts_whole, parts_are_some, join-parts}

-- the bytes are the text of this item, which fits
pub record IsItem {X : Type 0} (write : X → List ℕ) (Fits : X → Type 0) (text : List ℕ) (x : X) : Type 0 where
  pub text_is : text ≡ write x
  pub fits : Fits x

-- the text of each item is read as it
pub each_again : {X : Type 0} (write : X → List ℕ) (read : List ℕ → Option X) (Fits : X → Type 0) → ((x : X) → Fits x → read (write x) ≡ Some x) → (xs : List X) → AllByRecursion Fits xs → each_reading read (map write xs) ≡ Some xs
each_again write read Fits again [] h = refl
each_again write read Fits again (x ∷ xs) h =
    bind_at (read (write x)) (λ y. each_reading read (map write xs) >>= λ ys. Some (y ∷ ys)) x (some (x ∷ xs)) (again x h.0)
    (bind_at (each_reading read (map write xs)) (λ ys. Some (x ∷ ys)) xs (some (x ∷ xs)) (each_again write read Fits again xs h.1) refl)

-- the parts are the texts of these items
pub record AreItems {X : Type 0} (write : X → List ℕ) (Fits : X → Type 0) (parts : List (List ℕ)) (xs : List X) : Type 0 where
  pub texts : parts ≡ map write xs
  pub fit : AllByRecursion Fits xs

-- what is read of parts has them for its texts
pub each_is : {X : Type 0} (write : X → List ℕ) (read : List ℕ → Option X) (Fits : X → Type 0) → ((text : List ℕ) (x : X) → read text ≡ Some x → IsItem write Fits text x) → (parts : List (List ℕ)) (xs : List X) → each_reading read parts ≡ Some xs → AreItems write Fits parts xs
each_is write read Fits one [] xs e = subst (AreItems write Fits []) (some_is [] xs e) (record { texts = refl; fit = tt })
each_is write read Fits one (part ∷ parts) xs e =
    let a = bind_some (read part) (λ y. each_reading read parts >>= λ ys. Some (y ∷ ys)) xs e in
    let b = bind_some (each_reading read parts) (λ ys. Some (a.0 ∷ ys)) xs a.2 in
    let more = each_is write read Fits one parts b.0 b.1 in
    let here = one part a.0 a.1 in
    subst (AreItems write Fits (part ∷ parts)) (some_is (a.0 ∷ b.0) xs b.2) (record {
      texts = ap (λ (t : List ℕ). t ∷ parts) here.text_is ∙ ap (λ (ps : List (List ℕ)). write a.0 ∷ ps) more.texts;
      fit = (here.fits, more.fit);
    })

-- as many as parts
pub each_count : {X : Type 0} (read : List ℕ → Option X) (parts : List (List ℕ)) (xs : List X) → each_reading read parts ≡ Some xs → length xs ≡ length parts
each_count read [] xs e = ap length (sym (some_is [] xs e))
each_count read (part ∷ parts) xs e =
    let a = bind_some (read part) (λ y. each_reading read parts >>= λ ys. Some (y ∷ ys)) xs e in
    let b = bind_some (each_reading read parts) (λ ys. Some (a.0 ∷ ys)) xs a.2 in
    let more = each_count read parts b.0 b.1 in
    let same : length (a.0 ∷ b.0) ≡ length xs = ap length (some_is (a.0 ∷ b.0) xs b.2) in
    omega (arith, same, more)

-- items that lack the byte, with it between them, have their texts for parts
pub parts_joined : {X : Type 0} (write : X → List ℕ) (Fits : X → Type 0) (byte : ℕ) → ((x : X) → Fits x → lacks byte (write x) ≡ true) → (x : X) (xs : List X) → AllByRecursion Fits (x ∷ xs) → parts_between byte (join_with_byte byte (map write (x ∷ xs))) ≡ map write (x ∷ xs)
parts_joined write Fits byte apart x [] h = parts_whole byte (write x) (apart x h.0)
parts_joined write Fits byte apart x (y ∷ ys) h =
    parts_at byte (write x) (join_with_byte byte (map write (y ∷ ys))) (apart x h.0) ∙ ap (λ (ps : List (List ℕ)). write x ∷ ps) (parts_joined write Fits byte apart y ys h.1)

-- so they are read again
pub joined_again : {X : Type 0} (write : X → List ℕ) (read : List ℕ → Option X) (Fits : X → Type 0) (byte : ℕ) → ((x : X) → Fits x → read (write x) ≡ Some x) → ((x : X) → Fits x → lacks byte (write x) ≡ true) → (x : X) (xs : List X) → AllByRecursion Fits (x ∷ xs) → each_reading read (parts_between byte (join_with_byte byte (map write (x ∷ xs)))) ≡ Some (x ∷ xs)
joined_again write read Fits byte again apart x xs h = ap (each_reading read) (parts_joined write Fits byte apart x xs h) ∙ each_again write read Fits again (x ∷ xs) h

-- what was read of a text's parts, joined, is the text, and there is at least one
pub record AreJoined {X : Type 0} (write : X → List ℕ) (Fits : X → Type 0) (byte : ℕ) (text : List ℕ) (xs : List X) : Type 0 where
  pub text_is : text ≡ join_with_byte byte (map write xs)
  pub fit : AllByRecursion Fits xs
  pub some : 0 < length xs

pub joined_is : {X : Type 0} (write : X → List ℕ) (read : List ℕ → Option X) (Fits : X → Type 0) (byte : ℕ) → ((text : List ℕ) (x : X) → read text ≡ Some x → IsItem write Fits text x) → (text : List ℕ) (xs : List X) → each_reading read (parts_between byte text) ≡ Some xs → AreJoined write Fits byte text xs
joined_is write read Fits byte one text xs e =
    let is = each_is write read Fits one (parts_between byte text) xs e in
    let count = each_count read (parts_between byte text) xs e in
    let some = parts_are_some byte text in
    record {
      text_is = sym (join-parts byte text) ∙ ap (join_with_byte byte) is.texts;
      fit = is.fit;
      some = omega (arith, count, some);
    }

-- items that lack another byte, joined, lack it too
pub joined_lacks : {X : Type 0} (write : X → List ℕ) (Fits : X → Type 0) (byte other : ℕ) → (byte == other) ≡ false → ((x : X) → Fits x → lacks other (write x) ≡ true) → (xs : List X) → AllByRecursion Fits xs → lacks other (join_with_byte byte (map write xs)) ≡ true
joined_lacks write Fits byte other differs apart [] h = refl
joined_lacks write Fits byte other differs apart (x ∷ []) h = apart x h.0
joined_lacks write Fits byte other differs apart (x ∷ y ∷ ys) h =
    lacks-append other (write x) (byte ∷ join_with_byte byte (map write (y ∷ ys))) (apart x h.0)
    (lacks-cons other byte (join_with_byte byte (map write (y ∷ ys))) differs (joined_lacks write Fits byte other differs apart (y ∷ ys) h.1))

-- items with this byte in front of each
pub join-flat : {X : Type 0} (write : X → List ℕ) (byte : ℕ) (x : X) (xs : List X) → byte ∷ join_with_byte byte (map write (x ∷ xs)) ≡ flat_map (λ y. byte ∷ write y) (x ∷ xs)
join-flat write byte x [] = ap (λ (t : List ℕ). byte ∷ t) (sym (append-nil (write x)))
join-flat write byte x (y ∷ ys) = ap (λ (t : List ℕ). byte ∷ (write x ++ t)) (join-flat write byte y ys)

-- ---- items that pass a test

pub all_pass : {X : Type 0} (ok : X → Bool) (xs : List X) → list_all ok xs ≡ true → AllByRecursion (λ x. ok x ≡ true) xs
all_pass ok [] h = tt
all_pass ok (x ∷ xs) h = let p = and_parts (ok x) (list_all ok xs) h in (p.0, all_pass ok xs p.1)

pub pass_all : {X : Type 0} (ok : X → Bool) (xs : List X) → AllByRecursion (λ x. ok x ≡ true) xs → list_all ok xs ≡ true
pass_all ok [] h = refl
pass_all ok (x ∷ xs) h = and_from (ok x) (list_all ok xs) h.0 (pass_all ok xs h.1)
