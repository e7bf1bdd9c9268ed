-- Readings and writings that are each other's way back: what is read has its text, and the text of what fits is read as it. What is known of what is read may be less.
use Rattle.mod_text.proofs.Common.{◌≡◌, ℕ, Bool, true, false, cond, ◌==◌, List, [], ◌∷◌, ◌++◌, Option, Some}
use Rattle.mod_text.proofs.Common.{None, bytes_eq, refl, sym, ap, ◌∙◌, subst, append_assoc, Decides-eqb}
use Rattle.mod_text.proofs.Common.{◌<◌, length, arith, map}
use Rattle.mod_text.proofs.Texts.{◌>>=◌, text_tested, cut_at, some, some_is, bind_some, bind_at, passed}
use Rattle.mod_text.proofs.Texts.{bytes_are, tested_is, tested_at, lacks, cut_here, cut_is, IsItem}
use Rattle.std.specs.List.{AllByRecursion, join_with_byte}
use Rattle.term_core.specs.Text.Parts.{parts_between, each_reading}
use Rattle.term_core.proofs.Text.Items.{joined_again, joined_is}
use Rattle.term_core.proofs.Lists.{nothing}
use Rattle.mod_text.specs.Sides.{sided, paired, behind, ended_reading}

pub record Reader (A : Type 0) : Type 1 where
  pub write : A → List ℕ
  pub Known : A → Type 0
  pub Fits : A → Type 0
  pub read : List ℕ → Option A
  pub is : (text : List ℕ) (a : A) → read text ≡ Some a → IsItem write Known text a
  pub again : (a : A) → Fits a → read (write a) ≡ Some a

-- what is read fits
abbrev pub fitting : {A : Type 0} (write : A → List ℕ) (Fits : A → Type 0) (read : List ℕ → Option A) → ((text : List ℕ) (a : A) → read text ≡ Some a → IsItem write Fits text a) → ((a : A) → Fits a → read (write a) ≡ Some a) → Reader A
fitting write Fits read is again = record { write = write; Known = Fits; Fits = Fits; read = read; is = is; again = again }

-- ---- a text that passes a test

pub passing_is : (test : List ℕ → Bool) (text x : List ℕ) → text_tested test text ≡ Some x → IsItem (λ (t : List ℕ). t) (λ (t : List ℕ). test t ≡ true) text x
passing_is test text x e = let is = tested_is test text x e in record { text_is = is.0; fits = is.1 }

abbrev pub passing : (List ℕ → Bool) → Reader (List ℕ)
passing test = fitting (λ t. t) (λ t. test t ≡ true) _ (passing_is test) (tested_at test)

-- ---- two sides of a byte

pub sided_is : {A B : Type 0} (byte : ℕ) (a : Reader A) (b : Reader B) (cut : Option (List ℕ × List ℕ)) (text : List ℕ) → ((x : List ℕ × List ℕ) → cut ≡ Some x → text ≡ x.0 ++ byte ∷ x.1) → (p : A × B) → sided cut a.read b.read ≡ Some p → IsItem (λ (q : A × B). a.write q.0 ++ byte ∷ b.write q.1) (λ (q : A × B). a.Known q.0 × b.Known q.1) text p
sided_is byte a b cut text whole p e =
    let x = bind_some cut (λ y. a.read y.0 >>= λ l. b.read y.1 >>= λ r. Some _) p e in
    let l = bind_some _ (λ l. b.read x.0.1 >>= λ r. Some _) p x.2 in
    let r = bind_some _ (λ r. Some _) p l.2 in
    let front = a.is x.0.0 l.0 l.1 in
    let rest = b.is x.0.1 r.0 r.1 in
    subst (IsItem (λ (q : _ × _). a.write q.0 ++ byte ∷ b.write q.1) (λ (q : _ × _). a.Known q.0 × b.Known q.1) text) (some_is _ p r.2) (record {
      text_is = whole x.0 x.1 ∙ ap (λ (t : List ℕ). t ++ byte ∷ x.0.1) front.text_is ∙ ap (λ (t : List ℕ). a.write l.0 ++ byte ∷ t) rest.text_is;
      fits = (front.fits, rest.fits);
    })

pub sided_again : {A B : Type 0} (a : Reader A) (b : Reader B) (cut : Option (List ℕ × List ℕ)) (p : A × B) → cut ≡ Some (a.write p.0, b.write p.1) → a.Fits p.0 → b.Fits p.1 → sided cut a.read b.read ≡ Some p
sided_again a b cut p here f g =
    bind_at cut (λ y. a.read y.0 >>= λ l. b.read y.1 >>= λ r. Some _) _ _ here (bind_at _ (λ l. b.read (b.write p.1) >>= λ r. Some _) p.0 _ (a.again p.0 f)
    (bind_at _ (λ r. Some _) p.1 _ (b.again p.1 g) refl))

pub pair_is : {A B : Type 0} (byte : ℕ) (a : Reader A) (b : Reader B) (text : List ℕ) (p : A × B) → paired byte a.read b.read text ≡ Some p → IsItem (λ (q : A × B). a.write q.0 ++ byte ∷ b.write q.1) (λ (q : A × B). a.Known q.0 × b.Known q.1) text p
pair_is byte a b text p e = sided_is byte a b _ text (λ x h. (cut_is byte text x h).whole) p e

pub pair_again : {A B : Type 0} (byte : ℕ) (a : Reader A) (b : Reader B) → ((x : A) → a.Fits x → lacks byte (a.write x) ≡ true) → (p : A × B) → a.Fits p.0 × b.Fits p.1 → paired byte a.read b.read (a.write p.0 ++ byte ∷ b.write p.1) ≡ Some p
pair_again byte a b apart p h = sided_again a b _ p (cut_here byte _ _ (apart p.0 h.0)) h.0 h.1

abbrev pub pair : {A B : Type 0} (byte : ℕ) (a : Reader A) (b : Reader B) → ((x : A) → a.Fits x → lacks byte (a.write x) ≡ true) → Reader (A × B)
pair byte a b apart = record {
  write = λ q. a.write q.0 ++ byte ∷ b.write q.1;
  Known = λ q. a.Known q.0 × b.Known q.1;
  Fits = λ q. a.Fits q.0 × b.Fits q.1;
  read = paired byte a.read b.read;
  is = pair_is byte a b;
  again = pair_again byte a b apart;
}

-- ---- what is read, made into another thing

-- behind a front
pub made_is : {A C : Type 0} (r : Reader A) (make : A → C) (write : C → List ℕ) (Fits : C → Type 0) (front : List ℕ) → ((x : A) → r.Known x → front ++ r.write x ≡ write (make x)) → ((x : A) → r.Known x → Fits (make x)) → (text : List ℕ) (c : C) → (r.read text >>= λ x. Some (make x)) ≡ Some c → IsItem write Fits (front ++ text) c
made_is r make write Fits front shape fit text c e =
    let x = bind_some _ (λ y. Some _) c e in
    let is = r.is text x.0 x.1 in
    subst (IsItem write Fits (front ++ text)) (some_is _ c x.2) (record { text_is = ap (λ (t : List ℕ). front ++ t) is.text_is ∙ shape x.0 is.fits; fits = fit x.0 is.fits })

pub made_again : {A C : Type 0} (r : Reader A) (make : A → C) (x : A) → r.Fits x → (r.read (r.write x) >>= λ y. Some (make y)) ≡ Some (make x)
made_again r make x h = bind_at _ (λ y. Some _) x _ (r.again x h) refl

-- there and back
pub turned_is : {A C : Type 0} (r : Reader A) (make : A → C) (part : C → A) (write : C → List ℕ) (Fits : C → Type 0) → ((c : C) → write c ≡ r.write (part c)) → ((x : A) → r.Known x → part (make x) ≡ x) → ((x : A) → r.Known x → Fits (make x)) → (text : List ℕ) (c : C) → (r.read text >>= λ x. Some (make x)) ≡ Some c → IsItem write Fits text c
turned_is r make part write Fits shape turn fit text c e = made_is r make write Fits [] (λ x h. ap r.write (sym (turn x h)) ∙ sym (shape _)) fit text c e

pub turned_again : {A C : Type 0} (r : Reader A) (make : A → C) (part : C → A) (write : C → List ℕ) (Fits : C → Type 0) → ((c : C) → write c ≡ r.write (part c)) → ((c : C) → Fits c → r.Fits (part c)) → ((c : C) → Fits c → make (part c) ≡ c) → (c : C) → Fits c → (r.read (write c) >>= λ x. Some (make x)) ≡ Some c
turned_again r make part write Fits shape fit back c h = ap (λ (t : List ℕ). r.read t >>= λ x. Some (make x)) (shape c) ∙ made_again r make _ (fit c h) ∙ ap (λ x. some x) (back c h)

abbrev pub made : {A C : Type 0} (r : Reader A) (make : A → C) (part : C → A) (write : C → List ℕ) (Fits : C → Type 0) → ((c : C) → write c ≡ r.write (part c)) → ((x : A) → r.Known x → part (make x) ≡ x) → ((c : C) → Fits c → make (part c) ≡ c) → ((x : A) → r.Known x → Fits (make x)) → ((c : C) → Fits c → r.Fits (part c)) → Reader C
made r make part write Fits shape turn back fit unfit = fitting write Fits (λ text. r.read text >>= λ x. Some _) (turned_is r make part write Fits shape turn fit) (turned_again r make part write Fits shape unfit back)

-- ---- in front of a byte that ends the text, and behind a byte in front

ended_is : {A : Type 0} (read : List ℕ → Option A) (sides : List ℕ × List ℕ) (a : A) (t : Bool) → (length sides.1 == 0) ≡ t → cond t (read sides.0) None ≡ Some a → (sides.1 ≡ []) × (read sides.0 ≡ Some a)
ended_is read sides a true e h = (nothing _ e, h)
ended_is read sides a false e h = absurd cc

-- the sides are those of this byte
pub closed_by : {A : Type 0} (byte : ℕ) (r : Reader A) (cut : Option (List ℕ × List ℕ)) (text : List ℕ) → ((x : List ℕ × List ℕ) → cut ≡ Some x → text ≡ x.0 ++ byte ∷ x.1) → (a : A) → (cut >>= λ sides. ended_reading r.read sides) ≡ Some a → IsItem (λ (x : A). r.write x ++ byte ∷ []) r.Known text a
closed_by byte r cut text whole a e =
    let x = bind_some cut (λ sides. ended_reading r.read sides) a e in
    let ended = ended_is r.read x.0 a _ refl x.2 in
    let is = r.is x.0.0 a ended.1 in
    record { text_is = whole x.0 x.1 ∙ ap (λ (t : List ℕ). t ++ byte ∷ x.0.1) is.text_is ∙ ap (λ (t : List ℕ). r.write a ++ byte ∷ t) ended.0; fits = is.fits }

pub closed_is : {A : Type 0} (byte : ℕ) (r : Reader A) (text : List ℕ) (a : A) → (cut_at byte text >>= λ sides. ended_reading r.read sides) ≡ Some a → IsItem (λ (x : A). r.write x ++ byte ∷ []) r.Known text a
closed_is byte r text a e = closed_by byte r (cut_at byte text) text (λ x h. (cut_is byte text x h).whole) a e

pub closed_again : {A : Type 0} (byte : ℕ) (r : Reader A) → ((x : A) → r.Fits x → lacks byte (r.write x) ≡ true) → (a : A) → r.Fits a → (cut_at byte (r.write a ++ byte ∷ []) >>= λ sides. ended_reading r.read sides) ≡ Some a
closed_again byte r apart a h = bind_at _ _ _ _ (cut_here byte _ [] (apart a h)) (r.again a h)

abbrev pub closed : {A : Type 0} (byte : ℕ) (r : Reader A) → ((x : A) → r.Fits x → lacks byte (r.write x) ≡ true) → Reader A
closed byte r apart = record { write = λ x. r.write x ++ byte ∷ []; Known = r.Known; Fits = r.Fits; read = λ text. cut_at byte text >>= λ sides. ended_reading r.read sides; is = closed_is byte r; again = closed_again byte r apart }

pub begun_is : {A : Type 0} (byte : ℕ) (r : Reader A) (text : List ℕ) (a : A) → behind byte r.read text ≡ Some a → IsItem (λ (x : A). byte ∷ r.write x) r.Known text a
begun_is byte r [] a e = absurd cc
begun_is byte r (c ∷ text) a e = by_test _ refl e
  where
    by_test : (t : Bool) → (c == byte) ≡ t → cond t (r.read text) None ≡ Some a → IsItem (λ (x : _). byte ∷ r.write x) r.Known (c ∷ text) a
    by_test true same e = let is = r.is text a e in record { text_is = ap (λ k. k ∷ text) ((Decides-eqb c byte).0 same) ∙ ap (λ (t : List ℕ). byte ∷ t) is.text_is; fits = is.fits }
    by_test false same e = absurd cc

pub begun_again : {A : Type 0} (byte : ℕ) (r : Reader A) (a : A) → r.Fits a → behind byte r.read (byte ∷ r.write a) ≡ Some a
begun_again byte r a h = passed (byte == byte) (r.read (r.write a)) None ((Decides-eqb byte byte).1 refl) ∙ r.again a h

abbrev pub begun : {A : Type 0} (byte : ℕ) → Reader A → Reader A
begun byte r = record { write = λ x. byte ∷ r.write x; Known = r.Known; Fits = r.Fits; read = behind byte r.read; is = begun_is byte r; again = begun_again byte r }

-- ---- some, with a byte between them

pub row_is : {A : Type 0} (byte : ℕ) (r : Reader A) (text : List ℕ) (xs : List A) → each_reading r.read (parts_between byte text) ≡ Some xs → IsItem (λ (ys : List A). join_with_byte byte (map r.write ys)) (λ (ys : List A). (0 < length ys) × AllByRecursion r.Known ys) text xs
row_is byte r text xs e = let is = joined_is _ _ _ byte r.is text xs e in record { text_is = is.text_is; fits = (is.some, is.fit) }

pub row_again : {A : Type 0} (byte : ℕ) (r : Reader A) → ((x : A) → r.Fits x → lacks byte (r.write x) ≡ true) → (xs : List A) → (0 < length xs) × AllByRecursion r.Fits xs → each_reading r.read (parts_between byte (join_with_byte byte (map r.write xs))) ≡ Some xs
row_again byte r apart [] h = absurd (omega (arith, h.0))
row_again byte r apart (x ∷ xs) h = joined_again _ _ _ byte r.again apart x xs h.1

abbrev pub row : {A : Type 0} (byte : ℕ) (r : Reader A) → ((x : A) → r.Fits x → lacks byte (r.write x) ≡ true) → Reader (List A)
row byte r apart = record { write = λ xs. join_with_byte byte (map _ xs); Known = λ xs. (0 < length xs) × AllByRecursion r.Known xs; Fits = λ xs. (0 < length xs) × AllByRecursion r.Fits xs; read = λ text. each_reading r.read (parts_between byte text); is = row_is byte r; again = row_again byte r apart }

-- ---- choices by a word

-- this word, or another one is looked for
pub name_is : {C : Type 0} (around : List ℕ → List ℕ) (write : C → List ℕ) (Fits : C → Type 0) (name : List ℕ) (d : C) → around name ≡ write d → Fits d → (word : List ℕ) (other : Option C) (c : C) → cond (bytes_eq word name) (Some d) other ≡ Some c → (other ≡ Some c → IsItem write Fits (around word) c) → IsItem write Fits (around word) c
name_is around write Fits name d shape fit word other c e later = by_test _ refl e
  where
    by_test : (t : Bool) → bytes_eq word name ≡ t → cond t (Some d) other ≡ Some c → IsItem write Fits (around word) c
    by_test true is e = subst (IsItem write Fits (around word)) (some_is d c e) (record { text_is = ap around (bytes_are word name is) ∙ shape; fits = fit })
    by_test false is e = later e

spaced : (a b : List ℕ) → (a ++ 32 ∷ []) ++ b ≡ a ++ 32 ∷ b
spaced a b = append_assoc a _ b

-- what a reader gives behind this word, or another word is looked for
pub word_is : {A C : Type 0} (r : Reader A) (make : A → C) (write : C → List ℕ) (Fits : C → Type 0) (name : List ℕ) → ((x : A) → r.Known x → name ++ 32 ∷ r.write x ≡ write (make x)) → ((x : A) → r.Known x → Fits (make x)) → (word text : List ℕ) (other : Option C) (c : C) → cond (bytes_eq word name) (r.read text >>= λ x. Some (make x)) other ≡ Some c → (other ≡ Some c → IsItem write Fits (word ++ 32 ∷ text) c) → IsItem write Fits (word ++ 32 ∷ text) c
word_is r make write Fits name shape fit word text other c e later = by_test _ refl e
  where
    by_test : (t : Bool) → bytes_eq word name ≡ t → cond t (r.read text >>= λ x. Some (make x)) other ≡ Some c → IsItem write Fits (word ++ 32 ∷ text) c
    by_test true is e =
        subst (λ (w : List ℕ). IsItem write Fits (w ++ 32 ∷ text) c) (sym (bytes_are word name is)) (subst (λ (t : List ℕ). IsItem write Fits t c) (spaced name text) (made_is r make write Fits (name ++ 32 ∷ []) (λ x h. spaced name (r.write x) ∙ shape x h) fit text c e))
    by_test false is e = later e

-- the first word is cut off
pub longer_is : {C : Type 0} (write : C → List ℕ) (Fits : C → Type 0) (read : List ℕ → List ℕ → Option C) → ((word text : List ℕ) (c : C) → read word text ≡ Some c → IsItem write Fits (word ++ 32 ∷ text) c) → (text : List ℕ) (c : C) → (cut_at 32 text >>= λ sides. read sides.0 sides.1) ≡ Some c → IsItem write Fits text c
longer_is write Fits read worded text c e =
    let x = bind_some _ (λ sides. read sides.0 sides.1) c e in
    subst (λ (t : List ℕ). IsItem write Fits t c) (sym (cut_is 32 text x.0 x.1).whole) (worded x.0.0 x.0.1 c x.2)
