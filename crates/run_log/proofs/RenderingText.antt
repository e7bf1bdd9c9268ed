-- How the text of a list grows by one more, and what a text begins with.
use Rattle.std.proofs.Common.{◌≡◌, ℕ, ◌+◌, ◌<◌, ◌≤◌, List, [], ◌∷◌, ◌++◌, map, length, take, get_or, Result, Ok, Err, OnOk, OnErr, refl, sym, ap, ◌∙◌, arith, append_assoc}
use Rattle.std.proofs.lemmas.Grind.{common_steps}
use Rattle.std.proofs.Math.Seq.{take-append_seam, take-length}
use Rattle.std.proofs.lemmas.List.{length-take, take-take, take_more}
use Rattle.std.proofs.lemmas.List.Folds.{flat_map-map}
use Rattle.std.proofs.lemmas.Result.{IfOk-equal}
use Rattle.std.specs.Io.{StartsWith}
use Rattle.std.specs.List.{flat_map, join_with_byte}
use Rattle.term_core.specs.declared.term.Term.{Term}
use Rattle.term_core.specs.Plain.{plain}
use Rattle.term_core.specs.PlainTerm.{PlainTerm}
use Rattle.term_core.specs.TermText.{term_text}
use Rattle.run_log.specs.declared.logs.ProcessLog.{ProcessLog}
use Rattle.run_log.specs.declared.logs.Snapshot.{Snapshot}
use Rattle.run_log.specs.Report.{observer_text, observers_text, plain_text, process_text, processes_text}

-- a text begins with itself
pub starts_own : (a t b : List ℕ) → b ≡ a ++ t → StartsWith b a
starts_own a t b e = rw e (take-append_seam a t)

-- what is as it was begins with what it was
pub starts_same : (a b : List ℕ) → b ≡ a → StartsWith b a
starts_same a b e = rw e (take-length a)

-- what a call appended, or left as it was, begins with what it was
pub starts_either : {T E : Type 0} (r : Result T E) (a t b : List ℕ) → OnOk r (b ≡ a ++ t) → OnErr r (b ≡ a) → StartsWith b a
starts_either (Ok x) a t b p q = starts_own a t b p
starts_either (Err e) a t b p q = starts_same a b q

-- what begins with a text that begins with another
pub starts_more : (a b c : List ℕ) → StartsWith b a → StartsWith c b → StartsWith c a
starts_more a b c p q =
    let n : length a ≤ length b = omega (arith, ap length p, length-take (length a) b) in
    sym (take-take (length a) (length b) c n) ∙ ap (take (length a)) q ∙ p

-- three parts, one after the other
pub three_parts : {T E : Type 0} (r : Result T E) (o a b c x y z : List ℕ) → a ≡ o ++ x → b ≡ a ++ y → OnOk r (c ≡ b ++ z) → OnOk r (c ≡ o ++ (x ++ y ++ z))
three_parts r o a b c x y z e f h =
    IfOk-equal r c (b ++ z) (o ++ (x ++ y ++ z)) h (ap (λ t. t ++ z) (f ∙ ap (λ t. t ++ y) e) ∙ simp append_assoc)

-- pieces that are joined: the first, and each other behind the byte
pub join-cons : (c : ℕ) (x : List ℕ) (xs : List (List ℕ)) → join_with_byte c (x ∷ xs) ≡ x ++ flat_map (λ y. c ∷ y) xs
join-cons c x [] = grind (arith, common_steps)
join-cons c x (y ∷ ys) = ap (λ t. x ++ c ∷ t) (join-cons c y ys)

-- mapped pieces that are joined: the first list, and the others behind the byte
pub join_map : {A : Type 0} (c : ℕ) (f : A → List ℕ) (x : A) (xs : List A) → join_with_byte c (map f (x ∷ xs)) ≡ f x ++ flat_map (λ y. c ∷ f y) xs
join_map c f x xs = join-cons c (f x) (map f xs) ∙ ap (λ t. f x ++ t) (flat_map-map (λ y. c ∷ y) f xs)

-- the same of a list that is known to have a first element
pub join_map_at : {A : Type 0} (c : ℕ) (f : A → List ℕ) (x : A) (xs ys : List A) → ys ≡ x ∷ xs → join_with_byte c (map f ys) ≡ f x ++ flat_map (λ y. c ∷ f y) xs
join_map_at c f x xs ys e = ap (λ t. join_with_byte c (map f t)) e ∙ join_map c f x xs

-- the text of one more log
pub processes_more : (names : List (List ℕ)) (n m : ℕ) (logs : List ProcessLog) (log : ProcessLog) → m ≡ n + length logs → processes_text names n (logs ++ log ∷ []) ≡ processes_text names n logs ++ process_text names m log
processes_more names n m [] log e = let same : m ≡ n = omega arith in rw same grind (arith, common_steps)
processes_more names n m (l ∷ ls) log e =
    ap (λ t. process_text names n l ++ t) (processes_more names (n + 1) m ls log (omega arith)) ∙ sym (append_assoc (process_text names n l) (processes_text names (n + 1) ls) (process_text names m log))

-- the text of the logs before a place, and of the one there
pub processes_more_at : (names : List (List ℕ)) (logs : List ProcessLog) (i : ℕ) (log : ProcessLog) → i < length logs → log ≡ get_or logs i log → processes_text names 0 (take (i + 1) logs) ≡ processes_text names 0 (take i logs) ++ process_text names i log
processes_more_at names logs i log h e =
    let n : i ≡ 0 + length (take i logs) = omega (arith, length-take i logs) in
    ap (processes_text names 0) (take_more logs i log h) ∙ processes_more names 0 i (take i logs) (get_or logs i log) n
    ∙ ap (λ x. processes_text names 0 (take i logs) ++ process_text names i x) (sym e)

-- the text of one more observer
pub observers_more : (names : List (List ℕ)) (n m : ℕ) (observers : List (List Snapshot)) (shots : List Snapshot) → m ≡ n + length observers
    → observers_text names n (observers ++ shots ∷ []) ≡ observers_text names n observers ++ observer_text names m shots
observers_more names n m [] shots e = let same : m ≡ n = omega arith in rw same grind (arith, common_steps)
observers_more names n m (o ∷ os) shots e =
    ap (λ t. observer_text names n o ++ t) (observers_more names (n + 1) m os shots (omega arith)) ∙ sym (append_assoc (observer_text names n o) (observers_text names (n + 1) os) (observer_text names m shots))

-- the text of the observers before a place, and of the one there
pub observers_more_at : (names : List (List ℕ)) (observers : List (List Snapshot)) (i : ℕ) (shots : List Snapshot) → i < length observers → shots ≡ get_or observers i shots
    → observers_text names 0 (take (i + 1) observers) ≡ observers_text names 0 (take i observers) ++ observer_text names i shots
observers_more_at names observers i shots h e =
    let n : i ≡ 0 + length (take i observers) = omega (arith, length-take i observers) in
    ap (observers_text names 0) (take_more observers i shots h) ∙ observers_more names 0 i (take i observers) (get_or observers i shots) n
    ∙ ap (λ x. observers_text names 0 (take i observers) ++ observer_text names i x) (sym e)

texts_of : (names : List (List ℕ)) (terms : List Term) → map (plain_text names) (map plain terms) ≡ map (term_text names) terms
texts_of names [] = refl
texts_of names (t ∷ ts) = ap (λ xs. term_text names t ∷ xs) (texts_of names ts)

-- the texts of the terms that a list shows
pub plain_texts : (names : List (List ℕ)) (terms : List Term) (shown : List PlainTerm) → map plain terms ≡ shown → map (plain_text names) shown ≡ map (term_text names) terms
plain_texts names terms shown e = ap (map (plain_text names)) (sym e) ∙ texts_of names terms

-- four counts with their words, and a line feed
pub four_counts : {T E : Type 0} (r : Result T E) (o a b c d e w1 n1 w2 n2 w3 n3 w4 n4 : List ℕ) → a ≡ o ++ (w1 ++ n1) → b ≡ a ++ (w2 ++ n2) → c ≡ b ++ (w3 ++ n3) → d ≡ c ++ (w4 ++ n4) → OnOk r (e ≡ d ++ 10 ∷ [])
    → OnOk r (e ≡ o ++ ((w1 ++ n1 ++ w2 ++ n2 ++ w3 ++ n3 ++ w4 ++ n4) ++ 10 ∷ []))
four_counts r o a b c d e w1 n1 w2 n2 w3 n3 w4 n4 first second third fourth ended =
    let one = ap (λ t. t ++ (w2 ++ n2)) first in
    let two = ap (λ t. t ++ (w3 ++ n3)) (second ∙ one) in
    let three = ap (λ t. t ++ (w4 ++ n4)) (third ∙ two) in
    let all = ap (λ t. t ++ 10 ∷ []) (fourth ∙ three) in
    IfOk-equal r e (d ++ 10 ∷ []) (o ++ ((w1 ++ n1 ++ w2 ++ n2 ++ w3 ++ n3 ++ w4 ++ n4) ++ 10 ∷ [])) ended (all ∙ simp append_assoc)
