-- Each spawn line of a script has the number of spawns before it in the text.
use Rattle.std.proofs.Common.{◌≡◌, ℕ, zero, suc, ◌+◌, List, [], ◌∷◌, ◌++◌, length, take, get_or, slice_get, slice_set, slice_index, sum_by, ◌<◌, ◌⊎◌, inl, inr, Some, refl, sym, ap, subst, ◌∙◌, arith, get_or-set_same, get_or-set_other}
use Rattle.std.proofs.lemmas.Bool.{cases_eq}
use Rattle.std.proofs.lemmas.Option.{none-some, same_Some}
use Rattle.std.proofs.lemmas.List.{length-append}
use Rattle.std.proofs.lemmas.List.Sums.{sum_by-cons, sum_by-append}
use Rattle.term_core.specs.declared.atom.Mfa.{Mfa}
use Rattle.term_core.specs.PlainTerm.{PlainTerm}
use Rattle.script_core.specs.declared.script.ScriptCmd.{ScriptCmd}
use Rattle.script_core.specs.declared.script.ScriptCmd.TheVariants.{Spawn}
use Rattle.script_core.specs.Processes.{SpawnLine, commands_at, first_number, spawn_count, spawn_number, spawns_from, spawns_in, spawns_of}
use Rattle.script_core.proofs.JoinedPlaces.{got, take_next, JoinedAt, in_front, behind, joined_at, get_behind, get_front}

-- as many spawn lines as spawns
pub lines_counted : (loader place : ℕ) (commands : List ScriptCmd) → length (spawns_from loader place commands) ≡ spawn_count commands
lines_counted loader place [] = refl
lines_counted loader place (Spawn target args ∷ commands) =
    let rest = lines_counted loader (suc place) commands in
    let count = sum_by-cons spawns_in (Spawn target args) commands in
    omega (arith, rest, count)
lines_counted loader place (cmd ∷ commands) = lines_counted loader (suc place) commands ∙ sym (sum_by-cons spawns_in cmd commands ∙ omega arith)

-- and in all loaders
pub all_counted : (loader : ℕ) (loaders : List (List ScriptCmd)) → length (spawns_of loader loaders) ≡ sum_by spawn_count loaders
all_counted loader [] = refl
all_counted loader (commands ∷ loaders) =
    let many = length-append (spawns_from loader 0 commands) (spawns_of (suc loader) loaders) in
    let here = lines_counted loader 0 commands in
    let rest = all_counted (suc loader) loaders in
    let count = sum_by-cons spawn_count commands loaders in
    omega (arith, many, here, rest, count)

-- a spawn line of a loader, from a place on: its own place, and how many spawns stand before it
pub record LineFrom (loader place : ℕ) (commands : List ScriptCmd) (number : ℕ) (line : SpawnLine) : Type 0 where
  pub at : ℕ
  pub loader_is : line.loader ≡ loader
  pub place_is : line.place ≡ place + at
  pub number_is : number ≡ spawn_count (take at commands)
  pub command : slice_get commands at ≡ Some (Spawn line.target line.args)

line_first : (loader place : ℕ) (target : Mfa) (args : List PlainTerm) (commands : List ScriptCmd) (line : SpawnLine) → record { loader = loader; place = place; target = target; args = args } ≡ line
    → LineFrom loader place (Spawn target args ∷ commands) 0 line
line_first loader place target args commands line e = record {
  at = 0;
  loader_is = sym (ap (λ x. x.loader) e);
  place_is = let p : line.place ≡ place = sym (ap (λ x. x.place) e) in omega (arith, p);
  number_is = refl;
  command = ap (λ (x : SpawnLine). Some (Spawn x.target x.args)) e;
}

line_further : (loader place : ℕ) (cmd : ScriptCmd) (commands : List ScriptCmd) (number : ℕ) (line : SpawnLine) → LineFrom loader (suc place) commands number line → LineFrom loader place (cmd ∷ commands) (spawns_in cmd + number) line
line_further loader place cmd commands number line l = record {
  at = suc l.at;
  loader_is = l.loader_is;
  place_is = omega (arith, l.place_is);
  number_is = ap (λ n. spawns_in cmd + n) l.number_is ∙ sym (sum_by-cons spawns_in cmd (take l.at commands));
  command = l.command;
}

line_from : (loader place : ℕ) (commands : List ScriptCmd) (number : ℕ) (line : SpawnLine) → slice_get (spawns_from loader place commands) number ≡ Some line → LineFrom loader place commands number line
line_from loader place [] number line h = absurd (none-some line h)
line_from loader place (Spawn target args ∷ commands) zero line h = line_first loader place target args commands line (same_Some _ _ h)
line_from loader place (Spawn target args ∷ commands) (suc number) line h =
    subst (λ n. LineFrom loader place (Spawn target args ∷ commands) n line) (omega arith) (line_further loader place (Spawn target args) commands number line (line_from loader (suc place) commands number line h))
line_from loader place (cmd ∷ commands) number line h =
    subst (λ n. LineFrom loader place (cmd ∷ commands) n line) (omega arith) (line_further loader place cmd commands number line (line_from loader (suc place) commands number line h))

first_further : (commands : List ScriptCmd) (loaders : List (List ScriptCmd)) (loader : ℕ) → first_number (commands ∷ loaders) (suc loader) ≡ spawn_count commands + first_number loaders loader
first_further commands loaders loader = sum_by-cons spawn_count commands (take loader loaders)

-- the loader in front makes its processes first
pub number_further : (commands : List ScriptCmd) (loaders : List (List ScriptCmd)) (loader place : ℕ) → spawn_number (commands ∷ loaders) (suc loader) place ≡ spawn_count commands + spawn_number loaders loader place
number_further commands loaders loader place = omega (arith, first_further commands loaders loader)

-- a spawn line of the loaders that are numbered from one on: its number is the count of spawns before it, and its command is there
pub record LineAt (first : ℕ) (loaders : List (List ScriptCmd)) (number : ℕ) (line : SpawnLine) : Type 0 where
  pub at : ℕ
  pub loader_is : line.loader ≡ first + at
  pub number_is : number ≡ spawn_number loaders at line.place
  pub command : slice_get (commands_at loaders at) line.place ≡ Some (Spawn line.target line.args)

line_of_first : (first : ℕ) (commands : List ScriptCmd) (loaders : List (List ScriptCmd)) (number : ℕ) (line : SpawnLine) → LineFrom first 0 commands number line → LineAt first (commands ∷ loaders) number line
line_of_first first commands loaders number line l =
    let p : l.at ≡ line.place = omega (arith, l.place_is) in
    record {
      at = 0;
      loader_is = omega (arith, l.loader_is);
      number_is = let q : number ≡ spawn_count (take line.place commands) = l.number_is ∙ ap (λ n. spawn_count (take n commands)) p in omega (arith, q);
      command = subst (λ n. slice_get commands n ≡ Some (Spawn line.target line.args)) p l.command;
    }

line_of_later : (first : ℕ) (commands : List ScriptCmd) (loaders : List (List ScriptCmd)) (number n : ℕ) (line : SpawnLine) → number ≡ length (spawns_from first 0 commands) + n → LineAt (suc first) loaders n line → LineAt first (commands ∷ loaders) number line
line_of_later first commands loaders number n line e l = record {
  at = suc l.at;
  loader_is = omega (arith, l.loader_is);
  number_is = omega (arith, e, lines_counted first 0 commands, l.number_is, first_further commands loaders l.at);
  command = l.command;
}

line_joined : (first : ℕ) (commands : List ScriptCmd) (loaders : List (List ScriptCmd)) (number : ℕ) (line : SpawnLine)
    → ((n : ℕ) → slice_get (spawns_of (suc first) loaders) n ≡ Some line → LineAt (suc first) loaders n line)
    → JoinedAt (spawns_from first 0 commands) (spawns_of (suc first) loaders) number line → LineAt first (commands ∷ loaders) number line
line_joined first commands loaders number line rest (in_front h) = line_of_first first commands loaders number line (line_from first 0 commands number line h)
line_joined first commands loaders number line rest (behind n e h) = line_of_later first commands loaders number n line e (rest n h)

-- where a spawn line stands in the text
pub line_at : (first : ℕ) (loaders : List (List ScriptCmd)) (number : ℕ) (line : SpawnLine) → slice_get (spawns_of first loaders) number ≡ Some line → LineAt first loaders number line
line_at first [] number line h = absurd (none-some line h)
line_at first (commands ∷ loaders) number line h =
    line_joined first commands loaders number line (λ n k. line_at (suc first) loaders n line k) (joined_at (spawns_from first 0 commands) (spawns_of (suc first) loaders) number line h)

spawn_from : (loader place : ℕ) (commands : List ScriptCmd) (at : ℕ) (target : Mfa) (args : List PlainTerm) → slice_get commands at ≡ Some (Spawn target args)
    → slice_get (spawns_from loader place commands) (spawn_count (take at commands)) ≡ Some (record { loader = loader; place = place + at; target = target; args = args })
spawn_from loader place [] at target args h = absurd (none-some _ h)
spawn_from loader place (Spawn to given ∷ commands) zero target args h =
    let e : Spawn to given ≡ Spawn target args = same_Some _ _ h in
    let f : to ≡ target = cc in
    let g : given ≡ args = cc in
    let p : place ≡ place + 0 = omega arith in
    rw (f, g) (ap (λ k. Some (record { loader = loader; place = k; target = target; args = args })) p)
spawn_from loader place (Spawn to given ∷ commands) (suc at) target args h =
    let n : spawn_count (take (suc at) (Spawn to given ∷ commands)) ≡ suc (spawn_count (take at commands)) = sum_by-cons spawns_in (Spawn to given) (take at commands) ∙ omega arith in
    let p : suc place + at ≡ place + suc at = omega arith in
    ap (slice_get (spawns_from loader place (Spawn to given ∷ commands))) n ∙ spawn_from loader (suc place) commands at target args h ∙ ap (λ k. Some (record { loader = loader; place = k; target = target; args = args })) p
spawn_from loader place (cmd ∷ commands) zero target args h = let e : cmd ≡ Spawn target args = same_Some _ _ h in cc
spawn_from loader place (cmd ∷ commands) (suc at) target args h =
    let n : spawn_count (take (suc at) (cmd ∷ commands)) ≡ spawn_count (take at commands) = sum_by-cons spawns_in cmd (take at commands) ∙ omega arith in
    let p : suc place + at ≡ place + suc at = omega arith in
    ap (slice_get (spawns_from loader (suc place) commands)) n ∙ spawn_from loader (suc place) commands at target args h ∙ ap (λ k. Some (record { loader = loader; place = k; target = target; args = args })) p

-- the line of a spawn that stands at a place of a loader
pub spawn_at : (first : ℕ) (loaders : List (List ScriptCmd)) (loader place : ℕ) (target : Mfa) (args : List PlainTerm) → slice_get (commands_at loaders loader) place ≡ Some (Spawn target args)
    → slice_get (spawns_of first loaders) (spawn_number loaders loader place) ≡ Some (record { loader = first + loader; place = place; target = target; args = args })
spawn_at first [] loader place target args h = absurd (none-some _ h)
spawn_at first (commands ∷ loaders) zero place target args h =
    let z : spawn_number (commands ∷ loaders) zero place ≡ spawn_count (take place commands) = omega arith in
    let f : first ≡ first + 0 = omega arith in
    let p : 0 + place ≡ place = omega arith in
    ap (slice_get (spawns_from first 0 commands ++ spawns_of (suc first) loaders)) z
    ∙ get_front (spawns_from first 0 commands) (spawns_of (suc first) loaders) (spawn_count (take place commands)) (record { loader = first; place = 0 + place; target = target; args = args }) (spawn_from first 0 commands place target args h)
    ∙ ap (λ k. Some (record { loader = first; place = k; target = target; args = args })) p
    ∙ ap (λ k. Some (record { loader = k; place = place; target = target; args = args })) f
spawn_at first (commands ∷ loaders) (suc loader) place target args h =
    let f : suc first + loader ≡ first + suc loader = omega arith in
    let s : spawn_number (commands ∷ loaders) (suc loader) place ≡ length (spawns_from first 0 commands) + spawn_number loaders loader place = omega (arith, lines_counted first 0 commands, first_further commands loaders loader) in
    ap (slice_get (spawns_from first 0 commands ++ spawns_of (suc first) loaders)) s
    ∙ get_behind (spawns_from first 0 commands) (spawns_of (suc first) loaders) (spawn_number loaders loader place)
    ∙ spawn_at (suc first) loaders loader place target args h
    ∙ ap (λ k. Some (record { loader = k; place = place; target = target; args = args })) f

-- the number behind the next place
pub number_next : (loaders : List (List ScriptCmd)) (loader place : ℕ) (cmd : ScriptCmd) → slice_get (commands_at loaders loader) place ≡ Some cmd → spawn_number loaders loader (place + 1) ≡ spawn_number loaders loader place + spawns_in cmd
number_next loaders loader place cmd h =
    let more = ap spawn_count (take_next (commands_at loaders loader) place cmd h) in
    let one = sum_by-append spawns_in (take place (commands_at loaders loader)) (cmd ∷ []) in
    let last = sum_by-cons spawns_in cmd [] in
    omega (arith, more, one, last)

-- the number of the next loader's first process
pub first_next : (loaders : List (List ScriptCmd)) (i : ℕ) (commands : List ScriptCmd) → commands ≡ get_or loaders i commands → i < length loaders → first_number loaders (i + 1) ≡ first_number loaders i + spawn_count commands
first_next loaders i commands is less =
    let more = ap (sum_by spawn_count) (take_next loaders i commands (got loaders i commands is less)) in
    let one = sum_by-append spawn_count (take i loaders) (commands ∷ []) in
    let last = sum_by-cons spawn_count commands [] in
    omega (arith, more, one, last)

-- and those of the loaders so far
pub numbers_more : (loaders : List (List ScriptCmd)) (numbers : List ℕ) (i next : ℕ) → i < length numbers → next ≡ first_number loaders i → ((k : ℕ) → k < i → slice_index numbers k ≡ first_number loaders k)
    → (k : ℕ) → k < i + 1 → slice_index (slice_set numbers i next) k ≡ first_number loaders k
numbers_more loaders numbers i next less is before k below = by_place (cases_eq k i)
  where
    by_place : (k ≡ i) ⊎ (k ≡ i → ⊥) → slice_index (slice_set numbers i next) k ≡ first_number loaders k
    by_place (inl q) = ap (slice_index (slice_set numbers i next)) q ∙ get_or-set_same numbers i next 0 less ∙ is ∙ ap (first_number loaders) (sym q)
    by_place (inr n) = get_or-set_other numbers i k next 0 n ∙ before k (omega (arith, n))
