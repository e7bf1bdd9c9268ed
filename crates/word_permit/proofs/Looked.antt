-- On which wait a look for frames stands, and what it leaves of what the writer knows.
use Rattle.std.proofs.Common.{◌≡◌, ℕ, ◌+◌, ◌<◌, ◌≤◌, Bool, true, false, IfSome, cond, List, [], ◌∷◌, ◌++◌, length, slice_get, unwrap_or, Option, Some, None, is_some, All, if◌then◌else◌, ◌⊎◌, inl, inr, refl, sym, ap, subst, ◌∙◌, arith}
use Rattle.std.specs.Prelude.{IsTrue, nat_le}
use Rattle.std.proofs.lemmas.Bool.{and_from, le-leb}
use Rattle.std.proofs.lemmas.List.{append_assoc}
use Rattle.std.proofs.lemmas.List.Elements.{All-head, All-push, All-tail}
use Rattle.std.proofs.lemmas.Option.{slice_get-get_or, unwrap_or-slice_get}
use Rattle.atomic_table.specs.Seated.{TableId}
use Rattle.prgr_core.specs.declared.member.Retirement.{Retirement}
use Rattle.area_core.specs.declared.table.Published.{Published}
use Rattle.area_core.specs.Generations.{names_frame}
use Rattle.area_core.specs.Blocks.{Among}
use Rattle.area_core.specs.Step.{opening_published}
use Rattle.marks.specs.declared.kept.LingeringFrame.{LingeringFrame}
use Rattle.marks.specs.declared.kept.LookKind.TheVariants.{Frame}
use Rattle.anchors.specs.declared.answers.Scan.{Scan}
use Rattle.anchors.specs.Scans.{LooksMore, ScanCause}
use Rattle.shared_words.specs.declared.opening.Opening.{Opening}
use Rattle.shared_words.specs.declared.view.NamedAnchor.{NamedAnchor}
use Rattle.shared_words.specs.declared.view.WriterView.{WriterView}
use Rattle.shared_words.specs.Rule.{HasEnded, is_gone}
use Rattle.shared_words.specs.Slots.{LookMayBegin, has_ended, is_gone_in, last_ended, wait_for}
use Rattle.shared_words.specs.Views.{newest_number, published_at}
use Rattle.shared_words.specs.Lingering.{anchor_again, lingering_found, with_anchor_found, with_lingering}
use Rattle.progress_words.specs.Roots.{newest_of}
use Rattle.progress_words.specs.Needs.{HasLoadedCounter}
use Rattle.progress_words.specs.Tokens.{written_by}
use Rattle.breakpoints.specs.Patches.{LoadsCounter}
use Rattle.script_core.proofs.JoinedPlaces.{get_behind}
use Rattle.staging.specs.declared.tables.Tables.{Tables}
use Rattle.staging.specs.Whose.{AreTablesOf}
use Rattle.word_permit.specs.Looks.{HasLookedFor, IsLastTaken, IsLookTaken, IsReached, KeepsLooks, before_look, newest_wait}

-- ---- a look

-- the writer knows more of looks alone
abbrev pub IsSameButFound : WriterView → WriterView → Type 0
IsSameButFound old new = new ≡ record old { looks = new.looks; named = new.named }

-- the answer that a process lingers is one of looks
linger_kept : (b : Bool) (seen : NamedAnchor) (l : LingeringFrame) (w : WriterView) → IsSameButFound w (with_anchor_found seen (if b then with_lingering l w else w))
linger_kept true seen l w = refl
linger_kept false seen l w = refl

pub linger_same : (place found : ℕ) (l : LingeringFrame) (old new : WriterView) → new ≡ lingering_found place found l old → IsSameButFound old new
linger_same place found l old new is = subst (IsSameButFound old) (sym is) (linger_kept (names_frame found l.wait.serial) (anchor_again place found l old) l old)

-- ---- the wait of a look

-- the last of these that passes is of this generation, or none does
module _ (test : Retirement → Bool) (generation : ℕ) where
  by_head : (first : Retirement) → first.generation ≡ generation → (o : Option ℕ) → (o ≡ None) ⊎ (o ≡ Some generation) → (b : Bool) → (cond (is_some o) o (cond b (Some first.generation) None) ≡ None) ⊎ (cond (is_some o) o (cond b (Some first.generation) None) ≡ Some generation)
  by_head first is o (inr some) b = inr (ap (λ (x : Option ℕ). cond (is_some x) x (cond b (Some first.generation) None)) some)
  by_head first is o (inl none) true = inr (ap (λ (x : Option ℕ). cond (is_some x) x (Some first.generation)) none ∙ ap Some is)
  by_head first is o (inl none) false = inl (ap (λ (x : Option ℕ). cond (is_some x) x None) none)

  all_same : (pairs : List Retirement) → All (λ (pair : Retirement). pair.generation ≡ generation) pairs → (last_ended test pairs ≡ None) ⊎ (last_ended test pairs ≡ Some generation)
  all_same [] h = inl refl
  all_same (first ∷ pairs) h = by_head first (All-head (λ (pair : Retirement). pair.generation ≡ generation) first pairs h) (last_ended test pairs) (all_same pairs (All-tail (λ (pair : Retirement). pair.generation ≡ generation) first pairs h)) (test first)

  -- where one of this generation passes, and none but such follow, the last is of it
  from_here : (first : Retirement) (after : List Retirement) → first.generation ≡ generation → test first ≡ true → (last_ended test after ≡ None) ⊎ (last_ended test after ≡ Some generation) → last_ended test (first ∷ after) ≡ Some generation
  from_here first after is passes (inl none) = ap (λ (o : Option ℕ). cond (is_some o) o (cond (test first) (Some first.generation) None)) none ∙ ap (λ (b : Bool). cond b (Some first.generation) None) passes ∙ ap Some is
  from_here first after is passes (inr some) = ap (λ (o : Option ℕ). cond (is_some o) o (cond (test first) (Some first.generation) None)) some

  pub last_of : (before : List Retirement) (first : Retirement) (after : List Retirement) → first.generation ≡ generation → test first ≡ true → All (λ (pair : Retirement). pair.generation ≡ generation) after → last_ended test (before ++ first ∷ after) ≡ Some generation
  last_of [] first after is passes same = from_here first after is passes (all_same after same)
  last_of (x ∷ before) first after is passes same = ap (λ (o : Option ℕ). cond (is_some o) o (cond (test x) (Some x.generation) None)) (last_of before first after is passes same)

-- the newest generation is among those that were published
pub newest_at : (published : List Published) → 0 < length published → slice_get published (newest_number published) ≡ Some (published_at published (newest_number published))
newest_at published some = slice_get-get_or published (newest_number published) opening_published (omega (arith, some)) ∙ ap Some (sym (unwrap_or-slice_get published (newest_number published) opening_published))

module _ (w : WriterView) (some : 0 < length w.published) (reached : IsReached w) (serial : ℕ) (gone : IsTrue (is_gone (newest_of w) Frame serial)) where
  abbrev pair : Retirement
  pair = record { generation = newest_number w.published; need = reached.need }

  passes : has_ended w Frame serial pair ≡ true
  passes = and_from (nat_le reached.need w.counter) (is_gone_in (slice_get w.published (newest_number w.published)) Frame serial) (le-leb reached.need w.counter reached.reached) (ap (λ (o : Option Published). is_gone_in o Frame serial) (newest_at w.published some) ∙ gone)

  -- the look stands on a wait for it
  pub wait_newest : wait_for w Frame serial ≡ newest_wait w serial
  wait_newest =
      let taken = reached.taken in
      ap (λ (o : Option ℕ). record { generation = unwrap_or o 0; serial = serial; kind = Frame })
      (ap (last_ended (has_ended w Frame serial)) taken.pairs ∙ last_of (has_ended w Frame serial) (newest_number w.published) taken.before pair taken.after refl passes taken.same)

  among : Among w.pairs pair
  among = let taken = reached.taken in subst (λ ps. Among ps pair) (sym taken.pairs) (length taken.before + 0, get_behind taken.before (pair ∷ taken.after) 0)

  -- which is over
  pub wait_over : HasEnded w (newest_wait w serial)
  wait_over = record { need = reached.need; kept = among; reached = reached.reached; published = newest_of w; at = newest_at w.published some; gone = gone }

  -- and may begin
  pub look_may : LookMayBegin w Frame serial
  look_may = record { generation = newest_number w.published; ended = wait_over }

-- something is published
pub some_published : {table : TableId} {opening : Opening} {t : Tables} → AreTablesOf table opening t → 0 < length (written_by t.writer).published
some_published of_table = let many = of_table.token.published in omega (arith, many)

-- the look stands on the same wait behind it
wait_still : (old new : WriterView) (serial : ℕ) → IsSameButFound old new → wait_for new Frame serial ≡ wait_for old Frame serial
wait_still old new serial same = ap (λ (w : WriterView). wait_for w Frame serial) same

-- before it the writer knew what it knows now, but for what the look found
was_before : (old new : WriterView) → IsSameButFound old new → before_look old new ≡ old
was_before old new same = ap (before_look old) same

-- what was found, said of the newest generation
pub found_newest : (old new : WriterView) (serial : ℕ) (scan : Scan) → wait_for old Frame serial ≡ newest_wait old serial → HasEnded old (newest_wait old serial) → LooksMore old new → ScanCause (wait_for old Frame serial) old new scan → HasLookedFor serial old new scan
found_newest old new serial scan is over more cause =
    let same : IsSameButFound old new = more.same in
    let now : newest_wait old serial ≡ newest_wait new serial = ap (λ ps. record { generation = newest_number ps; serial = serial; kind = Frame }) (sym (ap (λ (w : WriterView). w.published) same)) in
    let begun : old ≡ before_look old new = sym (was_before old new same) in
    record {
      over = subst (λ (w : WriterView). HasEnded w (newest_wait new serial)) begun (subst (HasEnded old) now over);
      cause = subst (λ (w : WriterView). ScanCause (newest_wait new serial) w new scan) begun (subst (λ wait. ScanCause wait old new scan) (is ∙ now) cause);
      wait_is = wait_still old new serial same ∙ is ∙ now;
      more = subst (λ (w : WriterView). LooksMore w new) begun more;
    }

-- no word of a slot was loaded where the counter was
pub looks_loaded : (old new : WriterView) → HasLoadedCounter old new → KeepsLooks old new
looks_loaded old new loaded = record { looks = ap (λ (w : WriterView). w.looks) loaded.view; named = ap (λ (w : WriterView). w.named) loaded.view }

-- over two steps no pair is lost, and a load of the counter in one of them stays one
pub still_longer : (a b c : WriterView) → length a.pairs ≤ length b.pairs → length b.pairs ≤ length c.pairs → length a.pairs ≤ length c.pairs
still_longer a b c first second = omega (arith, first, second)

pub loads_then : (a b c : WriterView) → LoadsCounter a b → length b.pairs ≤ length c.pairs → LoadsCounter a c
loads_then a b c first second = omega (arith, first, second)

pub then_loads : (a b c : WriterView) → length a.pairs ≤ length b.pairs → LoadsCounter b c → LoadsCounter a c
then_loads a b c first second = omega (arith, first, second)

pub looks_same : (w : WriterView) → KeepsLooks w w
looks_same w = record { looks = refl; named = refl }

-- a look that began when no word of a slot had been loaded yet was made since before then
pub found_since : (old mid new : WriterView) (serial : ℕ) (scan : Scan) → KeepsLooks old mid → HasLookedFor serial mid new scan → HasLookedFor serial old new scan
found_since old mid new serial scan kept found =
    let begun : before_look mid new ≡ before_look old new =
    ap (λ looks. record new { looks = looks; named = mid.named }) kept.looks ∙ ap (λ named. record new { looks = old.looks; named = named }) kept.named in
    record {
      over = subst (λ (w : WriterView). HasEnded w (newest_wait new serial)) begun found.over;
      cause = subst (λ (w : WriterView). ScanCause (newest_wait new serial) w new scan) begun found.cause;
      wait_is = found.wait_is;
      more = subst (λ (w : WriterView). LooksMore w new) begun found.more;
    }

pub looks_kept : (old mid new : WriterView) → KeepsLooks old mid → KeepsLooks mid new → KeepsLooks old new
looks_kept old mid new first second = record { looks = second.looks ∙ first.looks; named = second.named ∙ first.named }

-- the value is the last that was taken still, where no other was
pub still_last : (old new : WriterView) (need : ℕ) → new.pairs ≡ old.pairs → new.published ≡ old.published → IsLastTaken old (newest_number old.published) need → IsLastTaken new (newest_number new.published) need
still_last old new need pairs published h = subst (λ ps. IsLastTaken new (newest_number ps) need) (sym published) (record { before = h.before; after = h.after; pairs = pairs ∙ h.pairs; same = h.same })

-- and where the counter was loaded at the same generation
pub last_loaded : (old new : WriterView) (need : ℕ) → HasLoadedCounter old new → IsLastTaken old (newest_number old.published) need → IsLastTaken new (newest_number new.published) need
last_loaded old new need loaded h =
    subst (λ (w : WriterView). IsLastTaken w (newest_number w.published) need) (sym loaded.view)
    (record {
      before = h.before;
      after = h.after ++ taken ∷ [];
      pairs = ap (λ ps. ps ++ taken ∷ []) h.pairs ∙ append_assoc h.before (record { generation = newest_number old.published; need = need } ∷ h.after) (taken ∷ []);
      same = All-push (λ (pair : Retirement). pair.generation ≡ newest_number old.published) h.after taken h.same refl;
    })
  where
    taken : Retirement
    taken = record { generation = newest_number old.published; need = loaded.counter + 2 }

-- so it is with what is waited for, if anything is
pub if_still : (old new : WriterView) (o : Option ℕ) → new.pairs ≡ old.pairs → new.published ≡ old.published → IfSome o (IsLookTaken old) → IfSome o (IsLookTaken new)
if_still old new None pairs published h = tt
if_still old new (Some need) pairs published h = still_last old new need pairs published h

pub if_loaded : (old new : WriterView) (o : Option ℕ) → HasLoadedCounter old new → IfSome o (IsLookTaken old) → IfSome o (IsLookTaken new)
if_loaded old new None loaded h = tt
if_loaded old new (Some need) loaded h = last_loaded old new need loaded h

-- the value that was waited for before is this one, if there was one
pub if_some : (o : Option ℕ) (n : ℕ) → o ≡ Some n → IfSome o (λ value. value ≡ n)
if_some o n is = subst (λ (x : Option ℕ). IfSome x (λ value. value ≡ n)) (sym is) refl

pub if_none : (o : Option ℕ) (n : ℕ) → o ≡ None → IfSome o (λ value. value ≡ n)
if_none o n is = subst (λ (x : Option ℕ). IfSome x (λ value. value ≡ n)) (sym is) tt

-- a value that is taken now is the last one
pub taken_last : (old new : WriterView) (need : ℕ) → HasLoadedCounter old new → need ≡ new.counter + 2 → IsLookTaken new need
taken_last old new need loaded is =
    let counter : new.counter ≡ loaded.counter = ap (λ (w : WriterView). w.counter) loaded.view in
    subst (λ n. IsLookTaken new n) (sym (is ∙ ap (λ n. n + 2) counter))
    (subst (λ (w : WriterView). IsLookTaken w (loaded.counter + 2)) (sym loaded.view) (record { before = old.pairs; after = []; pairs = refl; same = λ k d less. absurd (omega (arith, less)) }))

-- it is asked for by the same number
pub still_asked : (o : Option ℕ) (n m : ℕ) → IfSome o (λ value. value ≡ n) → m ≡ n → IfSome o (λ value. value ≡ m)
still_asked o n m h is = subst (λ k. IfSome o (λ value. value ≡ k)) (sym is) h
